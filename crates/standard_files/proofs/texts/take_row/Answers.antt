use Rattle.std.proofs.Common.{◌≡◌, ◌+◌, ◌++◌, ◌∷◌, [], drop, take, option_to_list, arith, rules}
use Rattle.link_base.specs.Words.{value_seen}
use Rattle.standard_files.specs.Sides.{standard_text, texts_of_row}
use Rattle.standard_files.proofs.TakingLemmas.{row-texts, values-push, kept, goes-on, goes-refused, is-err}
use Rattle.standard_files.proofs.KnownLemmas.{ids-push}
use Rattle.standard_files.proofs.texts.take_row.Goals as goal

pub loop-at-preserved : goal.loop-at-preserved
loop-at-preserved c =
    let row = c.args.row.now in
    let at = c.loop-at.at in
    let v = value_seen c.value.result in
    let ids = c.loop-at.ids.items in
    let taken = c.in_ok-id.ensures in
    let pushed : c.push.new.self.items ≡ ids ++ c.in_ok-id.id ∷ [] = search rules in
    record {
      goes = goes-on (texts_of_row (drop (at + 1) row)) c.loop-at.invariant.goes taken (row-texts row at v (omega arith) c.value.ensures);
      ids = λ before h.
          rw (pushed, values-push before row at v (omega arith) c.value.ensures)
          (ids-push c.loop-at.pool.texts c.take_value.new.pool.texts (before ++ take at row) v ids c.in_ok-id.id (kept taken) (c.loop-at.invariant.ids before h) taken.holds);
    }

pub returns-in_err-id : goal.returns-in_err-id
returns-in_err-id c =
    let row = c.args.row.now in
    let at = c.loop-at.at in
    let v = value_seen c.value.result in
    rw (is-err c.from_residual.result c.from_residual.ensures.1)
    (goes-refused (option_to_list (standard_text v)) (texts_of_row (drop (at + 1) row)) c.in_err-id.field-0.0 c.loop-at.invariant.goes (row-texts row at v (omega arith) c.value.ensures) c.in_err-id.ensures)
