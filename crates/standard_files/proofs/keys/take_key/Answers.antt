use Rattle.std.proofs.Common.{◌≡◌, ◌+◌, ◌++◌, ◌∷◌, [], get_or, drop, arith, rules, ap, option_to_list}
use Rattle.block_passes.specs.Keys.{ids_in_pass, part_id, no_part, part_key}
use Rattle.standard_files.specs.Sides.{parts_in_pass}
use Rattle.standard_files.proofs.TakingLemmas.{part-texts, push-sides, before, goes-on, goes-refused, whole-is, is-err}
use Rattle.standard_files.proofs.KnownLemmas.{ids-part, row-kept}
use Rattle.standard_files.proofs.keys.take_key.Goals as goal

pub loop-part-preserved : goal.loop-part-preserved
loop-part-preserved c =
    let row = c.args.row.now in
    let parts = c.parts-part-items.result.now in
    let at = c.loop-part.part-index in
    let ids = c.loop-part.ids.items in
    let taken = c.in_ok-id.ensures in
    let pushed : c.push.new.self.items ≡ ids ++ c.in_ok-id.id ∷ [] = search rules in
    record {
      goes = goes-on (parts_in_pass row (drop (at + 1) parts)) c.loop-part.invariant.goes taken (part-texts row parts at (omega arith));
      known = row-kept c.args.kinds.now taken row c.args.texts.now c.args.sides.now c.loop-part.invariant.known;
      ids = λ final e.
          rw pushed (push-sides ids (ids_in_pass final row (drop (at + 1) parts)) (c.args.ids.now.items ++ ids_in_pass final row parts) (ids_in_pass final row (drop at parts))
          (part_id final row (get_or parts at no_part)) c.in_ok-id.id (c.loop-part.invariant.ids final (before taken final e)) (ids-part final row parts at (omega arith)) (taken.holds final e));
    }

pub returns-in_err-id : goal.returns-in_err-id
returns-in_err-id c =
    let row = c.args.row.now in
    let parts = c.parts-part-items.result.now in
    let at = c.loop-part.part-index in
    rw (is-err c.from_residual.result c.from_residual.ensures.1)
    (goes-refused (option_to_list (part_key row (get_or parts at no_part))) (parts_in_pass row (drop (at + 1) parts)) c.in_err-id.field-0.0
    (whole-is (ap (parts_in_pass row) c.parts-part-items.ensures) c.loop-part.invariant.goes) (part-texts row parts at (omega arith)) c.in_err-id.ensures)
