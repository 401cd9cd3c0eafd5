use Rattle.std.proofs.Common.{◌+◌, ◌++◌, drop, arith, ap}
use Rattle.block_passes.specs.Keys.{ids_in_pass, ids_of_row}
use Rattle.standard_files.specs.Sides.{parts_in_pass, parts_of_row}
use Rattle.standard_files.proofs.TakingLemmas.{pass-parts, push-ids, before, goes-on, goes-refused, whole-is, is-err}
use Rattle.standard_files.proofs.KnownLemmas.{ids-pass, row-kept}
use Rattle.standard_files.proofs.keys.take_row.Goals as goal

pub loop-pass-preserved : goal.loop-pass-preserved
loop-pass-preserved c =
    let row = c.args.row.now in
    let passes = c.passes-pass-items.result.now in
    let at = c.loop-pass.pass-index in
    let pass = c.pass-item.result in
    let taken = c.in_ok-take_key.ensures in
    record {
      goes = goes-on (parts_of_row (drop (at + 1) passes) row) c.loop-pass.invariant.goes taken (pass-parts row passes at pass (omega arith) c.pass-item.is);
      known = row-kept c.args.kinds.now taken row c.args.texts.now c.args.sides.now c.loop-pass.invariant.known;
      ids = λ final e.
          push-ids c.loop-pass.ids.items (ids_of_row final (drop (at + 1) passes) row) (c.args.ids.now.items ++ ids_of_row final passes row) (ids_of_row final (drop at passes) row)
          (ids_in_pass final row pass) c.take_key.new.ids.items (c.loop-pass.invariant.ids final (before taken final e)) (ids-pass final row passes at pass (omega arith) c.pass-item.is) (taken.holds final e);
    }

pub returns-in_err-take_key : goal.returns-in_err-take_key
returns-in_err-take_key c =
    let row = c.args.row.now in
    let passes = c.passes-pass-items.result.now in
    let at = c.loop-pass.pass-index in
    let pass = c.pass-item.result in
    rw (is-err c.from_residual.result c.from_residual.ensures.1) (goes-refused (parts_in_pass row pass) (parts_of_row (drop (at + 1) passes) row) c.in_err-take_key.field-0.0
    (whole-is (ap (λ p. parts_of_row p row) c.passes-pass-items.ensures) c.loop-pass.invariant.goes) (pass-parts row passes at pass (omega arith) c.pass-item.is) c.in_err-take_key.ensures)
