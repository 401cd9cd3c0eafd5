use Rattle.std.proofs.Common.{◌≡◌, ◌+◌, ◌++◌, ◌∷◌, [], drop, option_to_list, arith, rules, length-append}
use Rattle.link_base.specs.Words.{absent_value}
use Rattle.standard_files.specs.Taking.{canon_at, side_at}
use Rattle.standard_files.specs.Sides.{sides_of_row, canons_of_row}
use Rattle.standard_files.proofs.TakingLemmas.{canons-at, push-sides, sides-at, before, kept, goes-on, goes-refused, is-err}
use Rattle.standard_files.proofs.KnownLemmas.{ids-kept, ids-many, ids-read}
use Rattle.standard_files.proofs.canons.take_row.Goals as goal

pub loop-field-preserved : goal.loop-field-preserved
loop-field-preserved c =
    let kinds = c.args.kinds.now in
    let row = c.args.row.now in
    let at = c.loop-field.field in
    let taken = c.in_ok-side.ensures in
    let pushed : c.push.new.self.items ≡ c.loop-field.sides.items ++ c.in_ok-side.side ∷ [] = search rules in
    record {
      goes = goes-on (canons_of_row (drop (at + 1) kinds) (drop (at + 1) row)) c.loop-field.invariant.goes taken (canons-at kinds row at (omega arith) c.requires.as_many);
      ids = ids-kept c.loop-field.pool.texts c.take_side.new.pool.texts (kept taken) row c.args.ids.now c.loop-field.invariant.ids;
      known = taken.holds.1;
      width = rw pushed (omega (arith, length-append c.loop-field.sides.items (c.in_ok-side.side ∷ []), c.loop-field.invariant.width));
      sides = λ final e.
          rw pushed (push-sides c.loop-field.sides.items (sides_of_row final (drop (at + 1) kinds) (drop (at + 1) row)) (c.args.sides.now.items ++ sides_of_row final kinds row) (sides_of_row final (drop at kinds) (drop at row))
          (side_at final kinds row at) c.in_ok-side.side (c.loop-field.invariant.sides final (before taken final e))
          (sides-at kinds row at (omega arith) c.requires.as_many final) (taken.holds.0 final e));
    }

pub bounds-ids-field : goal.bounds-ids-field
bounds-ids-field c = omega (arith, ids-many c.loop-field.pool.texts c.args.row.now c.args.ids.now c.loop-field.invariant.ids, c.requires.as_many)

pub take_side-requires : goal.take_side-requires
take_side-requires c =
    let row = c.args.row.now in
    record {
      field = omega arith;
      within = omega (arith, c.requires.as_many);
      valid = c.requires.valid c.loop-field.field absent_value (omega (arith, c.requires.as_many));
      text = ids-read c.loop-field.pool.texts row c.args.ids.now c.loop-field.field c.index-ids-field.result (omega (arith, c.requires.as_many)) c.index-ids-field.is c.loop-field.invariant.ids;
      all = c.loop-field.invariant.known;
    }

pub returns-in_err-side : goal.returns-in_err-side
returns-in_err-side c =
    let kinds = c.args.kinds.now in
    let row = c.args.row.now in
    let at = c.loop-field.field in
    rw (is-err c.from_residual.result c.from_residual.ensures.1)
    (goes-refused (option_to_list (canon_at kinds row at)) (canons_of_row (drop (at + 1) kinds) (drop (at + 1) row)) c.in_err-side.field-0.0 c.loop-field.invariant.goes (canons-at kinds row at (omega arith) c.requires.as_many) c.in_err-side.ensures)
