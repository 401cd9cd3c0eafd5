use Rattle.std.proofs.Common.{arith, codes}
use Rattle.toml.specs.View.{table_view}
use Rattle.settings_readers.specs.KeptLaws.{IsWithin, kept, needed_keeps, whole_keeps}
use Rattle.settings_readers.specs.Values.{needed, whole}
use Rattle.link_plan.specs.declared.limits.TheConstants.{MOST_LETTERS}
use Rattle.settings.proofs.canons.numbered.Goals as goal

pub overflow_cast-letters : goal.overflow_cast-letters
overflow_cast-letters c =
    let t = table_view c.args.keys.now.table.now in
    let above = c.args.keys.now.above.now in
    let in_range : IsWithin 1 MOST_LETTERS c.in_ok-number.number =
    kept (IsWithin 1 MOST_LETTERS) (needed (whole 1 MOST_LETTERS) t above (codes "n")) c.in_ok-number.number (needed_keeps (IsWithin 1 MOST_LETTERS) (whole 1 MOST_LETTERS) t above (codes "n") (whole_keeps 1 MOST_LETTERS)) c.in_ok-number.ensures in
    omega (arith, in_range.1)
