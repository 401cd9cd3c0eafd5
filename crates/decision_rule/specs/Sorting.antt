-- Machinery of the sort in `order`: the order of the cells as a test that is total on all cells.
use Rattle.std.specs.Prelude.{◌*◌, Bool, ◌||◌, ◌&&◌, ◌==◌, nat_lt, max}
use Rattle.link_base.specs.declared.rule.RuleCell.{RuleCell}

-- the first cell ranks before the second, where a u of 0 is read as 1
abbrev pub ranks_before : RuleCell → RuleCell → Bool
ranks_before c d = nat_lt (d.m * max c.u 1) (c.m * max d.u 1) || (c.m * max d.u 1 == d.m * max c.u 1 && nat_lt c.pattern d.pattern)
