-- The borders of a filled rule, and what one 65,536th of each is worth: `frontier` carries it by its clause `rows`, and the
-- law `filled_levels` says what it is good for.
use Rattle.std.specs.Prelude.{ℕ, ◌+◌, nat_lt, List, reverse, find, Option, Some, None}
use Rattle.link_limits.specs.declared.TheConstants.{WHOLE_RULE}
use Rattle.link_base.specs.declared.rule.RuleCell.{RuleCell}

-- the border of the links is the first cell that is not a link throughout
abbrev pub link_border_of : List RuleCell → Option RuleCell
link_border_of cells = find (λ c. nat_lt c.link WHOLE_RULE) cells

-- the border of the non-links is the last cell whose links and non-links leave a share of possible links
abbrev pub nonlink_border_of : List RuleCell → Option RuleCell
nonlink_border_of cells = find (λ c. nat_lt (c.link + c.nonlink) WHOLE_RULE) (reverse cells)

-- the chances of a border, 0 where it is missing
abbrev pub border_m : Option RuleCell → ℕ
border_m None = 0
border_m (Some c) = c.m

abbrev pub border_u : Option RuleCell → ℕ
border_u None = 0
border_u (Some c) = c.u

-- their sums over the two borders; a cell that is both counts twice
abbrev pub slack_m_of : List RuleCell → ℕ
slack_m_of cells = border_m (link_border_of cells) + border_m (nonlink_border_of cells)

abbrev pub slack_u_of : List RuleCell → ℕ
slack_u_of cells = border_u (link_border_of cells) + border_u (nonlink_border_of cells)
