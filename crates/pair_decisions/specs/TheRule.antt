-- The rule of a plan as a function of its asked levels and the plain shares of its fields, where a definition needs the
-- rule itself: the cells of all patterns in their order, the links given from the first cell on, the non-links from the
-- last cell back (Fellegi and Sunter 1969, section 2). The law `is_the_rule` says that the filled table of `IsRuleOf` is
-- this list: the filled table is what a reader must believe, and what stands here gives it a name.
use Rattle.std.specs.Prelude.{ℕ, ℤ, pos, ◌+ℤ◌, ◌-◌, ◌*◌, ◌/◌, ◌%◌, ◌^◌, min, if◌then◌else◌, List, [], ◌∷◌, length, map, reverse, slice_index}
use Rattle.std.specs.List.{range_with_len}
use Rattle.link_limits.specs.declared.TheConstants.{PER_MILLION, WHOLE_FIELD, WHOLE_RULE}
use Rattle.link_base.specs.declared.rule.RuleCell.{RuleCell}
use Rattle.decision_rule.specs.Sorting.{ranks_before}
use Rattle.decision_rule.specs.Walk.{room_after}
use Rattle.patterns.specs.Patterns.{pattern_count_by, eighth_weight_of}
use Rattle.link_plan.specs.Plan.{PlainShares}

-- how many patterns there are, and the chances and the weight of one: as in `Chances` of `patterns`, of plain shares
abbrev pub plain_count : List PlainShares → ℕ
plain_count shares = pattern_count_by (map (λ (s : PlainShares). s.rare) shares)

abbrev pub plain_chance : (PlainShares → List ℕ) → List PlainShares → ℕ → ℕ
plain_chance part [] pattern = 1
plain_chance part (s ∷ shares) pattern = slice_index (part s) (pattern / plain_count shares) * plain_chance part shares (pattern % plain_count shares)

abbrev pub plain_weight : List PlainShares → ℕ → ℤ
plain_weight [] pattern = pos 0
plain_weight (s ∷ shares) pattern = eighth_weight_of (slice_index s.m (pattern / plain_count shares)) (slice_index s.u (pattern / plain_count shares)) +ℤ plain_weight shares (pattern % plain_count shares)

-- the cell of a pattern before shares are given, and the cells of all patterns
abbrev pub cell_of_pattern : List PlainShares → ℕ → RuleCell
cell_of_pattern shares pattern = record {
  pattern = pattern;
  m = plain_chance (λ (s : PlainShares). s.m) shares pattern;
  u = plain_chance (λ (s : PlainShares). s.u) shares pattern;
  weight = plain_weight shares pattern;
  link = 0;
  nonlink = 0;
}

abbrev pub cells_of_patterns : List PlainShares → List RuleCell
cells_of_patterns shares = map (cell_of_pattern shares) (range_with_len 0 (plain_count shares))

-- a cell put at its place among ranked cells, and cells in their order
abbrev pub ranked_with : RuleCell → List RuleCell → List RuleCell
ranked_with c [] = c ∷ []
ranked_with c (d ∷ cells) = if ranks_before c d then c ∷ d ∷ cells else (d ∷ ranked_with c cells)

abbrev pub ranked : List RuleCell → List RuleCell
ranked [] = []
ranked (c ∷ cells) = ranked_with c (ranked cells)

-- shares given in the order of the cells, each up to its bound, as far as there is room: after the first share below its
-- bound nothing is left
abbrev pub give : (RuleCell → ℕ → RuleCell) → (RuleCell → ℕ) → (RuleCell → ℕ) → List RuleCell → ℕ → List RuleCell
give put bound weight [] room = []
give put bound weight (c ∷ cells) room =
    let share = min (bound c) (room / weight c) in
    put c share ∷ give put bound weight cells (room_after share (bound c) (weight c) room)

-- links count by u; non-links count by m, up to what the links leave
abbrev pub with_links : List RuleCell → ℕ → List RuleCell
with_links = give (λ (c : RuleCell) share. record c { link = share }) (λ (c : RuleCell). WHOLE_RULE) (λ (c : RuleCell). c.u)

abbrev pub with_nonlinks : List RuleCell → ℕ → List RuleCell
with_nonlinks = give (λ (c : RuleCell) share. record c { nonlink = share }) (λ (c : RuleCell). WHOLE_RULE - c.link) (λ (c : RuleCell). c.m)

-- the room for an asked level, in 1,024ths to the number of fields times 65,536ths
abbrev pub room_for : List PlainShares → ℕ → ℕ
room_for shares ppm = ppm * WHOLE_FIELD ^ length shares * WHOLE_RULE / PER_MILLION

-- the rule at the asked levels of links and of non-links
unfoldable pub the_rule : ℕ → ℕ → List PlainShares → List RuleCell
the_rule mu_ppm lambda_ppm shares =
    reverse (with_nonlinks (reverse (with_links (ranked (cells_of_patterns shares)) (room_for shares mu_ppm))) (room_for shares lambda_ppm))
