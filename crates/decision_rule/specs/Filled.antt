-- The filled rule of given shares and asked levels (Fellegi and Sunter 1969, section 2): `cut_rule` carries it by its
-- clause `filled`, and the law `filled` says that there is one at most (clause `one`).
use Rattle.std.specs.Prelude.{◌≡◌, ℕ, ◌+◌, ◌*◌, ◌<◌, ◌≤◌, ◌⊎◌, List, length, slice_index_or, sum_by, All, ℤ, ◌-◌, ◌^◌, map, reverse, AllPairs, IsPermutation}
use Rattle.link_limits.specs.declared.TheConstants.{PER_MILLION, WHOLE_FIELD, WHOLE_RULE}
use Rattle.std.specs.List.{range_with_len}
use Rattle.link_base.specs.declared.rule.RuleCell.{RuleCell}
use Rattle.link_base.specs.declared.shares.FieldShares.{FieldShares}
use Rattle.patterns.specs.Patterns.{pattern_count_of, m_of, u_of, weight_of}
use Rattle.decision_rule.specs.Rule.{RanksBefore, Rule, IsRule, mu_of, lambda_of, possible_m_of, possible_u_of}

-- Shares that are given in an order, each up to its bound, as far as an asked level allows: `cut_rule` carries it for the
-- links and the non-links by the parts `links` and `nonlinks` of its clause `filled`.

-- the sum of the shares, each times its weight
abbrev pub level_of : {X : Type 0} → (X → ℕ) → (X → ℕ) → List X → ℕ
level_of weight share xs = sum_by (λ x. weight x * share x) xs

-- the border is the first place whose share is less than its bound; every later share is 0, and one more unit at the
-- border passes the asked level, in millionths
pub record IsBorder {X : Type 0} (share bound weight : X → ℕ) (asked : ℕ) (xs : List X) (i : ℕ) : Type 0 where
  pub in_table : i < length xs
  pub less : (d : X) → share (slice_index_or xs i d) < bound (slice_index_or xs i d)
  pub earlier : (k : ℕ) (d : X) → k < i → share (slice_index_or xs k d) ≡ bound (slice_index_or xs k d)
  pub later : (k : ℕ) (d : X) → i < k → k < length xs → share (slice_index_or xs k d) ≡ 0
  pub one_more : (d : X) → asked < (level_of weight share xs + weight (slice_index_or xs i d)) * PER_MILLION

-- the level is within what is asked, in millionths, and either every share is its bound or there is a border
pub record IsCut {X : Type 0} (share bound weight : X → ℕ) (asked : ℕ) (xs : List X) : Type 0 where
  pub within : level_of weight share xs * PER_MILLION ≤ asked
  pub ends : All (λ x. share x ≡ bound x) xs ⊎ ((i : ℕ) × IsBorder share bound weight asked xs i)

-- a pattern with its chances and its weight
pub record Chances : Type 0 where
  pub pattern : ℕ
  pub m : ℕ
  pub u : ℕ
  pub weight : ℤ

abbrev pub chances_of : RuleCell → Chances
chances_of c = record { pattern = c.pattern; m = c.m; u = c.u; weight = c.weight }

abbrev pub chances_at : List FieldShares → ℕ → Chances
chances_at shares pattern = record { pattern = pattern; m = m_of shares pattern; u = u_of shares pattern; weight = weight_of shares pattern }

-- those of all patterns, by number
abbrev pub all_chances : List FieldShares → List Chances
all_chances shares = map (chances_at shares) (range_with_len 0 (pattern_count_of shares))

-- an asked level, over 1,024 to the number of fields times 65,536, in millionths
abbrev pub asked_of : List FieldShares → ℕ → ℕ
asked_of shares ppm = ppm * WHOLE_FIELD ^ length shares * WHOLE_RULE

-- the links are given from the first cell on, up to 65,536ths, and count by u
abbrev pub LinksAreCut : ℕ → List RuleCell → Type 0
LinksAreCut = IsCut (λ (c : RuleCell). c.link) (λ (c : RuleCell). WHOLE_RULE) (λ (c : RuleCell). c.u)

-- the non-links are given in the order of the list, up to what the links leave, and count by m
abbrev pub NonlinksAreCut : ℕ → List RuleCell → Type 0
NonlinksAreCut = IsCut (λ (c : RuleCell). c.nonlink) (λ (c : RuleCell). WHOLE_RULE - c.link) (λ (c : RuleCell). c.m)

-- each pattern stands in one cell, the greater m/u first; the links are cut from the first cell on, the non-links from
-- the last cell back
pub record IsFilled (shares : List FieldShares) (mu_ppm lambda_ppm : ℕ) (cells : List RuleCell) : Type 0 where
  pub patterns : IsPermutation (all_chances shares) (map chances_of cells)
  pub in_order : AllPairs RanksBefore cells
  pub rule : All (λ c. c.link + c.nonlink ≤ WHOLE_RULE) cells
  pub links : LinksAreCut (asked_of shares mu_ppm) cells
  pub nonlinks : NonlinksAreCut (asked_of shares lambda_ppm) (reverse cells)

-- The least chance of a possible link (the theorem of Fellegi and Sunter 1969, section 2): `cut_rule` carries it by its
-- clause `least`, and the law `filled` says it of every filled table (clause `least`).

-- the sum over all patterns of a chance times a share
abbrev pub sum_over : List FieldShares → (ℕ → ℕ) → (ℕ → ℕ) → ℕ
sum_over shares chance share = sum_by (λ pattern. chance pattern * share pattern) (range_with_len 0 (pattern_count_of shares))

-- a randomised rule of some denominator whose two levels are at most those of the table
pub record HasLevelsWithin (shares : List FieldShares) (cells : List RuleCell) (denominator : ℕ) (r : Rule) : Type 0 where
  pub is_rule : IsRule denominator (pattern_count_of shares) r
  pub mu : WHOLE_RULE * sum_over shares (u_of shares) r.link ≤ denominator * mu_of cells
  pub lambda : WHOLE_RULE * sum_over shares (m_of shares) r.nonlink ≤ denominator * lambda_of cells

-- no such rule, of any denominator, has a lower chance of a possible link, among matched or among unmatched pairs
pub record IsLeast (shares : List FieldShares) (cells : List RuleCell) : Type 0 where
  pub matched : (denominator : ℕ) (r : Rule) → HasLevelsWithin shares cells denominator r
      → denominator * possible_m_of cells ≤ WHOLE_RULE * sum_over shares (m_of shares) r.possible
  pub unmatched : (denominator : ℕ) (r : Rule) → HasLevelsWithin shares cells denominator r
      → denominator * possible_u_of cells ≤ WHOLE_RULE * sum_over shares (u_of shares) r.possible
