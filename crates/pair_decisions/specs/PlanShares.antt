-- The shares of a plan's fields: those of its settings (`given_shares`, clause `shares`), or those of the counts of its
-- sample, by the comparison patterns of its pairs (`counted_shares`, clause `answer`).
use Rattle.std.specs.Prelude.{◌≡◌, ◌≤◌, ℕ, Bool, true, false, List, [], ◌∷◌, ◌++◌, All, IfSome, is_some, length, map, Result, Ok, if◌then◌else◌}
use Rattle.std.specs.List.{enumerate_from, filter_map, range_with_len}
use Rattle.file_reader.specs.Words.{records_in}
use Rattle.link_base.specs.Words.{and_then, Record}
use Rattle.link_base.specs.declared.fault.Fault.{Fault}
use Rattle.link_base.specs.declared.rule.PairAt.{PairAt}
use Rattle.link_base.specs.declared.shares.FieldShares.{FieldShares}
use Rattle.sample_counts.specs.Counts.{CountsState, count_of}
use Rattle.sample_counts.specs.Sample.{sample_of}
use Rattle.sample_counts.specs.declared.reviewed.Reviewed.{Reviewed}
use Rattle.link_plan.specs.Plan.{FieldKeys, PlainShares, plain_shares}
use Rattle.link_plan.specs.Ranges.{AreShares}
use Rattle.sample_counts.specs.Remainders.{share_of}
use Rattle.link_limits.specs.declared.TheConstants.{MOST_FIELDS}
use Rattle.patterns.specs.Patterns.{rare_in}
use Rattle.pair_decisions.specs.Comparators.{rares_of}
use Rattle.link_base.specs.declared.rule.RuleCell.{RuleCell}
use Rattle.decision_rule.specs.Filled.{IsFilled}
use Rattle.link_plan.specs.declared.plan.Plan.{Plan}

abbrev pub plain_all : List FieldShares → List PlainShares
plain_all shares = map plain_shares shares

-- shares are those of fields: one for each, rare where the field is, as many as a rule may have
pub record AreFieldShares (fields : List FieldKeys) (all : List FieldShares) : Type 0 where
  pub rares : rare_in all ≡ rares_of fields
  pub some : 1 ≤ length all
  pub few : length all ≤ MOST_FIELDS

-- each field that has shares of its own has valid ones
abbrev pub HaveValidShares : List FieldKeys → Type 0
HaveValidShares fields = All (λ (f : FieldKeys). IfSome f.shares (AreShares (is_some f.rare))) fields

-- the shares that the settings give, field by field
abbrev pub given_in : List FieldKeys → List PlainShares
given_in fields = filter_map (λ (f : FieldKeys). f.shares) fields

-- the counts of so many outcomes of a field among the pairs of a status
abbrev pub outcome_counts : CountsState → ℕ → Bool → ℕ → List ℕ
outcome_counts counts field matched outcomes = map (count_of counts field matched) (range_with_len 0 outcomes)

-- the shares of these counts by largest remainders
abbrev pub remainder_shares : List ℕ → ℕ → List ℕ
remainder_shares counted outcomes = map (share_of counted) (range_with_len 0 outcomes)

-- the shares of a status: of four outcomes where agreement on a rare value is one, else of three
abbrev pub status_shares : CountsState → ℕ → Bool → Bool → List ℕ
status_shares counts field rare matched =
    if rare then remainder_shares (outcome_counts counts field matched 4) 4
    else remainder_shares (outcome_counts counts field matched 3) 3 ++ 0 ∷ []

-- the shares of a field, and those of all fields
abbrev pub shares_at : CountsState → ℕ × Bool → PlainShares
shares_at counts at = record {
  rare = at.1;
  m = status_shares counts at.0 at.1 true;
  u = status_shares counts at.0 at.1 false;
}

abbrev pub shares_in : CountsState → List PlainShares
shares_in counts = map (shares_at counts) (enumerate_from 0 counts.rares)

-- the counts of a sample whose pairs have these comparison patterns
abbrev pub counts_by_pattern : List Bool → (PairAt → ℕ) → List Reviewed → CountsState
counts_by_pattern rares pattern sample = record {
  rares = rares;
  rows = map (λ (r : Reviewed). record { matched = r.matched; pattern = pattern (record { a = r.a; b = r.b }) }) sample;
}

-- the shares of a sample of two files whose pairs have these comparison patterns, or its first fault
abbrev pub counted_in : List FieldKeys → (PairAt → ℕ) → List Record → List Record → List ℕ → Result (List PlainShares) Fault
counted_in fields pattern a b bytes =
    and_then (sample_of a b (records_in 44 bytes)) (λ sample.
    Ok (shares_in (counts_by_pattern (rares_of fields) pattern sample)))

-- The decision rule of a plan for given shares: the filled table at the levels that the plan asks for. `rule_of_shares`
-- carries it (clause `rule`), and the law `the_rule_is_filled` says that there is one at most (clause `one`).

-- the cells of the rule of a plan for these shares of its fields
pub record IsRuleOf (plan : Plan) (shares : List PlainShares) (cells : List RuleCell) : Type 0 where
  pub by_shares : List FieldShares
  pub same : plain_all by_shares ≡ shares
  pub filled : IsFilled by_shares plan.terms.mu_ppm plan.terms.lambda_ppm cells
