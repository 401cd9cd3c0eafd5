-- What an assigner is made from (clauses of `CapacityAssigner::new`) and what it answers (clauses of
-- `CapacityAssigner::solve` and of the calls of `CapacityAssignment`).
use Rattle.std.specs.Prelude.{ℕ, List}
use Rattle.link_base.specs.declared.rule.Candidate.{Candidate}
pub use Rattle.price_check.specs.Verdict.{IsAllowedCapacity}
pub use Rattle.assignment_steps.specs.Candidates.{HasSmallValue, Solution}

-- what an assigner is made from
pub record Problem : Type 0 where
  pub rows_a : ℕ
  pub capacities : List ℕ
  pub candidates : List Candidate
