-- What an assigner is made from (clauses of `Assigner::new`) and what it answers (clauses of `Assigner::solve`
-- and of the calls of `Assignment`).
use Rattle.std.specs.Prelude.{ℕ, List}
use Rattle.link_base.specs.declared.rule.Candidate.{Candidate}
pub use Rattle.assignment_steps.specs.Candidates.{HasSmallValue, Solution}

-- what an assigner is made from, with the numbers of the parts
pub record Problem : Type 0 where
  pub rows_a : ℕ
  pub rows_b : ℕ
  pub candidates : List Candidate
  pub part_numbers : List ℕ
  pub parts : ℕ
