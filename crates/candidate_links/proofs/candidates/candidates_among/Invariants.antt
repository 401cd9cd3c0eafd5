use Rattle.std.proofs.Common.{◌≡◌, ◌++◌, ◌+◌, length, All, ◌≤ℤ◌}
use Rattle.link_base.specs.declared.rule.Candidate.{Candidate}
use Rattle.pair_decisions.specs.Words.{side_rule, IsInside}
use Rattle.candidate_links.specs.Candidates.{most_value, of_link, of_possible}
use Rattle.candidate_links.specs.Merging.{merged}
use Rattle.candidate_links.proofs.candidates.candidates_among.Given as goal

abbrev pub invariant-pairs : goal.invariant-pairs
invariant-pairs l = record {
  merged : l.candidates.items ++ merged (of_link (side_rule l.rule l.sides_a.rows l.sides_b.rows)) (of_possible (side_rule l.rule l.sides_a.rows l.sides_b.rows) l.journal l.award) l.links l.possible
      ≡ merged (of_link (side_rule l.rule l.sides_a.rows l.sides_b.rows)) (of_possible (side_rule l.rule l.sides_a.rows l.sides_b.rows) l.journal l.award) l.initial.links l.initial.possible;
  most : All (λ (c : Candidate). c.value ≤ℤ most_value l.award) l.candidates.items;
  links : All (IsInside (length l.sides_a.rows) (length l.sides_b.rows)) l.links;
  possible : All (IsInside (length l.sides_a.rows) (length l.sides_b.rows)) l.possible;
}

abbrev pub decreases-pairs : goal.decreases-pairs
decreases-pairs l = length l.links + length l.possible
