use Rattle.std.proofs.Common.{◌≡◌, ◌++◌, drop, map}
use Rattle.candidate_links.specs.Candidates.{dropped}
use Rattle.candidate_links.specs.Merging.{unlinked}
use Rattle.candidate_links.proofs.choice.dropped_of.Given as goal

abbrev pub invariant-loop-candidate : goal.invariant-loop-candidate
invariant-loop-candidate l = l.all.items ++ map dropped (unlinked (drop l.candidate-index l.candidates) l.rest) ≡ map dropped (unlinked l.candidates l.links)
