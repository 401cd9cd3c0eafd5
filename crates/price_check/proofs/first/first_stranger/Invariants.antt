use Rattle.std.proofs.Common.{ℕ, ◌<◌, get_or}
use Rattle.link_base.specs.declared.rule.PairAt.{PairAt}
use Rattle.price_check.specs.Verdict.{IsCandidate}
use Rattle.price_check.proofs.first.first_stranger.Given as goal

abbrev pub invariant-loop-i : goal.invariant-loop-i
invariant-loop-i l = (k : ℕ) (d : PairAt) → k < l.i → IsCandidate l.candidates (get_or l.links k d)
