use Rattle.std.proofs.Common.{◌<◌, ℕ, get_or}
use Rattle.link_base.specs.declared.rule.PairAt.{PairAt}
use Rattle.dedup_groups.specs.Groups.{HasOneLeader}
use Rattle.dedup_groups.proofs.checking.have_one_leader.Given as goal

abbrev pub invariant-loop-link : goal.invariant-loop-link
invariant-loop-link l = (k : ℕ) (d : PairAt) → k < l.link-index → HasOneLeader l.leader (get_or l.links k d)
