use Rattle.std.proofs.Common.{◌≡◌, take, map}
use Rattle.std.specs.List.{enumerate_from}
use Rattle.patterns.specs.Patterns.{rare_in}
use Rattle.pair_decisions.specs.Words.{rares_of, plain_all, shares_at}
use Rattle.pair_decisions.proofs.plan_shares.shares_by.Given as goal

abbrev pub invariant-loop-at : goal.invariant-loop-at
invariant-loop-at l = record {
  shares : plain_all l.all.items ≡ map (shares_at l.counts) (enumerate_from 0 (take l.at l.counts.rares));
  rares : rare_in l.all.items ≡ rares_of (take l.at l.plan.fields);
}
