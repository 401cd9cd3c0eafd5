use Rattle.std.proofs.Common.{◌≡◌, take}
use Rattle.link_limits.specs.declared.TheConstants.{MOST_POOL_LIMIT}
use Rattle.link_base.proofs.rising_ids.pooled.Given as goal

abbrev pub invariant-loop-at : goal.invariant-loop-at
invariant-loop-at l = record {
  texts : l.pool.texts ≡ take l.at l.ids;
  limit : l.pool.limit ≡ MOST_POOL_LIMIT;
}
