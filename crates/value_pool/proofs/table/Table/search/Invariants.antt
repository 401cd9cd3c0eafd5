use Rattle.std.proofs.Common.{◌<◌, ◌+◌, ◌^◌, length}
use Rattle.value_pool.specs.Table.{hashes_of, texts_of}
use Rattle.value_pool.proofs.SearchLemmas.{IsLeft}
use Rattle.value_pool.proofs.table.Table.search.Given as goal

abbrev pub invariant-chain : goal.invariant-chain
invariant-chain l = record {
  left : IsLeft (length l.self.heads.items) (texts_of l.self) (hashes_of l.self.slots.items) l.text l.bucket l.at;
  few : l.passed + l.at < 2 ^ 32;
}

abbrev pub decreases-chain : goal.decreases-chain
decreases-chain l = l.at
