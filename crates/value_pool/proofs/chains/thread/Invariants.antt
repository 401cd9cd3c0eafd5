use Rattle.std.proofs.Common.{◌≡◌, ℕ, List, All, length}
use Rattle.value_pool.specs.Table.{IsSlotWithin, hashes_of, nexts_of, texts_at}
use Rattle.value_pool.proofs.ChainLemmas.{IsThreaded}
use Rattle.value_pool.proofs.chains.thread.Given as goal

abbrev pub invariant-loop-place : goal.invariant-loop-place
invariant-loop-place l = record {
  texts : (bytes : List ℕ) → texts_at bytes l.slots ≡ texts_at bytes l.initial.slots;
  within : (bytes : List ℕ) → All (IsSlotWithin bytes) l.initial.slots → All (IsSlotWithin bytes) l.slots;
  hashes : hashes_of l.slots ≡ hashes_of l.initial.slots;
  threaded : IsThreaded (length l.heads) l.heads (hashes_of l.initial.slots) (nexts_of l.slots) l.place;
}
