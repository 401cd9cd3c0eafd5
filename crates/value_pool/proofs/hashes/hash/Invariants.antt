use Rattle.std.proofs.Common.{◌≡◌, drop, length, bit_xor}
use Rattle.value_pool.specs.Hashes.{hash_from}
use Rattle.value_pool.specs.declared.hashes.TheConstants.{START}
use Rattle.value_pool.proofs.hashes.hash.Given as goal

abbrev pub invariant-loop-word : goal.invariant-loop-word
invariant-loop-word l = hash_from l.hash (drop l.word-index l.words) ≡ hash_from (bit_xor START (length l.text)) l.words
