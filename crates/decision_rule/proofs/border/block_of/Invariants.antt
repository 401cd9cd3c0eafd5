use Rattle.std.proofs.Common.{◌≡◌, ℕ, ◌+◌, ◌*◌, ◌<◌, length, get_or}
use Rattle.rand_chacha.specs.ChaCha.{word_at}
use Rattle.decision_rule.proofs.border.block_of.Given as goal

abbrev pub invariant-loop-i : goal.invariant-loop-i
invariant-loop-i l = record {
  key : l.rng.key ≡ l.fn.rng.key;
  stream : l.rng.stream ≡ 0;
  place : l.rng.word_pos ≡ l.block * 16 + l.i;
  size : length l.words ≡ 16;
  words : (k : ℕ) → k < l.i → get_or l.words k 0 ≡ word_at 10 l.fn.rng.key 0 (l.block * 16 + k);
}
