use Rattle.std.proofs.Common.{◌≡◌, ◌<◌, ℕ, get_or, true}
use Rattle.link_base.specs.Words.{is_word_byte}
use Rattle.standardise.proofs.cleaning.is_clean.Given as goal

abbrev pub invariant-loop-byte : goal.invariant-loop-byte
invariant-loop-byte l = (k : ℕ) → k < l.byte-index → is_word_byte (get_or l.bytes k 0) ≡ true
