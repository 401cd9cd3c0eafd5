use Rattle.std.proofs.Common.{◌≡◌, ◌≤◌, ◌<◌, ℕ, get_or, length, take, vec_capacity, vec_len, flat_map, option_to_list}
use Rattle.standardise.specs.Cleaning.{ascii_cleaned}
use Rattle.standardise.proofs.WordLemmas.{has_space}
use Rattle.standardise.proofs.cleaning.clean_ascii.Given as goal

abbrev pub invariant-loop-byte : goal.invariant-loop-byte
invariant-loop-byte l = record {
  ascii : (k : ℕ) → k < l.byte-index → get_or l.text k 0 < 128;
  items : l.word.items ≡ flat_map (λ c. option_to_list (ascii_cleaned c)) (take l.byte-index l.text);
  len : vec_len l.word ≤ l.byte-index;
  room : length l.text ≤ vec_capacity l.word;
  spaced : l.spaced ≡ has_space l.word.items;
}
