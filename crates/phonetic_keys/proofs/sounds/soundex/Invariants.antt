use Rattle.std.proofs.Common.{◌≡◌, ◌∷◌, ◌++◌, codes, take, drop}
use Rattle.phonetic_keys.specs.Alphabet.{letters_of}
use Rattle.phonetic_keys.specs.Carry.{IsCarry, key_to_come}
use Rattle.phonetic_keys.specs.Soundex.{carried, code_behind}
use Rattle.phonetic_keys.proofs.sounds.soundex.Given as goal

abbrev pub invariant-loop-byte : goal.invariant-loop-byte
invariant-loop-byte l = record {
  carry : IsCarry l.carry;
  key : key_to_come l.carry (letters_of (drop l.byte-index l.rest)) ≡ take 4 (l.first ∷ (carried (code_behind 48 l.first) (letters_of l.rest) ++ codes "000"));
}
