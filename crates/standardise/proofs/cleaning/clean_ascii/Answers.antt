use Rattle.std.proofs.Common.{◌≡◌, ◌<◌, false, arith, length}
use Rattle.std.proofs.lemmas.Bool.Decides.{nat_tests}
use Rattle.standardise.proofs.WordLemmas.{has_space, none_seen, one_word}
use Rattle.standardise.proofs.cleaning.clean_ascii.Goals as goal

pub returns-then-not-is_empty-clause-word : goal.returns-then-not-is_empty-clause-word
returns-then-not-is_empty-clause-word c = λ told.
    let none : has_space c.loop-byte.word.items ≡ false = none_seen _ _ told c.loop-byte.invariant.spaced in
    let some : 0 < length c.loop-byte.word.items = grind (arith, nat_tests) in
    one_word c.loop-byte.word.items some none
