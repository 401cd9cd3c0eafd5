use Rattle.std.proofs.Common.{◌<◌, ◌∙◌, arith, length, sym}
use Rattle.std.proofs.lemmas.Bool.Decides.{nat_tests}
use Rattle.standardise.proofs.WordLemmas.{ascii_text, stays_as_is, one_word}
use Rattle.standardise.proofs.cleaning.is_clean.Goals as goal

pub returns-clause-text : goal.returns-clause-text
returns-clause-text c = λ told.
    let bytes = c.as_bytes-bytes.result.now in
    let is = stays_as_is bytes (λ k lt. c.loop-byte.invariant k (omega (arith, lt, c.loop-byte-test.false))) in
    rw (← c.as_bytes-bytes.ensures.value) (sym is.text ∙ ascii_text bytes is.ascii)

pub returns-clause-word : goal.returns-clause-word
returns-clause-word c = λ told.
    let bytes = c.as_bytes-bytes.result.now in
    let is = stays_as_is bytes (λ k lt. c.loop-byte.invariant k (omega (arith, lt, c.loop-byte-test.false))) in
    let some : 0 < length bytes = grind (arith, nat_tests) in
    rw (← c.as_bytes-bytes.ensures.value) (one_word bytes some is.spaced)
