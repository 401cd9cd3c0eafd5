use Rattle.std.proofs.Common.{◌≡◌, ◌∙◌, drop, get_or, take}
use Rattle.std.proofs.lemmas.List.{get_or_default}
use Rattle.standardise.specs.Names.{words, words_after}
use Rattle.standardise.proofs.StepLemmas.{no_space_here}
use Rattle.standardise.proofs.WordLemmas.{past_letter, utf8_parted}
use Rattle.standardise.proofs.words.first_space.Goals as goal

pub returns-then-byte-eq32-clause-utf8 : goal.returns-then-byte-eq32-clause-utf8
returns-then-byte-eq32-clause-utf8 c = λ utf8. utf8_parted c.args.text.now c.loop-i.i c.loop-i-test.true c.if-byte-eq32.true utf8

pub loop-i-preserved : goal.loop-i-preserved
loop-i-preserved c =
    let text = c.args.text.now in
    let told : words_after (take c.loop-i.i text) (drop c.loop-i.i text) ≡ words text = c.loop-i.invariant in
    past_letter text c.loop-i.i (get_or text c.loop-i.i 0) c.loop-i-test.true (get_or_default text c.loop-i.i 0 _ c.loop-i-test.true) (no_space_here _ c.if-byte-eq32.false) ∙ told
