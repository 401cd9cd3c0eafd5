use Rattle.std.proofs.Common.{◌≡◌, ◌+◌, ◌-◌, drop, ap, sym, ◌∙◌, arith}
use Rattle.standardise.proofs.WordLemmas.{at_last_space, has_space, no_space, utf8_parted}
use Rattle.standardise.proofs.words.last_space.Goals as goal

pub returns-then-text-end-eq32-clause-words : goal.returns-then-text-end-eq32-clause-words
returns-then-text-end-eq32-clause-words c =
    let text = c.args.text.now in
    let back : c.loop-end.end - 1 + 1 ≡ c.loop-end.end = omega arith in
    at_last_space text (c.loop-end.end - 1) (omega (arith, c.loop-end.invariant.within)) c.if-text-end-eq32.true (ap (λ n. has_space (drop n text)) back ∙ c.loop-end.invariant.none)

pub returns-then-text-end-eq32-clause-utf8 : goal.returns-then-text-end-eq32-clause-utf8
returns-then-text-end-eq32-clause-utf8 c = λ utf8. utf8_parted c.args.text.now (c.loop-end.end - 1) (omega (arith, c.loop-end.invariant.within)) c.if-text-end-eq32.true utf8

pub returns-clause-words : goal.returns-clause-words
returns-clause-words c =
    let text = c.args.text.now in
    let none : c.loop-end.end ≡ 0 = omega arith in
    no_space text (sym (ap (λ n. has_space (drop n text)) none) ∙ c.loop-end.invariant.none)
