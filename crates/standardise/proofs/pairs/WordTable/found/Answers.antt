use Rattle.std.proofs.Common.{◌∙◌, Some, ap, get_or, subst, sym, IsUtf8}
use Rattle.standardise.specs.Kept.{may_be}
use Rattle.standardise.specs.Names.{word_for}
use Rattle.standardise.proofs.StepLemmas.{found_pair, missed_pair, unlike_word}
use Rattle.standardise.proofs.WordLemmas.{word_is_utf8}
use Rattle.standardise.proofs.pairs.WordTable.found.Goals as goal

pub returns-then-not-may_be-clause-word : goal.returns-then-not-may_be-clause-word
returns-then-not-may_be-clause-word c =
    let word = c.args.word.now in
    sym (ap (λ pairs. word_for pairs word) (sym c.self.view_is) ∙ unlike_word (may_be c.self.inside.outline) c.self.inside.pairs word c.self.invariant (sym c.may_be.ensures ∙ c.if-not-may_be.true))

pub returns-in-Ok-clause-word : goal.returns-in-Ok-clause-word
returns-in-Ok-clause-word c =
    let pair = c.index-pairs-at.result in
    let word = c.args.word.now in
    let all = c.pairs-pairs.ensures.all in
    let are = rw (← all) at c.pairs-pairs.ensures.rising in
    ap Some c.bytes.ensures ∙ sym (ap (λ pairs. word_for pairs word) (sym c.self.view_is ∙ sym all) ∙ found_pair c.pairs-pairs.result.now word c.in-Ok.at pair are c.in-Ok.ensures.bound (c.in-Ok.ensures.place pair))

pub returns-in-Ok-clause-utf8 : goal.returns-in-Ok-clause-utf8
returns-in-Ok-clause-utf8 c =
    let pair = c.index-pairs-at.result in
    let are = rw (← c.pairs-pairs.ensures.all) at c.pairs-pairs.ensures.rising in
    subst IsUtf8 (sym c.bytes.ensures) (word_is_utf8 (get_or c.pairs-pairs.result.now c.in-Ok.at pair).to (are.to_words c.in-Ok.at pair c.in-Ok.ensures.bound))

pub returns-in-Err-clause-word : goal.returns-in-Err-clause-word
returns-in-Err-clause-word c =
    let word = c.args.word.now in
    let all = c.pairs-pairs.ensures.all in
    let are = rw (← all) at c.pairs-pairs.ensures.rising in
    sym (ap (λ pairs. word_for pairs word) (sym c.self.view_is ∙ sym all) ∙ missed_pair c.pairs-pairs.result.now word c.in-Err.field-0 are c.in-Err.ensures.place)
