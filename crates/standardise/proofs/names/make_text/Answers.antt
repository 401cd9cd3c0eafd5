use Rattle.std.proofs.Common.{◌≡◌, ◌∙◌, ap, option_map, subst, IfOk}
use Rattle.standardise.specs.Names.{found_value, word_or_absent}
use Rattle.standardise.proofs.WordLemmas.{cleaned_words, one_replaced, one_word_kept}
use Rattle.standardise.proofs.names.make_text.Goals as goal

pub returns-then-branch-clause-value : goal.returns-then-branch-clause-value
returns-then-branch-clause-value c =
    let t = c.args.tables.now in
    let cleaned = c.clean.new.word.items in
    let one = c.in_ok-clean.ensures.word c.if-branch.true in
    let all = cleaned_words c.args.text.now cleaned c.in_ok-clean.ensures.text in
    let replaced = rw (c.pairs.ensures, c.deref.ensures.value) at c.in_place.ensures.value in
    one_replaced t.words cleaned c.in_place.result.now replaced one ∙ ap (word_or_absent t.words) (one_word_kept t.titles t.suffixes cleaned _ one all)

pub returns-clause-value : goal.returns-clause-value
returns-clause-value c =
    let t = c.args.tables.now in
    let all = cleaned_words c.args.text.now c.clean.new.word.items c.in_ok-clean.ensures.text in
    let kept = rw (c.deref-2.ensures.value, all) at c.untitled-words.ensures.words in
    let told = rw c.pairs-2.ensures at c.join_words.ensures.value in
    subst (λ v. IfOk c.join_words.result (λ found. found_value (option_map (λ text. text.now) found) ≡ v)) (ap (word_or_absent t.words) kept) told
