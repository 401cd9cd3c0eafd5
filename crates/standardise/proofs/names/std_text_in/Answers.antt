use Rattle.std.proofs.Common.{◌≡◌, ◌∙◌, ap, option_map, subst, IfOk}
use Rattle.std.specs.Str.{trim}
use Rattle.link_texts.specs.Texts.{stands_among}
use Rattle.standardise.specs.Names.{found_value, word_or_absent}
use Rattle.standardise.proofs.WordLemmas.{cleaned_words, value_of_words, one_replaced, one_word_kept}
use Rattle.standardise.proofs.names.std_text_in.Goals as goal

pub returns-then-is_clean-clause-value : goal.returns-then-is_clean-clause-value
returns-then-is_clean-clause-value c =
    let t = c.args.tables.now in
    let text = c.trimmed-text.result.now in
    let mark : c.is_missing.result ≡ stands_among t.marks (trim c.args.text.now) = c.is_missing.ensures ∙ ap (stands_among t.marks) (c.as_bytes.ensures.value ∙ c.trimmed-text.ensures) in
    let one = c.is_clean.ensures.word c.if-is_clean.true in
    let all = cleaned_words text text (c.is_clean.ensures.text c.if-is_clean.true) in
    let replaced = rw (c.pairs.ensures, c.as_bytes-then-is_clean.ensures.value) at c.in_place.ensures.value in
    let is = one_replaced t.words text c.in_place.result.now replaced one ∙ ap (word_or_absent t.words) (one_word_kept t.titles t.suffixes text _ one all) in
    rw c.trimmed-text.ensures at is ∙ value_of_words t c.args.text.now c.is_missing.result mark c.if-is_missing.false

pub returns-clause-value : goal.returns-clause-value
returns-clause-value c =
    let t = c.args.tables.now in
    let mark : c.is_missing.result ≡ stands_among t.marks (trim c.args.text.now) = c.is_missing.ensures ∙ ap (stands_among t.marks) (c.as_bytes.ensures.value ∙ c.trimmed-text.ensures) in
    let is = value_of_words t c.args.text.now c.is_missing.result mark c.if-is_missing.false in
    let told = rw c.trimmed-text.ensures at c.make_text.ensures.value in
    subst (λ v. IfOk c.make_text.result (λ found. found_value (option_map (λ text. text.now) found) ≡ v)) is told
