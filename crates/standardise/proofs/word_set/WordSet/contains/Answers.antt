use Rattle.std.proofs.Common.{[], bytes_eq, subst, ap, sym, ◌∙◌}
use Rattle.std.specs.Ordering.{ordering_index}
use Rattle.std.specs.List.Sorted.{IsNonDecreasingBy}
use Rattle.std.proofs.lemmas.List.Sorted.{list_any-IsPermutation}
use Rattle.link_texts.specs.Texts.{stands_among}
use Rattle.standardise.specs.Kept.{may_be}
use Rattle.standardise.specs.Names.{text_cmp}
use Rattle.standardise.proofs.StepLemmas.{found_text, missed_text, unlike_text}
use Rattle.standardise.proofs.word_set.WordSet.contains.Goals as goal

pub returns-in-Ok : goal.returns-in-Ok
returns-in-Ok c =
    let text = c.args.text.now in
    sym (ap (λ ts. stands_among ts text) (sym c.self.view_is)
    ∙ list_any-IsPermutation (λ t. bytes_eq t text) c.self.inside.texts.items c.self.inside.ordered.items c.self.invariant.0.same
    ∙ ap (λ ts. stands_among ts text) (sym c.deref.ensures.value)
    ∙ found_text c.deref.result.now text c.in-Ok.field-0 [] c.in-Ok.ensures.bound (c.in-Ok.ensures.place []))

pub returns-in-Err : goal.returns-in-Err
returns-in-Err c =
    let text = c.args.text.now in
    sym (ap (λ ts. stands_among ts text) (sym c.self.view_is)
    ∙ list_any-IsPermutation (λ t. bytes_eq t text) c.self.inside.texts.items c.self.inside.ordered.items c.self.invariant.0.same
    ∙ ap (λ ts. stands_among ts text) (sym c.deref.ensures.value)
    ∙ missed_text c.deref.result.now text c.in-Err.field-0 (subst (IsNonDecreasingBy (λ t. ordering_index (text_cmp t text))) (sym c.deref.ensures.value) (c.self.invariant.0.rising text)) c.in-Err.ensures.place)

pub returns-then-not-may_be : goal.returns-then-not-may_be
returns-then-not-may_be c =
    let text = c.args.text.now in
    sym (ap (λ ts. stands_among ts text) (sym c.self.view_is)
    ∙ unlike_text (may_be c.self.inside.outline) c.self.inside.texts.items text c.self.invariant.1 (sym c.may_be.ensures ∙ c.if-not-may_be.true))
