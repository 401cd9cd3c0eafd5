use Rattle.std.proofs.Common.{◌≡◌, ◌<◌, ◌+◌, ◌++◌, ◌∷◌, ◌∙◌, ℕ, List, [], length, get_or, take, map, ap, sym}
use Rattle.std.proofs.lemmas.List.{take_more, map_push}
use Rattle.link_base.proofs.tables.texts_of.Goals as goal

-- one more text
texts_more : {E : Type 0} (f : E → List ℕ) (all : List E) (i : ℕ) (none : E) (before more : List (List ℕ)) → i < length all
    → before ≡ map f (take i all) → more ≡ before ++ f (get_or all i none) ∷ [] → more ≡ map f (take (i + 1) all)
texts_more f all i none before more lt so_far pushed =
    pushed ∙ ap (λ t. t ++ f (get_or all i none) ∷ []) so_far ∙ sym (ap (map f) (take_more all i none lt) ∙ map_push f (take i all) (get_or all i none))

pub loop-text-preserved : goal.loop-text-preserved
loop-text-preserved c =
    let same = c.in_ok-new.ensures ∙ c.as_bytes.ensures.value in
    texts_more (λ text. text.now) c.args.all.now c.loop-text.text-index _ c.loop-text.texts c.push.new.self c.loop-text-test.true c.loop-text.invariant (c.in_ok-push.ensures.ok ∙ ap (λ t. c.loop-text.texts ++ t ∷ []) same)
