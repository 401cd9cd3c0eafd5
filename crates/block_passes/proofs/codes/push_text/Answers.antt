use Rattle.std.proofs.Common.{◌++◌, ◌∙◌, [], ◌∷◌, ap, append_assoc, sym}
use Rattle.block_passes.proofs.ChainLemmas.{unmarked}
use Rattle.block_passes.proofs.codes.push_text.Goals as goal

pub returns : goal.returns
returns c =
    let code = c.args.code.now.items in
    let text = c.args.text.now in
    c.in_ok-push.ensures.items
    ∙ ap (λ t. t ++ 0 ∷ []) (c.in_ok-extend_from_slice.ensures.items ∙ ap (λ t. t ++ text) c.in_ok-reserve.ensures.items)
    ∙ append_assoc code text (0 ∷ [])
    ∙ ap (λ t. code ++ t) (sym (unmarked text (sym c.has_marked.ensures ∙ c.if-has_marked.false)))
