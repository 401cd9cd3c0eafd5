use Rattle.std.proofs.Common.{◌≡◌, ◌∙◌, arith, length, nat_le, rules, sym, true}
use Rattle.std.proofs.lemmas.Slice.Eq.{bytes_eq-Decides}
use Rattle.value_pool.proofs.ChainLemmas.{word_whole}
use Rattle.value_pool.proofs.same_text.same_text.Goals as goal

pub returns-then-held-le-WORD_BYTES : goal.returns-then-held-le-WORD_BYTES
returns-then-held-le-WORD_BYTES c =
    let held = c.args.held.now in
    let text = c.args.text.now in
    let few : nat_le (length held) 8 ≡ true = search rules in
    let last : c.args.held_last ≡ c.args.last = omega (arith, c.if-held_last-last.false) in
    let same : held ≡ text = word_whole held text (λ i. search rules) (λ i. search rules) (omega (arith, c.if-held-text.false)) (omega (arith, c.if-held-le-WORD_BYTES.true)) (sym c.requires.held ∙ last ∙ c.requires.text) in
    few ∙ sym ((bytes_eq-Decides held text).1 same)
