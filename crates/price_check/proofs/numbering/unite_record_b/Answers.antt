use Rattle.std.proofs.Common.{◌≡◌, ◌<◌, ◌≤◌, ℕ, length, inl, inr, sym, ◌∙◌, arith}
use Rattle.std.proofs.lemmas.Bool.{cases_eq}
use Rattle.price_check.specs.PartNumbers.{candidate, AreInOnePart}
use Rattle.price_check.specs.Forest.{top}
use Rattle.price_check.proofs.Chains.{joined_by, united_after, kept_after, one_after, united_more}
use Rattle.price_check.proofs.numbering.unite_record_b.Goals as goal

pub returns : goal.returns
returns c =
    let cs = c.args.candidates.now in
    let k = c.args.k in
    let p = c.in-Some.earlier in
    let last : (p < k) × ((candidate cs p).b ≡ (candidate cs k).b) × ((i : ℕ) → i < k → (candidate cs i).b ≡ (candidate cs k).b → i ≤ p) = rw c.in-Some.is at c.requires.last in
    let before : p < length cs = omega (arith, last.0, c.requires.place) in
    let joined : AreInOnePart cs p k = joined_by cs p k c.requires.place (inr last.1) in
    let one : top c.unite.new.up p ≡ top c.unite.new.up k = one_after cs c.args.up.now c.unite.new.up k p k c.requires.united before c.requires.place joined c.unite.auto.up c.unite.ensures.earlier c.unite.ensures.tops in
    let kept = kept_after cs c.args.up.now c.unite.new.up k p k c.requires.united before c.requires.place joined c.unite.auto.up c.unite.ensures.earlier c.unite.ensures.tops in
    united_more cs c.unite.new.up k (united_after cs c.args.up.now c.unite.new.up k p k c.requires.united before c.requires.place joined c.unite.auto.up c.unite.ensures.earlier c.unite.ensures.tops)
    (λ i lt e. kept i k (c.requires.here i lt e))
    (λ i lt e. elim (cases_eq i p) [
      | inl q ↦ rw q one
      | inr ne ↦ kept i p (c.requires.united.shared i p (let le = last.2 i lt e in omega (arith, le)) last.0 (inr (e ∙ sym last.1))) ∙ one
    ])
