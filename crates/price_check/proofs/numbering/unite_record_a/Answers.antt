use Rattle.std.proofs.Common.{◌≡◌, ◌-◌, ◌<◌, length, inl, inr, ◌∙◌, arith}
use Rattle.std.proofs.lemmas.Bool.{cases_eq}
use Rattle.price_check.specs.PartNumbers.{AreInOnePart}
use Rattle.price_check.specs.Forest.{top}
use Rattle.price_check.proofs.Chains.{joined_by, united_after, kept_after, one_after, same_a_before}
use Rattle.price_check.proofs.numbering.unite_record_a.Goals as goal

pub returns : goal.returns
returns c =
    let cs = c.args.candidates.now in
    let k = c.args.k in
    let up = c.args.up.now in
    let u = c.unite in
    let before : k - 1 < length cs = omega arith in
    let joined : AreInOnePart cs (k - 1) k = joined_by cs (k - 1) k c.requires.place (inl (omega (arith, c.if-candidates-k.false))) in
    let one : top u.new.up (k - 1) ≡ top u.new.up k = one_after cs up u.new.up k (k - 1) k c.requires.united before c.requires.place joined u.auto.up u.ensures.earlier u.ensures.tops in
    record {
      united = united_after cs up u.new.up k (k - 1) k c.requires.united before c.requires.place joined u.auto.up u.ensures.earlier u.ensures.tops;
      here = λ i lt e. elim (cases_eq i (k - 1)) [
        | inl q ↦ rw q one
        | inr ne ↦ kept_after cs up u.new.up k (k - 1) k c.requires.united before c.requires.place joined u.auto.up u.ensures.earlier u.ensures.tops i (k - 1) (c.requires.united.shared i (k - 1) (omega arith) (omega arith) (inl (same_a_before cs c.requires.rising i k lt c.requires.place e))) ∙ one
      ];
    }

pub returns-then-candidates-k-clause-here : goal.returns-then-candidates-k-clause-here
returns-then-candidates-k-clause-here c = λ i lt e. absurd (let same = same_a_before c.args.candidates.now c.requires.rising i c.args.k lt c.requires.place e in omega (arith, c.if-candidates-k.true, same, e))
