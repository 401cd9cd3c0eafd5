use Rattle.std.proofs.Common.{◌≡◌, ℕ, suc, ◌+◌, ◌-◌, ◌<◌, ◌≤◌, List, ◌∷◌, [], ◌++◌, length, get_or, take, set, map, Bool, false, sym, ap, ◌∙◌, append_assoc, arith, replicate, is_some}
use Rattle.std.proofs.lemmas.List.{take_more, map_push, length-map, length-take-le}
use Rattle.std.proofs.Math.Seq.{set-append_seam}
use Rattle.link_plan.specs.Plan.{FieldKeys}
use Rattle.link_plan.proofs.plan.Plan.shape.Goals as goal

-- one more field
rare_more : (g : FieldKeys → Bool) (fs : List FieldKeys) (i : ℕ) (f : FieldKeys) (rare : List Bool) (b : Bool) → length fs ≤ 6 → i < length fs → f ≡ get_or fs i f → b ≡ g f
    → rare ≡ map g (take i fs) ++ replicate (6 - i) false → set rare i b ≡ map g (take (i + 1) fs) ++ replicate (6 - (i + 1)) false
rare_more g fs i f rare b few lt is said so_far =
    let xs = map g (take i fs) in
    let n = 6 - (i + 1) in
    let left : 6 - i ≡ suc n = omega arith in
    let len : length xs ≡ i = length-map (take i fs) g ∙ length-take-le i fs (omega arith) in
    let here : rare ≡ xs ++ false ∷ replicate n false = so_far ∙ ap (λ k. xs ++ replicate k false) left in
    let more : map g (take (i + 1) fs) ≡ xs ++ b ∷ [] = ap (map g) (take_more fs i f lt) ∙ map_push g (take i fs) (get_or fs i f) ∙ ap (λ v. xs ++ v ∷ []) (sym (said ∙ ap g is)) in
    ap (λ r. set r i b) here ∙ ap (λ k. set (xs ++ false ∷ replicate n false) k b) (sym len) ∙ set-append_seam xs false (replicate n false) b ∙ sym (append_assoc xs (b ∷ []) (replicate n false)) ∙ ap (λ ys. ys ++ replicate n false) (sym more)

pub loop-i-preserved : goal.loop-i-preserved
loop-i-preserved c =
    (c.loop-i.invariant.0, rare_more (λ f. is_some f.rare) c.fields-fields.result.now c.loop-i.i c.index-fields-i.result c.loop-i.rare c.is_some.result c.loop-i.invariant.0 (omega arith) c.index-fields-i.is (c.is_some.ensures ∙ ap (λ (f : FieldKeys). is_some f.rare) c.field.view_is) c.loop-i.invariant.1)
