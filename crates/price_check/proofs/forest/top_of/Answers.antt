use Rattle.std.proofs.Common.{sym, ◌∙◌, arith, slice_index, length-set}
use Rattle.price_check.proofs.Tops.{points_up-set, tops_halved, top_above, top_itself}
use Rattle.price_check.proofs.forest.top_of.Goals as goal

pub loop-up-preserved : goal.loop-up-preserved
loop-up-preserved c =
    let up = c.loop-up.up in
    let x = c.loop-up.x in
    let i = c.loop-up.invariant in
    let h = i.earlier in
    let higher = slice_index up (slice_index up x) in
    record {
      earlier = points_up-set up x higher h (omega (arith, h x, h (slice_index up x)));
      within = rw length-set (omega (arith, i.within, h x, h (slice_index up x)));
      low = omega (arith, i.low, h x, h (slice_index up x));
      at = tops_halved up x h i.within higher ∙ (top_above up h (slice_index up x) ∙ (top_above up h x ∙ i.at));
      kept = λ y. tops_halved up x h i.within y ∙ i.kept y;
    }

pub returns-clause-value : goal.returns-clause-value
returns-clause-value c = sym (top_itself c.loop-up.up c.loop-up.x (omega arith)) ∙ c.loop-up.invariant.at
