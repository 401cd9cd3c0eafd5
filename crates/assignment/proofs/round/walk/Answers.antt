use Rattle.std.proofs.Common.{length, refl, inl, inr}
use Rattle.std.proofs.lemmas.Bool.{cases_eq}
use Rattle.assignment_steps.specs.Words.{IsInRange}
use Rattle.assignment.proofs.Ways.{walking_more, walked}
use Rattle.assignment.proofs.round.walk.Goals as goal

pub loop-freed-preserved : goal.loop-freed-preserved
loop-freed-preserved c =
    let w = c.loop-freed.invariant in
    let range : IsInRange c.args.net.edges.now (length c.loop-freed.link_a) (length c.loop-freed.link_b) = rw (w.rows_a, w.rows_b) c.requires.in_range in
    walking_more _ _ _ _ _ _ _ _ _ _ _ _ _ _ _ range w c.in-Some.ensures.relinks

pub returns : goal.returns
returns c =
    let w = c.loop-freed.invariant in
    let range : IsInRange c.args.net.edges.now (length c.loop-freed.link_a) (length c.loop-freed.link_b) = rw (w.rows_a, w.rows_b) c.requires.in_range in
    walked _ _ _ _ _ _ _ _ _ _ _ _ _ _ range w c.in_default.ensures.relinks

pub loop-freed-init : goal.loop-freed-init
loop-freed-init c = record {
  rows_a = refl;
  rows_b = refl;
  matched = c.requires.matched;
  tight = c.requires.tight;
  free = c.requires.free;
  leads = c.requires.leads;
  still_a = λ a none. none;
  still_b = λ b none. elim (cases_eq b c.args.hole) [ inl same ↦ inl same | inr other ↦ inr (other, none) ];
}

pub relink-requires-clause-in_range : goal.relink-requires-clause-in_range
relink-requires-clause-in_range c =
    let w = c.loop-freed.invariant in
    rw (w.rows_a, w.rows_b) c.requires.in_range
