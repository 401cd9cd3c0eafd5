use Rattle.std.proofs.Common.{ℕ, List, ◌∙◌, below_more, refl, subst, sym, arith, Contains}
use Rattle.std.proofs.lemmas.Bool.{false≢true}
use Rattle.dedup_groups.specs.Groups.{group_lists, IsRooted}
use Rattle.dedup_groups.specs.Forest.{IsNear}
use Rattle.dedup_groups.proofs.ForestLemmas.{rooted_by}
use Rattle.dedup_groups.proofs.checking.are_rooted.Goals as goal

pub loop-at-preserved : goal.loop-at-preserved
loop-at-preserved c =
    let near = c.args.near.now in
    let lists = group_lists c.args.leader.now c.args.via.now c.args.depth.now in
    let at = c.loop-at.at in
    let heads = c.rows.result.now in
    let here = rooted_by (λ x from. Contains heads from) (IsNear near) lists at (λ from h. subst (λ (l : List ℕ). Contains l from) c.rows.ensures h) (c.is_rooted.ensures.0 c.if-not-is_rooted.false) in
    below_more (λ x. IsRooted (IsNear near) lists x) at c.loop-at.invariant here

pub is_rooted-requires : goal.is_rooted-requires
is_rooted-requires c =
    let r = c.requires.rows in
    record {
      rows = record { leaders = refl; vias = r.vias ∙ sym r.leaders; depths = r.depths ∙ sym r.leaders };
      vias = rw r.leaders c.requires.vias;
      at = rw r.leaders c.loop-at-test.true;
    }

pub returns-then-not-is_rooted : goal.returns-then-not-is_rooted
returns-then-not-is_rooted c =
    let near = c.args.near.now in
    let lists = group_lists c.args.leader.now c.args.via.now c.args.depth.now in
    let at = c.loop-at.at in (
      λ yes. absurd (false≢true yes),
      λ all.
          let here = rooted_by (IsNear near) (λ x from. Contains c.rows.result.now from) lists at (λ from h. subst (λ (l : List ℕ). Contains l from) (sym c.rows.ensures) h) (all at c.loop-at-test.true) in
          absurd (false≢true (sym c.if-not-is_rooted.true ∙ c.is_rooted.ensures.1 here)),
    )

pub returns : goal.returns
returns c = (λ yes x lt. c.loop-at.invariant x (omega (arith, lt, c.loop-at-test.false)), λ all. refl)
