use Rattle.std.proofs.Common.{List, ℕ, ◌∙◌, ap, arith, length, map, slice_index, subst, take_all}
use Rattle.link_base.specs.declared.rule.PairAt.{PairAt}
use Rattle.block_passes.specs.Numbering.{AreGroups}
use Rattle.dedup_groups.proofs.ForestLemmas.{arcs_linked, heads, tails, tails_long}
use Rattle.dedup_groups.proofs.SearchLemmas.{two_more}
use Rattle.dedup_groups.proofs.neighbours.neighbours.Goals as goal

pub loop-link-preserved : goal.loop-link-preserved
loop-link-preserved c = record {
  tails = two_more (λ (x : PairAt). x.a) (λ (x : PairAt). x.b) _ _ _ c.args.links.now c.loop-link.link-index _ c.loop-link-test.true c.loop-link.invariant.tails c.in_ok-push.ensures.items c.in_ok-push-2.ensures.items;
  heads = two_more (λ (x : PairAt). x.b) (λ (x : PairAt). x.a) _ _ _ c.args.links.now c.loop-link.link-index _ c.loop-link-test.true c.loop-link.invariant.heads c.in_ok-push-3.ensures.items c.in_ok-push-4.ensures.items;
}

pub new-requires : goal.new-requires
new-requires c =
    let links = c.args.links.now in
    let is = c.deref.ensures.value ∙ c.loop-link.invariant.tails ∙ ap tails (take_all c.loop-link.link-index links c.loop-link-test.false) in
    omega (arith, ap length is, tails_long links, c.requires)

pub returns : goal.returns
returns c =
    let links = c.args.links.now in
    let arcs = c.in_ok-arcs.arcs in
    let all = take_all c.loop-link.link-index links c.loop-link-test.false in
    let of_tails = c.deref.ensures.value ∙ c.loop-link.invariant.tails ∙ ap tails all in
    let of_heads = c.deref-2.ensures.value ∙ c.loop-link.invariant.heads ∙ ap heads all in
    arcs_linked c.args.rows links arcs c.read.result (subst (λ (ts : List ℕ). AreGroups ts c.args.rows arcs) of_tails c.in_ok-arcs.ensures)
    (c.read.ensures ∙ ap (λ (hs : List ℕ). map (map (slice_index hs)) arcs) of_heads)
