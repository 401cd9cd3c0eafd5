use Rattle.std.proofs.Common.{◌∙◌, ap, length, arith}
use Rattle.std.proofs.lemmas.List.{with_items_is}
use Rattle.capacity_assign.proofs.assigner.run.Goals as goal

pub all_rounds-requires : goal.all_rounds-requires
all_rounds-requires c =
    let edges = c.deref.ensures.value in
    let pa = c.deref_mut.ensures.value in
    let pb = c.deref_mut-2.ensures.value in
    record {
      listed = rw (edges, c.deref-2.ensures.value, pa) c.requires.listed;
      between = rw (edges, pa, pb, c.deref_mut-3.ensures.value) c.requires.between;
      alike = rw (edges, pa, c.deref-3.ensures.value) c.requires.alike;
      tree = rw (edges, pa, pb) c.requires.tree;
    }

pub returns : goal.returns
returns c =
    let r = c.all_rounds in
    let a_is = with_items_is c.args.price_a.now r.new.price_a (omega (arith, r.auto.price_a, c.deref_mut.ensures.len)) in
    let b_is = with_items_is c.args.price_b.now r.new.price_b (omega (arith, r.auto.price_b, c.deref_mut-2.ensures.len)) in
    let link_is = with_items_is c.args.link_a.now r.new.link_a (omega (arith, r.auto.link_a, c.deref_mut-3.ensures.len)) in
    record {
      advances = rw (a_is, b_is, link_is) (rw (c.deref.ensures.value, c.deref_mut-3.ensures.value) at r.ensures);
      rows = (rw a_is (r.auto.price_a ∙ ap length c.deref_mut.ensures.value), rw b_is (r.auto.price_b ∙ ap length c.deref_mut-2.ensures.value));
    }
