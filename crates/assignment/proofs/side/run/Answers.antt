use Rattle.std.proofs.Common.{◌∙◌, ap, length}
use Rattle.std.proofs.lemmas.List.{with_items_is}
use Rattle.assignment.proofs.side.run.Goals as goal

pub settle-requires : goal.settle-requires
settle-requires c = rw (c.deref_mut.ensures.value, c.deref_mut-2.ensures.value, c.deref_mut-3.ensures.value, c.deref_mut-4.ensures.value) (record { listed = c.requires.listed; between = c.requires.side.between; rest = c.requires.side.rest })

pub returns : goal.returns
returns c =
    let s = c.args.side.now in
    let t = c.settle in
    let a = with_items_is s.price_a t.new.price_a (t.auto.price_a ∙ c.deref_mut.ensures.len) in
    let b = with_items_is s.price_b t.new.price_b (t.auto.price_b ∙ c.deref_mut-2.ensures.len) in
    let la = with_items_is s.link_a t.new.link_a (t.auto.link_a ∙ c.deref_mut-3.ensures.len) in
    let lb = with_items_is s.link_b t.new.link_b (t.auto.link_b ∙ c.deref_mut-4.ensures.len) in
    record {
      between = rw (a, b, la, lb) t.ensures;
      rows_a = rw a (t.auto.price_a ∙ ap length c.deref_mut.ensures.value);
      rows_b = rw b (t.auto.price_b ∙ ap length c.deref_mut-2.ensures.value);
    }
