use Rattle.std.proofs.Common.{◌∙◌, length, ap, sym, refl}
use Rattle.std.proofs.lemmas.List.{with_items_is}
use Rattle.assignment_steps.specs.Words.{none_matched}
use Rattle.assignment.proofs.side.run_other.Goals as goal

pub returns-in_default-clause-side : goal.returns-in_default-clause-side
returns-in_default-clause-side c = record { side = c.requires.side; count_a = refl; count_b = refl }

pub returns-in_default-clause-taken : goal.returns-in_default-clause-taken
returns-in_default-clause-taken c = rw c.in_default.is tt

pub run-requires : goal.run-requires
run-requires c = (let o = rw c.in-Some.is at c.requires.other in record { listed = rw o.side.count_a c.requires.listed; side = o.side.side })

pub join_as_turned-requires : goal.join_as_turned-requires
join_as_turned-requires c =
    let o = rw c.in-Some.is at c.requires.other in
    record {
      in_range = rw (ap length c.deref_mut.ensures.value ∙ o.links_a, ap length c.deref_mut-2.ensures.value ∙ o.links_b) c.requires.side.between.priced.in_range;
      matched = none_matched c.args.board.edges.now _ _ (rw c.deref_mut.ensures.value o.none_a) (rw c.deref_mut-2.ensures.value o.none_b);
    }

pub adopt_all-requires : goal.adopt_all-requires
adopt_all-requires c =
    let o = rw c.in-Some.is at c.requires.other in
    let j = c.join_as_turned in
    let w = c.requires.side.between in
    let new_a = c.deref-4.ensures.value ∙ with_items_is c.in-Some.other.link_a j.new.link_a (j.auto.link_a ∙ c.deref_mut.ensures.len) in
    let new_b = c.deref-5.ensures.value ∙ with_items_is c.in-Some.other.link_b j.new.link_b (j.auto.link_b ∙ c.deref_mut-2.ensures.len) in
    record {
      between = rw (c.deref_mut-3.ensures.value, c.deref_mut-4.ensures.value, c.deref_mut-5.ensures.value, c.deref_mut-6.ensures.value) w;
      matched = rw (new_a, new_b) j.ensures.matched;
      price_a = ap length c.deref-2.ensures.value ∙ (c.run.ensures.rows_b ∙ (o.side.count_b ∙ ap length (sym c.deref_mut-3.ensures.value)));
      price_b = ap length c.deref-3.ensures.value ∙ (c.run.ensures.rows_a ∙ (o.side.count_a ∙ ap length (sym c.deref_mut-4.ensures.value)));
      link_a = ap length new_a ∙ (j.auto.link_a ∙ (ap length c.deref_mut.ensures.value ∙ (o.links_a ∙ (sym w.priced.rows_a ∙ ap length (sym c.deref_mut-5.ensures.value)))));
      link_b = ap length new_b ∙ (j.auto.link_b ∙ (ap length c.deref_mut-2.ensures.value ∙ (o.links_b ∙ (sym w.rows_b ∙ ap length (sym c.deref_mut-6.ensures.value)))));
    }

pub returns : goal.returns
returns c =
    let s = c.args.side.now in
    let o = c.run.new.side in
    let j = c.join_as_turned in
    let t = c.adopt_all in
    let new_a = c.deref-4.ensures.value ∙ with_items_is c.in-Some.other.link_a j.new.link_a (j.auto.link_a ∙ c.deref_mut.ensures.len) in
    let new_b = c.deref-5.ensures.value ∙ with_items_is c.in-Some.other.link_b j.new.link_b (j.auto.link_b ∙ c.deref_mut-2.ensures.len) in
    let a = with_items_is s.price_a t.new.price_a (t.auto.price_a ∙ c.deref_mut-3.ensures.len) in
    let b = with_items_is s.price_b t.new.price_b (t.auto.price_b ∙ c.deref_mut-4.ensures.len) in
    let la = with_items_is s.link_a t.new.link_a (t.auto.link_a ∙ c.deref_mut-5.ensures.len) in
    let lb = with_items_is s.link_b t.new.link_b (t.auto.link_b ∙ c.deref_mut-6.ensures.len) in
    let adopted = rw (c.deref-2.ensures.value, c.deref-3.ensures.value, new_a, new_b) at t.ensures.adopted in
    record {
      side = record {
        side = record {
          between = rw (a, b, la, lb) t.ensures.between;
          rest = rw (a, b, t.auto.price_a, t.auto.price_b, c.deref_mut-3.ensures.value, c.deref_mut-4.ensures.value) c.requires.side.rest;
        };
        count_a = rw a (t.auto.price_a ∙ ap length c.deref_mut-3.ensures.value);
        count_b = rw b (t.auto.price_b ∙ ap length c.deref_mut-4.ensures.value);
      };
      taken = rw c.in-Some.is (record {
        price_a = o.price_b.items;
        price_b = o.price_a.items;
        link_a = o.link_b.items;
        link_b = o.link_a.items;
        new_a = j.new.link_a;
        new_b = j.new.link_b;
        solved = c.run.ensures.between;
        joined = rw c.deref.ensures.value at j.ensures.joined;
        adopted = λ serves. (let all = adopted serves in (a ∙ all.0, b ∙ all.1, la ∙ all.2, lb ∙ all.3));
      });
    }
