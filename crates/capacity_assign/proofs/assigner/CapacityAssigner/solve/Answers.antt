use Rattle.std.proofs.Common.{◌≡◌, ℕ, ◌+◌, pos, length, filter, sym, ap, ◌∙◌, arith}
use Rattle.std.proofs.lemmas.List.{get_or_default, length-map}
use Rattle.price_check.specs.Assignment.{capacity_of}
use Rattle.capacity_assign.specs.Seating.{linked_at, seating}
use Rattle.assignment_steps.specs.Words.{number, edges_of, is_linked}
use Rattle.capacity_assign.specs.Round.{IsBetweenRounds}
use Rattle.capacity_assign.specs.Solution.{Problem}
use Rattle.capacity_assign.proofs.Final.{within, certifies}
use Rattle.capacity_assign.proofs.assigner.CapacityAssigner.solve.Goals as goal

pub run-requires : goal.run-requires
run-requires c = (let i = c.self.invariant in record { listed = i.listed; between = i.between; alike = i.alike; tree = i.tree })

pub linked-links-requires : goal.linked-links-requires
linked-links-requires c = rw (c.deref.ensures.value, c.deref-2.ensures.value) (record { links = λ a k h. (c.run.ensures.advances.between.priced.linked a k h).0 })

pub invariant_of-result : goal.invariant_of-result
invariant_of-result c =
    let r = c.run.new in (
      λ k d lt. omega (arith, get_or_default r.price_a.items k d 0 lt, c.run.ensures.advances.between.priced.small_a k),
      λ k d lt. omega (arith, get_or_default r.price_b.items k d 0 lt, c.run.ensures.advances.between.priced.small_b k),
    )

pub returns : goal.returns
returns c =
    let cs = c.self.inside.candidates.items in
    let ns = c.self.inside.capacity.items in
    let r = c.run.new in
    let ran = c.run.ensures in
    let before = c.self.invariant in
    let w : IsBetweenRounds (edges_of cs) r.price_a.items r.price_b.items r.link_a.items (seating r.seats) (length r.price_a.items) = rw before.edges at ran.advances.between in
    let places : (b : ℕ) → number r.seats.left.items b + linked_at (edges_of cs) r.link_a.items b ≡ capacity_of ns b = rw before.edges at (λ (b : ℕ). ran.advances.places b ∙ before.places b) in
    let e : c.linked-links.result.items ≡ filter (is_linked (edges_of cs) r.link_a.items) cs = rw (c.deref.ensures.value, c.deref-2.ensures.value, before.edges) at c.linked-links.ensures in
    let view : c.args.self.candidates ≡ cs = ap (λ (v : Problem). v.candidates) (sym c.self.view_is) in
    let view_n : c.args.self.capacities ≡ ns = ap (λ (v : Problem). v.capacities) (sym c.self.view_is) in
    let sure = certifies cs ns r.price_a.items r.price_b.items r.link_a.items (seating r.seats) before.order w places in
    record {
      rows_a = length-map r.price_a.items pos ∙ (ran.rows.0 ∙ (before.rows_a ∙ ap (λ (v : Problem). v.rows_a) c.self.view_is));
      rows_b = length-map r.price_b.items pos ∙ (ran.rows.1 ∙ (before.rows_b ∙ ap (λ (v : Problem). length v.capacities) c.self.view_is));
      greatest = rw (view, view_n, e) (c.certified_within_is_greatest.ensures cs ns _ _ _ (within cs ns r.price_a.items r.price_b.items r.link_a.items (seating r.seats) before.order w places) sure);
      certified = rw (view, view_n, e) sure;
    }
