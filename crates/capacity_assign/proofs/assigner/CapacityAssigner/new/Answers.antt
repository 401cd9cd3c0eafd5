use Rattle.std.proofs.Common.{length, sym, ap, ◌∙◌}
use Rattle.assignment_steps.specs.Words.{edges_of, range_edges, small_edges, rising_edges}
use Rattle.capacity_assign.specs.Seating.{seating}
use Rattle.capacity_assign.specs.Prepared.{IsAtStart}
use Rattle.capacity_assign.proofs.Final.{between_first, places_first}
use Rattle.capacity_assign.proofs.assigner.CapacityAssigner.new.Goals as goal

pub start_of-requires-clause-small : goal.start_of-requires-clause-small
start_of-requires-clause-small c = rw (c.deref-3.ensures.value, c.in_ok-listed.ensures.edges) (small_edges c.args.candidates.now c.requires.small)

pub start_of-requires-clause-in_range : goal.start_of-requires-clause-in_range
start_of-requires-clause-in_range c = rw (c.deref-3.ensures.value, c.in_ok-listed.ensures.edges) (range_edges c.args.candidates.now c.args.rows_a (length c.args.capacity.now) c.requires.count c.ranges.rows_a.fits c.requires.rows_b c.requires.within)

pub invariant_of-result : goal.invariant_of-result
invariant_of-result c =
    let cs = c.args.candidates.now in
    let ns = c.args.capacity.now in
    let kept = c.in_ok-kept.ensures.items in
    let places = c.in_ok-capacities.ensures.items in
    let made = c.in_ok-listed.ensures.edges in
    let s = c.in_ok-start.start in
    let start : IsAtStart (edges_of cs) c.args.rows_a ns s = rw (c.deref-3.ensures.value, made) at c.in_ok-start.ensures in
    let range = range_edges cs c.args.rows_a (length ns) c.requires.count c.ranges.rows_a.fits c.requires.rows_b c.requires.within in
    let closed = start.closed in
    let reach = start.reach in
    record {
      order = rw kept c.requires.rising;
      edges = made ∙ ap edges_of (sym kept);
      alike = rw reach.records (rw c.deref.ensures.value at c.in_ok-like.ensures);
      listed = record {
        rising = rw made (rising_edges cs c.requires.rising);
        small = rw made (small_edges cs c.requires.small);
        begins = rw reach.records c.in_ok-listed.ensures.starts;
      };
      between = rw (made, start.links) (between_first cs c.args.rows_a ns s.price_a.items s.price_b.items (seating s.seats) range closed reach start.seats);
      places = λ b. rw (made, start.links, places) (places_first cs c.args.rows_a ns (seating s.seats) b start.seats);
      rows_a = reach.records;
      rows_b = rw places closed.records;
      tree = rw (reach.records, closed.records, made) start.rest;
    }
