use Rattle.std.proofs.Common.{arith}
use Rattle.assignment_steps.specs.Words.{AreStarts, AreTurned, edges_of, turned_in_range, turned_small, range_edges, small_edges, rising_edges}
use Rattle.assignment.proofs.graph.graph_of.Goals as goal

pub starts_of-requires-clause-rising : goal.starts_of-requires-clause-rising
starts_of-requires-clause-rising c = rw (c.deref.ensures.value, c.in_ok-edges.ensures) (rising_edges c.args.candidates.now c.requires.rising)

pub starts_of-requires-clause-few : goal.starts_of-requires-clause-few
starts_of-requires-clause-few c =
    let range = range_edges c.args.candidates.now c.args.rows_a c.args.rows_b c.requires.few c.ranges.rows_a.fits c.ranges.rows_b.fits c.requires.within in
    rw (c.deref.ensures.value, c.in_ok-edges.ensures) (omega (arith, range.few))

pub starts_of-requires-2-clause-few : goal.starts_of-requires-2-clause-few
starts_of-requires-2-clause-few c =
    let cs = c.args.candidates.now in
    let range = range_edges cs c.args.rows_a c.args.rows_b c.requires.few c.ranges.rows_a.fits c.ranges.rows_b.fits c.requires.within in
    let turned : AreTurned (edges_of cs) c.in_ok-turned.turned.items = rw (c.deref-2.ensures.value, c.in_ok-edges.ensures) at c.in_ok-turned.ensures.turned in
    rw c.deref-3.ensures.value (omega (arith, (turned_in_range (edges_of cs) c.in_ok-turned.turned.items c.args.rows_a c.args.rows_b range turned).few))

pub starts_of-requires-2-clause-rising : goal.starts_of-requires-2-clause-rising
starts_of-requires-2-clause-rising c = rw c.deref-3.ensures.value c.in_ok-turned.ensures.rising

pub returns-clause-graph : goal.returns-clause-graph
returns-clause-graph c =
    let cs = c.args.candidates.now in
    let made = c.in_ok-edges.ensures in
    let starts : AreStarts (edges_of cs) c.args.rows_a c.in_ok-starts.starts.items = rw (c.deref.ensures.value, made) at c.in_ok-starts.ensures in
    let turned : AreTurned (edges_of cs) c.in_ok-turned.turned.items = rw (c.deref-2.ensures.value, made) at c.in_ok-turned.ensures.turned in
    let range = range_edges cs c.args.rows_a c.args.rows_b c.requires.few c.ranges.rows_a.fits c.ranges.rows_b.fits c.requires.within in
    record {
      in_range = rw made range;
      listed = record {
        rising = rw made (rising_edges cs c.requires.rising);
        small = rw made (small_edges cs c.requires.small);
        begins = rw made starts;
      };
      turned = turned_in_range (edges_of cs) c.in_ok-turned.turned.items c.args.rows_a c.args.rows_b range turned;
      turned_listed = record {
        rising = c.in_ok-turned.ensures.rising;
        small = turned_small (edges_of cs) c.in_ok-turned.turned.items (small_edges cs c.requires.small) turned;
        begins = rw c.deref-3.ensures.value at c.in_ok-turned_starts.ensures;
      };
    }
