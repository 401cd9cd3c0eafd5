use Rattle.std.proofs.Common.{◌≡◌, ◌≤◌, ◌+◌, [], length, AllPairs}
use Rattle.price_check.specs.Assignment.{IsBefore}
use Rattle.written_check.specs.LinkRows.{links_in}
use Rattle.written_check.proofs.links.links_of_rows.Given as goal

abbrev pub invariant-rows : goal.invariant-rows
invariant-rows l = record {
  short : length l.links.items + length l.rows ≤ length l.fn.rows;
  rising : AllPairs IsBefore l.links.items;
  told : links_in l.candidates l.a l.b [] l.fn.rows ≡ links_in l.candidates l.a l.b l.links.items l.rows;
}

abbrev pub decreases-rows : goal.decreases-rows
decreases-rows l = length l.rows
