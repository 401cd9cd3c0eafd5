use Rattle.std.proofs.Common.{◌≡◌, All, [], length, drop}
use Rattle.sample_counts.specs.Sample.{IsInFiles, reviewed_rows}
use Rattle.sample_counts.specs.Places.{HasPlaces}
use Rattle.sample_counts.proofs.reviewed.reviewed_in.Given as goal

abbrev pub invariant-loop-at : goal.invariant-loop-at
invariant-loop-at l = record {
  told : reviewed_rows l.a l.b [] l.table ≡ reviewed_rows l.a l.b l.done.items (drop l.at l.table);
  places : HasPlaces l.places l.done.items;
  count : length l.done.items ≡ l.at;
  in_files : All (IsInFiles (length l.a) (length l.b)) l.done.items;
}
