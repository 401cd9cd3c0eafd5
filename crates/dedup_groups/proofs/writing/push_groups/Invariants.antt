use Rattle.std.proofs.Common.{◌≡◌, ◌++◌, length}
use Rattle.dedup_groups.proofs.TextLemmas.{printed_before, rows_before}
use Rattle.dedup_groups.proofs.writing.push_groups.Given as goal

abbrev pub invariant-loop-leader : goal.invariant-loop-leader
invariant-loop-leader l = record {
  number : l.number ≡ length (printed_before l.groups.leaders l.leader);
  told : l.text.items ≡ l.fn.text.items ++ rows_before l.groups.leaders l.groups.vias l.file l.leader;
}
