use Rattle.std.proofs.Common.{◌≡◌, ◌<◌, All, length, map, take}
use Rattle.link_report.specs.declared.open.PairRow.{PairRow}
use Rattle.link_core.specs.Rules.{decisions_of}
use Rattle.link_core.specs.Review.{open_pairs, open_row_of}
use Rattle.link_core.proofs.review.open_rows.Given as goal

abbrev pub invariant-loop-at : goal.invariant-loop-at
invariant-loop-at l =
    (l.rows.items ≡ map (open_row_of (decisions_of l.prepared l.decided) l.journal) (open_pairs l.journal (take l.at-index l.at-items)))
    × All (λ (r : PairRow). r.at.a < length l.prepared.files.a.records) l.rows.items
    × All (λ (r : PairRow). r.at.b < length l.prepared.files.b.records) l.rows.items
