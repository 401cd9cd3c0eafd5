use Rattle.std.proofs.Common.{◌≡◌, ◌≤◌, ◌+◌, length}
use Rattle.link_report.specs.Reading.{first_misfit}
use Rattle.link_report.proofs.reading.misfit_in.Given as goal

abbrev pub invariant-rows : goal.invariant-rows
invariant-rows l = record {
  short : l.number + length l.rows ≤ length l.fn.rows + 1;
  told : first_misfit l.width 1 l.fn.rows ≡ first_misfit l.width l.number l.rows;
}

abbrev pub decreases-rows : goal.decreases-rows
decreases-rows l = length l.rows
