use Rattle.std.proofs.Common.{◌≡◌, length, All}
use Rattle.link_report.specs.LineParts.{IsEnd}
use Rattle.patterns.specs.Patterns.{rare_of}
use Rattle.link_report.proofs.ends.ends_by_pattern.Given as goal

abbrev pub invariant-loop-pattern : goal.invariant-loop-pattern
invariant-loop-pattern l = record {
  count : length l.ends.items ≡ l.pattern;
  right : All (IsEnd (rare_of l.shape)) l.ends.items;
}
