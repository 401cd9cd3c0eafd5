use Rattle.std.proofs.Common.{◌≡◌, length, All}
use Rattle.link_report.specs.LineParts.{IsLinkEnd}
use Rattle.link_report.proofs.links.some_ends.Given as goal

abbrev pub invariant-loop-place : goal.invariant-loop-place
invariant-loop-place l = record {
  count : length l.ends.items ≡ l._place;
  right : All IsLinkEnd l.ends.items;
}
