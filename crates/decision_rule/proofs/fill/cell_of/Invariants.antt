use Rattle.std.proofs.Common.{◌≡◌, ◌*◌, ◌^◌, ◌≤◌, ◌<◌, drop, ◌+ℤ◌, ◌-ℤ◌, ◌≤ℤ◌, pos}
use Rattle.patterns.specs.Patterns.{pattern_count_of, m_of, u_of, weight_of}
use Rattle.decision_rule.proofs.fill.cell_of.Given as goal

abbrev pub invariant-loop-field : goal.invariant-loop-field
invariant-loop-field l = record {
  below_is : l.below ≡ pattern_count_of (drop l.field-index l.shares);
  rest_below : l.rest < l.below;
  m_is : l.m * m_of (drop l.field-index l.shares) l.rest ≡ m_of l.shares l.pattern;
  u_is : l.u * u_of (drop l.field-index l.shares) l.rest ≡ u_of l.shares l.pattern;
  weight_is : l.weight +ℤ weight_of (drop l.field-index l.shares) l.rest ≡ weight_of l.shares l.pattern;
  m_small : l.m ≤ 1024 ^ l.field-index;
  u_small : l.u ≤ 1024 ^ l.field-index;
  weight_low : (pos 0 -ℤ pos (80 * l.field-index)) ≤ℤ l.weight;
  weight_high : l.weight ≤ℤ pos (80 * l.field-index);
}
