use Rattle.std.proofs.Common.{◌≡◌, ◌+◌, ◌-◌, ◌/◌, ◌≤◌, ◌<◌, ℕ, drop, map, reverse, length, get_or}
use Rattle.decision_rule.specs.Walk.{CutBy, room_left}
use Rattle.decision_rule.specs.Filled.{chances_of}
use Rattle.link_base.specs.declared.rule.RuleCell.{RuleCell}
use Rattle.decision_rule.proofs.cuts.cut_nonlinks.Given as goal

abbrev pub invariant-loop-i : goal.invariant-loop-i
invariant-loop-i l = record {
  in_table : l.i ≤ length l.cells;
  chances : map chances_of l.cells ≡ map chances_of l.fn.cells;
  links : map (λ (c : RuleCell). c.link) l.cells ≡ map (λ (c : RuleCell). c.link) l.fn.cells;
  bound : (k : ℕ) (d : RuleCell) → l.i ≤ k → k < length l.cells → (get_or l.cells k d).link + (get_or l.cells k d).nonlink ≤ 65536;
  cut : CutBy (λ (c : RuleCell). c.nonlink) (λ (c : RuleCell). 65536 - c.link) (λ (c : RuleCell). c.m) (reverse (drop l.i l.cells)) (l.asked / 1000000);
  room : l.room ≡ room_left (λ (c : RuleCell). c.nonlink) (λ (c : RuleCell). 65536 - c.link) (λ (c : RuleCell). c.m) (reverse (drop l.i l.cells)) (l.asked / 1000000);
}

abbrev pub decreases-loop-i : goal.decreases-loop-i
decreases-loop-i l = l.i
