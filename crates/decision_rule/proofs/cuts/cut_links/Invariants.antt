use Rattle.std.proofs.Common.{◌≡◌, ◌/◌, ◌≤◌, take, map}
use Rattle.std.specs.List.{AllWithin}
use Rattle.decision_rule.specs.Walk.{CutBy, room_left}
use Rattle.decision_rule.specs.Filled.{chances_of}
use Rattle.link_base.specs.declared.rule.RuleCell.{RuleCell}
use Rattle.decision_rule.proofs.cuts.cut_links.Given as goal

abbrev pub invariant-loop-i : goal.invariant-loop-i
invariant-loop-i l = record {
  chances : map chances_of l.cells ≡ map chances_of l.fn.cells;
  bound : AllWithin (λ (c : RuleCell). c.link ≤ 65536) l.cells 0 l.i;
  cut : CutBy (λ (c : RuleCell). c.link) (λ (c : RuleCell). 65536) (λ (c : RuleCell). c.u) (take l.i l.cells) (l.asked / 1000000);
  room : l.room ≡ room_left (λ (c : RuleCell). c.link) (λ (c : RuleCell). 65536) (λ (c : RuleCell). c.u) (take l.i l.cells) (l.asked / 1000000);
}
