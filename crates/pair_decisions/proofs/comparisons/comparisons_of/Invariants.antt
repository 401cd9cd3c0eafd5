use Rattle.std.proofs.Common.{◌≡◌, ◌<◌, ℕ, length, map, take, get_or}
use Rattle.std.specs.List.{enumerate_from}
use Rattle.comparators.specs.Fields.{IsFieldSide, field_of}
use Rattle.comparators.specs.declared.ids.FieldById.{FieldById}
use Rattle.comparators.specs.declared.ids.IdValue.{IdValue}
use Rattle.link_plan.specs.Plan.{FieldKeys}
use Rattle.pair_decisions.specs.Words.{answers_of, comparator_at, IsOfTexts}
use Rattle.pair_decisions.proofs.comparisons.comparisons_of.Given as goal

abbrev pub invariant-loop-at : goal.invariant-loop-at
invariant-loop-at l = record {
  answers : map answers_of l.all.items ≡ map (comparator_at l.texts l.sides_a.rows l.sides_b.rows) (enumerate_from 0 (take l.at l.plan.fields));
  as_many : length l.all.items ≡ l.at;
  valid : (k : ℕ) (c : FieldById) (f : FieldKeys) (side : IdValue) → k < l.at → IsFieldSide (field_of (get_or l.plan.fields k f).compare) side → IsOfTexts l.texts side → IsFieldSide (get_or l.all.items k c) side;
}
