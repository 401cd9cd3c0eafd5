use Rattle.std.proofs.Common.{◌≡◌, ◌<◌, ℕ, List, length, ap, arith, subst, sym, ◌∙◌, All, slice_index}
use Rattle.std.specs.List.{list_all}
use Rattle.link_base.specs.declared.rule.RuleCell.{RuleCell}
use Rattle.patterns.specs.Patterns.{pattern_count_by}
use Rattle.pair_decisions.specs.Words.{is_same_id, rares_of, cells_below, cells_many, cells_stand, few_patterns, place_of}
use Rattle.pair_decisions.proofs.pair_rule.PairRule.new.Goals as goal

pub places_of-requires-clause-few : goal.places_of-requires-clause-few
places_of-requires-clause-few c =
    let fields = c.args.plan.now.fields in
    let many = cells_many (pattern_count_by (rares_of fields)) c.args.table.cells.items c.requires.cells in
    let few = few_patterns fields c.requires.ranges.few_fields in
    omega (arith, ap length c.cells.ensures.all)

pub places_of-requires-clause-patterns : goal.places_of-requires-clause-patterns
places_of-requires-clause-patterns c =
    let n = pattern_count_by (rares_of c.args.plan.now.fields) in
    let cells = c.args.table.cells.items in
    let P : ℕ → Type 0 = λ m. All (λ (cell : RuleCell). cell.pattern < m) cells in
    let Q : List RuleCell → Type 0 = λ cs. All (λ (cell : RuleCell). cell.pattern < length cs) cs in
    subst Q (sym c.cells.ensures.all) (subst P (sym (cells_many n cells c.requires.cells)) (cells_below n cells c.requires.cells))

pub invariant_of-result : goal.invariant_of-result
invariant_of-result c =
    let n = pattern_count_by (rares_of c.args.plan.now.fields) in
    let cells = c.args.table.cells.items in
    let many : length cells ≡ n = cells_many n cells c.requires.cells in
    let stands : (pattern : ℕ) → pattern < length cells → place_of cells pattern < length cells = λ pattern lt. cells_stand n cells c.requires.cells pattern (omega arith) in
    let Q : List RuleCell → Type 0 = λ cs. (pattern : ℕ) → place_of cs pattern < length cs → slice_index c.in_ok-places.places.items pattern ≡ place_of cs pattern in
    let told : Q cells = subst Q c.cells.ensures.all c.in_ok-places.ensures.told in
    record {
      same = c.are_same_ids-by_id.ensures ∙ ap (list_all is_same_id) c.deref.ensures.value;
      few = c.in_ok-comparators.ensures.few;
      patterns = many ∙ ap pattern_count_by (sym c.in_ok-comparators.ensures.rares);
      as_many = c.in_ok-places.ensures.as_many ∙ ap length c.cells.ensures.all;
      told = λ pattern lt. told pattern (stands pattern lt);
      stands = stands;
    }
