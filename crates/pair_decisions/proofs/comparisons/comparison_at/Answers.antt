use Rattle.std.proofs.Common.{◌≡◌, ◌∙◌, ℕ, ap, length, subst, sym, true}
use Rattle.std.proofs.lemmas.List.FromFn.{length-map-range_with_len}
use Rattle.comparators.specs.Fields.{IsCounted}
use Rattle.link_plan.specs.Ranges.{may_be_rare}
use Rattle.link_plan.specs.Plan.{FieldKeys}
use Rattle.pair_decisions.specs.Words.{count_of_id}
use Rattle.pair_decisions.proofs.ComparatorLemmas.{canon_of_rare, counted_side}
use Rattle.pair_decisions.proofs.comparisons.comparison_at.Goals as goal

pub returns-in_ok-counts_in-in-Some-clause-valid : goal.returns-in_ok-counts_in-in-Some-clause-valid
returns-in_ok-counts_in-in-Some-clause-valid c = λ side h of_texts.
    let kind = c.args.field.now.compare in
    let size : length c.in_ok-counts_in-in-Some.field-0.items ≡ c.args.texts = ap length c.in_ok-counts_in-in-Some.ensures ∙ length-map-range_with_len (count_of_id c.args.a.now.rows c.args.b.now.rows c.args.at) 0 c.args.texts in
    let canon : may_be_rare kind ≡ true = canon_of_rare kind c.args.field.now.rare c.in-Some.most (sym (ap (λ (f : FieldKeys). f.rare) c.field.view_is) ∙ c.in-Some.is) c.requires.rare in
    subst (λ (n : ℕ). IsCounted n side) (sym size) (counted_side kind c.args.texts side canon h of_texts)
