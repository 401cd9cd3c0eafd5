use Rattle.std.proofs.Common.{◌≡◌, ◌≤◌, ◌<◌, ◌∙◌, ◌∷◌, [], ℕ, List, ap, arith, length, length-take, map, refl, subst, sym, take, true}
use Rattle.comparators.specs.declared.ids.FieldById.{FieldById}
use Rattle.comparators.specs.declared.ids.IdValue.{IdValue}
use Rattle.comparators.specs.declared.ids.SameId.{SameId}
use Rattle.link_limits.specs.declared.TheConstants.{MOST_FIELDS}
use Rattle.patterns.specs.Patterns.{pattern_count_by}
use Rattle.pair_decisions.specs.Words.{answers_of, AreSidesFor, PairRuleView, pattern_by}
use Rattle.pair_decisions.proofs.ComparatorLemmas.{pattern_seen, same_pattern, same_rares, same_sides}
use Rattle.pair_decisions.proofs.pair_rule.PairRule.pattern.Goals as goal

-- as many comparisons by ids alone as a rule has fields
abbrev six : List SameId
six = record {} ∷ record {} ∷ record {} ∷ record {} ∷ record {} ∷ record {} ∷ []

abbrev kinds : ℕ → List SameId
kinds n = take n six

as_many : (all : List FieldById) (sides : List IdValue) → length sides ≡ length all → length all ≤ MOST_FIELDS → length (kinds (length sides)) ≡ length all
as_many all sides same few =
    let most : length six ≡ 6 = refl in
    omega (arith, length-take (length sides) six, most, same, few)

pub pattern_over-requires-clause-sides_a : goal.pattern_over-requires-clause-sides_a
pattern_over-requires-clause-sides_a c =
    let all = c.self.inside.comparators.items in
    let a = c.args.a.now in
    let of_a = subst (λ (v : PairRuleView). AreSidesFor v a) (sym c.self.view_is) c.requires.sides_a in
    same_sides all (kinds (length a)) a (sym c.self.invariant.same ∙ c.if-self.true) (as_many all a of_a.as_many c.self.invariant.few) of_a

pub pattern_over-requires-clause-sides_b : goal.pattern_over-requires-clause-sides_b
pattern_over-requires-clause-sides_b c =
    let all = c.self.inside.comparators.items in
    let a = c.args.a.now in
    let of_a = subst (λ (v : PairRuleView). AreSidesFor v a) (sym c.self.view_is) c.requires.sides_a in
    let of_b = subst (λ (v : PairRuleView). AreSidesFor v c.args.b.now) (sym c.self.view_is) c.requires.sides_b in
    same_sides all (kinds (length a)) c.args.b.now (sym c.self.invariant.same ∙ c.if-self.true) (as_many all a of_a.as_many c.self.invariant.few) of_b

pub returns-then-self-clause-number : goal.returns-then-self-clause-number
returns-then-self-clause-number c =
    let all = c.self.inside.comparators.items in
    let a = c.args.a.now in
    let b = c.args.b.now in
    let of_a = subst (λ (v : PairRuleView). AreSidesFor v a) (sym c.self.view_is) c.requires.sides_a in
    let by : PairRuleView → ℕ = λ v. pattern_by (map answers_of v.comparators) a b in
    c.pattern_over.ensures.number ∙ same_pattern all (kinds (length a)) a b (sym c.self.invariant.same ∙ c.if-self.true) (as_many all a of_a.as_many c.self.invariant.few) ∙ ap by c.self.view_is

pub returns-then-self-clause-range : goal.returns-then-self-clause-range
returns-then-self-clause-range c =
    let all = c.self.inside.comparators.items in
    let a = c.args.a.now in
    let of_a = subst (λ (v : PairRuleView). AreSidesFor v a) (sym c.self.view_is) c.requires.sides_a in
    let rares = same_rares all (kinds (length a)) (sym c.self.invariant.same ∙ c.if-self.true) (as_many all a of_a.as_many c.self.invariant.few) in
    let many = ap pattern_count_by rares ∙ sym c.self.invariant.patterns ∙ ap (λ (v : PairRuleView). length v.cells) c.self.view_is in
    subst (λ (n : ℕ). c.pattern_over.result < n) many c.pattern_over.ensures.range

pub returns-clause-number : goal.returns-clause-number
returns-clause-number c =
    let a = c.args.a.now in
    let b = c.args.b.now in
    let by : List FieldById → ℕ = λ all. pattern_by (map answers_of all) a b in
    c.pattern_over-2.ensures.number ∙ pattern_seen c.deref.result.now a b ∙ ap by (c.deref.ensures.value ∙ ap (λ (v : PairRuleView). v.comparators) c.self.view_is)
