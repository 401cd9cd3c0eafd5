use Rattle.std.proofs.Common.{◌≡◌, ◌≤◌, ◌∙◌, ℕ, ap, List, map, subst, sym, length, All}
use Rattle.comparators.specs.declared.ids.IdValue.{IdValue}
use Rattle.link_limits.specs.declared.TheConstants.{MOST_ROWS}
use Rattle.standard_files.specs.Ready.{AreFileSides}
use Rattle.link_core.proofs.ResultLemmas.{rares_seen, sides_of_plan, patterns_are, if_ok}
use Rattle.link_core.specs.Rules.{rule_over, shared_rares}
use Rattle.link_core.specs.Prepared.{kinds_of}
use Rattle.link_base.specs.declared.rule.RuleCell.{RuleCell}
use Rattle.pair_decisions.specs.Words.{pattern_of_pair, AreCellsOf, AreSidesFor, IsRuleOver, PairRuleView, pattern_over, side_rule, answers_of, rares_of, IsRuleOf, plain_all, the_rule}
use Rattle.patterns.specs.Patterns.{pattern_count_by}
use Rattle.link_plan.specs.Plan.{PlainShares}
use Rattle.link_core.proofs.decisions.rule_for.Goals as goal

pub rule_of_shares-requires : goal.rule_of_shares-requires
rule_of_shares-requires c = record {
  ranges = c.requires.ranges;
  some = c.fields.ensures.some;
  few = c.fields.ensures.few;
  rares = sym (rares_seen c.fields.result.now) ∙ ap shared_rares c.fields.ensures.shares ∙ c.requires.rares;
}

pub new-requires : goal.new-requires
new-requires c =
    let p = c.args.prepared.now in
    let ready = c.requires.ready in
    let rows_a : c.sides.result.now.rows ≡ p.values.a.rows = ap (λ t. t.rows) c.sides.ensures in
    let rows_b : c.sides-2.result.now.rows ≡ p.values.b.rows = ap (λ t. t.rows) c.sides-2.ensures in
    let texts = c.len.ensures ∙ ap length c.pool-2.ensures.texts in
    let Few : ℕ → Type 0 = λ n. n ≤ MOST_ROWS in
    let many_a = ap (λ (rows : List (List IdValue)). length rows) rows_a ∙ ready.pooled.a.sides.as_many in
    let many_b = ap (λ (rows : List (List IdValue)). length rows) rows_b ∙ ready.pooled.b.sides.as_many in
    let A : List (List IdValue) → Type 0 = λ rows. AreFileSides p.values.texts (kinds_of c.args.plan.now) p.files.a.records rows in
    let B : List (List IdValue) → Type 0 = λ rows. AreFileSides p.values.texts (kinds_of c.args.plan.now) p.files.b.records rows in
    record {
      ranges = c.requires.ranges;
      few_a = subst Few (sym many_a) ready.of_a.few;
      few_b = subst Few (sym many_b) ready.of_b.few;
      sides_a = sides_of_plan p.values.texts c.len.result c.args.plan.now.fields p.files.a.records c.sides.result.now.rows texts (subst A (sym rows_a) ready.pooled.a.sides);
      sides_b = sides_of_plan p.values.texts c.len.result c.args.plan.now.fields p.files.b.records c.sides-2.result.now.rows texts (subst B (sym rows_b) ready.pooled.b.sides);
      cells =
          c.rule_has_patterns.ensures c.args.plan.now (plain_all c.fields.result.now) c.in_ok-table.table.cells.items c.in_ok-table.ensures.rule
          (ap shared_rares c.fields.ensures.shares ∙ c.requires.rares);
    }

pub returns : goal.returns
returns c =
    let plan = c.args.plan.now in
    let p = c.args.prepared.now in
    let all = c.in_ok-table.table.cells.items in
    let n = pattern_count_by (rares_of plan.fields) in
    let rows_a : c.sides.result.now.rows ≡ p.values.a.rows = ap (λ t. t.rows) c.sides.ensures in
    let rows_b : c.sides-2.result.now.rows ≡ p.values.b.rows = ap (λ t. t.rows) c.sides-2.ensures in
    let Filled : List PlainShares → Type 0 = λ shares. IsRuleOf plan shares all in
    let filled : IsRuleOf plan c.args.shares.now all = subst Filled c.fields.ensures.shares c.in_ok-table.ensures.rule in
    let the : all ≡ the_rule plan.terms.mu_ppm plan.terms.lambda_ppm c.args.shares.now = c.is_the_rule.ensures plan c.args.shares.now all filled in
    let patterns =
    patterns_are plan p c.pool.result.now.texts c.len.result c.sides.result.now.rows c.sides-2.result.now.rows c.requires.ranges c.requires.ready c.same_patterns.ensures
    c.pool.ensures.texts (c.len.ensures ∙ ap length c.pool-2.ensures.texts) rows_a rows_b in
    let of_table : AreCellsOf n all = c.rule_has_patterns.ensures plan (plain_all c.fields.result.now) all c.in_ok-table.ensures.rule (ap shared_rares c.fields.ensures.shares ∙ c.requires.rares) in
    let Made : PairRuleView → Type 0 = IsRuleOver plan c.len.result all c.sides.result.now.rows c.sides-2.result.now.rows in
    let IsMade : PairRuleView → Type 0 = λ rule. side_rule rule p.values.a.rows p.values.b.rows ≡ rule_over plan p.files c.args.shares.now in
    let same : (rule : PairRuleView) → Made rule → IsMade rule = λ rule made.
    let pattern : pattern_over (map answers_of rule.comparators) p.values.a.rows p.values.b.rows ≡ pattern_of_pair plan.fields p.files.a.records p.files.b.records =
    (λ i. pattern_over (made.comparators i) (sym rows_a i) (sym rows_b i)) ∙ patterns in
    λ i. record { pattern = pattern i; cells = (made.cells ∙ the) i; seed = made.seed i } in
    record {
      rule = if_ok Made IsMade c.new.result same c.new.ensures;
      filled = if_ok Made (λ (rule : PairRuleView). IsRuleOf plan c.args.shares.now rule.cells) c.new.result
          (λ rule made. subst (λ (cs : List RuleCell). IsRuleOf plan c.args.shares.now cs) (sym made.cells) filled) c.new.ensures;
      cells = if_ok Made (λ (rule : PairRuleView). AreCellsOf n rule.cells) c.new.result (λ rule made. subst (λ (cs : List RuleCell). AreCellsOf n cs) (sym made.cells) of_table) c.new.ensures;
      sides_a = if_ok Made (λ (rule : PairRuleView). All (AreSidesFor rule) p.values.a.rows) c.new.result
          (λ rule made. subst (λ (rows : List (List IdValue)). All (AreSidesFor rule) rows) rows_a made.sides_a) c.new.ensures;
      sides_b = if_ok Made (λ (rule : PairRuleView). All (AreSidesFor rule) p.values.b.rows) c.new.result
          (λ rule made. subst (λ (rows : List (List IdValue)). All (AreSidesFor rule) rows) rows_b made.sides_b) c.new.ensures;
    }
