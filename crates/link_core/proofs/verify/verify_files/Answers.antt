use Rattle.std.proofs.Common.{◌≡◌, ◌<◌, ◌≤◌, ◌^◌, ◌∙◌, ℕ, Bool, List, Result, Ok, ap, arith, length, subst, sym, All}
use Rattle.std.proofs.lemmas.Int.{ints}
use Rattle.candidate_links.specs.Candidates.{HasBounds}
use Rattle.link_base.specs.Words.{IsWithinRanges, Record}
use Rattle.link_base.specs.declared.rule.Candidate.{Candidate}
use Rattle.link_base.specs.declared.rule.RuleCell.{RuleCell}
use Rattle.link_core.proofs.ResultLemmas.{handed}
use Rattle.link_core.specs.Rules.{rule_in}
use Rattle.link_core.specs.Results.{candidates_in, compared_in}
use Rattle.link_core.specs.Verify.{line_of, is_proved, verified_in}
use Rattle.link_limits.specs.declared.TheConstants.{MOST_PAIRS}
use Rattle.pair_decisions.specs.Words.{cells_below, shape_rares, PairRuleView, rares_of}
use Rattle.patterns.specs.Patterns.{pattern_count_by, rare_of}
use Rattle.price_check.specs.Verdict.{HasAllowedValue}
use Rattle.written_check.specs.Verified.{texts_in, verified, WrittenTexts}
use Rattle.written_check.specs.declared.refutation.Refutation.{Refutation}
use Rattle.link_core.proofs.verify.verify_files.Goals as goal

small : (n : ℕ) → n ≤ MOST_PAIRS → n < 2 ^ 32
small n h = omega (arith, h)

pub verify_written-verified-requires : goal.verify_written-verified-requires
verify_written-verified-requires c =
    let plan = c.args.plan.now in
    let p = c.args.prepared.now in
    let fields = plan.fields in
    let all = c.args.decided.now.rule.cells in
    let wanted = candidates_in plan p.files (rule_in p c.args.decided.now) c.args.journal.now in
    let flags : rare_of c.shape-shape.result ≡ rares_of fields = shape_rares fields c.shape-shape.result c.shape-shape.ensures.fields c.shape-shape.ensures.rare in
    let cells : c.table-table.result.now.cells.items ≡ all = c.table-table.ensures ∙ ap (λ (r : PairRuleView). r.cells) c.rule.ensures in
    let below = cells_below (pattern_count_by (rares_of fields)) all c.requires.decided.cells in
    let P : List Bool → Type 0 = λ rares. All (λ (x : RuleCell). x.pattern < pattern_count_by rares) all in
    let Q : List RuleCell → Type 0 = λ cs. All (λ (x : RuleCell). x.pattern < pattern_count_by (rare_of c.shape-shape.result)) cs in
    let ranges : All IsWithinRanges all = subst (λ (cs : List RuleCell). All IsWithinRanges cs) cells c.table-table.result.now.in_range in
    let bounds : All (HasBounds plan.terms.award) wanted = c.candidates_are_bounded.ensures (rule_in p c.args.decided.now) c.args.journal.now plan.terms.award (compared_in plan p.files) ranges in
    let of_both =
    handed (length p.files.a.records) (length p.files.b.records) (length c.a.result.now) (length c.b.result.now) wanted c.in_ok-found.found.items c.deref.result.now
    (ap (λ (file : List Record). length file) c.a.ensures) (ap (λ (file : List Record). length file) c.b.ensures) c.deref.ensures.value c.in_ok-found.ensures in
    record {
      rule = c.requires.rule;
      links = c.requires.links;
      prices = c.requires.prices;
      shape = subst Q (sym cells) (subst P (sym flags) below);
      count = small (length c.deref.result.now) of_both.few;
      rising = of_both.rising;
      within = of_both.within;
      allowed = subst (λ (cs : List Candidate). All HasAllowedValue cs) (sym of_both.same)
          (λ k d lt. let b = bounds k d lt in (omega (arith, ints, b.value_low), omega (arith, ints, b.value_high, c.requires.ranges.terms.award)));
    }

-- what was handed over is what the files hold
module _ (rares flags : List Bool) (all cells : List RuleCell) (wanted candidates : List Candidate) (of_a of_b a b : List Record) (texts : WrittenTexts) (r : Result (List Candidate) Refutation) where
  handed_is : flags ≡ rares → cells ≡ all → candidates ≡ wanted → a ≡ of_a → b ≡ of_b → verified flags cells candidates a b texts ≡ r → verified rares all wanted of_a of_b texts ≡ r
  handed_is f c w x y e = sym (λ i. verified (f i) (c i) (w i) (x i) (y i) texts) ∙ e

pub returns-in_ok-line-in-Ok : goal.returns-in_ok-line-in-Ok
returns-in_ok-line-in-Ok c =
    let plan = c.args.plan.now in
    let p = c.args.prepared.now in
    let fields = plan.fields in
    let told = verified_in plan p.files (rule_in p c.args.decided.now) c.args.journal.now (texts_in c.args.written.now) in
    let is : told ≡ Ok c.in-Ok.links.items =
    handed_is (rares_of fields) (rare_of c.shape-shape.result) c.args.decided.now.rule.cells c.table-table.result.now.cells.items _ c.deref.result.now p.files.a.records p.files.b.records c.a.result.now c.b.result.now (texts_in c.args.written.now) (Ok c.in-Ok.links.items)
    (shape_rares fields c.shape-shape.result c.shape-shape.ensures.fields c.shape-shape.ensures.rare)
    (c.table-table.ensures ∙ ap (λ (r : PairRuleView). r.cells) c.rule.ensures) (c.deref.ensures.value ∙ c.in_ok-found.ensures.same) c.a.ensures c.b.ensures c.in-Ok.ensures.answer in
    record { proved = ap is_proved (sym is); line = c.in_ok-line-in-Ok.ensures ∙ ap (line_of p.files) (sym is) }
