use Rattle.std.proofs.Common.{◌≡◌, ◌∙◌, ◌≤◌, ℕ, List, ap, length, subst, sym, All, AllPairs}
use Rattle.comparators.specs.declared.ids.IdValue.{IdValue}
use Rattle.link_base.specs.Words.{IsPairBefore}
use Rattle.link_base.specs.declared.rule.PairAt.{PairAt}
use Rattle.link_limits.specs.declared.TheConstants.{MOST_ROWS}
use Rattle.pair_decisions.specs.Words.{AreSidesFor, IsInside}
use Rattle.pair_walk.specs.Rows.{pairs_of_rows}
use Rattle.link_core.specs.Results.{compared_in}
use Rattle.link_core.proofs.StepLemmas.{answered, decided_for_plan, decided_in_files, rows_kept, rule_of_plan, told_of, pairs_inside, pairs_rise, walked_pairs}
use Rattle.link_core.proofs.decisions.decide_all.Goals as goal

pub decide_pairs-requires : goal.decide_pairs-requires
decide_pairs-requires c =
    let plan = c.args.plan.now in
    let p = c.args.prepared.now in
    let ready = c.requires.ready in
    let sides_a : p.values.a.rows ≡ c.sides.result.now.rows = sym (ap (λ t. t.rows) c.sides.ensures) in
    let sides_b : p.values.b.rows ≡ c.sides-2.result.now.rows = sym (ap (λ t. t.rows) c.sides-2.ensures) in
    let rows_a = sym ready.pooled.a.sides.as_many ∙ ap (λ (rows : List (List IdValue)). length rows) sides_a in
    let rows_b = sym ready.pooled.b.sides.as_many ∙ ap (λ (rows : List (List IdValue)). length rows) sides_b in
    let pairs : pairs_of_rows c.in_ok-blocks.blocks ≡ compared_in plan p.files = walked_pairs plan p c.in_ok-blocks.blocks c.in_ok-blocks.ensures in
    let Few : ℕ → Type 0 = λ n. n ≤ MOST_ROWS in
    let Inside : List PairAt → Type 0 = λ ps. All (IsInside (length c.sides.result.now.rows) (length c.sides-2.result.now.rows)) ps in
    let Rising : List PairAt → Type 0 = λ ps. AllPairs IsPairBefore ps in
    let Sides : List (List IdValue) → Type 0 = λ rows. All (AreSidesFor c.in_ok-rule.rule) rows in
    record {
      few_a = subst Few rows_a ready.of_a.few;
      few_b = subst Few rows_b ready.of_b.few;
      sides_a = subst Sides sides_a c.in_ok-rule.ensures.sides_a;
      sides_b = subst Sides sides_b c.in_ok-rule.ensures.sides_b;
      inside = subst Inside (sym pairs) (pairs_inside plan p (length c.sides.result.now.rows) (length c.sides-2.result.now.rows) rows_a rows_b);
      rising = subst Rising (sym pairs) (pairs_rise plan p);
    }

pub returns : goal.returns
returns c =
    let plan = c.args.plan.now in
    let p = c.args.prepared.now in
    let shares = c.args.shares.now in
    let rule = c.in_ok-rule.rule in
    let r = c.decide_pairs.result in
    let facts = c.decide_pairs.ensures in
    let told = told_of plan rule c.args.with_rows r p c.in_ok-blocks.blocks c.sides.result.now.rows c.sides-2.result.now.rows c.in_ok-blocks.ensures (ap (λ t. t.rows) c.sides.ensures) (ap (λ t. t.rows) c.sides-2.ensures) (record { answer = facts.answer; decided = facts.decided }) in
    record {
      answer = answered plan p shares rule c.args.with_rows r c.in_ok-rule.ensures.rule told;
      of_files = decided_in_files plan p shares rule c.args.with_rows r c.requires.ready c.in_ok-rule.ensures.sides_a c.in_ok-rule.ensures.sides_b told;
      of_plan = decided_for_plan plan p shares rule c.args.with_rows r c.in_ok-rule.ensures.cells told;
      rule = rule_of_plan plan p shares rule c.args.with_rows r c.in_ok-rule.ensures.filled told;
      rows = rows_kept plan p shares rule c.args.with_rows r told;
    }
