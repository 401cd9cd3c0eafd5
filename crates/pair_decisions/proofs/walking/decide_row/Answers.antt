use Rattle.std.proofs.Common.{◌≡◌, ◌∙◌, ◌++◌, ◌∷◌, [], List, ℕ, ap, get_or, map, if◌then◌else◌, length, subst, sym, All}
use Rattle.std.proofs.lemmas.List.Elements.{filter-append}
use Rattle.link_base.specs.declared.rule.Decision.{Decision}
use Rattle.link_base.specs.declared.rule.Decision.TheVariants.{Link, Possible}
use Rattle.link_base.specs.declared.rule.PairAt.{PairAt}
use Rattle.pair_decisions.proofs.ComparatorLemmas.{kept_joined}
use Rattle.pair_walk.specs.PairLaws.{pair_holds, pair_more}
use Rattle.pair_decisions.specs.Words.{decision_at, is_same, pairs_with, IsInside, decided_row, decided_rows, kept_rows, side_rule}
use Rattle.pair_decisions.specs.declared.rows.DecidedRow.{DecidedRow}
use Rattle.pair_walk.specs.Rows.{pair}
use Rattle.pair_decisions.proofs.walking.decide_row.Goals as goal

pub row_at-decided-requires-clause-inside : goal.row_at-decided-requires-clause-inside
row_at-decided-requires-clause-inside c =
    let inside = IsInside (length c.args.sides_a.now.rows) (length c.args.sides_b.now.rows) in
    let Q : List ℕ → Type 0 = λ bs. All inside (map (pair c.args.row.now.a) bs) in
    pair_holds inside c.args.row.now.a c.deref-b-items.result.now c.loop-b.b-index c.loop-b-test.true (subst Q (sym c.deref-b-items.ensures.value) c.requires.inside)

pub loop-b-preserved : goal.loop-b-preserved
loop-b-preserved c =
    let a = c.args.row.now.a in
    let bs = c.deref-b-items.result.now in
    let i = c.loop-b.b-index in
    let at = pair a (get_or bs i 0) in
    let rule = side_rule c.args.rule.now c.args.sides_a.now.rows c.args.sides_b.now.rows in
    let found = c.args.found.now in
    let keep = c.args.with_rows in
    let row : c.row_at-decided.result ≡ decided_row rule at = c.row_at-decided.ensures.row in
    let added = c.in_ok-keep.ensures in
    let has = λ (kind : Decision) (p : PairAt). is_same kind (decision_at rule p) in
    let old = c.loop-b.found in
    record {
      same = c.row_at-decided.ensures.same ∙ c.loop-b.invariant.same;
      rows = pair_more (λ ps. kept_rows keep (decided_rows rule ps)) (kept_joined keep (decided_row rule)) a bs i found.rows.items old.rows.items _ c.loop-b-test.true c.loop-b.invariant.rows
          (added.rows ∙ ap (λ r. old.rows.items ++ kept_rows keep (r ∷ [])) row);
      links = pair_more (pairs_with Link rule) (filter-append (has Link)) a bs i found.links.items old.links.items _ c.loop-b-test.true c.loop-b.invariant.links
          (added.links ∙ ap (λ (r : DecidedRow). old.links.items ++ (if is_same Link r.decision then r.at ∷ [] else [])) row);
      possible = pair_more (pairs_with Possible rule) (filter-append (has Possible)) a bs i found.possible.items old.possible.items _ c.loop-b-test.true c.loop-b.invariant.possible
          (added.possible ∙ ap (λ (r : DecidedRow). old.possible.items ++ (if is_same Possible r.decision then r.at ∷ [] else [])) row);
      compared = added.compared ∙ c.loop-b.invariant.compared;
    }
