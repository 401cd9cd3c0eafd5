use Rattle.std.proofs.Common.{◌≡◌, ◌<◌, ◌∙◌, Bool, List, Err, ap, length, refl, subst, sym, All}
use Rattle.link_base.specs.declared.fault.Fault.TheVariants as fault
use Rattle.link_base.specs.declared.rule.Decision.{Decision}
use Rattle.link_base.specs.declared.rule.Decision.TheVariants.{Link, Possible}
use Rattle.link_base.specs.declared.rule.PairAt.{PairAt}
use Rattle.link_limits.specs.declared.TheConstants.{MOST_PAIRS}
use Rattle.pair_decisions.proofs.ComparatorLemmas.{counted, found_inside, found_rise, not_more, kept_in}
use Rattle.pair_decisions.specs.Words.{IsFoundOf, past_limit, within_limit, DecidedView, decision_at, is_same, IsInside, FileRule, side_rule}
use Rattle.pair_walk.specs.Rows.{pairs_of_rows}
use Rattle.pair_walk.specs.Walker.{RefusesPairs}
use Rattle.pair_walk.specs.declared.fault.WalkFault.{WalkFault}
use Rattle.pair_walk.specs.declared.fault.WalkFault.TheVariants as walk_fault
use Rattle.pair_decisions.proofs.deciding.decide_pairs.Goals.{In-Ok}
use Rattle.pair_decisions.proofs.deciding.decide_pairs.Goals as goal

pub decide_rows-requires-clause-inside : goal.decide_rows-requires-clause-inside
decide_rows-requires-clause-inside c =
    let Inside : List PairAt → Type 0 = λ ps. All (IsInside (length c.args.sides_a.now.rows) (length c.args.sides_b.now.rows)) ps in
    subst Inside (sym (ap pairs_of_rows c.walk.ensures.left)) c.requires.inside

abbrev all_of : In-Ok → List PairAt
all_of c = pairs_of_rows c.args.blocks.now

abbrev rule_of : In-Ok → FileRule
rule_of c = side_rule c.args.rule c.args.sides_a.now.rows c.args.sides_b.now.rows

found : (c : In-Ok) → IsFoundOf (rule_of c) c.args.with_rows (all_of c) c.in-Ok.found
found c = subst (λ (ps : List PairAt). IsFoundOf (rule_of c) c.args.with_rows ps c.in-Ok.found) (ap pairs_of_rows c.walk.ensures.left) c.in-Ok.ensures.found

abbrev view_of : In-Ok → DecidedView
view_of c = record { rule = c.args.rule; rows = c.in-Ok.found.rows.items; compared = c.in-Ok.found.compared; links = c.in-Ok.found.links.items; possible = c.in-Ok.found.possible.items }

pub invariant_of-result : goal.invariant_of-result
invariant_of-result c = not_more (rule_of c) (all_of c) (view_of c) (found c).compared (found c).links (found c).possible

pub returns-in-Ok-clause-answer : goal.returns-in-Ok-clause-answer
returns-in-Ok-clause-answer c = within_limit (all_of c) (found c).few

abbrev has : In-Ok → Decision → PairAt → Bool
has c kind at = is_same kind (decision_at (rule_of c) at)

pub returns-in-Ok-clause-decided : goal.returns-in-Ok-clause-decided
returns-in-Ok-clause-decided c =
    let rows_a = length c.args.sides_a.now.rows in
    let rows_b = length c.args.sides_b.now.rows in
    let f = found c in
    record {
      by_rule = refl;
      decisions = record {
        few = f.few;
        rising = c.requires.rising;
        inside = c.requires.inside;
        compared = f.compared;
        links = f.links;
        possible = f.possible;
      };
      counts = counted (rule_of c) (all_of c) (view_of c) f.compared f.links f.possible;
      lists = record {
        links = found_inside (has c Link) (all_of c) _ f.links rows_a rows_b c.requires.inside;
        possible = found_inside (has c Possible) (all_of c) _ f.possible rows_a rows_b c.requires.inside;
        links_rise = found_rise (has c Link) (all_of c) _ f.links c.requires.rising;
        possible_rise = found_rise (has c Possible) (all_of c) _ f.possible c.requires.rising;
      };
      rows = f.rows;
      rows_in = kept_in c.args.rule c.args.sides_a.now.rows c.args.sides_b.now.rows (all_of c) c.requires.sides_a c.requires.sides_b c.has_cells.ensures c.requires.inside c.requires.rising
          c.args.with_rows c.in-Ok.found.rows.items f.rows;
    }

pub returns-in-Err-TooManyPairs-clause-answer : goal.returns-in-Err-TooManyPairs-clause-answer
returns-in-Err-TooManyPairs-clause-answer c =
    let walked : pairs_of_rows c.walk.result.left ≡ pairs_of_rows c.args.blocks.now = ap pairs_of_rows c.walk.ensures.left in
    let P : WalkFault → Type 0 = λ f. RefusesPairs (pairs_of_rows c.walk.result.left) f in
    let refused : P (walk_fault.TooManyPairs c.in-Err-TooManyPairs.limit) = subst P c.in-Err-TooManyPairs.field-0-is c.in-Err-TooManyPairs.ensures.refused in
    let many : MOST_PAIRS < length (pairs_of_rows c.args.blocks.now) = subst (λ (ps : List PairAt). MOST_PAIRS < length ps) walked refused.1 in
    past_limit (pairs_of_rows c.args.blocks.now) many ∙ ap (λ n. Err (fault.TooManyPairs n)) (sym refused.0)
