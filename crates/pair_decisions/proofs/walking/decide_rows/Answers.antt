use Rattle.std.proofs.Common.{◌∙◌, arith, length}
use Rattle.std.proofs.lemmas.List.Elements.{filter-append}
use Rattle.link_base.specs.declared.rule.Decision.{Decision}
use Rattle.link_base.specs.declared.rule.Decision.TheVariants.{Link, Possible}
use Rattle.link_base.specs.declared.rule.PairAt.{PairAt}
use Rattle.pair_walk.specs.PairLaws.{count_more, rest_holds, row_holds, row_more}
use Rattle.pair_decisions.proofs.ComparatorLemmas.{kept_joined}
use Rattle.pair_decisions.specs.Words.{decision_at, is_same, pairs_with, IsInside, decided_row, decided_rows, kept_rows, side_rule}
use Rattle.pair_walk.specs.Walker.{GivesRow}
use Rattle.pair_decisions.proofs.walking.decide_rows.Goals as goal

pub decide_row-requires-clause-inside : goal.decide_row-requires-clause-inside
decide_row-requires-clause-inside c =
    let next : GivesRow c.rows.walker c.next_row.new.self c.next_row.new.row = rw c.in-Ok-true.field-0-test at c.in-Ok-true.ensures in
    row_holds (IsInside (length c.args.sides_a.now.rows) (length c.args.sides_b.now.rows)) c.rows.walker.left c.next_row.new.self.left c.next_row.new.row.a c.next_row.new.row.bs.items next.0 c.rows.invariant.inside

pub decide_row-requires-clause-few : goal.decide_row-requires-clause-few
decide_row-requires-clause-few c =
    let next : GivesRow c.rows.walker c.next_row.new.self c.next_row.new.row = rw c.in-Ok-true.field-0-test at c.in-Ok-true.ensures in
    omega (arith, next.1, next.2, c.rows.invariant.given)

pub rows-preserved : goal.rows-preserved
rows-preserved c =
    let old = c.rows.walker.left in
    let rest = c.next_row.new.self.left in
    let a = c.next_row.new.row.a in
    let bs = c.next_row.new.row.bs.items in
    let next : GivesRow c.rows.walker c.next_row.new.self c.next_row.new.row = rw c.in-Ok-true.field-0-test at c.in-Ok-true.ensures in
    let rule = side_rule c.args.rule.now c.args.sides_a.now.rows c.args.sides_b.now.rows in
    let has = λ (kind : Decision) (at : PairAt). is_same kind (decision_at rule at) in
    let more = count_more old rest a bs next.0 in
    record {
      same = c.decide_row.ensures.same ∙ c.rows.invariant.same;
      given = omega (arith, next.1, c.in-Ok-decide_row.ensures.compared);
      few = omega (arith, next.1, next.2, c.in-Ok-decide_row.ensures.compared);
      compared = omega (arith, c.in-Ok-decide_row.ensures.compared);
      rows = row_more (λ ps. kept_rows c.args.with_rows (decided_rows rule ps)) (kept_joined c.args.with_rows (decided_row rule)) old rest a bs _ _ _ next.0 c.in-Ok-decide_row.ensures.found.rows c.rows.invariant.rows;
      links = row_more (pairs_with Link rule) (filter-append (has Link)) old rest a bs _ _ _ next.0 c.in-Ok-decide_row.ensures.found.links c.rows.invariant.links;
      possible = row_more (pairs_with Possible rule) (filter-append (has Possible)) old rest a bs _ _ _ next.0 c.in-Ok-decide_row.ensures.found.possible c.rows.invariant.possible;
      inside = rest_holds (IsInside (length c.args.sides_a.now.rows) (length c.args.sides_b.now.rows)) old rest a bs next.0 c.rows.invariant.inside;
    }
