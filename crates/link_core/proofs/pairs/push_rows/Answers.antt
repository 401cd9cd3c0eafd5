use Rattle.std.proofs.Common.{◌<◌, ℕ, List, arith, length, subst, sym, All}
use Rattle.link_report.specs.PairsText.{ids_line}
use Rattle.link_core.proofs.StepLemmas.{lines_more, row_in_a, row_in_b}
use Rattle.pair_walk.specs.PairLaws.{count_more, rest_holds, row_holds}
use Rattle.pair_decisions.specs.Words.{IsInside}
use Rattle.pair_walk.specs.Walker.{GivesRow}
use Rattle.link_core.proofs.pairs.push_rows.Goals as goal

pub push_row-requires : goal.push_row-requires
push_row-requires c =
    let next : GivesRow c.rows.walker c.next_row.new.self c.next_row.new.row = rw c.in-Ok-true.field-0-test at c.in-Ok-true.ensures in
    let a = c.next_row.new.row.a in
    let bs = c.next_row.new.row.bs.items in
    let rows_a = length c.args.a.now in
    let rows_b = length c.args.b.now in
    let inside = row_holds (IsInside rows_a rows_b) c.rows.walker.left c.next_row.new.self.left a bs next.0 c.rows.invariant.inside in
    let in_a : List ℕ → Type 0 = λ js. 0 < length js → a < rows_a in
    let in_b : List ℕ → Type 0 = λ js. All (λ j. j < rows_b) js in
    record {
      in_a = subst in_a (sym c.deref.ensures.value) (row_in_a rows_a rows_b a bs inside);
      in_b = subst in_b (sym c.deref.ensures.value) (row_in_b rows_a rows_b a bs inside);
    }

pub rows-preserved : goal.rows-preserved
rows-preserved c =
    let next : GivesRow c.rows.walker c.next_row.new.self c.next_row.new.row = rw c.in-Ok-true.field-0-test at c.in-Ok-true.ensures in
    let old = c.rows.walker.left in
    let rest = c.next_row.new.self.left in
    let a = c.next_row.new.row.a in
    let bs = c.next_row.new.row.bs.items in
    let more = count_more old rest a bs next.0 in
    let written = rw c.deref.ensures.value at c.in_ok-push_row-in-Ok-true.ensures in
    record {
      given = omega (arith, next.1, more, c.rows.invariant.given);
      few = next.2;
      text = lines_more (ids_line c.args.a.now c.args.b.now) old rest a bs c.rows.writer c.push_row.new.self _ next.0 written c.rows.invariant.text;
      inside = rest_holds (IsInside (length c.args.a.now) (length c.args.b.now)) old rest a bs next.0 c.rows.invariant.inside;
    }
