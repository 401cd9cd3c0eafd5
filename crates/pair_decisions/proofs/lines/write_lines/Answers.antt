use Rattle.std.proofs.Common.{◌≡◌, ◌++◌, ◌∙◌, Bool, List, ap, take, flat_map, take_all}
use Rattle.link_report.specs.PairsText.{pair_row}
use Rattle.pair_decisions.proofs.LineLemmas.{line_by, line_more}
use Rattle.pair_decisions.specs.Words.{shown_row, shown_rows}
use Rattle.pair_decisions.proofs.lines.write_lines.Goals as goal

pub loop-row-preserved : goal.loop-row-preserved
loop-row-preserved c =
    let start = c.args.writer.now in
    let now = c.loop-row.writer in
    let line = λ (rares : List Bool). pair_row rares c.args.a.now c.args.b.now in
    record {
      rares = c.push.ensures.rares ∙ c.loop-row.invariant.rares;
      text = line_more (line start.rares) (shown_row c.args.rule.now.cells c.args.journal.now) c.args.rows.now c.loop-row.row-index _ start.text now.text _ c.loop-row-test.true c.loop-row.invariant.text
          (line_by line now.rares start.rares _ now.text _ c.loop-row.invariant.rares (c.in_ok-push.ensures.text ∙ ap (λ row. now.text ++ line now.rares row) c.shown.ensures));
    }

pub returns : goal.returns
returns c =
    let all : take c.loop-row.row-index c.args.rows.now ≡ c.args.rows.now = take_all c.loop-row.row-index c.args.rows.now c.loop-row-test.false in
    c.loop-row.invariant.text
    ∙ ap (λ rows. c.args.writer.now.text ++ flat_map (pair_row c.args.writer.now.rares c.args.a.now c.args.b.now) (shown_rows c.args.rule.now.cells c.args.journal.now rows)) all
