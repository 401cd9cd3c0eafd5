use Rattle.std.proofs.Common.{◌∙◌, arith}
use Rattle.csv.specs.Writing.{default_writer, row_text}
use Rattle.link_report.specs.LinksText.{frontier_header, level_row}
use Rattle.link_report.proofs.HeaderLemmas.{zip_all, zip_more}
use Rattle.link_report.proofs.frontier.frontier_text.Goals as goal

pub loop-at-preserved : goal.loop-at-preserved
loop-at-preserved c =
    zip_more level_row (row_text default_writer frontier_header) c.loop-at.text.items c.push_level.new.text.items c.args.mus.now c.args.rows.now c.loop-at.at _ _ (omega arith) c.requires c.loop-at.invariant c.in_ok-push_level.ensures

pub returns : goal.returns
returns c = c.of.ensures ∙ (rw (zip_all c.args.mus.now c.args.rows.now c.loop-at.at (omega arith)) at c.loop-at.invariant)
