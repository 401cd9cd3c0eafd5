use Rattle.std.proofs.Common.{◌∙◌, arith, take_all}
use Rattle.csv.specs.Writing.{default_writer, row_text}
use Rattle.link_report.specs.LinksText.{link_row, links_header}
use Rattle.link_report.proofs.HeaderLemmas.{rows_more}
use Rattle.link_report.proofs.links.links_text.Goals as goal

pub loop-link-preserved : goal.loop-link-preserved
loop-link-preserved c = record {
  text = rows_more (link_row c.args.a.now c.args.b.now) (row_text default_writer links_header) c.loop-link.text.items c.push_link.new.text.items c.args.links.now c.loop-link.link-index _ (omega arith) c.loop-link.invariant.text c.in_ok-push_link.ensures.text;
  count = c.push_link.ensures.count;
  right = c.push_link.ensures.right;
}

pub returns : goal.returns
returns c = c.of.ensures ∙ (rw (take_all c.loop-link.link-index c.args.links.now c.loop-link-test.false) at c.loop-link.invariant.text)
