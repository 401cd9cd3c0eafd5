use Rattle.std.proofs.Common.{◌≡◌, length, take, All}
use Rattle.link_report.specs.LineParts.{IsLinkEnd}
use Rattle.link_report.specs.LinksText.{text_of_links}
use Rattle.link_report.specs.declared.links.TheConstants.{KEPT_ENDS}
use Rattle.link_report.proofs.links.links_text.Given as goal

abbrev pub invariant-loop-link : goal.invariant-loop-link
invariant-loop-link l = record {
  text : l.text.items ≡ text_of_links l.a l.b (take l.link-index l.links);
  count : length l.ends.items ≡ KEPT_ENDS;
  right : All IsLinkEnd l.ends.items;
}
