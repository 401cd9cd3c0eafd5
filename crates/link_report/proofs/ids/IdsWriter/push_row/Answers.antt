use Rattle.std.proofs.Common.{arith}
use Rattle.std.proofs.lemmas.Bool.Decides.{nat_tests}
use Rattle.link_report.proofs.LineLemmas.{lines_of_ids}
use Rattle.link_report.proofs.ids.IdsWriter.push_row.Goals as goal

pub field-requires : goal.field-requires
field-requires c = c.requires.in_a (grind (arith, nat_tests, c.if-is_empty.ensures))

pub returns : goal.returns
returns c = rw (← c.self.view_is, ← lines_of_ids c.args.a.now c.args.b.now c.args.at c.field.result.now c.args.partners.now c.field.ensures) c.push_lines.ensures
