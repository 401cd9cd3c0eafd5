use Rattle.std.proofs.Common.{◌∙◌, sym}
use Rattle.std.proofs.lemmas.Slice.Eq.{bytes_eq-Decides}
use Rattle.link_base.proofs.rows_writer.place_of.Goals as goal

pub returns-then-eq-clause-text : goal.returns-then-eq-clause-text
returns-then-eq-clause-text c = sym c.get-2.ensures ∙ (bytes_eq-Decides c.get-2.result.now c.args.word.now).0 (sym c.eq.ensures ∙ c.if-eq.true)
