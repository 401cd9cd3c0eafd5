use Rattle.std.proofs.Common.{◌≡◌, ◌∙◌, Ok, sym}
use Rattle.written_check.proofs.FormLemmas.{links_in_order}
use Rattle.written_check.proofs.StepLemmas.{given_weaker}
use Rattle.written_check.proofs.links.links_in_order.Goals as goal

pub returns : goal.returns
returns c =
    given_weaker c.unless_refuted.result (λ links. c.links_of_rows.result ≡ Ok links) _
    (λ links is. links_in_order c.args.candidates.now c.args.a.now c.args.b.now c.args.text.now c.in-Some.rows links.items (sym c.in-Some.is ∙ c.in_ok-rows.ensures.rows) (rw is at c.links_of_rows.ensures.answer))
    c.unless_refuted.ensures
