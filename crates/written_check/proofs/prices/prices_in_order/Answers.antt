use Rattle.std.proofs.Common.{◌≡◌, ◌∙◌, Ok, sym}
use Rattle.written_check.specs.PricesSeen.{prices_seen}
use Rattle.written_check.proofs.FormLemmas.{prices_in_order}
use Rattle.written_check.proofs.StepLemmas.{given_weaker}
use Rattle.written_check.proofs.prices.prices_in_order.Goals as goal

pub returns : goal.returns
returns c =
    given_weaker c.unless_refuted.result (λ prices. c.prices_of_rows.result ≡ Ok prices) _
    (λ prices is. let form = rw is at c.prices_of_rows.ensures.form in
    prices_in_order c.args.a.now c.args.b.now c.args.text.now c.in-Some.rows (prices_seen prices) (sym c.in-Some.is ∙ c.in_ok-rows.ensures.rows) form ((rw is at c.prices_of_rows.ensures.answer) form))
    c.unless_refuted.ensures
