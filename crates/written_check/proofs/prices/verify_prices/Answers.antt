use Rattle.std.proofs.Common.{◌≡◌, ◌∙◌, Ok, Result, ap, subst, sym}
use Rattle.file_reader.specs.Words.{records_in}
use Rattle.link_report.specs.LinksText.{prices_header}
use Rattle.link_report.specs.Reading.{rows_under, shown_rows}
use Rattle.written_check.specs.Certified.{PricePair}
use Rattle.written_check.specs.PricesSeen.{prices_seen}
use Rattle.written_check.specs.LinkRows.{Verifies}
use Rattle.written_check.specs.declared.refutation.Refutation.{Refutation}
use Rattle.written_check.proofs.FormLemmas.{prices_under, under_fit}
use Rattle.written_check.proofs.prices.verify_prices.Goals as goal

pub returns-in-Rows-clause-answer : goal.returns-in-Rows-clause-answer
returns-in-Rows-clause-answer c =
    let under : rows_under prices_header (records_in 44 c.args.text.now) ≡ Ok c.in-Rows.rows = sym c.in_ok-rows.ensures.rows ∙ ap shown_rows c.in-Rows.is in
    subst (λ (r : Result PricePair Refutation). Verifies prices_seen r c.prices_of_rows.result) (sym (prices_under c.args.a.now c.args.b.now c.args.text.now c.in-Rows.rows under))
    (c.prices_of_rows.ensures.answer (under_fit prices_header (records_in 44 c.args.text.now) c.in-Rows.rows under))
