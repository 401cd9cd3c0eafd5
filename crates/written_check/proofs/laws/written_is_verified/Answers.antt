use Rattle.written_check.specs.Laws.{written_texts}
use Rattle.written_check.proofs.RowFacts.{rows_verified}
use Rattle.written_check.proofs.WrittenLemmas.{DecimalsRead}
use Rattle.written_check.proofs.laws.written_is_verified.Goals as goal

pub returns : goal.returns
returns c = λ rares cells cs links ps qs a b are one certified long_a long_b.
    let decimals : DecimalsRead = record { digits = c.decimals_are_read.ensures.digits; value = c.decimals_are_read.ensures.value } in
    rows_verified decimals c.prices_are_bounded.ensures.by_candidates c.greatest_value_is_least.ensures rares cells cs a b (written_texts rares cells links ps qs a b) links are
    (record {
      prices_a = ps;
      prices_b = qs;
      rows = record { of_rule = c.texts_read_again.ensures.rule rares cells; of_links = c.texts_read_again.ensures.links a b links; of_prices = c.texts_read_again.ensures.prices ps qs a b };
      one_to_one = one;
      certified = certified;
      priced_a = long_a;
      priced_b = long_b;
    })
