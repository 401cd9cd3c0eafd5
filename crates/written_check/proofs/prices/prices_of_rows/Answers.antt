use Rattle.std.proofs.Common.{◌≡◌, ◌∙◌, ◌∷◌, ◌+◌, List, ap, arith, length, rules, sym, ℕ}
use Rattle.csv.specs.Records.{fields_of}
use Rattle.link_report.specs.Reading.{first_misfit}
use Rattle.written_check.specs.declared.prices.TheConstants.{PRICE_FIELDS}
use Rattle.written_check.proofs.FormLemmas.{fit_passed}
use Rattle.written_check.specs.Certified.{priced_more, prices_in, PricePair}
use Rattle.written_check.specs.PricesSeen.{prices_seen}
use Rattle.written_check.proofs.prices.prices_of_rows.Goals as goal

pub rows-preserved : goal.rows-preserved
rows-preserved c =
    let a = c.args.a.now in
    let b = c.args.b.now in
    let took : c.rows.rows ≡ fields_of c.next.new.row ∷ c.next.new.self = search rules in
    record {
      short = omega (arith, ap (λ (r : List (List (List ℕ))). length r) took, c.rows.invariant.short);
      of_a = c.take_row.ensures.length_a ∙ c.rows.invariant.of_a;
      of_b = c.take_row.ensures.length_b ∙ c.rows.invariant.of_b;
      form = c.rows.invariant.form ∙ ap (first_misfit PRICE_FIELDS c.rows.number) took ∙ fit_passed PRICE_FIELDS c.rows.number (fields_of c.next.new.row) c.next.new.self (sym c.len.ensures ∙ c.if-len-ne-PRICE_FIELDS.false);
      told =
          c.rows.invariant.told ∙ ap (prices_in a b c.rows.number (prices_seen c.rows.prices)) took
          ∙ ap (priced_more (λ (more : PricePair). prices_in a b (c.rows.number + 1) more c.next.new.self) c.rows.number) c.if-not-take_row.ensures.taken;
    }
