use Rattle.std.proofs.Common.{◌≡◌, ◌≤◌, ◌+◌, length}
use Rattle.link_report.specs.Reading.{first_misfit}
use Rattle.written_check.specs.declared.prices.TheConstants.{PRICE_FIELDS}
use Rattle.written_check.specs.Certified.{no_prices, prices_in}
use Rattle.written_check.specs.PricesSeen.{prices_seen}
use Rattle.written_check.proofs.prices.prices_of_rows.Given as goal

abbrev pub invariant-rows : goal.invariant-rows
invariant-rows l = record {
  short : l.number + length l.rows ≤ length l.fn.rows + 1;
  of_a : length l.prices.a ≡ length l.a;
  of_b : length l.prices.b ≡ length l.b;
  form : first_misfit PRICE_FIELDS 1 l.fn.rows ≡ first_misfit PRICE_FIELDS l.number l.rows;
  told : prices_in l.a l.b 1 (no_prices l.a l.b) l.fn.rows ≡ prices_in l.a l.b l.number (prices_seen l.prices) l.rows;
}

abbrev pub decreases-rows : goal.decreases-rows
decreases-rows l = length l.rows
