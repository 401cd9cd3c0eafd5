-- Machinery of the check: prices that are held, as contracts see them. No public clause names it.
use Rattle.written_check.specs.Certified.{PricePair}
use Rattle.written_check.specs.declared.prices.Prices.{Prices}

abbrev pub prices_seen : Prices → PricePair
prices_seen p = record { a = p.a; b = p.b }
