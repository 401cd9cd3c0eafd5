use Rattle.std.proofs.Common.{◌≡◌, pos, replicate, rules, subst, sym}
use Rattle.written_check.specs.Certified.{IsReadTo}
use Rattle.written_check.proofs.FormLemmas.{no_price_read}
use Rattle.written_check.proofs.prices.SidePrices.new.Goals as goal

pub invariant_of-result : goal.invariant_of-result
invariant_of-result c =
    let made : c.in_ok-prices.prices.items ≡ replicate c.args.rows (pos 0) = search rules in
    subst (λ prices. IsReadTo prices 0) (sym made) (no_price_read c.args.rows)
