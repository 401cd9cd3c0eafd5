use Rattle.std.proofs.Common.{◌∙◌, ap, rules, w64, FitsSigned}
use Rattle.std.proofs.lemmas.Int.{to_z-of_z}
use Rattle.std.specs.Fmt.{signed_decimal}
use Rattle.csv.specs.Writing.{default_writer, needs_quotes}
use Rattle.link_report.proofs.LineLemmas.{signed_plain}
use Rattle.link_report.proofs.prices.push_price.Goals as goal

pub push_priced-requires-clause-digits : goal.push_priced-requires-clause-digits
push_priced-requires-clause-digits c =
    let fits : FitsSigned w64 c.args.price = search rules in
    ap (needs_quotes default_writer) (c.as_bytes.ensures.value ∙ c.format.ensures.text ∙ ap signed_decimal (to_z-of_z w64 c.args.price fits)) ∙ signed_plain c.args.price fits
