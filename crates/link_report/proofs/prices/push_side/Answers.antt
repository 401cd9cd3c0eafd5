use Rattle.std.proofs.Common.{◌∷◌, ◌∙◌, ◌++◌, [], ap, arith, filter, get_or, pos, rules, ℤ, w64, FitsSigned, zip, flat_map}
use Rattle.std.proofs.lemmas.Int.{to_z-of_z}
use Rattle.link_base.specs.Words.{no_record, Record}
use Rattle.link_report.specs.LinksText.{is_priced, price_row, price_rows}
use Rattle.link_report.proofs.HeaderLemmas.{rows_of_passed, zip_all, zip_more}
use Rattle.link_report.proofs.prices.push_side.Goals as goal

pub loop-at-preserved : goal.loop-at-preserved
loop-at-preserved c =
    let price : ℤ = get_or c.args.prices.now c.loop-at.at (pos 0) in
    let fits : FitsSigned w64 price = search rules in
    zip_more (λ (priced : ℤ × Record). flat_map (price_row c.args.side.now) (filter is_priced (priced ∷ []))) c.args.text.now.items c.loop-at.text.items c.push_price.new.text.items
    c.args.prices.now c.args.file.now c.loop-at.at (pos 0) no_record (omega (arith, c.requires.as_many, c.rows-at-end.ensures)) c.requires.as_many c.loop-at.invariant
    (c.in_ok-push_price.ensures ∙ ap (λ p. c.loop-at.text.items ++ price_rows c.args.side.now (p ∷ []) (get_or c.args.file.now c.loop-at.at no_record ∷ [])) (to_z-of_z w64 price fits))

pub returns : goal.returns
returns c =
    (rw (zip_all c.args.prices.now c.args.file.now c.loop-at.at (omega (arith, c.requires.as_many, c.rows-at-end.ensures))) at c.loop-at.invariant)
    ∙ ap (λ rows. c.args.text.now.items ++ rows) (rows_of_passed is_priced (price_row c.args.side.now) (zip c.args.prices.now c.args.file.now))
