use Rattle.std.proofs.Common.{◌≡◌, ◌++◌, ◌∷◌, [], filter, take, zip, flat_map}
use Rattle.link_report.specs.LinksText.{is_priced, price_row}
use Rattle.link_report.proofs.prices.push_side.Given as goal

abbrev pub invariant-loop-at : goal.invariant-loop-at
invariant-loop-at l =
    l.text.items ≡ l.initial.text.items ++ flat_map (λ priced. flat_map (price_row l.side) (filter is_priced (priced ∷ []))) (take l.at (zip l.prices l.file))
