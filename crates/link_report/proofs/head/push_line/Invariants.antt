use Rattle.std.proofs.Common.{◌≡◌, ◌∷◌, ◌++◌, decimal, take, flat_map}
use Rattle.link_report.proofs.head.push_line.Given as goal

abbrev pub invariant-loop-number : goal.invariant-loop-number
invariant-loop-number l = l.text.items ≡ l.initial.text.items ++ flat_map (λ number. 32 ∷ decimal number) (take l.number-index l.numbers)
