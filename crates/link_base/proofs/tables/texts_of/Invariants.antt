use Rattle.std.proofs.Common.{◌≡◌, map, take}
use Rattle.link_base.proofs.tables.texts_of.Given as goal

abbrev pub invariant-loop-text : goal.invariant-loop-text
invariant-loop-text l = l.texts ≡ map (λ text. text.now) (take l.text-index l.all)
