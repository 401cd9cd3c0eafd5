use Rattle.std.proofs.Common.{◌≡◌, map, drop}
use Rattle.settings_readers.specs.Values.{named_in}
use Rattle.settings_readers.proofs.values.named_in.Given as goal

abbrev pub invariant-loop-word : goal.invariant-loop-word
invariant-loop-word g l = named_in (map (λ c. (c.0.now, c.1)) (drop l.word-index l.choices)) l.text ≡ named_in (map (λ c. (c.0.now, c.1)) l.choices) l.text
