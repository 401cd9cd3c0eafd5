use Rattle.std.proofs.Common.{◌≡◌, take, drop}
use Rattle.standardise.specs.Names.{words, words_after}
use Rattle.standardise.proofs.words.first_space.Given as goal

abbrev pub invariant-loop-i : goal.invariant-loop-i
invariant-loop-i l = words_after (take l.i l.text) (drop l.i l.text) ≡ words l.text
