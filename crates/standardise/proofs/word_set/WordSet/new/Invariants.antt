use Rattle.std.proofs.Common.{◌≡◌, take}
use Rattle.standardise.specs.Kept.{AreWithin}
use Rattle.standardise.proofs.word_set.WordSet.new.Given as goal

abbrev pub invariant-loop-text : goal.invariant-loop-text
invariant-loop-text l = record {
  copies : l.copies.items ≡ take l.text-index l.texts;
  ordered : l.ordered.items ≡ take l.text-index l.texts;
  outline : AreWithin l.outline (λ t. t) (take l.text-index l.texts);
}
