use Rattle.std.proofs.Common.{◌≡◌, length, IsUtf8}
use Rattle.standardise.specs.Names.{without_first, words}
use Rattle.standardise.proofs.words.dropped_at_front.Given as goal

abbrev pub invariant-loop-word : goal.invariant-loop-word
invariant-loop-word l = record {
  words : without_first l.titles (words l.left) ≡ without_first l.titles (words l.text);
  utf8 : IsUtf8 l.text → IsUtf8 l.left;
}

abbrev pub decreases-loop-word : goal.decreases-loop-word
decreases-loop-word l = length l.left
