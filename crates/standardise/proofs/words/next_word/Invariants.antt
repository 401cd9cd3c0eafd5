use Rattle.std.proofs.Common.{◌≡◌, ◌≤◌, length, IsUtf8}
use Rattle.standardise.specs.Names.{words}
use Rattle.standardise.proofs.words.next_word.Given as goal

abbrev pub invariant-loop-at : goal.invariant-loop-at
invariant-loop-at l = record {
  words : words l.left ≡ words l.text;
  shorter : length l.left ≤ length l.text;
  utf8 : IsUtf8 l.text → IsUtf8 l.left;
}

abbrev pub decreases-loop-at : goal.decreases-loop-at
decreases-loop-at l = length l.left
