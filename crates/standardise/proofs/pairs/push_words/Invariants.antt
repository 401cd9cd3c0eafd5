use Rattle.std.proofs.Common.{◌≡◌, ◌++◌, map, length, IsUtf8}
use Rattle.standardise.specs.Names.{replaced, spaced_words, words}
use Rattle.standardise.proofs.pairs.push_words.Given as goal

abbrev pub invariant-loop-word : goal.invariant-loop-word
invariant-loop-word l = record {
  words : l.out.items ++ spaced_words (map (replaced l.pairs) (words l.left)) ≡ l.fn.out.items ++ spaced_words (map (replaced l.pairs) (words l.text));
  out : IsUtf8 l.fn.out.items → IsUtf8 l.text → IsUtf8 l.out.items;
  left : IsUtf8 l.text → IsUtf8 l.left;
}

abbrev pub decreases-loop-word : goal.decreases-loop-word
decreases-loop-word l = length l.left
