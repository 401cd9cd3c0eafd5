use Rattle.std.proofs.Common.{◌≡◌, ◌++◌, ◌∷◌, [], map, ap, sym, ◌∙◌, subst, arith, IsUtf8}
use Rattle.std.proofs.lemmas.Grind.{common_steps}
use Rattle.std.proofs.lemmas.Str.{IsUtf8-append}
use Rattle.standardise.specs.Names.{replaced, spaced_words, words}
use Rattle.standardise.proofs.WordLemmas.{one_more, one_space}
use Rattle.standardise.proofs.pairs.push_words.Goals as goal

pub loop-word-preserved : goal.loop-word-preserved
loop-word-preserved c =
    let pairs = c.args.pairs.now in
    let word = c.in-Some.word.now in
    let rest = c.in-Some.rest.now in
    let made : c.extend_from_slice.new.self.items ≡ (c.loop-word.out.items ++ 32 ∷ []) ++ replaced pairs word = grind (arith, common_steps) in
    let spaced = spaced_words (map (replaced pairs) (words rest)) in
    record {
      words = ap (λ out. out ++ spaced) made
          ∙ one_more c.loop-word.out.items (replaced pairs word) spaced
          ∙ ap (λ ws. c.loop-word.out.items ++ spaced_words (map (replaced pairs) ws)) (sym c.in-Some.ensures.words)
          ∙ c.loop-word.invariant.words;
      out = λ old utf8.
          let left = c.loop-word.invariant.left utf8 in
          let parts = c.in-Some.ensures.utf8 left in
          subst IsUtf8 (sym made) (IsUtf8-append (c.loop-word.out.items ++ 32 ∷ []) (replaced pairs word) (IsUtf8-append c.loop-word.out.items (32 ∷ []) (c.loop-word.invariant.out old utf8) one_space) (subst IsUtf8 c.in_place.ensures.value (c.in_place.ensures.utf8 parts.0)));
      left = λ utf8. (c.in-Some.ensures.utf8 (c.loop-word.invariant.left utf8)).1;
    }
