use Rattle.std.proofs.Common.{◌++◌, ◌∙◌, ap, sym}
use Rattle.standardise.specs.Names.{without_last, words}
use Rattle.standardise.proofs.StepLemmas.{some_last}
use Rattle.standardise.proofs.WordLemmas.{title_last}
use Rattle.standardise.proofs.words.dropped_at_end.Goals as goal

pub loop-word-preserved : goal.loop-word-preserved
loop-word-preserved c =
    let both = c.args.titles.now ++ c.args.suffixes.now in
    let word = c.in-Some.word.now in
    let rest = words c.in-Some.rest.now in
    let some = some_last c.last_word-in-Some.result rest (λ f. f.0.now) (λ f. words f.1.now) c.is_none.result c.last_word-in-Some.ensures.words c.is_none.ensures c.if-is_none.false in
    record {
      words = sym (title_last both word rest some (sym c.is_either.ensures ∙ c.if-not-is_either.false)) ∙ ap (without_last both) (sym c.in-Some.ensures.words) ∙ c.loop-word.invariant.words;
      utf8 = λ utf8. (c.in-Some.ensures.utf8 (c.loop-word.invariant.utf8 utf8)).1;
    }
