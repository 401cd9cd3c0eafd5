use Rattle.std.proofs.Common.{◌∙◌, ap, sym}
use Rattle.standardise.specs.Names.{without_first, words}
use Rattle.standardise.proofs.StepLemmas.{some_first}
use Rattle.standardise.proofs.WordLemmas.{title}
use Rattle.standardise.proofs.words.dropped_at_front.Goals as goal

pub loop-word-preserved : goal.loop-word-preserved
loop-word-preserved c =
    let titles = c.args.titles.now in
    let word = c.in-Some.word.now in
    let rest = words c.in-Some.rest.now in
    let some = some_first c.next_word-in-Some.result rest (λ f. f.0.now) (λ f. words f.1.now) c.is_none.result c.next_word-in-Some.ensures.words c.is_none.ensures c.if-is_none.false in
    record {
      words = sym (title titles word rest some (sym c.contains.ensures ∙ c.if-not-contains.false)) ∙ ap (without_first titles) (sym c.in-Some.ensures.words) ∙ c.loop-word.invariant.words;
      utf8 = λ utf8. (c.in-Some.ensures.utf8 (c.loop-word.invariant.utf8 utf8)).1;
    }
