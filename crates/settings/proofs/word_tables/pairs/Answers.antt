use Rattle.std.proofs.Common.{◌++◌, ◌∙◌, ap}
use Rattle.std.specs.Map.Iter.{deref_pair}
use Rattle.std.proofs.lemmas.Map.Iter.{rest_more}
use Rattle.settings.proofs.Ranges.{pairs_more}
use Rattle.settings.proofs.word_tables.pairs.Goals as goal

pub loop-key-preserved : goal.loop-key-preserved
loop-key-preserved c =
    let parts = rest_more deref_pair c.loop-key.key-iterator c.next.new.self c.next.result (c.in-Some.key, c.in-Some.value) c.in-Some.is c.next.ensures.steps in
    let at = c.new-place.ensures ∙ ap (λ k. c.args.above.now ++ k) (c.as_bytes.ensures.value ∙ c.as_str.ensures.value) in
    pairs_more c.args.above.now c.new-place.result c.as_str-in-loop-key.result.now c.loop-key.key-iterator c.next.new.self (c.in-Some.key.now, c.in-Some.value.now) c.loop-key.before.items c.push.new.self.items c.in-Ok.pair _ parts at c.as_str-in-loop-key.ensures.value c.in-Ok.ensures c.in_ok-push-in-Ok.ensures.items c.loop-key.invariant
