use Rattle.std.proofs.Common.{◌++◌, ◌∙◌, ap, sym}
use Rattle.std.specs.Map.Iter.{deref_pair}
use Rattle.std.proofs.lemmas.Map.Iter.{rest_more}
use Rattle.settings_readers.specs.KeptLaws.{refused_as}
use Rattle.settings_readers.proofs.Lemmas.{known_more, known_stops}
use Rattle.settings_readers.proofs.keys.Keys.known.Goals as goal

pub returns-then-not-is_in_lists : goal.returns-then-not-is_in_lists
returns-then-not-is_in_lists c =
    let parts = rest_more deref_pair c.loop-key.key-iterator c.next.new.self c.next.result (c.in-Some.key, c.in-Some._value) c.in-Some.is c.next.ensures.steps in
    let at = c.new.ensures ∙ ap (λ k. c.args.self.now.above.now ++ k) (c.as_bytes.ensures.value ∙ c.as_str-then-not-is_in_lists.ensures.value) in
    let stops = known_stops _ c.loop-key.key-iterator c.next.new.self (c.in-Some.key.now, c.in-Some._value.now) _ c.as_str.result.now _ _ parts c.as_str.ensures.value (sym c.is_in_lists.ensures ∙ c.if-not-is_in_lists.true) at c.loop-key.invariant in
    refused_as _ _ _ c.unknown_key.result stops c.unknown_key.ensures

pub loop-key-preserved : goal.loop-key-preserved
loop-key-preserved c =
    let parts = rest_more deref_pair c.loop-key.key-iterator c.next.new.self c.next.result (c.in-Some.key, c.in-Some._value) c.in-Some.is c.next.ensures.steps in
    known_more _ c.loop-key.key-iterator c.next.new.self (c.in-Some.key.now, c.in-Some._value.now) _ c.as_str.result.now _ parts c.as_str.ensures.value (sym c.is_in_lists.ensures ∙ c.if-not-is_in_lists.false) c.loop-key.invariant
