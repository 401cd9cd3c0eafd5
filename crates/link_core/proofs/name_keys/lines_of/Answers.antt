use Rattle.std.proofs.Common.{◌++◌, ◌∙◌, ap, map, refl, string_bytes}
use Rattle.link_core.specs.NameKeys.{keys_line, keys_text}
use Rattle.link_core.proofs.StepLemmas.{line_more, line_none}
use Rattle.link_core.proofs.name_keys.lines_of.Goals as goal

pub loop-word-preserved : goal.loop-word-preserved
loop-word-preserved c =
    line_more (λ words. keys_text (map string_bytes words)) (λ word. keys_line (string_bytes word)) c.args.words.now c.loop-word.word-index c.word-item.result
    c.loop-word.lines.items c.push_word.new.lines.items (keys_text (map string_bytes c.args.words.now)) (λ x ys. refl) c.loop-word-test.true c.loop-word.invariant
    (c.in_ok-push_word.ensures ∙ ap (λ word. c.loop-word.lines.items ++ keys_line word) (c.as_str.ensures.value ∙ ap string_bytes c.word-item.is))

pub returns : goal.returns
returns c =
    line_none (λ words. keys_text (map string_bytes words)) (λ word. keys_line (string_bytes word)) c.args.words.now c.loop-word.word-index
    c.loop-word.lines.items (keys_text (map string_bytes c.args.words.now)) refl c.loop-word-test.false c.loop-word.invariant
