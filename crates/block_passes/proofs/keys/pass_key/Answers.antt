use Rattle.std.proofs.Common.{◌≡◌, ◌∷◌, ◌++◌, ◌∙◌, [], Some, refl, sym, ap, rules}
use Rattle.std.proofs.lemmas.List.{flat_map_more}
use Rattle.block_passes.specs.Numbering.{coded_text, coded_texts}
use Rattle.block_passes.specs.Keys.{key_in_pass, no_part, part_key}
use Rattle.block_passes.proofs.StepLemmas.{no_part_more, part_more}
use Rattle.block_passes.proofs.keys.pass_key.Goals as goal

pub returns-in-None : goal.returns-in-None
returns-in-None c =
    let row = c.args.row.now in
    let parts = c.parts-part-items.result.now in
    rw (← c.parts-part-items.ensures)
    (no_part_more (part_key row) (key_in_pass row) (λ p ps. refl) parts c.loop-part.part-index no_part c.loop-part.texts.items (key_in_pass row parts) c.loop-part-test.true c.loop-part.invariant.key c.in-None.ensures)

pub loop-part-preserved : goal.loop-part-preserved
loop-part-preserved c =
    let row = c.args.row.now in
    let parts = c.parts-part-items.result.now in
    let texts = c.loop-part.texts.items in
    let text = c.bytes_of-bytes.result.now in
    let items : c.push.new.self.items ≡ texts ++ text ∷ [] = search (rules, c.in_ok-push-in-Some.ensures.items) in
    record {
      code = c.in_ok-push_text-in-Some.ensures ∙ ap (λ code. code ++ coded_text text) c.loop-part.invariant.code ∙ flat_map_more coded_text [] texts text ∙ ap coded_texts (sym items);
      key = part_more (part_key row) (key_in_pass row) (λ p ps. refl) parts c.loop-part.part-index no_part texts c.push.new.self.items text (key_in_pass row parts) c.loop-part-test.true c.loop-part.invariant.key
          (ap Some c.bytes_of-bytes.ensures ∙ c.in-Some.ensures) items;
    }
