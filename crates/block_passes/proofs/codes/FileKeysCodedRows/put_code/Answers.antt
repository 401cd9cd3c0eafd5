use Rattle.std.proofs.Common.{◌∷◌, ◌++◌, ◌∙◌, [], Some, refl, ap, rules, option_map}
use Rattle.std.proofs.lemmas.List.{flat_map_more}
use Rattle.block_passes.specs.Numbering.{coded_text, coded_texts}
use Rattle.block_passes.specs.Keys.{key_in_pass, no_part, part_key}
use Rattle.block_passes.proofs.StepLemmas.{extended-nil, no_more_parts, no_part_more, part_more}
use Rattle.block_passes.proofs.codes.FileKeysCodedRows.put_code.Goals as goal

pub loop-part-init : goal.loop-part-init
loop-part-init c = ([], search rules, extended-nil _)

pub returns-in-None : goal.returns-in-None
returns-in-None c =
    let row = c.row-row.result in
    let parts = c.parts-part-items.result.now in
    let inv = c.loop-part.invariant in
    let missing = no_part_more (part_key row) (key_in_pass row) (λ p ps. refl) parts c.loop-part.part-index no_part inv.0 (key_in_pass row parts) c.loop-part-test.true inv.2 c.in-None.ensures in
    ap (option_map coded_texts) (rw (c.row-row.ensures, c.parts-part-items.ensures) at missing)

pub loop-part-preserved : goal.loop-part-preserved
loop-part-preserved c =
    let row = c.row-row.result in
    let parts = c.parts-part-items.result.now in
    let text = c.bytes_of.result.now in
    let inv = c.loop-part.invariant in (
      inv.0 ++ text ∷ [],
      c.in_ok-push_text-in-Some.ensures ∙ ap (λ code. code ++ coded_text text) inv.1 ∙ flat_map_more coded_text [] inv.0 text,
      part_more (part_key row) (key_in_pass row) (λ p ps. refl) parts c.loop-part.part-index no_part inv.0 (inv.0 ++ text ∷ []) text (key_in_pass row parts) c.loop-part-test.true inv.2 (ap Some c.bytes_of.ensures ∙ c.in-Some.ensures) refl,
    )

pub returns : goal.returns
returns c =
    let row = c.row-row.result in
    let parts = c.parts-part-items.result.now in
    let inv = c.loop-part.invariant in
    let told = no_more_parts (key_in_pass row) refl parts c.loop-part.part-index inv.0 (key_in_pass row parts) c.loop-part-test.false inv.2 in
    ap Some inv.1 ∙ ap (option_map coded_texts) (rw (c.row-row.ensures, c.parts-part-items.ensures) at told)

pub part_text-requires-clause-within : goal.part_text-requires-clause-within
part_text-requires-clause-within c =
    let ready = c.requires.ready c.args.at c.requires.at in
    rw (c.row-row.ensures, c.parts-part-items.ensures) (ready.0 c.loop-part.part-index (rw c.parts-part-items.ensures at c.loop-part-test.true))

pub part_text-requires-clause-readable : goal.part_text-requires-clause-readable
part_text-requires-clause-readable c =
    let ready = c.requires.ready c.args.at c.requires.at in
    rw (c.row-row.ensures, c.parts-part-items.ensures) (ready.1 c.loop-part.part-index (rw c.parts-part-items.ensures at c.loop-part-test.true))
