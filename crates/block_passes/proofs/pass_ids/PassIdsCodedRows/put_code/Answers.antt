use Rattle.std.proofs.Common.{◌∷◌, ◌++◌, ◌∙◌, [], None, Some, refl, sym, ap, rules, option_map}
use Rattle.std.proofs.lemmas.List.{flat_map_more, get_or_read}
use Rattle.block_passes.specs.Numbering.{bytes_of_ids, id_bytes}
use Rattle.block_passes.specs.PassIds.{all_ids}
use Rattle.block_passes.proofs.StepLemmas.{extended-nil, no_more_parts, no_part_more, part_more}
use Rattle.block_passes.proofs.pass_ids.PassIdsCodedRows.put_code.Goals as goal

pub loop-id-init : goal.loop-id-init
loop-id-init c = ([], search rules, extended-nil _)

pub returns-in-None : goal.returns-in-None
returns-in-None c =
    let ids = c.row-id-items.result.now in
    let inv = c.loop-id.invariant in
    let is = sym c.in-None.is ∙ c.get.ensures ∙ get_or_read ids c.loop-id.id-index c.id-item.result c.loop-id-test.true c.id-item.is None in
    let missing = no_part_more (λ id. id) all_ids (λ id ids. refl) ids c.loop-id.id-index None inv.0 (all_ids ids) c.loop-id-test.true inv.2 is in
    ap (option_map bytes_of_ids) (rw c.row-id-items.ensures at missing)

pub loop-id-preserved : goal.loop-id-preserved
loop-id-preserved c =
    let ids = c.row-id-items.result.now in
    let id = c.in-Some.id in
    let inv = c.loop-id.invariant in
    let is = sym c.in-Some.is ∙ c.get.ensures ∙ get_or_read ids c.loop-id.id-index c.id-item.result c.loop-id-test.true c.id-item.is None in (
      inv.0 ++ id ∷ [],
      c.in_ok-push_id-in-Some.ensures ∙ ap (λ code. code ++ id_bytes id) inv.1 ∙ flat_map_more id_bytes [] inv.0 id,
      part_more (λ id. id) all_ids (λ id ids. refl) ids c.loop-id.id-index None inv.0 (inv.0 ++ id ∷ []) id (all_ids ids) c.loop-id-test.true inv.2 is refl,
    )

pub returns : goal.returns
returns c =
    let ids = c.row-id-items.result.now in
    let inv = c.loop-id.invariant in
    let told = no_more_parts all_ids refl ids c.loop-id.id-index inv.0 (all_ids ids) c.loop-id-test.false inv.2 in
    ap Some inv.1 ∙ ap (option_map bytes_of_ids) (rw c.row-id-items.ensures at told)
