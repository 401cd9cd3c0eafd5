use Rattle.std.proofs.Common.{◌≡◌, ◌∷◌, ◌++◌, ◌∙◌, [], sym, ap, rules, option_map}
use Rattle.std.proofs.lemmas.List.{flat_map_more}
use Rattle.value_pool.specs.Pool.{place_among}
use Rattle.block_passes.specs.Numbering.{bytes_of_ids, id_bytes}
use Rattle.block_passes.specs.Ids.{id_key_in}
use Rattle.block_passes.specs.Keys.{no_part, part_key}
use Rattle.block_passes.proofs.ChainLemmas.{ids-joined}
use Rattle.block_passes.proofs.StepLemmas.{no_part_more, part_more}
use Rattle.block_passes.proofs.ids.id_key.Goals as goal

pub returns-in-None : goal.returns-in-None
returns-in-None c =
    let texts = c.args.pool.now.texts in
    let row = c.args.row.now in
    let parts = c.parts-part-items.result.now in
    rw (← c.parts-part-items.ensures)
    (no_part_more (λ part. option_map (place_among texts) (part_key row part)) (id_key_in texts row) (ids-joined texts row) parts c.loop-part.part-index no_part c.loop-part.ids.items (id_key_in texts row parts)
    c.loop-part-test.true c.loop-part.invariant.key c.in-None.ensures)

pub loop-part-preserved : goal.loop-part-preserved
loop-part-preserved c =
    let texts = c.args.pool.now.texts in
    let row = c.args.row.now in
    let parts = c.parts-part-items.result.now in
    let ids = c.loop-part.ids.items in
    let id = c.in-Some.id in
    let items : c.push.new.self.items ≡ ids ++ id ∷ [] = search (rules, c.in_ok-push-in-Some.ensures.items) in
    record {
      code = c.in_ok-push_id-in-Some.ensures ∙ ap (λ code. code ++ id_bytes id) c.loop-part.invariant.code ∙ flat_map_more id_bytes [] ids id ∙ ap bytes_of_ids (sym items);
      key = part_more (λ part. option_map (place_among texts) (part_key row part)) (id_key_in texts row) (ids-joined texts row) parts c.loop-part.part-index no_part ids c.push.new.self.items id (id_key_in texts row parts)
          c.loop-part-test.true c.loop-part.invariant.key c.in-Some.ensures items;
    }
