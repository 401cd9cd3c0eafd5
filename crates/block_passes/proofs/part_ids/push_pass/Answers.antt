use Rattle.std.proofs.Common.{◌≡◌, ◌∷◌, ◌++◌, [], refl, get_or, rules}
use Rattle.block_passes.specs.Keys.{ids_in_pass, part_id, no_part}
use Rattle.block_passes.proofs.StepLemmas.{joined_more}
use Rattle.block_passes.proofs.part_ids.push_pass.Goals as goal

pub loop-part-preserved : goal.loop-part-preserved
loop-part-preserved c =
    let texts = c.args.pool.now.texts in
    let row = c.args.row.now in
    let parts = c.parts-part-items.result.now in
    let pushed : c.push.new.self.items ≡ c.loop-part.ids.items ++ part_id texts row (get_or parts c.loop-part.part-index no_part) ∷ [] = search (rules, c.in_ok-push.ensures.items, c.of.ensures, c.part_id.ensures) in
    joined_more (λ part. part_id texts row part ∷ []) (ids_in_pass texts row) (λ p ps. refl) parts c.loop-part.part-index no_part c.loop-part.ids.items c.push.new.self.items (c.args.ids.now.items ++ ids_in_pass texts row parts) c.loop-part-test.true c.loop-part.invariant pushed
