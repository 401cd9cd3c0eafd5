use Rattle.std.proofs.Common.{◌≡◌, Some, sym, ap, ◌∙◌}
use Rattle.value_pool.proofs.PlaceLemmas.{found-place}
use Rattle.block_passes.specs.Keys.{part_key}
use Rattle.block_passes.proofs.ids.part_id.Goals as goal

pub returns-in-Some : goal.returns-in-Some
returns-in-Some c =
    let text = c.bytes_of.result.now in
    let key : part_key c.args.row.now c.args.part ≡ Some text = sym c.in-Some.ensures ∙ ap Some (sym c.bytes_of.ensures) in
    rw key (found-place c.args.pool.now.texts text c.find.result c.are_distinct.ensures.same_id c.find.ensures.found c.find.ensures.held (rw key at c.requires.held))
