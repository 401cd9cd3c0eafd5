use Rattle.std.proofs.Common.{◌≡◌, ℕ, List, drop}
use Rattle.block_passes.specs.Numbering.{bytes_of_ids}
use Rattle.block_passes.specs.Keys.{extended}
use Rattle.block_passes.specs.PassIds.{all_ids}
use Rattle.block_passes.proofs.pass_ids.PassIdsCodedRows.put_code.Given as goal

abbrev pub invariant-loop-id : goal.invariant-loop-id
invariant-loop-id l = (ids : List ℕ) × (l.code.items ≡ bytes_of_ids ids) × (extended ids (all_ids (drop l.id-index l.id-items)) ≡ all_ids l.id-items)
