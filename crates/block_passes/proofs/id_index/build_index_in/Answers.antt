use Rattle.std.proofs.Common.{◌∙◌, ℕ, Some, length, option_map}
use Rattle.block_passes.specs.NumberingLaws.{filter-agree}
use Rattle.block_passes.specs.Numbering.{bytes_of_ids}
use Rattle.block_passes.specs.Ids.{id_key_in, same_ids}
use Rattle.block_passes.specs.Keys.{row_at, same_text}
use Rattle.block_passes.specs.IndexRows.{id_index_rows}
use Rattle.block_passes.proofs.ChainLemmas.{codes-same}
use Rattle.block_passes.proofs.id_index.build_index_in.Goals as goal

pub returns : goal.returns
unfolding id_index_rows
returns c = λ ids.
    let key = λ (j : ℕ). id_key_in c.args.pool.now.texts (row_at c.args.file.now j) c.args.pass.now in
    c.in_ok-rows.ensures (Some (bytes_of_ids ids))
    ∙ filter-agree (λ j. same_text (Some (bytes_of_ids ids)) (option_map bytes_of_ids (key j))) (λ j. same_ids (Some ids) (key j)) 0 (length c.args.file.now) (λ j lt. codes-same (Some ids) (key j))
