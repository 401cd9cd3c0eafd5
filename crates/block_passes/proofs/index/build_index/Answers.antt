use Rattle.std.proofs.Common.{◌∙◌, Some}
use Rattle.block_passes.specs.Numbering.{coded_texts}
use Rattle.block_passes.specs.IndexRows.{index_rows}
use Rattle.block_passes.proofs.ChainLemmas.{rows-are-keys}
use Rattle.block_passes.proofs.index.build_index.Goals as goal

pub returns : goal.returns
unfolding index_rows
returns c = λ key. c.in_ok-rows.ensures (Some (coded_texts key)) ∙ rows-are-keys c.args.pass.now c.args.file.now (Some key)
