use Rattle.std.proofs.Common.{◌∙◌}
use Rattle.block_passes.specs.Keys.{row_at, key_in_pass}
use Rattle.block_passes.proofs.ChainLemmas.{rows-are-keys}
use Rattle.block_passes.proofs.index.PassRows.new.Goals as goal

pub returns-clause-rows : goal.returns-clause-rows
returns-clause-rows c = λ at lt. c.in_ok-rows.ensures.1 at lt ∙ rows-are-keys c.args.pass.now c.args.b.now (key_in_pass (row_at c.args.a.now at) c.args.pass.now)
