use Rattle.block_passes.proofs.ChainLemmas.{ids-tell}
use Rattle.block_passes.proofs.ids.ids_tell_keys.Goals as goal

pub returns : goal.returns
returns c = ids-tell
