use Rattle.settings_readers.proofs.Lemmas.{names_least}
use Rattle.settings_readers.proofs.laws.least_unknown_key.Goals as goal

pub returns : goal.returns
returns c = names_least
