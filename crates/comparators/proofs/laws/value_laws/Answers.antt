use Rattle.comparators.specs.Fields.{kind_canons, kind_laws}
use Rattle.comparators.proofs.laws.value_laws.Goals as goal

pub returns-clause-outcomes : goal.returns-clause-outcomes
returns-clause-outcomes c = kind_laws

pub returns-clause-canons : goal.returns-clause-canons
returns-clause-canons c = kind_canons
