use Rattle.std.proofs.Common.{ap}
use Rattle.link_core.specs.Prepared.{with_fault}
use Rattle.link_core.proofs.preparing.pool_by.Goals as goal

pub returns-in-Ok-clause-answer : goal.returns-in-Ok-clause-answer
returns-in-Ok-clause-answer c = ap with_fault c.in-Ok.ensures.gives
