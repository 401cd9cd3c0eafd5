use Rattle.link_core.proofs.StepLemmas.{prepared_by}
use Rattle.link_core.proofs.preparing.prepare.Goals as goal

pub returns-in-Ok-clause-answer : goal.returns-in-Ok-clause-answer
returns-in-Ok-clause-answer c = prepared_by c.args.plan.now c.args.pool_limit c.args.a.now c.args.b.now c.in-Ok.files c.pool_pair.result c.in-Ok.ensures.answer c.pool_pair.ensures.answer
