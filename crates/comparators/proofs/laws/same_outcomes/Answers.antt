use Rattle.std.proofs.Common.{ap}
use Rattle.comparators.specs.Laws.{agree_where}
use Rattle.comparators.specs.OfPoolLaws.{ids_alike, outcomes_alike, rare_alike}
use Rattle.comparators.proofs.laws.same_outcomes.Goals as goal

pub returns-clause-by_id : goal.returns-clause-by_id
returns-clause-by_id c = λ m n x y h k. ap agree_where (ids_alike c.args.pool.now.texts c.are_distinct.ensures.same_id m n x y h k)

pub returns-clause-rare_by_id : goal.returns-clause-rare_by_id
returns-clause-rare_by_id c = rare_alike c.args.pool.now.texts c.are_distinct.ensures.same_id

pub returns-clause-fields : goal.returns-clause-fields
returns-clause-fields c = outcomes_alike c.args.pool.now.texts c.are_distinct.ensures.same_id
