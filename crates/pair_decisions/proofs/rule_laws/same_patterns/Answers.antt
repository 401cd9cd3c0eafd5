use Rattle.pair_decisions.proofs.FilledRule.{same_patterns}
use Rattle.pair_decisions.proofs.rule_laws.same_patterns.Goals as goal

pub returns : goal.returns
returns c = λ plan a b rows_a rows_b ranges of_a of_b. same_patterns c.args.pool.now.texts c.are_distinct.ensures.same_id plan a b rows_a rows_b ranges of_a of_b
