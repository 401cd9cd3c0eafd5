use Rattle.price_check.specs.Assignment.{no_candidate}
use Rattle.price_check.proofs.Chains.{last_after}
use Rattle.price_check.proofs.numbering.unite_at.Goals as goal

pub returns-clause-last : goal.returns-clause-last
returns-clause-last c = last_after c.args.candidates.now c.args.last.now c.args.k (c.requires.within c.args.k no_candidate c.requires.place) c.requires.last
