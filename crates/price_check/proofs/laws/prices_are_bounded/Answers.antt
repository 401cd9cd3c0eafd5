use Rattle.price_check.proofs.Bounds.{bounded_by_links, bounded_by_candidates}
use Rattle.price_check.proofs.laws.prices_are_bounded.Goals as goal

pub returns-clause-by_links : goal.returns-clause-by_links
returns-clause-by_links c = bounded_by_links

pub returns-clause-by_candidates : goal.returns-clause-by_candidates
returns-clause-by_candidates c = bounded_by_candidates
