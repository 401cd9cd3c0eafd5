use Rattle.capacity_assign.proofs.start.start_of.Goals as goal

pub closed_prices-requires-clause-within : goal.closed_prices-requires-clause-within
closed_prices-requires-clause-within c = c.requires.in_range.record_b
