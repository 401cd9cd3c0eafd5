use Rattle.std.proofs.Common.{arith}
use Rattle.price_check.proofs.Order.{placed_last}
use Rattle.price_check.proofs.places.is_unplaced.Goals as goal

pub returns : goal.returns
returns c = placed_last c.args.capacity.now c.args.used.now c.args.links.now c.args.i _ c.requires.rising c.requires.place c.requires.used c.if-capacity-link.false c.if-links-i.false (omega arith)
