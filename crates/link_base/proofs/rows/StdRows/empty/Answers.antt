use Rattle.std.proofs.Common.{rules}
use Rattle.link_base.proofs.RegionFacts.{no_ends, no_pieces}
use Rattle.link_base.proofs.rows.StdRows.empty.Goals as goal

pub invariant_of-result : goal.invariant_of-result
invariant_of-result c = rw (c.new.ensures, c.new-2.ensures.items, c.in_ok-vec.ensures.items_if_clones_equal (λ y same. same)) (no_ends c.args.count, record { placed = search rules; few = search rules })

pub returns : goal.returns
returns c = rw (c.new.ensures, c.new-2.ensures.items, c.in_ok-vec.ensures.items_if_clones_equal (λ y same. same)) (no_pieces c.args.count)
