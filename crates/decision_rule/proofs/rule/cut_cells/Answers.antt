use Rattle.decision_rule.specs.FilledLaws.{links_kept, positive_cells, permuted, in_order, order_kept, least, within_ranges}
use Rattle.std.proofs.Common.{◌≡◌, ℕ, ◌*◌, ◌^◌, ◌∙◌, arith, length, map, reverse, rules, subst}
use Rattle.std.proofs.lemmas.Nat.{mul-le}
use Rattle.decision_rule.specs.Filled.{asked_of, chances_of, LinksAreCut, NonlinksAreCut}
use Rattle.decision_rule.proofs.rule.cut_cells.Goals as goal

pub overflow_mul-from : goal.overflow_mul-from
overflow_mul-from c = omega (arith, mul-le c.from.result c.denominator-whole.result 1000000 (2 ^ 76) (omega arith) c.denominator-whole.ensures.small)

pub overflow_mul-from-2 : goal.overflow_mul-from-2
overflow_mul-from-2 c = omega (arith, mul-le c.from-2.result c.denominator-whole.result 1000000 (2 ^ 76) (omega arith) c.denominator-whole.ensures.small)

pub cut_links-requires : goal.cut_links-requires
cut_links-requires c =
    let p = permuted c.args.shares.now c.fill.new.cells c.order.new.cells c.fill.ensures c.order.ensures.permutation in
    λ k d lt. (positive_cells c.args.shares.now c.order.new.cells p k d lt).1

pub cut_nonlinks-requires-clause-weights : goal.cut_nonlinks-requires-clause-weights
cut_nonlinks-requires-clause-weights c =
    let p = permuted c.args.shares.now c.fill.new.cells c.order.new.cells c.fill.ensures c.order.ensures.permutation in
    let q = rw (← c.cut_links.ensures.chances) at p in
    λ k d lt. (positive_cells c.args.shares.now c.cut_links.new.cells q k d lt).0

pub returns-clause-filled : goal.returns-clause-filled
returns-clause-filled c =
    let p = permuted c.args.shares.now c.fill.new.cells c.order.new.cells c.fill.ensures c.order.ensures.permutation in
    let same : map chances_of c.cut_nonlinks.new.cells ≡ map chances_of c.order.new.cells = c.cut_nonlinks.ensures.chances ∙ c.cut_links.ensures.chances in
    let q = rw (← c.cut_links.ensures.chances) at p in
    let whole : c.denominator-whole.result ≡ 1024 ^ length c.args.shares.now * 65536 = search rules in
    let mu : c.from.result * c.denominator-whole.result ≡ asked_of c.args.shares.now c.args.mu_ppm = rw (c.from.ensures, whole) (omega arith) in
    let lambda : c.from-2.result * c.denominator-whole.result ≡ asked_of c.args.shares.now c.args.lambda_ppm = rw (c.from-2.ensures, whole) (omega arith) in
    record {
      patterns = rw same p;
      in_order = order_kept c.cut_nonlinks.new.cells c.order.new.cells same (in_order c.args.shares.now c.order.new.cells p c.order.ensures.sorted);
      rule = c.cut_nonlinks.ensures.bound;
      links = links_kept c.cut_nonlinks.new.cells c.cut_links.new.cells _ c.cut_nonlinks.ensures.chances c.cut_nonlinks.ensures.same_links (λ k d lt. (positive_cells c.args.shares.now c.cut_links.new.cells q k d lt).1) (subst (λ (a : ℕ). LinksAreCut a c.cut_links.new.cells) mu c.cut_links.ensures.cut);
      nonlinks = subst (λ (a : ℕ). NonlinksAreCut a (reverse c.cut_nonlinks.new.cells)) lambda c.cut_nonlinks.ensures.cut;
    }

pub returns-clause-least : goal.returns-clause-least
returns-clause-least c = least c.args.shares.now c.args.mu_ppm c.args.lambda_ppm c.cut_nonlinks.new.cells (returns-clause-filled c)

pub returns-clause-in_range : goal.returns-clause-in_range
returns-clause-in_range c = within_ranges c.args.shares.now c.args.mu_ppm c.args.lambda_ppm c.cut_nonlinks.new.cells c.requires.fields (returns-clause-filled c)
