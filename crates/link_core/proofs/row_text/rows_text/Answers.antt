use Rattle.std.proofs.Common.{refl, flat_map}
use Rattle.link_base.specs.declared.rule.PairAt.{PairAt}
use Rattle.link_core.specs.Pairs.{pair_line, pairs_text}
use Rattle.link_core.proofs.StepLemmas.{line_more, line_none}
use Rattle.link_core.proofs.row_text.rows_text.Goals as goal

abbrev no_pair : PairAt
no_pair = record { a = 0; b = 0 }

pub loop-pair-preserved : goal.loop-pair-preserved
loop-pair-preserved c =
    line_more (flat_map pair_line) pair_line c.args.pairs.now c.loop-pair.pair-index no_pair c.loop-pair.text.items c.push_pair.new.text.items (pairs_text c.args.pairs.now)
    (λ x ys. refl) c.loop-pair-test.true c.loop-pair.invariant c.in_ok-push_pair.ensures

pub returns : goal.returns
returns c =
    line_none (flat_map pair_line) pair_line c.args.pairs.now c.loop-pair.pair-index c.loop-pair.text.items (pairs_text c.args.pairs.now) refl c.loop-pair-test.false c.loop-pair.invariant
