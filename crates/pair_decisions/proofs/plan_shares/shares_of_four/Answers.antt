use Rattle.std.proofs.Common.{ap, ◌∙◌, map, rules}
use Rattle.std.specs.List.{range_with_len}
use Rattle.sample_counts.specs.Remainders.{share_of}
use Rattle.sample_counts.specs.Counts.{count_of}
use Rattle.std.proofs.lemmas.List.FromFn.{fill_by_all}
use Rattle.pair_decisions.proofs.plan_shares.shares_of_four.Goals as goal

pub returns-clause-value : goal.returns-clause-value
returns-clause-value c =
    c.shares4.ensures.value ∙ ap (λ counted. map (share_of counted) (range_with_len 0 4)) (fill_by_all (count_of c.args.counts.now c.args.field c.args.matched) c.of.result 4 0 (search rules) c.of.ensures.counts)
