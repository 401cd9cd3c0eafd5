use Rattle.std.proofs.Common.{Bool, ap, arith, length}
use Rattle.std.proofs.lemmas.List.Sums.{length-filter, count_by-le-length}
use Rattle.link_base.specs.declared.rule.Decision.TheVariants.{Possible}
use Rattle.link_base.specs.declared.rule.PairAt.{PairAt}
use Rattle.pair_decisions.specs.Words.{decision_at, is_same}
use Rattle.link_core.specs.Rules.{rule_in}
use Rattle.link_core.specs.Results.{compared_in}
use Rattle.link_core.proofs.results.begun_report.Goals as goal

pub open_count-requires : goal.open_count-requires
open_count-requires c =
    let p = c.args.prepared.now in
    let d = c.args.decided.now in
    let decisions = c.requires.decided.decisions in
    let has : PairAt → Bool = λ at. is_same Possible (decision_at (rule_in p d) at) in
    let pairs = compared_in c.args.plan.now p.files in
    omega (arith, ap length decisions.possible, length-filter has pairs, count_by-le-length has pairs, decisions.few)
