use Rattle.std.proofs.Common.{Bool, ap, arith, length, refl}
use Rattle.std.proofs.lemmas.List.Sums.{count_by-le-length, length-filter}
use Rattle.link_base.specs.declared.rule.Decision.TheVariants.{Link}
use Rattle.link_base.specs.declared.rule.PairAt.{PairAt}
use Rattle.link_core.specs.Rules.{rule_in}
use Rattle.link_core.specs.Results.{compared_in}
use Rattle.pair_decisions.specs.Words.{decision_at, is_same}
use Rattle.command_scripts.specs.Words.{seen_err, takes_go, takes_ok, takes_stop}
use Rattle.link_shell.specs.DuplicatesSettings.{within_of}
use Rattle.link_shell.proofs.duplicates_settings.load_decided.Goals as goal

pub returns-in_err-files-clause-takes : goal.returns-in_err-files-clause-takes
returns-in_err-files-clause-takes g c = takes_stop _ _ c.in_err-files.ensures.takes (seen_err within_of c.from_residual.result _ c.from_residual.ensures.1)

pub returns-in-Err-clause-takes : goal.returns-in-Err-clause-takes
returns-in-Err-clause-takes g c = takes_go _ _ c.in_ok-files.ensures.takes (takes_stop _ _ c.in-Err.ensures.takes refl)

pub returns-in-Ok-clause-takes : goal.returns-in-Ok-clause-takes
returns-in-Ok-clause-takes g c = takes_go _ _ c.in_ok-files.ensures.takes (takes_go _ _ c.in-Ok.ensures.takes (takes_ok _ refl))

pub returns-in-Ok-clause-found : goal.returns-in-Ok-clause-found
returns-in-Ok-clause-found g c =
    let p = c.in_ok-files.files in
    let d = c.in-Ok.found.decided in
    let decisions = c.in-Ok.ensures.decided.of_plan.decisions in
    let rows = compared_in c.args.plan.now p.files in
    let is_link : PairAt → Bool = λ at. is_same Link (decision_at (rule_in p d) at) in
    record {
      same = c.in_ok-files.ensures.same;
      few = c.in_ok-files.ensures.ready.of_a.few;
      few_links = omega (arith, ap length decisions.links, length-filter is_link rows, count_by-le-length is_link rows, decisions.few);
      of_file = c.in-Ok.ensures.decided.of_files;
    }
