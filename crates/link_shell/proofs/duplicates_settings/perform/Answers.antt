use Rattle.std.proofs.Common.{◌≡◌, ◌<◌, ℕ, List, Bool, true, Result, arith, length, refl, subst, All, nat_lt}
use Rattle.std.proofs.lemmas.Bool.Decides.{nat_tests}
use Rattle.std.proofs.lemmas.List.Elements.{All-filter, filter_passes}
use Rattle.dedup_groups.specs.Groups.{IsLinkWithin}
use Rattle.link_base.specs.declared.rule.PairAt.{PairAt}
use Rattle.link_outside.specs.declared.refusal.Refusal.{Refusal}
use Rattle.link_core.specs.Prepared.{IsGroupsText, links_within}
use Rattle.pair_decisions.specs.Words.{IsInside}
use Rattle.link_plan.specs.Within.{plan_within}
use Rattle.link_plan.specs.declared.plan.Plan.{Plan}
use Rattle.command_scripts.specs.Words.{prints, StoreSeen, Takes, does_fail, does_go, does_lines, does_stop, does_want}
use Rattle.command_scripts.specs.declared.ends.Ended.TheVariants.{Done}
use Rattle.link_shell.specs.DuplicatesSettings.{AreGroupsPrinted, decided_within, Within, within_of}
use Rattle.link_shell.proofs.duplicates_settings.perform.Goals as goal

-- the decisions of the same plan
by_plan : (p q : Plan) {store : StoreSeen} {result : Result Within Refusal} → p ≡ q → Takes (decided_within p) store result → Takes (decided_within q) store result
by_plan p q {store = store} {result = result} e h = subst (λ x. Takes (decided_within x) store result) e h

below : (x y : ℕ) → nat_lt x y ≡ true → x < y
below x y e = grind (arith, nat_tests)

-- links that stand in a file twice over are links of two of its records where the first stands before the second
two_records : (rows_a rows_b : ℕ) (links : List PairAt) → rows_b ≡ rows_a → All (IsInside rows_a rows_b) links → All (IsLinkWithin rows_a) (links_within links)
two_records rows_a rows_b links same inside k d lt =
    let before : PairAt → Bool = λ at. nat_lt at.a at.b in
    let passes = filter_passes before links k d lt in
    let within = All-filter before (IsInside rows_a rows_b) links inside k d lt in
    (below _ _ passes, omega (arith, within.1, same))

pub returns-in_err-plan : goal.returns-in_err-plan
returns-in_err-plan g c = does_stop _ _ _ c.in_err-plan.ensures.takes c.from_residual.ensures.1

pub returns-in_err-within : goal.returns-in_err-within
returns-in_err-within g c = does_go _ _ _ c.in_ok-plan.ensures.takes (does_want _ c.from_residual-in_err-within.ensures.1)

pub load_decided-decided-requires-clause-within : goal.load_decided-decided-requires-clause-within
load_decided-decided-requires-clause-within g c = (c.in_ok-plan.plan, c.in_ok-within.ensures.gives)

pub load_decided-decided-requires-clause-ranges : goal.load_decided-decided-requires-clause-ranges
load_decided-decided-requires-clause-ranges g c = c.in_ok-within.ensures.ranges c.in_ok-plan.ensures.ranges

pub load_decided-decided-requires-clause-names : goal.load_decided-decided-requires-clause-names
load_decided-decided-requires-clause-names g c = c.in_ok-within.ensures.files c.in_ok-plan.ensures.files

pub duplicate_lines-lines-requires-clause-same : goal.duplicate_lines-lines-requires-clause-same
duplicate_lines-lines-requires-clause-same g c = c.in_ok-found.ensures.found.same

pub duplicate_lines-lines-requires-clause-few : goal.duplicate_lines-lines-requires-clause-few
duplicate_lines-lines-requires-clause-few g c = c.in_ok-found.ensures.found.few

pub duplicate_lines-lines-requires-clause-few_links : goal.duplicate_lines-lines-requires-clause-few_links
duplicate_lines-lines-requires-clause-few_links g c = c.in_ok-found.ensures.found.few_links

pub duplicate_lines-lines-requires-clause-of_files : goal.duplicate_lines-lines-requires-clause-of_files
duplicate_lines-lines-requires-clause-of_files g c = c.in_ok-found.ensures.found.of_file

pub returns-in_err-found : goal.returns-in_err-found
returns-in_err-found g c =
    let gives = c.in_ok-within.ensures.gives in
    does_go _ _ _ c.in_ok-plan.ensures.takes
    (does_fail _ _ (by_plan c.in_ok-within.within (plan_within c.in_ok-plan.plan) gives c.in_err-found.ensures.takes) c.from_residual-in_err-found.ensures.1)

pub returns : goal.returns
returns g c =
    let gives = c.in_ok-within.ensures.gives in
    let found = within_of c.in_ok-found.found in
    let records = found.files.a.records in
    let links = two_records (length records) (length found.files.b.records) found.decided.links c.in_ok-found.ensures.found.same c.in_ok-found.ensures.found.of_file.links in
    let printed : (text : List ℕ) → IsGroupsText records found.decided.links text → AreGroupsPrinted found (prints Done text) =
    λ text groups. record { text = text; groups = groups; leaders = c.forest_leaders.ensures (length records) (links_within found.decided.links) groups.lists links groups.forest; so = refl } in
    does_go _ _ _ c.in_ok-plan.ensures.takes
    (does_lines (decided_within (plan_within c.in_ok-plan.plan)) AreGroupsPrinted (IsGroupsText records found.decided.links) c.duplicate_lines-lines.result {x = found}
    (by_plan c.in_ok-within.within (plan_within c.in_ok-plan.plan) gives c.in_ok-found.ensures.takes) printed c.duplicate_lines-lines.ensures c.print_lines.ensures.printed c.print_lines.ensures.wanted)
