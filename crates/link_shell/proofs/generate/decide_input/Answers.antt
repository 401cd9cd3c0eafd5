use Rattle.std.proofs.Common.{◌≡◌, List, ℕ, Result, Ok, Err, ap, refl, subst, sym}
use Rattle.link_base.specs.Words.{Gives, IsAnswer}
use Rattle.link_base.specs.declared.fault.Fault.{Fault}
use Rattle.link_limits.specs.declared.TheConstants.{MOST_DISTINCT_BYTES}
use Rattle.link_core.specs.Prepared.{files_of, prepared}
use Rattle.settings.specs.Settings.{settings}
use Rattle.command_steps.specs.Reviewed.{found_of, ReviewedPlan, shared_decisions_of}
use Rattle.review_journal.specs.declared.entry.Entry.{Entry}
use Rattle.link_shell.specs.Generate.{decided_sample}
use Rattle.link_shell.proofs.HeadlineFacts.{goes_on, refuses_here}
use Rattle.link_shell.proofs.generate.decide_input.Goals as goal

pub returns-in-Err-clause-answer : goal.returns-in-Err-clause-answer
returns-in-Err-clause-answer c =
    let input = c.args.input.now in
    let plan = c.in_ok-plan.plan in
    let f : Fault = c.in-Err.fault in
    let of_plan : settings input.settings ≡ Ok plan = subst (λ (b : List ℕ). settings b ≡ Ok plan) c.bytes.ensures c.in_ok-plan.ensures.gives in
    let of_a : Gives files_of (prepared plan MOST_DISTINCT_BYTES input.a c.bytes-3.result.now) (Err f) =
    subst (λ (b : List ℕ). Gives files_of (prepared plan MOST_DISTINCT_BYTES b c.bytes-3.result.now) (Err f)) c.bytes-2.ensures c.in-Err.ensures.answer in
    let here : Gives files_of (prepared plan MOST_DISTINCT_BYTES input.a input.b) (Err f) =
    subst (λ (b : List ℕ). Gives files_of (prepared plan MOST_DISTINCT_BYTES input.a b) (Err f)) c.bytes-3.ensures of_a in
    let Refused : Result ReviewedPlan Fault → Type 0 = λ r. Gives found_of r (Err f) in
    goes_on Refused (settings input.settings) _ plan of_plan (refuses_here found_of (prepared plan MOST_DISTINCT_BYTES input.a input.b) _ f here)

pub returns-in-Err-decide_sample-clause-answer : goal.returns-in-Err-decide_sample-clause-answer
returns-in-Err-decide_sample-clause-answer c =
    let input = c.args.input.now in
    let plan = c.in_ok-plan.plan in
    let files = files_of c.in-Ok.files in
    let f : Fault = c.in-Err-decide_sample.fault in
    let of_plan : settings input.settings ≡ Ok plan = subst (λ (b : List ℕ). settings b ≡ Ok plan) c.bytes.ensures c.in_ok-plan.ensures.gives in
    let of_a : prepared plan MOST_DISTINCT_BYTES input.a c.bytes-3.result.now ≡ Ok files = subst (λ (b : List ℕ). prepared plan MOST_DISTINCT_BYTES b c.bytes-3.result.now ≡ Ok files) c.bytes-2.ensures c.in-Ok.ensures.answer in
    let of_files : prepared plan MOST_DISTINCT_BYTES input.a input.b ≡ Ok files = subst (λ (b : List ℕ). prepared plan MOST_DISTINCT_BYTES input.a b ≡ Ok files) c.bytes-3.ensures of_a in
    let here : IsAnswer (decided_sample plan files input.sample) (Err f) =
    subst (λ (b : List ℕ). IsAnswer (decided_sample plan files b) (Err f)) c.bytes-4.ensures c.in-Err-decide_sample.ensures.answer in
    let Refused : Result ReviewedPlan Fault → Type 0 = λ r. Gives found_of r (Err f) in
    goes_on Refused (settings input.settings) _ plan of_plan (goes_on Refused (prepared plan MOST_DISTINCT_BYTES input.a input.b) _ files of_files
    (refuses_here found_of (decided_sample plan files input.sample) _ f here))

pub returns-in-Ok-decide_sample-clause-answer : goal.returns-in-Ok-decide_sample-clause-answer
returns-in-Ok-decide_sample-clause-answer c =
    let input = c.args.input.now in
    let plan = c.in_ok-plan.plan in
    let files = files_of c.in-Ok.files in
    let found = shared_decisions_of c.in-Ok.files c.in-Ok-decide_sample.found in
    let of_plan : settings input.settings ≡ Ok plan = subst (λ (b : List ℕ). settings b ≡ Ok plan) c.bytes.ensures c.in_ok-plan.ensures.gives in
    let of_a : prepared plan MOST_DISTINCT_BYTES input.a c.bytes-3.result.now ≡ Ok files = subst (λ (b : List ℕ). prepared plan MOST_DISTINCT_BYTES b c.bytes-3.result.now ≡ Ok files) c.bytes-2.ensures c.in-Ok.ensures.answer in
    let of_files : prepared plan MOST_DISTINCT_BYTES input.a input.b ≡ Ok files = subst (λ (b : List ℕ). prepared plan MOST_DISTINCT_BYTES input.a b ≡ Ok files) c.bytes-3.ensures of_a in
    let here : decided_sample plan files input.sample ≡ Ok found =
    subst (λ (b : List ℕ). decided_sample plan files b ≡ Ok found) c.bytes-4.ensures c.in-Ok-decide_sample.ensures.answer in
    let of_journal : List Entry → Result ReviewedPlan Fault = λ entries. Ok (record { plan = plan; review = record { files = files; shares = found.shares; decided = found.decided; journal = entries } }) in
    let Given : Result ReviewedPlan Fault → Type 0 = λ r. r ≡ of_journal c.new.result in
    goes_on Given (settings input.settings) _ plan of_plan (goes_on Given (prepared plan MOST_DISTINCT_BYTES input.a input.b) _ files of_files
    (goes_on Given (decided_sample plan files input.sample) _ found here (ap of_journal (sym c.new.ensures))))

pub returns-in-Ok-decide_sample-clause-found : goal.returns-in-Ok-decide_sample-clause-found
returns-in-Ok-decide_sample-clause-found c =
    let d = c.in-Ok-decide_sample.ensures.decided in
    record { ranges = c.in_ok-plan.ensures.ranges; ready = c.in-Ok.ensures.ready; of_files = d.of_files; of_plan = d.of_plan; rule = d.rule }

pub returns-in-Ok-decide_sample-clause-rows : goal.returns-in-Ok-decide_sample-clause-rows
returns-in-Ok-decide_sample-clause-rows c = c.in-Ok-decide_sample.ensures.decided.rows refl
