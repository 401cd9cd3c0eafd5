-- What a run leaves is verified.
use Rattle.std.proofs.Common.{◌≡◌, ◌≤◌, ◌∙◌, inl, inr, ℕ, List, length, codes, Bool, true, false, if◌then◌else◌, nat_le, Option, Some, None, Result, Ok, Err, refl, sym, ap, subst, arith, ◌⊎◌, ◌<◌, ◌+◌, ◌∷◌, zero, suc, [], take}
use Rattle.std.specs.Prelude.{bytes_eq, IfSome, ⊤}
use Rattle.std.proofs.lemmas.Bool.{le-leb, or_parts, true≢false}
use Rattle.std.proofs.lemmas.Slice.Eq.{bytes_eq-Decides}
use Rattle.link_base.specs.Words.{and_then}
use Rattle.link_base.specs.declared.fault.Fault.TheVariants as fault
use Rattle.link_base.specs.declared.fault.FileRole.{FileRole}
use Rattle.link_base.specs.declared.fault.FileRole.TheVariants as role
use Rattle.link_base.specs.declared.rule.Candidate.{Candidate}
use Rattle.link_core.specs.RunLaws.{counted_few, given_few}
use Rattle.link_core.specs.Rules.{decided}
use Rattle.standard_files.specs.Files.{StandardPair}
use Rattle.link_core.specs.Results.{RunTexts}
use Rattle.link_core.specs.Verify.{line_of, run_texts, RunIsVerified, verified_in}
use Rattle.link_limits.specs.declared.TheConstants.{MOST_DISTINCT_BYTES, MOST_WRITTEN_BYTES}
use Rattle.link_outside.specs.Outside.{Held, Rose}
use Rattle.link_outside.specs.declared.outside.SinkError.{SinkError}
use Rattle.link_outside.specs.declared.outside.SinkError.TheVariants as sink
use Rattle.link_outside.specs.declared.outside.StoreCall.{StoreCall}
use Rattle.link_outside.specs.declared.refusal.Refusal.{Refusal}
use Rattle.link_outside.specs.declared.refusal.Refusal.TheVariants as refusal
use Rattle.settings.proofs.Ranges.{read_plan}
use Rattle.link_plan.specs.Plan.{PlainShares, is_output}
use Rattle.link_plan.specs.Ranges.{AreFiles, IsFileName}
use Rattle.link_plan.specs.declared.plan.Plan.{Plan}
use Rattle.written_check.specs.Laws.{AreShort}
use Rattle.written_check.specs.Verified.{WrittenTexts}
use Rattle.written_check.specs.declared.refutation.Refutation.{Refutation}
use Rattle.command_scripts.specs.Words.{no_err, ok_same, outcome_go, Ends, Answers, DoesPart, FailsAt, FailsBy, IsDue, Script, after_puts, ended_of, HoldsAll, prints, puts, TakesAll, Due, HoldsSome, Put, PutFails, puts_of, PutsSome, loaded, IsUncalled, SinkSeen, StoreSeen, ComesTo, file, file_within, gives, load, outcome, refused_by, Steps, Cause, cause_of, the_input, the_memory, the_output, the_store, the_words}
use Rattle.command_steps.specs.Front.{both_files, plan_file, prepared_files, shares_over}
use Rattle.command_scripts.specs.Steps.{◌>>=◌}
use Rattle.command_steps.specs.Reviewed.{decided_plan, journal_file, Review, reviewed_plan, reviewed_settings, ReviewedPlan}
use Rattle.command_scripts.specs.declared.ends.Ended.{Ended}
use Rattle.command_scripts.specs.declared.ends.Ended.TheVariants.{Done, Refuted}
use Rattle.link_shell.proofs.Laws.{KeepsSettings, keeps_settings}
use Rattle.link_shell.proofs.HeadlineFacts.{came, FoundBy, given_ok, settings_found, told_above}
use Rattle.link_shell.specs.Meaning.{HoldsProof, ProvedByRun, SaysYes, YesAfterRun, YesWhereProved}
use Rattle.link_shell.specs.Commands.{command_of, run_of_settings, verification_of_settings}
use Rattle.link_shell.specs.Linked.{Follows, IsComplete, Performed, Reported, status_after}
use Rattle.link_shell.specs.SettingsCommands.{run_puts, run_script, is_one_put}
use Rattle.link_shell.specs.VerifySettings.{ended_by, proved_by, verified_settings, verify_script, written_files, WrittenPlan}

-- each name that steps load has a property
abbrev pub AllLoads : {T : Type 0} → (List ℕ → Type 0) → Steps T → Type 0
AllLoads P (load r limit name step) = P name × ((bytes : List ℕ) → AllLoads P (step bytes))
AllLoads P (gives result) = ⊤

pub loads_then : {A B : Type 0} (P : List ℕ → Type 0) (s : Steps A) (next : A → Steps B) → AllLoads P s → ((x : A) → AllLoads P (next x)) → AllLoads P (s >>= next)
unfolding ◌>>=◌
loads_then P (load r limit name step) next h k = (h.0, λ bytes. loads_then P (step bytes) next (h.1 bytes) k)
loads_then P (gives (Ok x)) next h k = k x
loads_then P (gives (Err f)) next h k = tt

-- what steps come to is by what the loaded names hold alone
then_same : {B : Type 0} (r : Result (List ℕ) Refusal) (f g : List ℕ → Result B Refusal) → ((bytes : List ℕ) → f bytes ≡ g bytes) → and_then r f ≡ and_then r g
then_same (Ok bytes) f g h = h bytes
then_same (Err e) f g h = refl

pub same_outcome : {T : Type 0} (P : List ℕ → Type 0) (h k : Held) → ((name : List ℕ) → P name → k name ≡ h name) → (s : Steps T) → AllLoads P s → outcome s k ≡ outcome s h
same_outcome P h k same (load r limit name step) all =
    ap (λ content. and_then (loaded r limit name content) (λ bytes. outcome (step bytes) k)) (same name all.0)
    ∙ then_same (loaded r limit name (h name)) (λ bytes. outcome (step bytes) k) (λ bytes. outcome (step bytes) h) (λ bytes. same_outcome P h k same (step bytes) (all.1 bytes))
same_outcome P h k same (gives result) all = refl

-- a name that is none of the outputs
abbrev IsKept : List ℕ → Type 0
IsKept name = is_output name ≡ false

pub kept_if : (test : Bool) (bytes : List ℕ) (before : Option (List ℕ)) → test ≡ false → (if test then Some bytes else before) ≡ before
kept_if true bytes before e = absurd (cc e)
kept_if false bytes before e = refl

turned : (x y : List ℕ) → bytes_eq y x ≡ false → bytes_eq x y ≡ false
turned x y e = by_test (bytes_eq x y) refl
  where
    by_test : (t : Bool) → bytes_eq x y ≡ t → t ≡ false
    by_test true h = absurd (true≢false (sym ((bytes_eq-Decides y x).1 (sym ((bytes_eq-Decides x y).0 h))) ∙ e))
    by_test false h = refl

puts_keep : (texts : RunTexts) (held : Held) (name : List ℕ) → IsKept name → after_puts (run_puts texts) held name ≡ held name
puts_keep texts held name none =
    let report = or_parts _ (bytes_eq name (codes "report.txt")) none in
    let prices = or_parts _ (bytes_eq name (codes "prices.csv")) report.0 in
    let links = or_parts _ (bytes_eq name (codes "links.csv")) prices.0 in
    let both = or_parts (bytes_eq name (codes "pairs.csv")) (bytes_eq name (codes "rule.csv")) links.0 in
    kept_if (bytes_eq (codes "report.txt") name) _ _ (turned (codes "report.txt") name report.1)
    ∙ kept_if (bytes_eq (codes "prices.csv") name) _ _ (turned (codes "prices.csv") name prices.1)
    ∙ kept_if (bytes_eq (codes "links.csv") name) _ _ (turned (codes "links.csv") name links.1)
    ∙ kept_if (bytes_eq (codes "rule.csv") name) _ _ (turned (codes "rule.csv") name both.1)
    ∙ kept_if (bytes_eq (codes "pairs.csv") name) _ _ (turned (codes "pairs.csv") name both.0)

-- the files of a plan are none of the outputs
module _ (plan : Plan) (names : AreFiles plan.file_a plan.file_b plan.sample plan.journal) where
  loads_files : AllLoads IsKept (prepared_files plan)
  unfolding ◌>>=◌
  loads_files = (names.file_a.no_output, λ a. (names.file_b.no_output, λ b. tt))

  loads_sample : (files : StandardPair) (sample : Option (List ℕ)) → IfSome sample IsFileName → AllLoads IsKept (shares_over plan files sample)
  unfolding ◌>>=◌
  loads_sample files None h = tt
  loads_sample files (Some name) h = (h.no_output, λ bytes. tt)

  loads_journal : (files : StandardPair) (journal : Option (List ℕ)) → IfSome journal IsFileName → AllLoads IsKept (journal_file files journal)
  unfolding ◌>>=◌
  loads_journal files None h = tt
  loads_journal files (Some name) h = (h.no_output, λ bytes. tt)

  loads_decisions : (files : StandardPair) → AllLoads IsKept (decided_plan plan files)
  loads_decisions files =
      loads_then IsKept (shares_over plan files plan.sample) _ (loads_sample files plan.sample names.sample) (λ shares.
      loads_then IsKept (gives (decided plan files shares)) _ tt (λ d. tt))

  loads_review : AllLoads IsKept (reviewed_plan plan)
  loads_review =
      loads_then IsKept (prepared_files plan) _ loads_files (λ files.
      loads_then IsKept (decided_plan plan files) _ (loads_decisions files) (λ found.
      loads_then IsKept (journal_file files plan.journal) _ (loads_journal files plan.journal names.journal) (λ journal. tt)))

loads_plan : (name : List ℕ) → IsKept name → AllLoads IsKept (plan_file name)
unfolding ◌>>=◌
loads_plan name h = (h, λ bytes. tt)

-- a written file that is held, and is not too long
within_limit : (r : FileRole) (limit : ℕ) (name bytes : List ℕ) (t : Bool) → t ≡ true → (if t then Ok bytes else Err (refusal.Fault (fault.FileTooLong r limit))) ≡ Ok bytes
within_limit r limit name bytes true e = refl
within_limit r limit name bytes false e = absurd (cc e)

pub file_held : (r : FileRole) (limit : ℕ) (name bytes : List ℕ) (held : Held) → held name ≡ Some bytes → length bytes ≤ limit → outcome (file_within limit r name) held ≡ Ok bytes
file_held r limit name bytes held is short =
    ap (λ content. and_then (loaded r limit name content) (λ read. Ok read)) is
    ∙ ap (λ x. and_then x (λ read. Ok read)) (within_limit r limit name bytes (nat_le (length bytes) limit) (le-leb (length bytes) limit short))

-- the three written files, after the puts of a run
abbrev written_of : RunTexts → WrittenTexts
written_of texts = record { rule = texts.rule; links = texts.links; prices = texts.prices }

written_held : (texts : RunTexts) (held : Held) → AreShort (written_of texts) → outcome written_files (after_puts (run_puts texts) held) ≡ Ok (written_of texts)
written_held texts held short =
    let after = after_puts (run_puts texts) held in
    outcome_go (file_within MOST_WRITTEN_BYTES role.Rule (codes "rule.csv")) _ after texts.rule (file_held role.Rule MOST_WRITTEN_BYTES (codes "rule.csv") texts.rule after refl short.rule)
    ∙ outcome_go (file_within MOST_WRITTEN_BYTES role.Links (codes "links.csv")) _ after texts.links (file_held role.Links MOST_WRITTEN_BYTES (codes "links.csv") texts.links after refl short.links)
    ∙ outcome_go (file_within MOST_WRITTEN_BYTES role.Prices (codes "prices.csv")) _ after texts.prices (file_held role.Prices MOST_WRITTEN_BYTES (codes "prices.csv") texts.prices after refl short.prices)

-- a plan has no more shares than fields
pub shares_few : (plan : Plan) (files : StandardPair) (held : Held) (shares : List PlainShares) (sample : Option (List ℕ)) → outcome (shares_over plan files sample) held ≡ Ok shares → length shares ≤ length plan.fields
shares_few plan files held shares None e =
    let is = ok_same _ shares e in
    omega (arith, ap (λ (s : List PlainShares). length s) is, given_few plan.fields)
shares_few plan files held shares (Some name) e =
    let read = came (file role.Sample name) _ held shares e in
    counted_few plan files read.0 shares (given_ok _ shares read.2)

-- a plan's review is loaded by its parts, and all that `verify` loads
pub review_loads : (plan : Plan) (review : Review) (held : Held) → FoundBy plan held review → outcome (reviewed_plan plan) held ≡ Ok review
review_loads plan review held by =
    let decisions : outcome (decided_plan plan review.files) held ≡ Ok (record { shares = review.shares; decided = review.decided }) =
    outcome_go (shares_over plan review.files plan.sample) _ held review.shares by.of_shares
    ∙ outcome_go (gives (decided plan review.files review.shares)) _ held review.decided (ap refused_by by.of_decisions) in
    outcome_go (prepared_files plan) _ held review.files by.of_files
    ∙ outcome_go (decided_plan plan review.files) _ held (record { shares = review.shares; decided = review.decided }) decisions
    ∙ outcome_go (journal_file review.files plan.journal) _ held review.journal by.of_journal

pub all_loads : (name : List ℕ) (held : Held) (found : ReviewedPlan) (texts : WrittenTexts) → outcome (plan_file name) held ≡ Ok found.plan → outcome (reviewed_plan found.plan) held ≡ Ok found.review
    → outcome written_files held ≡ Ok texts → outcome (verified_settings name) held ≡ Ok (record { found = found; texts = texts })
all_loads name held found texts of_plan of_review of_texts =
    let of_found : outcome (reviewed_settings name) held ≡ Ok found = outcome_go (plan_file name) _ held found.plan of_plan ∙ outcome_go (reviewed_plan found.plan) _ held found.review of_review in
    outcome_go (reviewed_settings name) _ held found of_found ∙ outcome_go written_files _ held texts of_texts

-- what a run has put proves its links
module _ (law : RunIsVerified) (name : List ℕ) (kept : IsKept name) (store : StoreSeen) (out : SinkSeen) (told : store.tells) where
  proves : Ends (run_script name) store out Done → HoldsProof name store.held_after
  proves e =
      let found : ReviewedPlan = e.is_due.found in
      let plan = found.plan in
      let review = found.review in
      let put = e.is_due.so in
      let made = put.made in
      let held = store.held_before in
      let after = after_puts (run_puts put.texts) held in
      let from = settings_found name held found (e.is_due.steps.told told) in
      let read = came (file role.Settings name) _ held plan from.of_settings in
      let inputs = came (both_files plan.file_a plan.file_b) _ held review.files from.by.of_files in
      let of_settings = given_ok _ plan read.2 in
      let kept_plan = read_plan read.0 plan of_settings in
      let proof = law plan review.files review.shares review.decided.rule review.journal made.links made.prices_a made.prices_b (record {
        bytes = read.0;
        bytes_a = inputs.0.a;
        bytes_b = inputs.0.b;
        limit = MOST_DISTINCT_BYTES;
        of_settings = of_settings;
        of_files = given_ok _ review.files inputs.2;
        few_shares = omega (arith, shares_few plan review.files held review.shares plan.sample from.by.of_shares, kept_plan.few_fields);
        of_shares = put.rule;
      }) made.greatest.one_to_one made.certified made.priced_a made.priced_b in
      let same : run_texts plan review.files review.decided.rule made.links made.prices_a made.prices_b ≡ written_of put.texts =
      λ i. record { rule = sym made.rule_text i; links = sym made.links_text i; prices = sym made.prices_text i } in
      let short : AreShort (written_of put.texts) = subst AreShort same proof.short in
      let proved : verified_in plan review.files review.decided.rule review.journal (written_of put.texts) ≡ Ok made.links =
      subst (λ t. verified_in plan review.files review.decided.rule review.journal t ≡ Ok made.links) same proof.proved in
      let w : WrittenPlan = record { found = record { plan = plan; review = review }; texts = written_of put.texts } in
      let of_plan : outcome (plan_file name) after ≡ Ok plan = same_outcome IsKept held after (puts_keep put.texts held) (plan_file name) (loads_plan name kept) ∙ from.of_settings in
      let of_review : outcome (reviewed_plan plan) after ≡ Ok review =
      same_outcome IsKept held after (puts_keep put.texts held) (reviewed_plan plan) (loads_review plan kept_plan.files) ∙ review_loads plan review held from.by in
      let whole : outcome (verified_settings name) after ≡ Ok w = all_loads name after found (written_of put.texts) of_plan of_review (written_held put.texts held short) in
      let holds : HoldsAll (puts (run_puts put.texts)) store = subst (λ d. HoldsAll d store) put.so e.held in
      subst (HoldsProof name) (sym (holds told)) (record { found = w; loaded = whole; links = made.links; proved = proved })

pub proved_by_run : RunIsVerified → (words : List (List ℕ)) (store : StoreSeen) (out err : SinkSeen) (answer : Result Ended Refusal) (status : ℕ) → Performed words store out answer → Reported err answer status → ProvedByRun words store status
proved_by_run law words store out err (Ok Done) status p r =
    λ name is is_zero told. proves law name (subst (λ command. IfSome command KeepsSettings) is (keeps_settings words)) store out told (subst (λ command. Follows command store out (Ok Done)) is p.follows).answers
proved_by_run law words store out err (Ok Refuted) status p r = λ name is is_zero told. absurd (omega (arith, r.0, is_zero))
proved_by_run law words store out err (Err f) status p r = λ name is is_zero told. absurd (told_above f r.written (sym r.status_is ∙ is_zero))

-- `verify` says yes of what proves its links
module _ (name : List ℕ) (store : StoreSeen) (out : SinkSeen) (told : store.tells) (proof : HoldsProof name store.held_before) where
  is_yes : (w : WrittenPlan) (links : List Candidate) (result : Result (List Candidate) Refutation) → result ≡ Ok links → prints (ended_by result) (line_of w.found.review.files result) ≡ prints Done (codes "yes\n")
  is_yes w links result e = ap (λ (r : Result (List Candidate) Refutation). prints (ended_by r) (line_of w.found.review.files r)) e

  yes_of : (ended : Ended) (e : Ends (verify_script name) store out ended) → e.due ≡ prints Done (codes "yes\n")
  yes_of ended e =
      let same : proof.found ≡ e.is_due.found = ok_same proof.found e.is_due.found (sym proof.loaded ∙ e.is_due.steps.told told) in
      let proved : proved_by e.is_due.found ≡ Ok proof.links = subst (λ w. proved_by w ≡ Ok proof.links) same proof.proved in
      e.is_due.so.line ∙ is_yes e.is_due.found proof.links (proved_by e.is_due.found) proved

  no_refusal : (f : Refusal) → ComesTo (verified_settings name) store (Err f) → ⊥
  no_refusal f c = no_err proof.found f (sym proof.loaded ∙ c.told told)

  at_fault : (f : Refusal) {T : Type 0} (written : Result T SinkError) → IsComplete (Some (verification_of_settings name)) store (Err f) → status_after f written ≡ 8
  at_fault (refusal.Fault fault.NoMemory) (Ok x) h = refl
  at_fault (refusal.Fault fault.NoMemory) (Err sink.Failed) h = refl
  at_fault (refusal.Fault fault.NoMemory) (Err sink.NoMemory) h = refl
  at_fault refusal.Usage written h = absurd (no_refusal refusal.Usage h)
  at_fault (refusal.Store n) written h = absurd (no_refusal (refusal.Store n) h)
  at_fault refusal.Output written h = absurd (no_refusal refusal.Output h)
  at_fault (refusal.Fault f) written h = absurd (no_refusal (refusal.Fault f) h)

  says_yes : (err : SinkSeen) (answer : Result Ended Refusal) (status : ℕ) → Follows (Some (verification_of_settings name)) store out answer → IsComplete (Some (verification_of_settings name)) store answer
      → Reported err answer status → SaysYes out status
  says_yes err (Ok ended) status d complete r =
      let due = yes_of ended d.answers in
      let taken : TakesAll (prints Done (codes "yes\n")) out = subst (λ x. TakesAll x out) due d.answers.taken in
      let done : Done ≡ ended = ap ended_of (sym due) ∙ d.answers.as_due in
      let reported : Reported err (Ok Done) status = subst (λ x. Reported err (Ok x) status) (sym done) r in
      inl (reported.0, taken.0)
  says_yes err (Err f) status d complete r = inr (r.status_is ∙ at_fault f r.written complete)

pub yes_where_proved : (words : List (List ℕ)) (store : StoreSeen) (out err : SinkSeen) (answer : Result Ended Refusal) (status : ℕ) → Performed words store out answer → Reported err answer status → YesWhereProved words store out status
yes_where_proved words store out err answer status p r = λ name is told proof same still.
    says_yes name store out told proof err answer status (subst (λ command. Follows command store out answer) is p.follows)
    (subst (λ command. IsComplete command store answer) is (p.complete same still)) r

-- a run at status 0 had no call that failed, and did not call `out`
record WasQuiet (store : StoreSeen) (out : SinkSeen) : Type 0 where
  faults : store.faults_after ≡ store.faults_before
  uncalled : IsUncalled out

ran_quiet : (name : List ℕ) (store : StoreSeen) (out : SinkSeen) → Ends (run_script name) store out Done → WasQuiet store out
ran_quiet name store out e = record { faults = e.faults; uncalled = subst (λ d. TakesAll d out) e.is_due.so.so e.taken }

run_quiet : (words : List (List ℕ)) (store : StoreSeen) (out err : SinkSeen) (answer : Result Ended Refusal) (status : ℕ) → Performed words store out answer → Reported err answer status
    → (name : List ℕ) → command_of words ≡ Some (run_of_settings name) → status ≡ 0 → WasQuiet store out
run_quiet words store out err (Ok Done) status p r name is is_zero = ran_quiet name store out (subst (λ command. Follows command store out (Ok Done)) is p.follows).answers
run_quiet words store out err (Ok Refuted) status p r name is is_zero = absurd (omega (arith, r.0, is_zero))
run_quiet words store out err (Err f) status p r name is is_zero = absurd (told_above f r.written (sym r.status_is ∙ is_zero))

-- the run, and then `verify`
pub yes_after_run : (run verify : List (List ℕ)) (tells told_out : Type 0) (h0 h1 h2 : Held) (f0 f1 f2 : List StoreCall) (t0 t1 t2 : List ℕ) (n0 n1 n2 : ℕ) (err : SinkSeen) (answer : Result Ended Refusal) (ran verified : ℕ)
    → Performed run (record { tells = tells; held_before = h0; held_after = h1; faults_before = f0; faults_after = f1 })
    (record { tells = told_out; taken_before = t0; taken_after = t1; faults_before = n0; faults_after = n1 }) answer
    → Reported err answer ran
    → ProvedByRun run (record { tells = tells; held_before = h0; held_after = h1; faults_before = f0; faults_after = f1 }) ran
    → YesWhereProved verify (record { tells = tells; held_before = h1; held_after = h2; faults_before = f1; faults_after = f2 })
    (record { tells = told_out; taken_before = t1; taken_after = t2; faults_before = n1; faults_after = n2 }) verified
    → YesAfterRun run verify (record { tells = tells; held_before = h0; held_after = h2; faults_before = f0; faults_after = f2 })
    (record { tells = told_out; taken_before = t0; taken_after = t2; faults_before = n0; faults_after = n2 }) ran verified
yes_after_run run verify tells told_out h0 h1 h2 f0 f1 f2 t0 t1 t2 n0 n1 n2 err answer ran verified p r proved where_proved = λ name is_run is_verify is_zero tell same still.
    let quiet = run_quiet run _ _ err answer ran p r name is_run is_zero in
    let calm : Rose n1 n2 → ⊥ = subst (λ n. Rose n n2 → ⊥) (sym quiet.uncalled.faults) still in
    let says = where_proved name is_verify tell (proved name is_run is_zero tell) (same ∙ sym quiet.faults) calm in
    let P : List ℕ → Type 0 = λ t. SaysYes (record { tells = told_out; taken_before = t; taken_after = t2; faults_before = n1; faults_after = n2 }) verified in
    subst P quiet.uncalled.taken says

-- A command of which one put is due: the put was made, or no name holds anything else than it did.

abbrev pub one_put : Steps Put → Script
one_put s = record { Found = Put; steps = s; due = is_one_put }

-- the put that the steps come to was made
pub record IsMade (s : Steps Put) (store : StoreSeen) : Type 0 where
  pub put : Put
  pub found : outcome s store.held_before ≡ Ok put
  pub held : store.held_after ≡ after_puts (put ∷ []) store.held_before

abbrev pub IsMadeOrKept : Steps Put → StoreSeen → Type 0
IsMadeOrKept s store = (store.held_after ≡ store.held_before) ⊎ IsMade s store

module _ (s : Steps Put) (store : StoreSeen) (out : SinkSeen) (told : store.tells) where
  ended : (e : Ended) → Ends (one_put s) store out e → IsMade s store
  ended e h =
      let found : Put = h.is_due.found in
      let holds : HoldsAll (puts (found ∷ [])) store = subst (λ d. HoldsAll d store) h.is_due.so h.held in
      record { put = found; found = h.is_due.steps.told told; held = holds told }

  by_count : (put : Put) → outcome s store.held_before ≡ Ok put → (count : ℕ) → count ≤ 1 → store.held_after ≡ after_puts (take count (put ∷ [])) store.held_before → IsMadeOrKept s store
  by_count put found zero le held = inl held
  by_count put found (suc zero) le held = inr (record { put = put; found = found; held = held })
  by_count put found (suc (suc n)) le held = absurd (omega (arith, le))

  in_part : (due : Due) → IsDue (one_put s) store due → HoldsSome due store → IsMadeOrKept s store
  in_part due is some =
      let holds : HoldsSome (puts (is.found ∷ [])) store = subst (λ d. HoldsSome d store) is.so some in
      let part : PutsSome (is.found ∷ []) store = holds told in
      by_count is.found (is.steps.told told) part.0 part.1 part.2

  by_failed : (put : Put) → outcome s store.held_before ≡ Ok put → (count : ℕ) → count < 1
      → (store.held_after ≡ after_puts (take count (put ∷ [])) store.held_before) ⊎ (store.held_after ≡ after_puts (take (count + 1) (put ∷ [])) store.held_before)
      → IsMadeOrKept s store
  by_failed put found zero lt (inl held) = inl held
  by_failed put found zero lt (inr held) = inr (record { put = put; found = found; held = held })
  by_failed put found (suc n) lt h = absurd (omega (arith, lt))

  put_failed : (due : Due) → IsDue (one_put s) store due → (call : StoreCall) → PutFails (puts_of due) store call → IsMadeOrKept s store
  put_failed due is call fails =
      let part : PutFails (is.found ∷ []) store call = subst (λ d. PutFails (puts_of d) store call) is.so fails in
      by_failed is.found (is.steps.told told) part.0 part.1 (part.3 told)

  at_call : (call : StoreCall) → FailsAt (one_put s) store call → IsMadeOrKept s store
  at_call call (inl reached) = inl reached.1
  at_call call (inr h) = put_failed h.0 h.1 call h.2

  for_memory : ((store.held_after ≡ store.held_before) × IsUncalled out) ⊎ DoesPart (one_put s) store out → IsMadeOrKept s store
  for_memory (inl nothing) = inl nothing.0
  for_memory (inr part) = in_part part.due part.is_due part.held

  by_cause : (cause : Cause) (f : Refusal) → FailsBy cause (one_put s) store out f → IsMadeOrKept s store
  by_cause the_words f h = absurd h
  by_cause (the_store name) f h = at_call h.call h.place
  by_cause the_output f h = inl h.untouched.held
  by_cause the_memory f h = for_memory h.part
  by_cause the_input f h = inl h.untouched.held

  pub made_or_kept : (answer : Result Ended Refusal) → Answers (one_put s) store out answer → IsMadeOrKept s store
  made_or_kept (Ok e) h = inr (ended e h)
  made_or_kept (Err f) h = by_cause (cause_of f) f h

  pub made_at_zero : (err : SinkSeen) (answer : Result Ended Refusal) (status : ℕ) → Answers (one_put s) store out answer → Reported err answer status → status ≡ 0 → IsMade s store
  made_at_zero err (Ok e) status h r none = ended e h
  made_at_zero err (Err f) status h r none = absurd (told_above f r.written (sym r.status_is ∙ none))
