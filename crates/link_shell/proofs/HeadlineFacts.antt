-- The headline follows of what the words do, and of the status that is told.
use Rattle.std.proofs.Common.{◌≡◌, ◌⊎◌, ◌∙◌, inl, inr, ◌∷◌, ℕ, ℤ, List, [], length, Option, Some, None, Result, Ok, Err, refl, sym, ap, subst, arith, All, Contains, Bool, true, false, IsErrAnd}
use Rattle.std.specs.List.{cons_option}
use Rattle.std.proofs.lemmas.List.Elements.{All-cons, All-contains, All-weaker}
use Rattle.candidate_links.specs.Candidates.{by_decision, candidate_by_verdict, candidate_of, candidates_of, linked, weight_of_pair}
use Rattle.decision_rule.specs.FilledLaws.{least}
use Rattle.link_base.specs.Words.{and_then, Gives, IsAnswer, is_want}
use Rattle.link_outside.specs.Refusal.{refusal_status}
use Rattle.link_base.specs.declared.rule.Candidate.{Candidate}
use Rattle.link_base.specs.declared.rule.Decision.{Decision}
use Rattle.link_base.specs.declared.rule.Decision.TheVariants as decision
use Rattle.link_base.specs.declared.rule.PairAt.{PairAt}
use Rattle.link_base.specs.declared.rule.Verdict.{Verdict}
use Rattle.link_base.specs.declared.rule.Verdict.TheVariants as verdict
use Rattle.link_core.specs.Rules.{decided, decided_by, Decisions, rule_over}
use Rattle.link_core.specs.Pairs.{plan_pairs}
use Rattle.standard_files.specs.Files.{StandardPair}
use Rattle.link_core.specs.Results.{candidates_in, compared_in}
use Rattle.link_outside.specs.Outside.{Held}
use Rattle.link_outside.specs.declared.outside.SinkError.{SinkError}
use Rattle.link_outside.specs.declared.outside.SinkError.TheVariants as sink
use Rattle.link_base.specs.declared.fault.Fault.{Fault}
use Rattle.link_outside.specs.declared.refusal.Refusal.{Refusal}
use Rattle.link_outside.specs.declared.refusal.Refusal.TheVariants as refusal
use Rattle.price_check.specs.Assignment.{Certifies, IsGreatest}
use Rattle.pair_decisions.specs.Words.{compared_rise, decision_at, FileRule}
use Rattle.review_journal.specs.Verdict.{verdict_on}
use Rattle.review_journal.specs.declared.entry.Entry.{Entry}
use Rattle.link_plan.specs.declared.plan.Plan.{Plan}
use Rattle.command_scripts.specs.Words.{no_ok, ok_same, at_err, Ends, after_puts, HoldsAll, puts, TakesAll, loaded, IsUncalled, SinkSeen, StoreSeen, gives, load, outcome, refused_by, Steps}
use Rattle.command_steps.specs.Front.{plan_file, prepared_files, shares_over}
use Rattle.command_scripts.specs.Steps.{◌>>=◌}
use Rattle.command_steps.specs.Reviewed.{decided_plan, journal_file, Review, reviewed_plan, reviewed_settings, ReviewedPlan, SharedDecisions}
use Rattle.command_scripts.specs.declared.ends.Ended.{Ended}
use Rattle.command_scripts.specs.declared.ends.Ended.TheVariants.{Done, Refuted}
use Rattle.link_shell.specs.Headline.{AreGreatestLinks, Headline, IsByRuleOrReview, RunWrites}
use Rattle.link_shell.specs.Linked.{Follows, Performed, Reported, status_after}
use Rattle.link_shell.specs.SettingsCommands.{run_puts, run_script}
use Rattle.std.specs.Prelude.{MatchBool, ⊤}

-- steps that came to a value were passed, one after the other
came_read : {A B : Type 0} (read : Result (List ℕ) Refusal) (p : List ℕ → Result A Refusal) (q : List ℕ → Result B Refusal) (Q : A → Type 0) (y : B)
    → ((bytes : List ℕ) → q bytes ≡ Ok y → (x : A) × (p bytes ≡ Ok x) × Q x) → and_then read q ≡ Ok y → (x : A) × (and_then read p ≡ Ok x) × Q x
came_read (Ok bytes) p q Q y h e = h bytes e
came_read (Err f) p q Q y h e = no_ok f y e

pub came : {A B : Type 0} (s : Steps A) (next : A → Steps B) (held : Held) (y : B) → outcome (s >>= next) held ≡ Ok y → (x : A) × (outcome s held ≡ Ok x) × (outcome (next x) held ≡ Ok y)
unfolding ◌>>=◌
came (load r limit name step) next held y e =
    came_read (loaded r limit name (held name)) (λ bytes. outcome (step bytes) held) (λ bytes. outcome (step bytes >>= next) held) (λ x. outcome (next x) held ≡ Ok y) y (λ bytes. came (step bytes) next held y) e
came (gives (Ok x)) next held y e = (x, refl, e)
came (gives (Err f)) next held y e = no_ok (refusal.Fault f) y e

-- a computed result that gave a value
pub given_ok : {T : Type 0} (r : Result T Fault) (x : T) → refused_by r ≡ Ok x → r ≡ Ok x
given_ok (Ok y) x e = ap (λ z. Ok z) (ok_same y x e)
given_ok (Err f) x e = no_ok (refusal.Fault f) x e

-- and results
pub step_came : (A B : Type 0) (r : Result A Fault) (f : A → Result B Fault) (y : B) → and_then r f ≡ Ok y → (x : A) × (r ≡ Ok x) × (f x ≡ Ok y)
step_came A B (Ok x) f y e = (x, refl, e)
step_came A B (Err g) f y e = no_ok g y e

-- what a review was found by
pub record FoundBy (plan : Plan) (held : Held) (review : Review) : Type 0 where
  pub of_files : outcome (prepared_files plan) held ≡ Ok review.files
  pub of_shares : outcome (shares_over plan review.files plan.sample) held ≡ Ok review.shares
  pub of_decisions : decided plan review.files review.shares ≡ Ok review.decided
  pub of_journal : outcome (journal_file review.files plan.journal) held ≡ Ok review.journal

pub found_by : (plan : Plan) (held : Held) (review : Review) → outcome (reviewed_plan plan) held ≡ Ok review → FoundBy plan held review
found_by plan held review e =
    let files = came (prepared_files plan) _ held review e in
    let found = came (decided_plan plan files.0) _ held review files.2 in
    let journal = came (journal_file files.0 plan.journal) _ held review found.2 in
    let shares = came (shares_over plan files.0 plan.sample) _ held found.0 found.1 in
    let decisions = came (gives (decided plan files.0 shares.0)) _ held found.0 shares.2 in
    let with_decisions : SharedDecisions → Review = λ d. record { files = files.0; shares = d.shares; decided = d.decided; journal = journal.0 } in
    let by : FoundBy plan held (with_decisions (record { shares = shares.0; decided = decisions.0 })) =
    record { of_files = files.1; of_shares = shares.1; of_decisions = given_ok (decided plan files.0 shares.0) decisions.0 decisions.1; of_journal = journal.1 } in
    subst (λ r. FoundBy plan held r) (ok_same _ _ journal.2) (subst (λ d. FoundBy plan held (with_decisions d)) (ok_same _ _ decisions.2) by)

pub record SettingsFound (name : List ℕ) (held : Held) (found : ReviewedPlan) : Type 0 where
  pub of_settings : outcome (plan_file name) held ≡ Ok found.plan
  pub by : FoundBy found.plan held found.review

pub settings_found : (name : List ℕ) (held : Held) (found : ReviewedPlan) → outcome (reviewed_settings name) held ≡ Ok found → SettingsFound name held found
settings_found name held found e =
    let plan = came (plan_file name) _ held found e in
    let review = came (reviewed_plan plan.0) _ held found plan.2 in
    subst (λ f. SettingsFound name held f) (ok_same _ _ review.2) (record { of_settings = plan.1; by = found_by plan.0 held review.0 review.1 })

-- the rule of decisions is that of the plan and its shares
pub rule_is : (r : Result (List PairAt) Fault) (rule : FileRule) (d : Decisions) → and_then r (λ pairs. Ok (decided_by rule pairs)) ≡ Ok d → d.rule ≡ rule
rule_is (Ok pairs) rule d e = ap (λ (x : Decisions). x.rule) (sym (ok_same _ _ e))
rule_is (Err f) rule d e = no_ok f d e

some_same : (x y : Candidate) → Some x ≡ Some y → x ≡ y
some_same x y e = cc

all_if : (Q : Candidate → Type 0) (cs : List Candidate) (o : Option Candidate) → ((c : Candidate) → o ≡ Some c → Q c) → All Q cs → All Q (cons_option o cs)
all_if Q cs None here rest = rest
all_if Q cs (Some c) here rest = All-cons Q c cs (here c refl) rest

-- a candidate is a link by the rule, or by review
abbrev IsBy : Decision → Option Verdict → PairAt → Candidate → Type 0
IsBy d v at c = ((d ≡ decision.Link) ⊎ ((d ≡ decision.Possible) × (v ≡ Some verdict.Link))) × (at ≡ record { a = c.a; b = c.b })

of_verdict : (v : Option Verdict) (at : PairAt) (w : ℤ) (award : ℕ) (c : Candidate) → candidate_by_verdict v at w award ≡ Some c → (v ≡ Some verdict.Link) × (at ≡ record { a = c.a; b = c.b })
of_verdict (Some verdict.Link) at w award c e = (refl, ap (λ (x : Candidate). record { a = x.a; b = x.b }) (some_same _ _ e))
of_verdict (Some verdict.NonLink) at w award c e = absurd (cc)
of_verdict (Some verdict.Undecided) at w award c e = absurd (cc)
of_verdict None at w award c e = absurd (cc)

of_decision : (d : Decision) (v : Option Verdict) (at : PairAt) (w : ℤ) (award : ℕ) (c : Candidate) → by_decision d (Some (linked at w)) (candidate_by_verdict v at w award) ≡ Some c → IsBy d v at c
of_decision decision.Link v at w award c e = (inl refl, ap (λ (x : Candidate). record { a = x.a; b = x.b }) (some_same _ _ e))
of_decision decision.Possible v at w award c e = let h = of_verdict v at w award c e in (inr (refl, h.0), h.1)
of_decision decision.NonLink v at w award c e = absurd (cc)

module _ (rule : FileRule) (journal : List Entry) (award : ℕ) where
  of_pair : (at : PairAt) (c : Candidate) → candidate_of rule journal award at ≡ Some c → IsByRuleOrReview rule journal c
  of_pair at c e =
      let h = of_decision (decision_at rule at) (verdict_on journal at.a at.b) at (weight_of_pair rule at) award c e in
      let P : PairAt → Type 0 = λ x. (decision_at rule x ≡ decision.Link)
      ⊎ ((decision_at rule x ≡ decision.Possible) × (verdict_on journal x.a x.b ≡ Some verdict.Link)) in
      subst P h.1 h.0

  all_by : (pairs : List PairAt) → All (IsByRuleOrReview rule journal) (candidates_of rule journal award pairs)
  all_by [] = λ k d within. absurd (omega arith)
  all_by (at ∷ pairs) =
      all_if (IsByRuleOrReview rule journal) (candidates_of rule journal award pairs) (candidate_of rule journal award at) (of_pair at) (all_by pairs)

-- a greatest list of a plan's candidates, with prices that certify it
pub are_greatest : (plan : Plan) (files : StandardPair) (rule : FileRule) (journal : List Entry) (links : List Candidate) (prices_a prices_b : List ℤ)
    → IsGreatest (candidates_in plan files rule journal) links → Certifies (candidates_in plan files rule journal) links prices_a prices_b
    → length prices_a ≡ length files.a.records → length prices_b ≡ length files.b.records → AreGreatestLinks plan files rule journal links prices_a prices_b
are_greatest plan files rule journal links prices_a prices_b greatest certified priced_a priced_b =
    let candidates = candidates_in plan files rule journal in
    record {
      one_to_one = greatest.one_to_one;
      by_rule_or_review = All-weaker (Contains candidates) (IsByRuleOrReview rule journal)
          (λ c among. All-contains (IsByRuleOrReview rule journal) candidates c (all_by rule journal plan.terms.award (compared_in plan files)) among) links greatest.one_to_one.among;
      greatest = greatest.most;
      certified = certified;
      priced_a = priced_a;
      priced_b = priced_b;
    }

-- a fault has a status above 0
status_above : (f : Refusal) → refusal_status f ≡ 0 → ⊥
status_above f e = grind (arith)

pub told_above : {T : Type 0} (f : Refusal) (written : Result T SinkError) → status_after f written ≡ 0 → ⊥
told_above f (Ok x) e = status_above f e
told_above f (Err sink.Failed) e = status_above f e
told_above f (Err sink.NoMemory) e = absurd (omega arith)

-- what the words `run` with a settings file have done, where they are done
module _ (name : List ℕ) (store : StoreSeen) (out err : SinkSeen) (told : store.tells) where
  done : Ends (run_script name) store out Done → IsUncalled err → RunWrites name store out err
  done e quiet =
      let found : ReviewedPlan = e.is_due.found in
      let put = e.is_due.so in
      let made = put.made in
      let from = settings_found name store.held_before found (e.is_due.steps.told told) in
      let holds : HoldsAll (puts (run_puts put.texts)) store = subst (λ d. HoldsAll d store) put.so e.held in
      let silent : TakesAll (puts (run_puts put.texts)) out = subst (λ d. TakesAll d out) put.so e.taken in
      record {
        input = record {
          plan = found.plan;
          files = found.review.files;
          shares = found.review.shares;
          journal = found.review.journal;
          of_settings = from.of_settings;
          of_files = from.by.of_files;
          of_shares = from.by.of_shares;
          of_journal = from.by.of_journal;
        };
        rule = found.review.decided.rule;
        pairs = compared_in found.plan found.review.files;
        links = made.links;
        prices_a = made.prices_a;
        prices_b = made.prices_b;
        report = made.report;
        of_plan = rule_is (plan_pairs found.plan found.review.files) (rule_over found.plan found.review.files found.review.shares) found.review.decided from.by.of_decisions;
        exactly_the_pairs = record { exactly = refl; once = compared_rise found.review.files.a.records found.review.files.b.records found.plan.passes };
        a_least_rule = record { filled = put.rule; least = least put.rule.by_shares found.plan.terms.mu_ppm found.plan.terms.lambda_ppm found.review.decided.rule.cells put.rule.filled };
        greatest_links = are_greatest found.plan found.review.files found.review.decided.rule found.review.journal made.links made.prices_a made.prices_b made.greatest made.certified made.priced_a made.priced_b;
        reported = made.reported;
        writes = holds told ∙ (λ i. after_puts (run_puts (record { pairs = made.pairs_text i; rule = made.rule_text i; links = made.links_text i; prices = made.prices_text i; report = made.report_text i })) store.held_before);
        nothing_out = silent;
        nothing_said = quiet;
      }

pub headline : (words : List (List ℕ)) (store : StoreSeen) (out err : SinkSeen) (answer : Result Ended Refusal) (status : ℕ) → Performed words store out answer → Reported err answer status → Headline words store out err status
headline words store out err (Ok Done) status p r =
    λ name is zero told. done name store out err told (subst (λ command. Follows command store out (Ok Done)) is p.follows).answers r.1
headline words store out err (Ok Refuted) status p r = λ name is zero told. absurd (omega (arith, r.0, zero))
headline words store out err (Err f) status p r = λ name is zero told. absurd (told_above f r.written (sym r.status_is ∙ zero))

-- Answers that are composed of steps, where one of them refuses.

refused : {A B : Type 0} (b : Bool) (r : Result A Fault) (next : A → Result B Fault) (f : Fault) → MatchBool b ⊤ (r ≡ Err f) → MatchBool b ⊤ (and_then r next ≡ Err f)
refused true r next f h = tt
refused false r next f h = ap (λ x. and_then x next) h

-- the step refuses, and so does what goes on with it
pub refuses_here : {A B X : Type 0} (view : X → B) (r : Result A Fault) (next : A → Result B Fault) (f : Fault) → IsAnswer r (Err f) → Gives view (and_then r next) (Err f)
refuses_here view r next f h = refused (is_want f) r next f h

-- the step went on
pub goes_on : {A B : Type 0} (P : Result B Fault → Type 0) (r : Result A Fault) (next : A → Result B Fault) (x : A) → r ≡ Ok x → P (next x) → P (and_then r next)
goes_on P r next x e h = subst (λ y. P (and_then y next)) (sym e) h

pub answer_as : {X T : Type 0} (view : X → T) (expected : Result T Fault) (result : Result X Fault) (f : Fault) → IsErrAnd result (λ e. e ≡ f) → Gives view expected (Err f) → Gives view expected result
answer_as view expected result f e h = at_err (λ r. Gives view expected r) result f e h
