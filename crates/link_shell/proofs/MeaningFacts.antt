-- What `verify` tells, by what names hold.
use Rattle.std.proofs.Common.{◌≡◌, ◌≤◌, ◌∙◌, ℕ, List, Bool, true, false, length, codes, if◌then◌else◌, Result, Ok, Err, refl, sym, ap, subst, arith, All, nat_le, Option, Some, None, IfSome, is_some, le-leb, leb-true, true≢false}
use Rattle.std.proofs.lemmas.List.Elements.{All-weaker, All-map}
use Rattle.candidate_links.specs.Candidates.{HasBounds}
use Rattle.decision_rule.specs.FilledLaws.{least}
use Rattle.link_base.specs.Words.{and_then, IsWithinRanges, Record}
use Rattle.link_outside.specs.Refusal.{refusal_status}
use Rattle.link_base.specs.declared.fault.Fault.{Fault}
use Rattle.link_base.specs.declared.fault.Fault.TheVariants as fault
use Rattle.link_base.specs.declared.fault.FileRole.TheVariants as role
use Rattle.link_base.specs.declared.rule.Candidate.{Candidate}
use Rattle.link_base.specs.declared.rule.PairAt.{PairAt}
use Rattle.link_base.specs.declared.rule.RuleCell.{RuleCell}
use Rattle.link_core.specs.RunLaws.{read_files, candidates_are, small_cells}
use Rattle.link_core.specs.Rules.{decided, decided_by, Decisions, rule_over, counted_by}
use Rattle.link_core.specs.Pairs.{plan_pairs}
use Rattle.standard_files.specs.Files.{StandardPair}
use Rattle.link_core.specs.Results.{candidates_in, compared_in}
use Rattle.link_core.specs.Verify.{line_of, verified_in}
use Rattle.link_limits.specs.declared.TheConstants.{MOST_FIELDS, MOST_PAIRS, MOST_DISTINCT_BYTES}
use Rattle.link_outside.specs.Outside.{Held}
use Rattle.link_outside.specs.declared.outside.SinkError.{SinkError}
use Rattle.link_outside.specs.declared.outside.SinkError.TheVariants as sink
use Rattle.link_outside.specs.declared.refusal.Refusal.{Refusal}
use Rattle.link_plan.specs.Plan.{PlainShares, FieldKeys}
use Rattle.link_plan.specs.declared.plan.Plan.{Plan}
use Rattle.pair_decisions.specs.Words.{rares_of, FileRule, pattern_of_pair, IsRuleOf, counted_in, given_in, HaveValidShares, the_rule}
use Rattle.price_check.specs.Law.{CertifiedIsGreatest}
use Rattle.review_journal.specs.declared.entry.Entry.{Entry}
use Rattle.settings.proofs.Ranges.{read_plan}
use Rattle.written_check.specs.Laws.{IsSmallCell, HaveCertifiedRows, RowsAreVerified, VerifiedHaveRows}
use Rattle.written_check.specs.Verified.{WrittenTexts}
use Rattle.written_check.specs.declared.refutation.Refutation.{Refutation}
use Rattle.command_scripts.specs.Words.{no_ok, ok_same, Ends, Due, ended_of, HoldsAll, prints, TakesAll, SinkSeen, StoreSeen, file, outcome, gives}
use Rattle.command_steps.specs.Front.{both_files, plan_file, shares_over}
use Rattle.command_steps.specs.Reviewed.{Review, reviewed_settings, ReviewedPlan, decided_plan, reviewed_plan, SharedDecisions}
use Rattle.command_scripts.specs.declared.ends.Ended.{Ended}
use Rattle.command_scripts.specs.declared.ends.Ended.TheVariants.{Done, Refuted}
use Rattle.link_shell.proofs.AfterRunFacts.{all_loads, review_loads, shares_few, yes_where_proved}
use Rattle.link_shell.proofs.HeadlineFacts.{are_greatest, came, FoundBy, given_ok, rule_is, settings_found, told_above, found_by}
use Rattle.link_shell.specs.Linked.{Follows, Performed, Reported, status_after}
use Rattle.link_shell.specs.Meaning.{HoldsRows, rule_with, RowsAreProof, SaidYes, TellsRows, VerifyTells, YesMeans, RowsSayYes}
use Rattle.link_shell.specs.VerifySettings.{ended_by, IsHeldToRule, proved_by, verified_settings, verify_script, written_files, WrittenPlan}
use Rattle.link_core.specs.Prepared.{prepared}
use Rattle.link_plan.specs.Ranges.{AreShares, IsField}
use Rattle.link_plan.specs.Within.{field_within, plan_within}
use Rattle.settings.specs.Settings.{settings}
use Rattle.link_shell.specs.DuplicatesSettings.{decided_within, prepared_within, Within}
use Rattle.link_shell.specs.Headline.{AreByFilledRule, FilledRule}
use Rattle.link_shell.specs.Generate.{decided_input, decided_sample}

-- pairs that were found are not too many, and those that are not too many are found
few_if : (pairs got : List PairAt) (t : Bool) → nat_le (length pairs) MOST_PAIRS ≡ t → (if t then Ok pairs else Err (fault.TooManyPairs MOST_PAIRS)) ≡ Ok got → length pairs ≤ MOST_PAIRS
few_if pairs got true is e = leb-true (length pairs) MOST_PAIRS is
few_if pairs got false is e = no_ok (fault.TooManyPairs MOST_PAIRS) got e

found_pairs : (r : Result (List PairAt) Fault) (rule : FileRule) (d : Decisions) → and_then r (λ pairs. Ok (decided_by rule pairs)) ≡ Ok d → (pairs : List PairAt) × (r ≡ Ok pairs)
found_pairs (Ok pairs) rule d e = (pairs, refl)
found_pairs (Err f) rule d e = no_ok f d e

few_pairs : (plan : Plan) (files : StandardPair) (shares : List PlainShares) (d : Decisions) → decided plan files shares ≡ Ok d → length (compared_in plan files) ≤ MOST_PAIRS
few_pairs plan files shares d e =
    let pairs = found_pairs (plan_pairs plan files) (rule_over plan files shares) d e in
    few_if (compared_in plan files) pairs.0 (nat_le (length (compared_in plan files)) MOST_PAIRS) refl pairs.1

decided_if : (pairs : List PairAt) (rule : FileRule) (t : Bool) → t ≡ true
    → and_then (if t then Ok pairs else Err (fault.TooManyPairs MOST_PAIRS)) (λ found. Ok (decided_by rule found)) ≡ Ok (decided_by rule pairs)
decided_if pairs rule true e = refl
decided_if pairs rule false e = absurd (true≢false (sym e))

-- ---- verified files have the rows of a proof

module _ (rows : VerifiedHaveRows) (duality : CertifiedIsGreatest) (name : List ℕ) (held : Held) where
  found_rows : (found : ReviewedPlan) (texts : WrittenTexts) (links : List Candidate) → outcome (reviewed_settings name) held ≡ Ok found → outcome written_files held ≡ Ok texts
      → IsHeldToRule (record { found = found; texts = texts }) → proved_by (record { found = found; texts = texts }) ≡ Ok links → HoldsRows name held
  found_rows found texts links of_found of_texts of_plan proved =
      let plan = found.plan in
      let files = found.review.files in
      let shares = found.review.shares in
      let journal = found.review.journal in
      let from = settings_found name held found of_found in
      let rule : FileRule = rule_over plan files shares in
      let same : found.review.decided.rule ≡ rule = rule_is (plan_pairs plan files) rule found.review.decided from.by.of_decisions in
      let filled : IsRuleOf plan shares rule.cells = subst (λ (r : FileRule). IsRuleOf plan shares r.cells) same of_plan in
      let told : verified_in plan files rule journal texts ≡ Ok links = subst (λ (r : FileRule). verified_in plan files r journal texts ≡ Ok links) same proved in
      let candidates = candidates_in plan files rule journal in
      let h = rows (rares_of plan.fields) rule.cells candidates files.a.records files.b.records texts links told in
      record {
        input = record {
          plan = plan;
          files = files;
          shares = shares;
          journal = journal;
          of_settings = from.of_settings;
          of_files = from.by.of_files;
          of_shares = from.by.of_shares;
          of_journal = from.by.of_journal;
        };
        few = few_pairs plan files shares found.review.decided from.by.of_decisions;
        texts = texts;
        of_texts = of_texts;
        proof = record {
          cells = rule.cells;
          links = links;
          prices_a = h.prices_a;
          prices_b = h.prices_b;
          a_least_rule = record { filled = filled; least = least filled.by_shares plan.terms.mu_ppm plan.terms.lambda_ppm rule.cells filled.filled };
          greatest_links = are_greatest plan files rule journal links h.prices_a h.prices_b (duality candidates links h.prices_a h.prices_b h.one_to_one h.certified) h.certified h.priced_a h.priced_b;
          rows = h.rows;
        };
      }

  told_rows : (w : WrittenPlan) (links : List Candidate) → outcome (verified_settings name) held ≡ Ok w → IsHeldToRule w → proved_by w ≡ Ok links → HoldsRows name held
  told_rows w links loaded of_plan proved =
      let found = came (reviewed_settings name) _ held w loaded in
      let texts = came written_files _ held w found.2 in
      let whole : WrittenPlan = record { found = found.0; texts = texts.0 } in
      let is : whole ≡ w = ok_same whole w texts.2 in
      found_rows found.0 texts.0 links found.1 texts.1 (subst IsHeldToRule (sym is) of_plan) (subst (λ (x : WrittenPlan). proved_by x ≡ Ok links) (sym is) proved)

-- ---- rows that prove links are verified

abbrev pub RuleIsFunction : Type 0
RuleIsFunction = (plan : Plan) (shares : List PlainShares) (cells : List RuleCell) → IsRuleOf plan shares cells → cells ≡ the_rule plan.terms.mu_ppm plan.terms.lambda_ppm shares

abbrev pub CandidatesAreBounded : Type 0
CandidatesAreBounded =
    (plan : Plan) (p : StandardPair) (rule : FileRule) (entries : List Entry) → All IsWithinRanges rule.cells → All (HasBounds plan.terms.award) (candidates_in plan p rule entries)

pub rows_are_proof : RowsAreVerified → RuleIsFunction → CandidatesAreBounded → RowsAreProof
rows_are_proof verified one bounded = λ name held h.
    let plan = h.input.plan in
    let files = h.input.files in
    let shares = h.input.shares in
    let journal = h.input.journal in
    let proof = h.proof in
    let of_plan = proof.a_least_rule.filled in
    let rule : FileRule = rule_with plan files proof.cells in
    let candidates = candidates_in plan files rule journal in
    let read = came (file role.Settings name) _ held plan h.input.of_settings in
    let kept = read_plan read.0 plan (given_ok _ plan read.2) in
    let inputs = came (both_files plan.file_a plan.file_b) _ held files h.input.of_files in
    let few_shares : length shares ≤ MOST_FIELDS = omega (arith, shares_few plan files held shares plan.sample h.input.of_shares, kept.few_fields) in
    let small = small_cells plan shares proof.cells few_shares kept.few_fields of_plan in
    let ranges : All IsWithinRanges rule.cells = All-weaker IsSmallCell IsWithinRanges (λ x s. s.ranges) proof.cells small.each in
    let bounds : All (HasBounds plan.terms.award) candidates = bounded plan files rule journal ranges in
    let are = candidates_are plan files rule journal (read_files plan MOST_DISTINCT_BYTES inputs.0.a inputs.0.b files (given_ok _ files inputs.2)) kept.terms.award bounds in
    let certified : HaveCertifiedRows (rares_of plan.fields) proof.cells candidates files.a.records files.b.records h.texts proof.links = record {
      prices_a = proof.prices_a;
      prices_b = proof.prices_b;
      rows = proof.rows;
      one_to_one = proof.greatest_links.one_to_one;
      certified = proof.greatest_links.certified;
      priced_a = proof.greatest_links.priced_a;
      priced_b = proof.greatest_links.priced_b;
    } in
    let told : verified_in plan files rule journal h.texts ≡ Ok proof.links =
    verified (rares_of plan.fields) proof.cells candidates files.a.records files.b.records h.texts proof.links are certified in
    let proved : verified_in plan files (rule_over plan files shares) journal h.texts ≡ Ok proof.links =
    subst (λ (cells : List RuleCell). verified_in plan files (rule_with plan files cells) journal h.texts ≡ Ok proof.links) (one plan shares proof.cells of_plan) told in
    let own : Decisions = decided_by (rule_over plan files shares) (compared_in plan files) in
    let of_decisions : decided plan files shares ≡ Ok own =
    decided_if (compared_in plan files) (rule_over plan files shares) (nat_le (length (compared_in plan files)) MOST_PAIRS) (le-leb (length (compared_in plan files)) MOST_PAIRS h.few) in
    let review : Review = record { files = files; shares = shares; decided = own; journal = journal } in
    let by : FoundBy plan held review = record { of_files = h.input.of_files; of_shares = h.input.of_shares; of_decisions = of_decisions; of_journal = h.input.of_journal } in
    let found : ReviewedPlan = record { plan = plan; review = review } in
    record {
      found = record { found = found; texts = h.texts };
      loaded = all_loads name held found h.texts h.input.of_settings (review_loads plan review held by) h.of_texts;
      links = proof.links;
      proved = proved;
    }

-- ---- what is due

abbrev is_done : Ended → Bool
is_done Done = true
is_done Refuted = false

not_both : Done ≡ Refuted → ⊥
not_both e = true≢false (ap is_done e)

abbrev found_links : List Candidate → Result (List Candidate) Refutation
found_links links = Ok links

abbrev no_links : Refutation → Result (List Candidate) Refutation
no_links r = Err r

not_refuted : (links : List Candidate) (r : Refutation) → found_links links ≡ no_links r → ⊥
not_refuted links r e = absurd (cc e)

module _ (rows : VerifiedHaveRows) (duality : CertifiedIsGreatest) (proof : RowsAreProof) (name : List ℕ) (held : Held) (w : WrittenPlan) (due : Due) (loaded : outcome (verified_settings name) held ≡ Ok w) (of_plan : IsHeldToRule w) where
  tells_by : (r : Result (List Candidate) Refutation) → proved_by w ≡ r → due ≡ prints (ended_by r) (line_of w.found.review.files r) → TellsRows name held due
  tells_by (Ok links) proved is = record {
    done = λ ended. record { line = is; rows = told_rows rows duality name held w links loaded of_plan proved };
    refuted = λ ended. absurd (not_both (ap ended_of (sym is) ∙ ended));
  }
  tells_by (Err r) proved is = record {
    done = λ ended. absurd (not_both (sym ended ∙ ap ended_of is));
    refuted = λ ended hold. refutes hold;
  }
    where
      refutes : HoldsRows name held → ⊥
      refutes hold =
          let h = proof name held hold in
          let same : h.found ≡ w = ok_same h.found w (sym h.loaded ∙ loaded) in
          let here : proved_by w ≡ Ok h.links = subst (λ (x : WrittenPlan). proved_by x ≡ Ok h.links) same h.proved in
          not_refuted h.links r (sym here ∙ proved)

pub verify_tells : VerifiedHaveRows → CertifiedIsGreatest → RowsAreProof → VerifyTells
verify_tells rows duality proof = λ name held w due loaded told. tells_by rows duality proof name held w due loaded told.rule (proved_by w) refl told.line

-- ---- what the top call answers

status_below : (f : Refusal) → refusal_status f ≡ 9 → ⊥
status_below f e = grind (arith)

told_below : {T : Type 0} (f : Refusal) (written : Result T SinkError) → status_after f written ≡ 9 → ⊥
told_below f (Ok x) e = status_below f e
told_below f (Err sink.Failed) e = status_below f e
told_below f (Err sink.NoMemory) e = absurd (omega arith)

module _ (law : VerifyTells) (name : List ℕ) (store : StoreSeen) (out : SinkSeen) (told : store.tells) where
  said_yes : Ends (verify_script name) store out Done → SaidYes name store out
  said_yes e =
      let so = (law name store.held_before e.is_due.found e.due (e.is_due.steps.told told) e.is_due.so).done e.as_due in
      let taken : TakesAll (prints Done (codes "yes\n")) out = subst (λ d. TakesAll d out) so.line e.taken in
      let still : HoldsAll (prints Done (codes "yes\n")) store = subst (λ d. HoldsAll d store) so.line e.held in
      record { rows = so.rows; printed = taken.0; unchanged = still }

  said_no : Ends (verify_script name) store out Refuted → HoldsRows name store.held_before → ⊥
  said_no e hold = (law name store.held_before e.is_due.found e.due (e.is_due.steps.told told) e.is_due.so).refuted e.as_due hold

pub yes_means : VerifyTells → (words : List (List ℕ)) (store : StoreSeen) (out err : SinkSeen) (answer : Result Ended Refusal) (status : ℕ) → Performed words store out answer → Reported err answer status → YesMeans words store out status
yes_means law words store out err (Ok Done) status p r = λ name is told.
    (λ at_0. said_yes law name store out told (subst (λ command. Follows command store out (Ok Done)) is p.follows).answers, λ at_9. absurd (omega (arith, r.0, at_9)))
yes_means law words store out err (Ok Refuted) status p r = λ name is told.
    (λ at_0. absurd (omega (arith, r.0, at_0)), λ at_9. said_no law name store out told (subst (λ command. Follows command store out (Ok Refuted)) is p.follows).answers)
yes_means law words store out err (Err f) status p r = λ name is told.
    (λ at_0. absurd (told_above f r.written (sym r.status_is ∙ at_0)), λ at_9. absurd (told_below f r.written (sym r.status_is ∙ at_9)))

pub rows_say_yes : RowsAreProof → (words : List (List ℕ)) (store : StoreSeen) (out err : SinkSeen) (answer : Result Ended Refusal) (status : ℕ) → Performed words store out answer → Reported err answer status → RowsSayYes words store out status
rows_say_yes proof words store out err answer status p r = λ name is told hold same still.
    yes_where_proved words store out err answer status p r name is told (proof name store.held_before hold) same still

-- What steps come to decides by the filled table of the plan and the shares.

-- what the law `shares_have_a_rule` says
abbrev pub GivenHaveRule : Type 0
GivenHaveRule = (plan : Plan) → HaveValidShares plan.fields → IsRuleOf plan (given_in plan.fields) (the_rule plan.terms.mu_ppm plan.terms.lambda_ppm (given_in plan.fields))

abbrev pub CountedHaveRule : Type 0
CountedHaveRule = (plan : Plan) (a b : List Record) (bytes : List ℕ) (shares : List PlainShares) → counted_in plan.fields (pattern_of_pair plan.fields a b) a b bytes ≡ Ok shares
    → IsRuleOf plan shares (the_rule plan.terms.mu_ppm plan.terms.lambda_ppm shares)

abbrev HasValidShares : FieldKeys → Type 0
HasValidShares f = IfSome f.shares (AreShares (is_some f.rare))

-- a step of a result that came to a value
came_of : {A B : Type 0} (r : Result A Fault) (next : A → Result B Fault) (y : B) → and_then r next ≡ Ok y → (x : A) × (r ≡ Ok x) × (next x ≡ Ok y)
came_of (Ok x) next y e = (x, refl, e)
came_of (Err f) next y e = no_ok f y e

-- the fields of a plan that was read have valid shares, and so have those of the plan of a file with itself
plan_valid : (name : List ℕ) (held : Held) (plan : Plan) → outcome (plan_file name) held ≡ Ok plan → HaveValidShares plan.fields
plan_valid name held plan e =
    let read = came (file role.Settings name) _ held plan e in
    All-weaker (IsField (is_some plan.sample)) HasValidShares (λ f h. h.shares) plan.fields (read_plan read.0 plan (given_ok _ plan read.2)).fields

within_valid : (plan : Plan) → HaveValidShares plan.fields → HaveValidShares (plan_within plan).fields
within_valid plan valid = All-map HasValidShares field_within plan.fields valid

-- a plan that names a journal is the plan that was read
named_same : (x plan : Plan) (named : Bool) → (if named then Ok x else Err (fault.MissingKey (codes "journal"))) ≡ Ok plan → x ≡ plan
named_same x plan true e = ok_same x plan e
named_same x plan false e = no_ok (fault.MissingKey (codes "journal")) plan e

-- decisions by the rule of shares that have one
by_rule : (plan : Plan) (files : StandardPair) (shares : List PlainShares) (d : Decisions) → IsRuleOf plan shares (the_rule plan.terms.mu_ppm plan.terms.lambda_ppm shares) → decided plan files shares ≡ Ok d
    → AreByFilledRule plan shares d
by_rule plan files shares d filled e =
    subst (λ (r : FileRule). IsRuleOf plan shares r.cells) (sym (rule_is (plan_pairs plan files) (rule_over plan files shares) d e)) filled

module _ (given : GivenHaveRule) (counted : CountedHaveRule) where
  shares_rule : (plan : Plan) (files : StandardPair) (sample : Option (List ℕ)) (held : Held) (shares : List PlainShares) → HaveValidShares plan.fields
      → outcome (shares_over plan files sample) held ≡ Ok shares → IsRuleOf plan shares (the_rule plan.terms.mu_ppm plan.terms.lambda_ppm shares)
  shares_rule plan files None held shares valid e =
      subst (λ (s : List PlainShares). IsRuleOf plan s (the_rule plan.terms.mu_ppm plan.terms.lambda_ppm s)) (ok_same _ shares e) (given plan valid)
  shares_rule plan files (Some name) held shares valid e =
      let sample = came (file role.Sample name) _ held shares e in
      counted plan files.a.records files.b.records sample.0 shares (given_ok _ shares sample.2)

  of_review : (plan : Plan) (held : Held) (review : Review) → HaveValidShares plan.fields → outcome (reviewed_plan plan) held ≡ Ok review → AreByFilledRule plan review.shares review.decided
  of_review plan held review valid e =
      let by = found_by plan held review e in
      by_rule plan review.files review.shares review.decided (shares_rule plan review.files plan.sample held review.shares valid by.of_shares) by.of_decisions

  of_settings : (name : List ℕ) (held : Held) (found : ReviewedPlan) → HaveValidShares found.plan.fields → outcome (shares_over found.plan found.review.files found.plan.sample) held ≡ Ok found.review.shares
      → decided found.plan found.review.files found.review.shares ≡ Ok found.review.decided → AreByFilledRule found.plan found.review.shares found.review.decided
  of_settings name held found valid shares decisions =
      by_rule found.plan found.review.files found.review.shares found.review.decided (shares_rule found.plan found.review.files found.plan.sample held found.review.shares valid shares) decisions

  of_within : (plan : Plan) (held : Held) (found : Within) → HaveValidShares plan.fields → outcome (decided_within plan) held ≡ Ok found → AreByFilledRule plan found.shares found.decided
  of_within plan held found valid e =
      let files = came (prepared_within plan) _ held found e in
      let shared = came (decided_plan plan files.0) _ held found files.2 in
      let shares = came (shares_over plan files.0 plan.sample) _ held shared.0 shared.1 in
      let decisions = came (gives (decided plan files.0 shares.0)) _ held shared.0 shares.2 in
      let own : SharedDecisions = record { shares = shares.0; decided = decisions.0 } in
      let is : own ≡ shared.0 = ok_same own shared.0 decisions.2 in
      let here : AreByFilledRule plan own.shares own.decided = by_rule plan files.0 shares.0 decisions.0 (shares_rule plan files.0 plan.sample held shares.0 valid shares.1) (given_ok _ decisions.0 decisions.1) in
      let of_shared : AreByFilledRule plan shared.0.shares shared.0.decided = subst (λ (d : SharedDecisions). AreByFilledRule plan d.shares d.decided) is here in
      let within : Within = record { files = files.0; shares = shared.0.shares; decided = shared.0.decided } in
      subst (λ (w : Within). AreByFilledRule plan w.shares w.decided) (ok_same within found shared.2) of_shared

  of_input : (bytes a b sample : List ℕ) (found : ReviewedPlan) → decided_input bytes a b sample ≡ Ok found → AreByFilledRule found.plan found.review.shares found.review.decided
  of_input bytes a b sample found e =
      let plan = came_of (settings bytes) _ found e in
      let files = came_of (prepared plan.0 MOST_DISTINCT_BYTES a b) _ found plan.2 in
      let shared = came_of (decided_sample plan.0 files.0 sample) _ found files.2 in
      let shares = came_of (counted_by plan.0 files.0 sample) _ shared.0 shared.1 in
      let decisions = came_of (decided plan.0 files.0 shares.0) _ shared.0 shares.2 in
      let own : SharedDecisions = record { shares = shares.0; decided = decisions.0 } in
      let is : own ≡ shared.0 = ok_same own shared.0 decisions.2 in
      let filled = counted plan.0 files.0.a.records files.0.b.records sample shares.0 shares.1 in
      let here : AreByFilledRule plan.0 own.shares own.decided = by_rule plan.0 files.0 shares.0 decisions.0 filled decisions.1 in
      let of_shared : AreByFilledRule plan.0 shared.0.shares shared.0.decided = subst (λ (d : SharedDecisions). AreByFilledRule plan.0 d.shares d.decided) is here in
      subst (λ (f : ReviewedPlan). AreByFilledRule f.plan f.review.shares f.review.decided) (ok_same _ found shared.2) of_shared

  pub filled_rule : FilledRule
  filled_rule = record {
    of_settings = λ name held found e.
        let from = settings_found name held found e in of_settings name held found (plan_valid name held found.plan from.of_settings) from.by.of_shares from.by.of_decisions;
    of_review = λ name held plan review of_plan e.
        let read = came (plan_file name) _ held plan of_plan in
        let same : read.0 ≡ plan = named_same read.0 plan (is_some read.0.journal) (given_ok _ plan read.2) in
        of_review plan held review (subst (λ (p : Plan). HaveValidShares p.fields) same (plan_valid name held read.0 read.1)) e;
    of_one_file = λ name held plan found of_plan e. of_within (plan_within plan) held found (within_valid plan (plan_valid name held plan of_plan)) e;
    of_made_input = of_input;
  }
