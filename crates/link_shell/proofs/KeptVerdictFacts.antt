-- No verdict is lost: what `review` and `migrate` put loads again.
use Rattle.std.proofs.Common.{◌≡◌, ◌≢◌, ◌⊎◌, ◌≤◌, ◌∷◌, ◌∙◌, inl, inr, ℕ, ℤ, pos, zero, suc, List, [], All, length, codes, get_or, Bool, true, false, if◌then◌else◌, nat_le, Option, Some, None, Result, Ok, Err, refl, sym, ap, subst, arith}
use Rattle.std.specs.Prelude.{◌==◌, ◌&&◌, bytes_eq, IfSome, is_some, IsUtf8, unwrap_or, ⊤}
use Rattle.std.proofs.lemmas.Bool.{and_parts, false_from_ne_true}
use Rattle.std.proofs.lemmas.Bool.Decides.{nat_tests}
use Rattle.std.proofs.lemmas.List.Elements.{All-tail}
use Rattle.std.proofs.lemmas.Slice.Eq.{bytes_eq-Decides}
use Rattle.std.proofs.lemmas.Str.{IsUtf8-nil}
use Rattle.link_base.specs.Words.{IsDay, Record}
use Rattle.link_base.specs.declared.fault.Fault.TheVariants as fault
use Rattle.link_base.specs.declared.fault.FileRole.TheVariants as role
use Rattle.link_core.specs.RunLaws.{AreReadFiles, IsReadFile, read_files}
use Rattle.standard_files.specs.Files.{StandardPair}
use Rattle.link_core.specs.Review.{journal_in_files, text_within}
use Rattle.link_limits.specs.declared.TheConstants.{MOST_FILE_BYTES, MOST_DISTINCT_BYTES}
use Rattle.link_outside.specs.Outside.{Held, held_with}
use Rattle.link_outside.specs.declared.refusal.Refusal.{Refusal}
use Rattle.link_plan.specs.Ranges.{AreFiles, files_read}
use Rattle.link_plan.specs.declared.plan.Plan.{Plan}
use Rattle.review_journal.specs.DayLaws.{iso_is_day}
use Rattle.review_journal.specs.Batch.{added, verdicts_of}
use Rattle.review_journal.specs.Verdict.{IsReviewer}
use Rattle.review_journal.specs.Kept.{MigrationKeepsAll, ReviewKeepsAll}
use Rattle.review_journal.specs.Reading.{HasIds, text_of_journal}
use Rattle.review_journal.specs.declared.batch.NewVerdict.{NewVerdict}
use Rattle.review_journal.specs.declared.entry.Entry.{Entry}
use Rattle.settings.proofs.Ranges.{read_plan}
use Rattle.value_forms.specs.Days.{iso_day}
use Rattle.command_scripts.specs.Words.{no_ok, ok_same, outcome_go, Put, SinkSeen, StoreSeen, file, outcome, refused_by, Steps}
use Rattle.command_steps.specs.Front.{both_files, plan_file, prepared_files}
use Rattle.command_steps.specs.Reviewed.{journal_file, journal_plan, named_journal, put_of_journal, reviewed_plan, with_journal}
use Rattle.command_scripts.specs.Steps.{◌>>=◌}
use Rattle.command_scripts.specs.declared.ends.Ended.{Ended}
use Rattle.link_shell.proofs.AfterRunFacts.{AllLoads, file_held, kept_if, loads_then, same_outcome, IsMade, made_at_zero, made_or_kept}
use Rattle.link_shell.proofs.Laws.{of_each}
use Rattle.link_shell.proofs.HeadlineFacts.{came, found_by, given_ok, step_came}
use Rattle.link_shell.specs.Commands.{are_words, Command, command_in, command_of, migration_of_settings, review_of_settings}
use Rattle.link_shell.specs.KeptVerdicts.{LoadsAs, MigrateKeeps, NoVerdictLost, ReviewKeeps, StillGives}
use Rattle.link_shell.specs.Linked.{Follows, Performed, Reported}
use Rattle.link_shell.specs.SettingsCommands.{migrate_script, written_journal}
use Rattle.link_shell.specs.ReviewSettings.{NewReview, review_script, reviewed_journal}
use Rattle.link_shell.specs.Words.{is_settings_word, is_short_word, word}
use Rattle.link_shell.specs.declared.command.Form.{Form}
use Rattle.link_shell.specs.declared.command.Form.TheVariants as form

-- a plan that names a journal
with_is : (p plan : Plan) → with_journal p ≡ Ok plan → (is_some p.journal ≡ true) × (p ≡ plan)
with_is p plan e = by_test (is_some p.journal) refl e
  where
    by_test : (test : Bool) → is_some p.journal ≡ test → (if test then Ok p else Err (fault.MissingKey (codes "journal"))) ≡ Ok plan → (is_some p.journal ≡ true) × (p ≡ plan)
    by_test true is same = (is, ok_same p plan same)
    by_test false is same = no_ok (fault.MissingKey (codes "journal")) plan same

some_named : (o : Option (List ℕ)) → is_some o ≡ true → o ≡ Some (unwrap_or o [])
some_named None e = absurd (cc e)
some_named (Some name) e = refl

record OfSettings (name : List ℕ) (held : Held) (plan : Plan) : Type 0 where
  of_plan : outcome (plan_file name) held ≡ Ok plan
  journal : plan.journal ≡ Some (named_journal plan)

of_settings : (name : List ℕ) (held : Held) (plan : Plan) → outcome (journal_plan name) held ≡ Ok plan → OfSettings name held plan
of_settings name held plan e =
    let read = came (plan_file name) _ held plan e in
    let named = with_is read.0 plan (given_ok _ plan read.2) in
    subst (OfSettings name held) named.1 (record { of_plan = read.1; journal = some_named read.0.journal named.0 })

settings_files : (name : List ℕ) (held : Held) (plan : Plan) → outcome (plan_file name) held ≡ Ok plan → AreFiles plan.file_a plan.file_b plan.sample plan.journal
settings_files name held plan e =
    let read = came (file role.Settings name) _ held plan e in
    (read_plan read.0 plan (given_ok _ plan read.2)).files

-- a text within the limit of a file
within_is : (text line : List ℕ) → text_within text ≡ Ok line → (length text ≤ MOST_FILE_BYTES) × (text ≡ line)
within_is text line e = by_test (nat_le (length text) MOST_FILE_BYTES) refl e
  where
    by_test : (test : Bool) → nat_le (length text) MOST_FILE_BYTES ≡ test → (if test then Ok text else Err (fault.FileTooLong role.Journal MOST_FILE_BYTES)) ≡ Ok line
        → (length text ≤ MOST_FILE_BYTES) × (text ≡ line)
    by_test true is same = (grind (arith, nat_tests), ok_same text line same)
    by_test false is same = no_ok (fault.FileTooLong role.Journal MOST_FILE_BYTES) line same

-- what is put under the name of a journal
abbrev IsApart : List ℕ → List ℕ → Type 0
IsApart journal name = journal ≢ name

module _ (journal text : List ℕ) (held : Held) where
  abbrev after : Held
  after = held_with journal text held

  other_stays : (name : List ℕ) → IsApart journal name → after name ≡ held name
  other_stays name apart = kept_if (bytes_eq journal name) text (held name) (false_from_ne_true (bytes_eq journal name) (λ h. apart ((bytes_eq-Decides journal name).0 h)))

  put_there : after journal ≡ Some text
  put_there = ap (λ t. if t then Some text else held journal) ((bytes_eq-Decides journal journal).1 refl)

loads_settings : (journal name : List ℕ) → IsApart journal name → AllLoads (IsApart journal) (journal_plan name)
unfolding ◌>>=◌
loads_settings journal name h = loads_then (IsApart journal) (plan_file name) _ (h, λ bytes. tt) (λ p. tt)

module _ (plan : Plan) (named : plan.journal ≡ Some (named_journal plan)) (names : AreFiles plan.file_a plan.file_b plan.sample plan.journal) where
  apart : All (λ (other : List ℕ). named_journal plan ≢ other) (files_read plan.file_a plan.file_b plan.sample)
  apart = subst (λ o. IfSome o (λ (name : List ℕ). All (λ (other : List ℕ). name ≢ other) (files_read plan.file_a plan.file_b plan.sample))) named names.apart

  loads_both : AllLoads (IsApart (named_journal plan)) (prepared_files plan)
  unfolding ◌>>=◌
  loads_both = (apart 0 [] (omega arith), λ a. (apart 1 [] (omega arith), λ b. tt))

  module _ (text : List ℕ) (held : Held) where
    abbrev put_after : Held
    put_after = held_with (named_journal plan) text held

    loads_again : (files : StandardPair) (entries : List Entry) → length text ≤ MOST_FILE_BYTES → outcome (prepared_files plan) held ≡ Ok files → journal_in_files files text ≡ Ok entries
        → LoadsAs plan files entries put_after
    loads_again files entries short of_files read =
        let there = file_held role.Journal MOST_FILE_BYTES (named_journal plan) text put_after (put_there (named_journal plan) text held) short in
        let of_name : outcome (journal_file files (Some (named_journal plan))) put_after ≡ Ok entries = outcome_go (file role.Journal (named_journal plan)) _ put_after text there ∙ ap refused_by read in
        record {
          of_files = same_outcome (IsApart (named_journal plan)) held put_after (other_stays (named_journal plan) text held) (prepared_files plan) loads_both ∙ of_files;
          of_journal = subst (λ o. outcome (journal_file files o) put_after ≡ Ok entries) (sym named) of_name;
        }

    still_gives : (name : List ℕ) → outcome (journal_plan name) held ≡ Ok plan → StillGives name plan put_after
    still_gives name of other =
        same_outcome (IsApart (named_journal plan)) held put_after (other_stays (named_journal plan) text held) (journal_plan name) (loads_settings (named_journal plan) name (λ same. other (sym same))) ∙ of

-- the ids of prepared files are such as tables have
ids_of_file : (records : List Record) → IsReadFile records → HasIds records
ids_of_file records is = record { texts = is.texts; distinct = is.distinct }

files_ids : (plan : Plan) (files : StandardPair) (held : Held) → outcome (prepared_files plan) held ≡ Ok files → AreReadFiles files
files_ids plan files held e =
    let inputs = came (both_files plan.file_a plan.file_b) _ held files e in
    read_files plan MOST_DISTINCT_BYTES inputs.0.a inputs.0.b files (given_ok _ files inputs.2)

-- the entries of the journal that a plan names, in some bytes
record HasRead (plan : Plan) (files : StandardPair) (entries : List Entry) : Type 0 where
  bytes : List ℕ
  read : journal_in_files files bytes ≡ Ok entries

journal_read : (plan : Plan) (files : StandardPair) (entries : List Entry) (held : Held) → plan.journal ≡ Some (named_journal plan) → outcome (journal_file files plan.journal) held ≡ Ok entries → HasRead plan files entries
journal_read plan files entries held named e =
    let of_name : outcome (journal_file files (Some (named_journal plan))) held ≡ Ok entries = subst (λ o. outcome (journal_file files o) held ≡ Ok entries) named e in
    let read = came (file role.Journal (named_journal plan)) _ held entries of_name in
    record { bytes = read.0; read = given_ok _ entries read.2 }

-- what holds of what was put holds of what names hold after it
put_is : (plan : Plan) (text : List ℕ) (s : Steps Put) (store : StoreSeen) (m : IsMade s store) → put_of_journal plan text ≡ m.put → held_with (named_journal plan) text store.held_before ≡ store.held_after
put_is plan text s store m same = ap (λ (p : Put). held_with p.name p.bytes store.held_before) same ∙ sym m.held

migrate_keeps : MigrationKeepsAll → (name : List ℕ) (store : StoreSeen) → IsMade (migrate_script name).steps store → MigrateKeeps name store
migrate_keeps law name store made =
    let held = store.held_before in
    let found = came (journal_plan name) _ held made.put made.found in
    let plan : Plan = found.0 in
    let put = came (written_journal plan) _ held made.put found.2 in
    let both = came (prepared_files plan) _ held put.0 put.1 in
    let files : StandardPair = both.0 in
    let journal = came (journal_file files plan.journal) _ held put.0 both.2 in
    let entries : List Entry = journal.0 in
    let of = of_settings name held plan found.1 in
    let names = settings_files name held plan of.of_plan in
    let ids = files_ids plan files held both.1 in
    let old = journal_read plan files entries held of.journal journal.1 in
    let a = files.a.records in
    let b = files.b.records in
    let text = text_of_journal a b entries in
    let line = within_is text put.0 (given_ok _ put.0 journal.2) in
    let again = law a b old.bytes entries (ids_of_file a ids.of_a) (ids_of_file b ids.of_b) old.read in
    let is = put_is plan text _ store made (ap (put_of_journal plan) line.1 ∙ ok_same _ _ put.2) in
    record {
      plan = plan;
      files = files;
      entries = entries;
      of_settings = found.1;
      before = record { of_files = both.1; of_journal = journal.1 };
      after = subst (LoadsAs plan files entries) is (loads_again plan of.journal names text held files entries line.0 both.1 again);
      again = subst (StillGives name plan) is (still_gives plan of.journal names text held name found.1);
    }

review_keeps : ReviewKeepsAll → (w : NewReview) (store : StoreSeen) → IsDay w.date → IsReviewer w.reviewer → IsMade (review_script w).steps store → ReviewKeeps w store
review_keeps law w store is_day is_name made =
    let held = store.held_before in
    let found = came (journal_plan w.name) _ held made.put made.found in
    let plan : Plan = found.0 in
    let put = came (reviewed_journal w plan) _ held made.put found.2 in
    let reviewed = came (reviewed_plan plan) _ held put.0 put.1 in
    let review = reviewed.0 in
    let by = found_by plan held review reviewed.1 in
    let files : StandardPair = review.files in
    let given = came (file role.Verdicts w.verdicts) _ held put.0 reviewed.2 in
    let a = files.a.records in
    let b = files.b.records in
    let read = step_came (List NewVerdict) (List ℕ) (verdicts_of a b given.0) _ put.0 (given_ok _ put.0 given.2) in
    let batch : List NewVerdict = read.0 in
    let all = step_came (List Entry) (List ℕ) (added plan.terms.double w.date w.reviewer review.decided.possible review.journal batch) _ put.0 read.2 in
    let new : List Entry = all.0 in
    let of = of_settings w.name held plan found.1 in
    let names = settings_files w.name held plan of.of_plan in
    let ids = files_ids plan files held by.of_files in
    let old = journal_read plan files review.journal held of.journal by.of_journal in
    let text = text_of_journal a b new in
    let line = within_is text put.0 all.2 in
    let kept = law a b old.bytes review.journal given.0 batch plan.terms.double w.date w.reviewer review.decided.possible new (ids_of_file a ids.of_a) (ids_of_file b ids.of_b) is_day is_name old.read read.1 all.1 in
    let is = put_is plan text _ store made (ap (put_of_journal plan) line.1 ∙ ok_same _ _ put.2) in
    record {
      plan = plan;
      files = files;
      old = review.journal;
      batch = batch;
      new = new;
      of_settings = found.1;
      of_verdicts = outcome_go (file role.Verdicts w.verdicts) _ held given.0 given.1 ∙ ap refused_by read.1;
      before = record { of_files = by.of_files; of_journal = by.of_journal };
      after = subst (LoadsAs plan files new) is (loads_again plan of.journal names text held files new line.0 by.of_files kept.0);
      kept = kept.1;
      again = subst (StillGives w.name plan) is (still_gives plan of.journal names text held w.name found.1);
    }

-- the words of a review name a day and a reviewer
abbrev IsSound : Command → Type 0
IsSound (review_of_settings w) = IsDay w.date × IsReviewer w.reviewer
IsSound command = ⊤

word_text : (words : List (List ℕ)) (at : ℕ) → All IsUtf8 words → IsUtf8 (get_or words at [])
word_text [] at texts = IsUtf8-nil
word_text (w ∷ ws) zero texts = texts 0 [] (omega arith)
word_text (w ∷ ws) (suc at) texts = word_text ws at (All-tail IsUtf8 w ws texts)

day_read : (text : List ℕ) (o : Option ℤ) → iso_day text ≡ o → is_some o ≡ true → IsDay (unwrap_or o (pos 0))
day_read text None is e = absurd (cc e)
day_read text (Some day) is e = iso_is_day text day is

reviewer_read : (name : List ℕ) → IsUtf8 name → is_short_word name ≡ true → IsReviewer name
reviewer_read name text e = record { some = grind (arith, nat_tests); few = grind (arith, nat_tests); text = text }

sound_form : (words : List (List ℕ)) → All IsUtf8 words → (f : Form) → are_words f words ≡ true → IsSound (command_in f words)
sound_form words texts form.Review e =
    let front : Bool = (length words == 5) && is_settings_word (word words 1) && is_short_word (word words 2) in
    let last = and_parts (front && is_some (iso_day (word words 3))) (is_short_word (word words 4)) e in
    let day = and_parts front (is_some (iso_day (word words 3))) last.0 in
    (day_read (word words 3) (iso_day (word words 3)) refl day.1, reviewer_read (word words 4) (word_text words 4 texts) last.1)
sound_form words texts f e = tt

either : {A B C : Type 0} → (B → C) → A ⊎ B → A ⊎ C
either f (inl x) = inl x
either f (inr y) = inr (f y)

module _ (reviewed : ReviewKeepsAll) (migrated : MigrationKeepsAll) (words : List (List ℕ)) (store : StoreSeen) (out err : SinkSeen) (answer : Result Ended Refusal) (status : ℕ) (texts : All IsUtf8 words)
    (performed : Performed words store out answer) (reported : Reported err answer status) where
  sound_of : (w : NewReview) → command_of words ≡ Some (review_of_settings w) → IsDay w.date × IsReviewer w.reviewer
  sound_of w is = subst (λ command. IfSome command IsSound) is (of_each IsSound words (λ e v. tt) (sound_form words texts))

  follows_of : (command : Command) → command_of words ≡ Some command → Follows (Some command) store out answer
  follows_of command is = subst (λ c. Follows c store out answer) is performed.follows

  reviews : (w : NewReview) → command_of words ≡ Some (review_of_settings w) → IsMade (review_script w).steps store → ReviewKeeps w store
  reviews w is = let sound = sound_of w is in review_keeps reviewed w store sound.0 sound.1

  pub no_verdict_lost : NoVerdictLost words store status
  no_verdict_lost = record {
    by_review = λ w is none told. reviews w is (made_at_zero (review_script w).steps store out told err answer status (follows_of (review_of_settings w) is).answers reported none);
    by_migrate = λ name is none told. migrate_keeps migrated name store (made_at_zero (migrate_script name).steps store out told err answer status (follows_of (migration_of_settings name) is).answers reported none);
    by_any_review = λ w is told. either (reviews w is) (made_or_kept (review_script w).steps store out told answer (follows_of (review_of_settings w) is).answers);
    by_any_migrate = λ name is told. either (migrate_keeps migrated name store) (made_or_kept (migrate_script name).steps store out told answer (follows_of (migration_of_settings name) is).answers);
  }
