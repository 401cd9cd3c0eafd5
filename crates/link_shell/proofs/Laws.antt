-- The bytes of a word.
use Rattle.std.proofs.Common.{◌≡◌, ◌<◌, ◌∷◌, ℕ, zero, suc, List, [], length, drop, map, get_or, refl, arith, ◌≢◌, ◌≤◌, ◌⊎◌, inl, inr, ◌+◌, ◌++◌, length-append, Bool, true, if◌then◌else◌, Option, Some, None, Result, Ok, Err, ap, ◌∙◌, subst, sym, add-one, append_assoc, drop-cons, ◌&&◌, All, nat_le, false, option_map}
use Rattle.link_outside.specs.Outside.{Rose}
use Rattle.link_outside.specs.declared.outside.StoreCall.{StoreCall}
use Rattle.link_outside.specs.declared.refusal.Refusal.{Refusal}
use Rattle.link_outside.specs.declared.refusal.Refusal.TheVariants as refusal
use Rattle.command_scripts.specs.Words.{Cause, cause_of, the_input, the_memory, the_output, the_store, the_words, Answers, Does, DoesPart, FailsAt, FailsBy, IsDue, Script, Due, HoldsAll, HoldsSome, prints, Prints, PutFails, puts, puts_of, TakesAll, TakesSome, IsUncalled, SinkSeen, StoreSeen}
use Rattle.command_scripts.specs.declared.ends.Ended.{Ended}
use Rattle.link_shell.specs.Commands.{are_words, Command, command_in, command_of, form_command, or_form, script_of, forms, of_settings}
use Rattle.link_shell.specs.Linked.{Follows, IsComplete, IsExactUsage, IsSilent, IsStill, NeverPrints, NeverPuts, Performed, RefusesBy}
use Rattle.link_shell.specs.SettingsCommands.{OfFile, settings_script, are_verb_and_settings, settings_verbs, are_levels_from, is_level_word}
use Rattle.link_shell.specs.declared.command.Form.{Form}
use Rattle.std.specs.List.{list_all}
use Rattle.std.proofs.lemmas.Bool.{and_parts, not-true}
use Rattle.std.proofs.lemmas.Bool.Decides.{nat_tests}
use Rattle.std.proofs.lemmas.List.{append-nil, drop_all}
use Rattle.std.proofs.lemmas.List.Elements.{All-cons, All-nil}
use Rattle.link_limits.specs.declared.TheConstants.{PER_MILLION}
use Rattle.csv_rows.specs.Numbers.{is_decimal, number_in}
use Rattle.std.specs.Prelude.{◌==◌, IfSome, not, ⊤}
use Rattle.settings_readers.specs.Values.{named_in}
use Rattle.link_plan.specs.Plan.{is_output}
use Rattle.link_shell.specs.Words.{is_settings_word, is_short_word, word}
use Rattle.link_shell.specs.declared.command.Form.TheVariants as form
use Rattle.link_shell.specs.declared.settings_commands.SettingsVerb.{SettingsVerb}

pub word_there : {X Y : Type 0} (f : X → Y) (xs : List X) (at : ℕ) (d : X) (e : Y) → at < length xs → get_or (map f xs) at e ≡ f (get_or xs at d)
word_there f [] at d e h = absurd (omega arith)
word_there f (x ∷ xs) zero d e h = refl
word_there f (x ∷ xs) (suc at) d e h = word_there f xs at d e (omega arith)

pub words_after_first : {X Y : Type 0} (f : X → Y) (xs : List X) → map f (drop 1 xs) ≡ drop 1 (map f xs)
words_after_first f [] = refl
words_after_first f (x ∷ xs) = refl

-- What follows of each command.

gained : (old new : List StoreCall) (call : StoreCall) → new ≡ old ++ call ∷ [] → new ≡ old → ⊥
gained old new call e same =
    let longer : length new ≡ length old + 1 = ap length e ∙ length-append old (call ∷ []) in
    let equal : length new ≡ length old = ap length same in
    omega arith

no_usage : (script : Script) (store : StoreSeen) (out : SinkSeen) (answer : Result Ended Refusal) → Answers script store out answer → answer ≢ Err refusal.Usage
no_usage script store out answer a e =
    let P : Result Ended Refusal → Type 0 = λ r. Answers script store out r in
    subst P e a

-- where nothing of the outside failed
complete_err : (cause : Cause) (script : Script) (store : StoreSeen) (out : SinkSeen) (f : Refusal) → store.faults_after ≡ store.faults_before
    → ¬ (Rose out.faults_before out.faults_after) → FailsBy cause script store out f → RefusesBy cause script store f
complete_err the_words script store out f same still a = absurd a
complete_err (the_store name) script store out f same still a = absurd (gained store.faults_before store.faults_after a.call a.logged same)
complete_err the_output script store out f same still a = absurd (still a.rose)
complete_err the_memory script store out f same still a = tt
complete_err the_input script store out f same still a = a.first

complete_for : (command : Command) (store : StoreSeen) (out : SinkSeen) (answer : Result Ended Refusal) → store.faults_after ≡ store.faults_before
    → ¬ (Rose out.faults_before out.faults_after) → Answers (script_of command) store out answer → IsComplete (Some command) store answer
complete_for command store out (Ok ended) same still a = (a.due, a.is_due, a.as_due)
complete_for command store out (Err f) same still a = complete_err (cause_of f) (script_of command) store out f same still a

-- a command of which no text is due does not call `out`
module _ (script : Script) (store : StoreSeen) (out : SinkSeen) (none : NeverPrints script) where
  silent_all : (due : Due) → IsDue script store due → TakesAll due out → IsUncalled out
  silent_all (prints ended text) is t = absurd (none is.found (prints ended text) is.so tt)
  silent_all (puts all) is t = t

  silent_some : (due : Due) → IsDue script store due → TakesSome due out → IsUncalled out
  silent_some (prints ended text) is t = absurd (none is.found (prints ended text) is.so tt)
  silent_some (puts all) is t = t

  silent_part : (((store.held_after ≡ store.held_before) × IsUncalled out) ⊎ DoesPart script store out) → IsUncalled out
  silent_part (inl h) = h.1
  silent_part (inr h) = silent_some h.due h.is_due h.taken

  silent_err : (cause : Cause) (f : Refusal) → FailsBy cause script store out f → IsUncalled out
  silent_err the_words f a = absurd a
  silent_err (the_store name) f a = a.quiet
  silent_err the_output f a = absurd (none a.is_due.found a.due a.is_due.so a.printed)
  silent_err the_memory f a = silent_part a.part
  silent_err the_input f a = a.quiet

  silent_by : (answer : Result Ended Refusal) → Answers script store out answer → IsUncalled out
  silent_by (Ok ended) a = silent_all a.due a.is_due a.taken
  silent_by (Err f) a = silent_err (cause_of f) f a

  no_sink_fault : (answer : Result Ended Refusal) → Answers script store out answer → answer ≢ Err refusal.Output
  no_sink_fault answer a e =
      let P : Result Ended Refusal → Type 0 = λ r. Answers script store out r in
      let h = subst P e a in
      none h.is_due.found h.due h.is_due.so h.printed

-- a command of which no put is due changes nothing that is held
module _ (script : Script) (store : StoreSeen) (out : SinkSeen) (none : NeverPuts script) where
  abbrev Same : Type 0
  Same = store.held_after ≡ store.held_before

  still_all : (due : Due) → Prints due → HoldsAll due store → Same
  still_all (prints ended text) p h = h
  still_all (puts all) p h = absurd p

  still_some : (due : Due) → Prints due → HoldsSome due store → Same
  still_some (prints ended text) p h = h
  still_some (puts all) p h = absurd p

  still_fails : (due : Due) (call : StoreCall) → Prints due → PutFails (puts_of due) store call → Same
  still_fails (prints ended text) call p (count, few, called, rest) = absurd (omega arith)
  still_fails (puts all) call p h = absurd p

  still_place : (call : StoreCall) → FailsAt script store call → Same
  still_place call (inl h) = h.1
  still_place call (inr h) = still_fails h.0 call (none h.1.found h.0 h.1.so) h.2

  still_part : (Same × IsUncalled out) ⊎ DoesPart script store out → Same
  still_part (inl h) = h.0
  still_part (inr h) = still_some h.due (none h.is_due.found h.due h.is_due.so) h.held

  still_err : (cause : Cause) (f : Refusal) → FailsBy cause script store out f → Same
  still_err the_words f a = absurd a
  still_err (the_store name) f a = still_place a.call a.place
  still_err the_output f a = a.untouched.held
  still_err the_memory f a = still_part a.part
  still_err the_input f a = a.untouched.held

  still_by : (answer : Result Ended Refusal) → Answers script store out answer → Same
  still_by (Ok ended) a = still_all a.due (none a.is_due.found a.due a.is_due.so) a.held
  still_by (Err f) a = still_err (cause_of f) f a

-- each fact of what words do
usage_for : (command : Option Command) (store : StoreSeen) (out : SinkSeen) (answer : Result Ended Refusal) → Follows command store out answer → IsExactUsage command answer
usage_for None store out answer d = d.usage
usage_for (Some command) store out answer d = no_usage (script_of command) store out answer d.answers

silent_for : (command : Option Command) (store : StoreSeen) (out : SinkSeen) (answer : Result Ended Refusal) → Follows command store out answer → IsSilent command out answer
silent_for None store out answer d = d.quiet
silent_for (Some command) store out answer d =
    λ none. (silent_by (script_of command) store out none answer d.answers, no_sink_fault (script_of command) store out none answer d.answers)

still_for : (command : Option Command) (store : StoreSeen) (out : SinkSeen) (answer : Result Ended Refusal) → Follows command store out answer → IsStill command store
still_for None store out answer d = d.untouched.held
still_for (Some command) store out answer d = λ none. still_by (script_of command) store out none answer d.answers

later_for : (command : Option Command) (store : StoreSeen) (out : SinkSeen) (answer : Result Ended Refusal) → Follows command store out answer → out.faults_before ≤ out.faults_after
later_for None store out answer d = let same = d.quiet.faults in omega arith
later_for (Some command) store out answer d = d.later

completes : (command : Option Command) (store : StoreSeen) (out : SinkSeen) (answer : Result Ended Refusal) → Follows command store out answer
    → store.faults_after ≡ store.faults_before → ¬ (Rose out.faults_before out.faults_after) → IsComplete command store answer
completes None store out answer d same still = d.usage
completes (Some command) store out answer d same still = complete_for command store out answer same still d.answers

pub performs : (words : List (List ℕ)) (store : StoreSeen) (out : SinkSeen) (answer : Result Ended Refusal) → Follows (command_of words) store out answer → Performed words store out answer
performs words store out answer d = record {
  usage = usage_for (command_of words) store out answer d;
  follows = d;
  silent = silent_for (command_of words) store out answer d;
  still = still_for (command_of words) store out answer d;
  later = later_for (command_of words) store out answer d;
  complete = completes (command_of words) store out answer d;
}

-- the words are of a settings file alone, or of a form
module _ (store : StoreSeen) (out : SinkSeen) (answer : Result Ended Refusal) where
  pub follows_file : (file : OfFile) (named : Option OfFile) (next : Option Command) → Some file ≡ named → Does (settings_script file.verb file.name) store out answer
      → Follows (or_form named next) store out answer
  follows_file file named next e d = subst (λ n. Follows (or_form n next) store out answer) e d

  pub follows_form : (named : Option OfFile) (form first : Option Form) (words : List (List ℕ)) → None ≡ named → form ≡ first → Follows (form_command form words) store out answer
      → Follows (or_form named (form_command first words)) store out answer
  follows_form named form first words e same d =
      subst (λ n. Follows (or_form n (form_command first words)) store out answer) e (subst (λ f. Follows (form_command f words) store out answer) same d)

  -- the words of a form name its command
  pub follows_words : (form given : Form) (words : List (List ℕ)) (command : Command) → given ≡ form → true ≡ are_words form words → command ≡ command_in form words → Does (script_of command) store out answer
      → Follows (form_command (Some given) words) store out answer
  follows_words form given words command is said asked d =
      let At : Form → Type 0 = λ f. Follows (form_command (Some f) words) store out answer in
      let Told : Bool → Type 0 = λ t. Follows (if t then Some (command_in form words) else None) store out answer in
      subst At (sym is) (subst Told said (subst (λ k. Does (script_of k) store out answer) asked d))

-- Levels that rise, and levels that words write.

pub rising_are_levels : (least : ℕ) (words : List (List ℕ)) → are_levels_from least words ≡ true → list_all is_level_word words ≡ true
rising_are_levels least [] h = refl
rising_are_levels least (w ∷ ws) h = grind (arith, rising_are_levels (number_in w + 1) ws)

-- the levels that words write are in parts per million
a_level : (w : List ℕ) → is_level_word w ≡ true → number_in w ≤ PER_MILLION
a_level w h = let within = (and_parts (is_decimal w) (nat_le (number_in w) PER_MILLION) h).1 in grind (arith, nat_tests)

pub levels_within : (words : List (List ℕ)) → list_all is_level_word words ≡ true → All (λ mu. mu ≤ PER_MILLION) (map number_in words)
levels_within [] h = All-nil (λ mu. mu ≤ PER_MILLION)
levels_within (w ∷ ws) h =
    let parts = and_parts (is_level_word w) (list_all is_level_word ws) h in
    All-cons (λ mu. mu ≤ PER_MILLION) (number_in w) (map number_in ws) (a_level w parts.0) (levels_within ws parts.1)

-- one word more is read
module _ {X : Type 0} (f : X → List ℕ) (words : List X) (at : ℕ) (w : X) (lt : at < length words) where
  pub levels_more : (old new : List ℕ) (level : ℕ) → w ≡ get_or words at w → level ≡ number_in (f w) → new ≡ old ++ level ∷ []
      → map number_in (map f words) ≡ old ++ map number_in (map f (drop at words)) → map number_in (map f words) ≡ new ++ map number_in (map f (drop (at + 1) words))
  levels_more old new level is value grown e =
      let rest : ℕ → List ℕ = λ k. map number_in (map f (drop k words)) in
      let first : number_in (f (get_or words at w)) ≡ level = ap (λ x. number_in (f x)) (sym is) ∙ sym value in
      let next : rest at ≡ level ∷ rest (at + 1) =
      ap (λ ws. map number_in (map f ws)) (drop-cons words at w lt) ∙ ap (λ n. n ∷ rest (suc at)) first ∙ ap (λ k. level ∷ rest k) (sym (add-one at)) in
      e ∙ ap (λ l. old ++ l) next ∙ sym (append_assoc old (level ∷ []) (rest (at + 1))) ∙ ap (λ l. l ++ rest (at + 1)) (sym grown)

  pub levels_left : list_all is_level_word (map f (drop at words)) ≡ true → list_all is_level_word (map f (drop (at + 1) words)) ≡ true
  levels_left e =
      let head : (is_level_word (f (get_or words at w)) && list_all is_level_word (map f (drop (suc at) words))) ≡ true =
      ap (λ ws. list_all is_level_word (map f ws)) (sym (drop-cons words at w lt)) ∙ e in
      ap (λ k. list_all is_level_word (map f (drop k words))) (add-one at) ∙ (and_parts (is_level_word (f (get_or words at w))) (list_all is_level_word (map f (drop (suc at) words))) head).1

-- all words were read
pub levels_done : {X : Type 0} (f : X → List ℕ) (words : List X) (at : ℕ) (done : List ℕ) → length words ≤ at
    → map number_in (map f words) ≡ done ++ map number_in (map f (drop at words)) → done ≡ map number_in (map f words)
levels_done f words at done all e = sym (e ∙ ap (λ ws. done ++ map number_in (map f ws)) (drop_all at words all) ∙ append-nil done)

-- What holds of each command that words name: of a settings file alone by the test of its name, and of other words by those of the words.

module _ (P : Command → Type 0) (words : List (List ℕ)) where
  of_file : (test : Bool) (verb : Option SettingsVerb) (next : Option Command) → (test ≡ true → (v : SettingsVerb) → P (of_settings v (word words 1))) → IfSome next P
      → IfSome (or_form (if test then option_map (λ v. record { verb = v; name = word words 1 }) verb else None) next) P
  of_file true (Some v) next here later = here refl v
  of_file true None next here later = later
  of_file false verb next here later = later

  of_form : (o : Option Form) → ((f : Form) → are_words f words ≡ true → P (command_in f words)) → IfSome (form_command o words) P
  of_form None here = tt
  of_form (Some f) here = if_words (are_words f words) (command_in f words) (here f)
    where
      if_words : (test : Bool) (command : Command) → (test ≡ true → P command) → IfSome (if test then Some command else None) P
      if_words true command h = h refl
      if_words false command h = tt

  pub of_each : (are_verb_and_settings words ≡ true → (v : SettingsVerb) → P (of_settings v (word words 1))) → ((f : Form) → are_words f words ≡ true → P (command_in f words))
      → IfSome (command_of words) P
  unfolding command_of
  of_each of_verb of_words =
      of_file (are_verb_and_settings words) (named_in settings_verbs (word words 0)) (form_command (named_in forms (word words 0)) words) of_verb
      (of_form (named_in forms (word words 0)) of_words)

-- a settings file is none of the outputs
abbrev pub KeepsSettings : Command → Type 0
KeepsSettings (of_settings v name) = is_output name ≡ false
KeepsSettings command = ⊤

no_settings : (words : List (List ℕ)) (f : Form) → KeepsSettings (command_in f words)
no_settings words form.Columns = tt
no_settings words f = tt

pub keeps_settings : (words : List (List ℕ)) → IfSome (command_of words) KeepsSettings
keeps_settings words = of_each KeepsSettings words (λ e v. no_output e) (λ f e. no_settings words f)
  where
    no_output : are_verb_and_settings words ≡ true → is_output (word words 1) ≡ false
    no_output e =
        let named = and_parts (length words == 2) (is_settings_word (word words 1)) e in
        let settings = and_parts (is_short_word (word words 1)) (not (is_output (word words 1))) named.1 in
        not-true (is_output (word words 1)) settings.1
