-- The verdict of a journal on a pair: that of the last entry that names the pair, and undecided where this one waits for a
-- second reviewer (`Journal::verdict`, its lone clause).
use Rattle.std.specs.Prelude.{ℕ, List, Bool, ◌==◌, ◌&&◌, find, reverse, Option, option_map, true, false, not, bytes_eq, Some, None, if◌then◌else◌, ◌≡◌, ◌≤◌, ◌<◌, ◌++◌, ◌∷◌, ◌≤ℤ◌, [], All, AllPairs, length, IsUtf8}
use Rattle.link_base.specs.declared.rule.Step.{Step}
use Rattle.link_base.specs.declared.rule.Step.TheVariants.{First, Single, Confirm}
use Rattle.link_base.specs.declared.rule.Verdict.{Verdict}
use Rattle.review_journal.specs.declared.entry.Entry.{Entry}
use Rattle.link_limits.specs.declared.TheConstants.{MOST_ENTRIES, MOST_FIELD_BYTES}
use Rattle.link_base.specs.Words.{IsDay}
use Rattle.link_base.specs.declared.rule.Verdict.TheVariants as verdict

-- an entry is on the pair at these positions
abbrev pub is_on : ℕ → ℕ → Entry → Bool
is_on a b e = (e.a == a) && (e.b == b)

-- the last entry on a pair
abbrev pub last_on : List Entry → ℕ → ℕ → Option Entry
last_on entries a b = find (is_on a b) (reverse entries)

-- what an entry says: a first verdict waits for a second reviewer
abbrev pub standing_verdict : Step → Verdict → Verdict
standing_verdict First v = verdict.Undecided
standing_verdict s v = v

-- the verdict on a pair, where an entry names it
abbrev pub verdict_on : List Entry → ℕ → ℕ → Option Verdict
verdict_on entries a b = option_map (λ (e : Entry). standing_verdict e.step e.verdict) (last_on entries a b)

-- The steps of review by two: a first verdict waits, and one of the same kind by another reviewer confirms it
-- (`Journal::confirms` and `Journal::fits`; `Journal::add`, clause `answer`, gives each new entry its step).

-- the pair is a link, or it is none
abbrev pub is_decided : Verdict → Bool
is_decided verdict.Undecided = false
is_decided v = true

abbrev pub same_verdict : Verdict → Verdict → Bool
same_verdict verdict.Link verdict.Link = true
same_verdict verdict.NonLink verdict.NonLink = true
same_verdict verdict.Undecided verdict.Undecided = true
same_verdict v w = false

abbrev pub is_first : Step → Bool
is_first First = true
is_first s = false

-- a verdict of a reviewer confirms an entry that waits: a first one of the same verdict by another reviewer
abbrev pub confirms_entry : Option Entry → List ℕ → Verdict → Bool
confirms_entry None reviewer v = false
confirms_entry (Some e) reviewer v = is_first e.step && same_verdict e.verdict v && not (bytes_eq e.reviewer reviewer)

-- after these entries, a verdict of a reviewer on a pair confirms the last one on it
abbrev pub confirms_in : List Entry → List ℕ → ℕ → ℕ → Verdict → Bool
confirms_in entries reviewer a b v = confirms_entry (last_on entries a b) reviewer v

-- a step may stand at a verdict: two reviewers are asked for decided pairs alone, and a second one has something to confirm
abbrev pub step_fits : Step → Verdict → Bool → Bool
step_fits Single v confirming = true
step_fits First v confirming = is_decided v
step_fits Confirm v confirming = is_decided v && confirming

-- the step of an entry may stand after these entries
abbrev pub fits_after : List Entry → Entry → Bool
fits_after entries e = step_fits e.step e.verdict (confirms_in entries e.reviewer e.a e.b e.verdict)

-- the step of a new verdict: where two reviewers are asked for, a decided one confirms the last entry, or waits
abbrev pub step_by : Bool → Verdict → Bool → Step
step_by double v confirming = if double && is_decided v then (if confirming then Confirm else First) else Single

-- What every journal keeps (the invariant of `Journal`, which `Journal::entries` tells in its clause `kept`).

-- the name of a reviewer
pub record IsReviewer (name : List ℕ) : Type 0 where
  pub some : 1 ≤ length name
  pub few : length name ≤ MOST_FIELD_BYTES
  pub text : IsUtf8 name

-- the steps of the later entries fit, each after all before it
abbrev pub all_fit : List Entry → List Entry → Bool
all_fit earlier [] = true
all_fit earlier (e ∷ later) = fits_after earlier e && all_fit (earlier ++ e ∷ []) later

-- a journal: its dates are days that never go back, its reviewers have names, and the step of each entry fits
pub record IsJournal (entries : List Entry) : Type 0 where
  pub few : length entries ≤ MOST_ENTRIES
  pub days : All (λ (e : Entry). IsDay e.date) entries
  pub dates : AllPairs (λ (x y : Entry). x.date ≤ℤ y.date) entries
  pub reviewers : All (λ (e : Entry). IsReviewer e.reviewer) entries
  pub steps : all_fit [] entries ≡ true

-- the pairs stand in files of so many records
pub record IsWithinFiles (rows_a rows_b : ℕ) (e : Entry) : Type 0 where
  pub of_a : e.a < rows_a
  pub of_b : e.b < rows_b
