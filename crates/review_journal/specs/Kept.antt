-- What review keeps: no entry of a journal is lost where new verdicts are added to it, and no verdict on another pair; and the text that
-- is written of it reads as its entries (law `no_verdict_is_lost`).
use Rattle.std.specs.Prelude.{◌≡◌, ◌++◌, ◌∷◌, ℕ, ℤ, List, Bool, false, All, map, Some, Ok}
use Rattle.link_base.specs.Words.{IsDay, Record}
use Rattle.link_base.specs.declared.rule.PairAt.{PairAt}
use Rattle.review_journal.specs.Batch.{added, with_verdicts, verdicts_of}
use Rattle.review_journal.specs.Verdict.{IsReviewer, verdict_on}
use Rattle.review_journal.specs.Reading.{journal_in, HasIds, text_of_journal}
use Rattle.review_journal.specs.declared.batch.NewVerdict.{NewVerdict}
use Rattle.review_journal.specs.declared.entry.Entry.{Entry}

-- what an entry says: a verdict on a pair
abbrev pub said_by : Entry → NewVerdict
said_by e = record { a = e.a; b = e.b; verdict = e.verdict }

-- an entry is of a reviewer and of a day
pub record IsSignedBy (name : List ℕ) (day : ℤ) (e : Entry) : Type 0 where
  pub by : e.reviewer ≡ name
  pub on : e.date ≡ day

-- none of the new verdicts is on a pair
abbrev pub NoneIsOn : List NewVerdict → ℕ → ℕ → Type 0
NoneIsOn batch a b = All (λ (v : NewVerdict). ¬ ((v.a ≡ a) × (v.b ≡ b))) batch

-- the old entries are in front; after them stands one for each new verdict, in order, by its reviewer and of its day, each with its step;
-- the verdict on each pair that no new one is on stays; and where one reviewer is enough, the last new verdict on a pair is its verdict
pub record KeepsAll (double : Bool) (day : ℤ) (name : List ℕ) (old : List Entry) (batch : List NewVerdict) (new : List Entry) : Type 0 where
  pub later : List Entry
  pub in_front : new ≡ old ++ later
  pub one_each : map said_by later ≡ batch
  pub signed : All (IsSignedBy name day) later
  pub steps : new ≡ with_verdicts double day name old batch
  pub others : (a b : ℕ) → NoneIsOn batch a b → verdict_on new a b ≡ verdict_on old a b
  pub latest : double ≡ false → (earlier : List NewVerdict) (v : NewVerdict) (rest : List NewVerdict) → batch ≡ earlier ++ v ∷ rest
      → NoneIsOn rest v.a v.b → verdict_on new v.a v.b ≡ Some v.verdict

-- new verdicts that are added to a journal that was read: its text reads as the entries that keep all
abbrev pub ReviewKeepsAll : Type 0
ReviewKeepsAll =
    (a b : List Record) (bytes : List ℕ) (old : List Entry) (verdicts : List ℕ) (batch : List NewVerdict)
    (double : Bool) (day : ℤ) (name : List ℕ) (possible : List PairAt) (new : List Entry)
    → HasIds a → HasIds b → IsDay day → IsReviewer name
    → journal_in a b bytes ≡ Ok old → verdicts_of a b verdicts ≡ Ok batch → added double day name possible old batch ≡ Ok new
    → (journal_in a b (text_of_journal a b new) ≡ Ok new) × KeepsAll double day name old batch new

-- a journal that was read: its text reads as its entries
abbrev pub MigrationKeepsAll : Type 0
MigrationKeepsAll =
    (a b : List Record) (bytes : List ℕ) (entries : List Entry) → HasIds a → HasIds b → journal_in a b bytes ≡ Ok entries
    → journal_in a b (text_of_journal a b entries) ≡ Ok entries
