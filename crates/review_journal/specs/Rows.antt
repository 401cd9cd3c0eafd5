-- The columns of a journal file, and the words of its rows. A journal of the second version says at each entry which step
-- of review it is; one of the first version has single verdicts (`read_journal` and `journal_text`).
use Rattle.std.specs.Prelude.{ℕ, List, [], ◌∷◌, Bool, true, false, bytes_eq, codes, if◌then◌else◌, slice_index_or, Option, Some, None}
use Rattle.link_base.specs.declared.rule.Step.{Step}
use Rattle.link_base.specs.declared.rule.Step.TheVariants.{Single, First, Confirm}
use Rattle.link_base.specs.declared.rule.Verdict.{Verdict}
use Rattle.link_base.specs.declared.rule.Verdict.TheVariants as verdict

-- the columns of a journal: of the second version, and of the first
abbrev pub journal_columns : Bool → List (List ℕ)
journal_columns true =
    codes "number" ∷ codes "date" ∷ codes "reviewer" ∷ codes "step" ∷ codes "id_a" ∷ codes "id_b" ∷ codes "verdict" ∷ []
journal_columns false = codes "number" ∷ codes "date" ∷ codes "reviewer" ∷ codes "id_a" ∷ codes "id_b" ∷ codes "verdict" ∷ []

-- the fields of a row of a journal, as they are written; a journal of the first version names no step
pub record Written : Type 0 where
  pub number : List ℕ
  pub date : List ℕ
  pub reviewer : List ℕ
  pub step : Option (List ℕ)
  pub id_a : List ℕ
  pub id_b : List ℕ
  pub verdict : List ℕ

abbrev pub written_in : Bool → List (List ℕ) → Written
written_in true fields = record {
  number = slice_index_or fields 0 [];
  date = slice_index_or fields 1 [];
  reviewer = slice_index_or fields 2 [];
  step = Some (slice_index_or fields 3 []);
  id_a = slice_index_or fields 4 [];
  id_b = slice_index_or fields 5 [];
  verdict = slice_index_or fields 6 [];
}
written_in false fields = record {
  number = slice_index_or fields 0 [];
  date = slice_index_or fields 1 [];
  reviewer = slice_index_or fields 2 [];
  step = None;
  id_a = slice_index_or fields 3 [];
  id_b = slice_index_or fields 4 [];
  verdict = slice_index_or fields 5 [];
}

-- the word of a verdict, and the verdict that a word names
abbrev pub verdict_word : Verdict → List ℕ
verdict_word verdict.Link = codes "link"
verdict_word verdict.NonLink = codes "nonlink"
verdict_word verdict.Undecided = codes "open"

abbrev pub verdict_named : List ℕ → Option Verdict
verdict_named word =
    if bytes_eq word (codes "link") then Some verdict.Link
    else if bytes_eq word (codes "nonlink") then Some verdict.NonLink
    else if bytes_eq word (codes "open") then Some verdict.Undecided
    else None

-- the word of a step, and the step that a word names; where there is none, the verdict stands alone
abbrev pub step_word : Step → List ℕ
step_word Single = codes "single"
step_word First = codes "first"
step_word Confirm = codes "confirm"

abbrev pub step_named : Option (List ℕ) → Option Step
step_named None = Some Single
step_named (Some word) =
    if bytes_eq word (codes "single") then Some Single
    else if bytes_eq word (codes "first") then Some First
    else if bytes_eq word (codes "confirm") then Some Confirm
    else None
