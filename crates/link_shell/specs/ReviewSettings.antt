-- The command `review SETTINGS VERDICTS DATE REVIEWER`: its words, its steps and what is due, by the part `follows` of the clause `performed` of
-- `perform`: new verdicts on possible links, added to the journal.
use Rattle.std.specs.Prelude.{ℕ, ℤ, pos, List, length, Bool, ◌==◌, ◌&&◌, is_some, unwrap_or, Ok}
use Rattle.link_base.specs.Words.{IsDay}
use Rattle.review_journal.specs.Verdict.{IsReviewer}
use Rattle.link_plan.specs.declared.plan.Plan.{Plan}
use Rattle.value_forms.specs.Days.{iso_day}
use Rattle.link_core.specs.Review.{reviewed_lines_of}
use Rattle.command_scripts.specs.Words.{Script, Put, ◌>>=◌, file, gives, Steps}
use Rattle.command_steps.specs.Reviewed.{journal_plan, put_of_journal, Review, reviewed_plan}
use Rattle.link_base.specs.declared.fault.FileRole.TheVariants as role
use Rattle.link_shell.specs.SettingsCommands.{is_one_put}
use Rattle.link_shell.specs.Words.{is_settings_word, is_short_word, word}
use Rattle.link_shell.specs.declared.review_settings.ReviewRequest.{ReviewRequest}

-- a settings file, a file of verdicts, a civil date as YYYY-MM-DD, and a reviewer
abbrev pub are_review_words : List (List ℕ) → Bool
are_review_words words =
    (length words == 5) && is_settings_word (word words 1) && is_short_word (word words 2) && is_some (iso_day (word words 3))
    && is_short_word (word words 4)

-- the files, the day, and the reviewer
pub record NewReview : Type 0 where
  pub name : List ℕ
  pub verdicts : List ℕ
  pub date : ℤ
  pub reviewer : List ℕ

abbrev pub review_in : List (List ℕ) → NewReview
review_in words = record {
  name = word words 1;
  verdicts = word words 2;
  date = unwrap_or (iso_day (word words 3)) (pos 0);
  reviewer = word words 4;
}

-- machinery: the words as a body holds them
abbrev pub review_of_request : ReviewRequest → NewReview
review_of_request r = record { name = r.name.now; verdicts = r.verdicts.now; date = r.date; reviewer = r.reviewer.now }

-- machinery: the day that was read is one of the years 0001 to 9999, and the reviewer has a name
pub record IsReviewRequest (r : ReviewRequest) : Type 0 where
  pub day : IsDay r.date
  pub reviewer : IsReviewer r.reviewer.now

-- new verdicts, and the text of the journal with them, within the limit of a file
abbrev pub added_verdicts : NewReview → Bool → Review → Steps (List ℕ)
added_verdicts w double review = do
  verdicts ← file role.Verdicts w.verdicts
  gives (reviewed_lines_of double w.date w.reviewer review.files review.decided.possible review.journal verdicts)

-- the decisions of a plan's rule, its journal, and the text of this with the new verdicts
abbrev pub reviewed_journal : NewReview → Plan → Steps (List ℕ)
reviewed_journal w plan = do
  reviewed ← reviewed_plan plan
  added_verdicts w plan.terms.double reviewed

-- the plan, which names a journal, the decisions of its rule on the compared pairs, the journal, the new verdicts, and the text of
-- both within the limit of a file
abbrev pub review_script : NewReview → Script
review_script w = record {
  Found = Put;
  steps = do
    plan ← journal_plan w.name
    text ← reviewed_journal w plan
    gives (Ok (put_of_journal plan text));
  due = is_one_put;
}
