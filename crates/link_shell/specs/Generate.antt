-- The command `generate NUMBER`: its words, its steps and what is due, by the part `follows` of the clause `performed` of `perform`. A made input
-- of so many rows in each file is run in memory, and the first lines of its report are printed.
use Rattle.std.specs.Prelude.{◌≡◌, ◌≤◌, ◌==◌, ◌&&◌, ℕ, List, [], Bool, length, nat_le, Result, Ok, ◌+◌, drop}
use Rattle.link_limits.specs.declared.TheConstants.{MOST_DISTINCT_BYTES, MOST_ROWS, MOST_NAME_BYTES}
use Rattle.link_base.specs.Words.{and_then}
use Rattle.link_base.specs.declared.fault.Fault.{Fault}
use Rattle.link_core.specs.Rules.{decided, counted_by}
use Rattle.link_core.specs.Prepared.{prepared}
use Rattle.link_core.specs.Results.{AreRunTexts, RunTexts}
use Rattle.link_report.specs.ReportText.{first_lines_of}
use Rattle.settings.specs.Settings.{settings}
use Rattle.link_plan.specs.declared.plan.Plan.{Plan}
use Rattle.workload.specs.Made.{text_of_a, text_of_b, text_of_sample, text_of_settings}
use Rattle.standard_files.specs.Files.{StandardPair}
use Rattle.command_scripts.specs.Words.{Script, Due, prints, is_printed, gives, ◌>>=◌}
use Rattle.csv_rows.specs.Numbers.{is_decimal, number_in}
use Rattle.command_steps.specs.Reviewed.{ReviewedPlan, SharedDecisions}
use Rattle.command_scripts.specs.declared.ends.Ended.TheVariants.{Done}
use Rattle.link_shell.specs.Words.{word, is_short_word}
use Rattle.link_shell.specs.declared.generate.TheConstants.{HEAD_LINES}
use Rattle.link_shell.specs.declared.keys.TheConstants.{HELP}
use Rattle.std.specs.List.{list_all}
use Rattle.link_core.specs.NameKeys.{keys_text}
use Rattle.link_shell.specs.declared.words.TheConstants.{MOST_LISTED}
use Rattle.link_core.specs.Pairs.{rows_of_pairs}
use Rattle.command_steps.specs.Front.{both_files}
use Rattle.link_shell.specs.declared.pairs_columns.ColumnRequest.{ColumnRequest}

-- 2 to 100,000, without a leading zero
abbrev pub is_rows_word : List ℕ → Bool
is_rows_word w = is_decimal w && nat_le 2 (number_in w) && nat_le (number_in w) MOST_ROWS

abbrev pub are_generate_words : List (List ℕ) → Bool
are_generate_words words = (length words == 2) && is_rows_word (word words 1)

abbrev pub rows_asked : List (List ℕ) → ℕ
rows_asked words = number_in (word words 1)

-- machinery: the number that was read
pub record IsMadeNumber (rows : ℕ) : Type 0 where
  pub some : 2 ≤ rows
  pub few : rows ≤ MOST_ROWS

-- the shares of a plan's fields by a sample, and the decisions of its rule on the compared pairs
abbrev pub decided_sample : Plan → StandardPair → List ℕ → Result SharedDecisions Fault
decided_sample plan files sample =
    and_then (counted_by plan files sample) (λ shares.
    and_then (decided plan files shares) (λ decisions.
    Ok (record { shares = shares; decided = decisions })))

-- the plan of these settings with the decisions of its rule on the compared pairs of two files, by this sample, and no journal
abbrev pub decided_input : List ℕ → List ℕ → List ℕ → List ℕ → Result ReviewedPlan Fault
decided_input bytes a b sample =
    and_then (settings bytes) (λ plan.
    and_then (prepared plan MOST_DISTINCT_BYTES a b) (λ files.
    and_then (decided_sample plan files sample) (λ found.
    Ok (record { plan = plan; review = record { files = files; shares = found.shares; decided = found.decided; journal = [] } }))))

-- the lines of the report of a run up to its dropped candidates of a run are printed
abbrev pub head_is_printed : ReviewedPlan → Due → Type 0
head_is_printed found due =
    (texts : RunTexts) × AreRunTexts found.plan found.review.files found.review.decided.rule found.review.journal texts
    × (due ≡ prints Done (first_lines_of HEAD_LINES texts.report))

abbrev pub generate_script : ℕ → Script
generate_script rows = record {
  Found = ReviewedPlan;
  steps = gives (decided_input (text_of_settings rows) (text_of_a rows) (text_of_b rows) (text_of_sample rows));
  due = head_is_printed;
}

-- The command `keys WORD..`: its words, its steps and what is due, by the part `follows` of the clause `performed` of `perform`.

-- a verb, and 1 to 100 words of at most 255 bytes
abbrev pub are_keys_words : List (List ℕ) → Bool
are_keys_words words =
    nat_le 2 (length words) && nat_le (length words) (MOST_LISTED + 1) && list_all (λ w. nat_le (length w) MOST_NAME_BYTES) (drop 1 words)

-- the text of the words: no step is a load
abbrev pub keys_script : List (List ℕ) → Script
keys_script words = record { Found = List ℕ; steps = gives (Ok (keys_text words)); due = is_printed }

-- The command `help`: the commands, a line each, and the statuses, are printed.
abbrev pub help_script : Script
help_script = record { Found = List ℕ; steps = gives (Ok HELP.now); due = is_printed }

-- The command `pairs A B COLUMN`: its words, its steps and what is due, by the part `follows` of the clause `performed` of `perform`.

-- the files and the column
pub record Columns : Type 0 where
  pub a : List ℕ
  pub b : List ℕ
  pub column : List ℕ

abbrev pub are_column_words : List (List ℕ) → Bool
are_column_words words =
    (length words == 4) && is_short_word (word words 1) && is_short_word (word words 2) && is_short_word (word words 3)

abbrev pub columns_in : List (List ℕ) → Columns
columns_in words = record { a = word words 1; b = word words 2; column = word words 3 }

-- machinery: the words as a body holds them
abbrev pub columns_of_request : ColumnRequest → Columns
columns_of_request r = record { a = r.a.now; b = r.b.now; column = r.column.now }

-- the loads of A and of B, the faults of A, those of B, and then the pairs
abbrev pub columns_script : Columns → Script
columns_script w = record {
  Found = List ℕ;
  steps = do
    inputs ← both_files w.a w.b
    gives (rows_of_pairs w.column inputs.a inputs.b);
  due = is_printed;
}
