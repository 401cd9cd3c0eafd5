-- What clerical review makes of a journal over prepared files: its entries (`journal_in_files`), its text (`journal_lines`),
-- its text with new verdicts (`add_verdicts`), each by its clause `answer`, and what is open (`open_lines`).
use Rattle.std.specs.Prelude.{ℕ, ℤ, List, Bool, true, false, filter, length, map, nat_le, if◌then◌else◌, Option, Some, None, Result, Ok, Err, All}
use Rattle.link_limits.specs.declared.TheConstants.{MOST_FILE_BYTES}
use Rattle.link_base.specs.Words.{and_then}
use Rattle.link_base.specs.declared.fault.Fault.{Fault}
use Rattle.link_base.specs.declared.rule.Decision.TheVariants.{Possible}
use Rattle.link_base.specs.declared.rule.PairAt.{PairAt}
use Rattle.link_base.specs.declared.rule.Verdict.{Verdict}
use Rattle.link_base.specs.declared.rule.Verdict.TheVariants.{Undecided}
use Rattle.review_journal.specs.Batch.{added, verdicts_of}
use Rattle.review_journal.specs.Verdict.{IsWithinFiles, verdict_on}
use Rattle.review_journal.specs.declared.entry.Entry.{Entry}
use Rattle.review_journal.specs.Reading.{journal_in, text_of_journal}
use Rattle.link_report.specs.LinksText.{text_of_open}
use Rattle.link_report.specs.declared.open.PairRow.{PairRow}
use Rattle.pair_decisions.specs.Words.{cell_of}
use Rattle.link_core.specs.Rules.{Decisions}
use Rattle.standard_files.specs.Files.{StandardPair}
use Rattle.link_base.specs.declared.fault.Fault.TheVariants as fault
use Rattle.link_base.specs.declared.fault.FileRole.TheVariants as role

-- the journal in these bytes, over prepared files
abbrev pub journal_in_files : StandardPair → List ℕ → Result (List Entry) Fault
journal_in_files files bytes = journal_in files.a.records files.b.records bytes

-- the entries are on pairs of these files
abbrev pub IsJournalOf : StandardPair → List Entry → Type 0
IsJournalOf files entries = All (IsWithinFiles (length files.a.records) (length files.b.records)) entries

-- a text of a journal that can be loaded again
abbrev pub text_within : List ℕ → Result (List ℕ) Fault
text_within text = if nat_le (length text) MOST_FILE_BYTES then Ok text else Err (fault.FileTooLong role.Journal MOST_FILE_BYTES)

-- the text of a journal over prepared files
abbrev pub journal_lines_of : StandardPair → List Entry → Result (List ℕ) Fault
journal_lines_of files entries = text_within (text_of_journal files.a.records files.b.records entries)

-- the text of a journal with the new verdicts in these bytes
abbrev pub reviewed_lines_of : Bool → ℤ → List ℕ → StandardPair → List PairAt → List Entry → List ℕ → Result (List ℕ) Fault
reviewed_lines_of double date reviewer files possible entries bytes =
    and_then (verdicts_of files.a.records files.b.records bytes) (λ batch.
    and_then (added double date reviewer possible entries batch) (λ all.
    journal_lines_of files all))

-- a pair is open: no entry names it, or its verdict is none yet
abbrev pub is_open : Option Verdict → Bool
is_open None = true
is_open (Some Undecided) = true
is_open (Some v) = false

-- the possible links that are open
abbrev pub open_pairs : List Entry → List PairAt → List PairAt
open_pairs entries possible = filter (λ (at : PairAt). is_open (verdict_on entries at.a at.b)) possible

-- a possible link with its pattern, the weight of the pattern's cell, and its verdict
abbrev pub open_row_of : Decisions → List Entry → PairAt → PairRow
open_row_of d entries at =
    let pattern = d.rule.pattern at in
    record {
      at = at;
      pattern = pattern;
      weight = (cell_of d.rule.cells pattern).weight;
      decision = Possible;
      verdict = verdict_on entries at.a at.b;
    }

-- the rows of what is open, rising, and their text
abbrev pub open_rows_of : Decisions → List Entry → List PairRow
open_rows_of d entries = map (open_row_of d entries) (open_pairs entries d.possible)

abbrev pub open_text_of : StandardPair → Decisions → List Entry → List ℕ
open_text_of files d entries = text_of_open files.a.records files.b.records (open_rows_of d entries)
