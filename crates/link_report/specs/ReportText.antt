-- The text of the report of a run: its head of sixteen lines, and a row for each candidate that is not among the links
-- (`report_text`, its lone clause).
use Rattle.std.specs.Prelude.{ℕ, ◌*◌, ◌/◌, Bool, length, List, [], ◌∷◌, ◌++◌, codes, decimal, if◌then◌else◌, ◌==◌, zero, suc}
use Rattle.std.specs.Fmt.{signed_decimal}
use Rattle.std.specs.List.{concat, flat_map}
use Rattle.csv.specs.Writing.{default_writer, row_text}
use Rattle.link_limits.specs.declared.TheConstants.{PER_MILLION}
use Rattle.link_base.specs.Words.{id_at, Record}
use Rattle.link_base.specs.declared.rule.Levels.{Levels}
use Rattle.link_report.specs.declared.report.Dropped.{Dropped}
use Rattle.link_report.specs.declared.report.Report.{Report}

-- a line: a name, and numbers, each after a space
abbrev pub line : List ℕ → List (List ℕ) → List ℕ
line name numbers = name ++ (flat_map (λ number. 32 ∷ number) numbers ++ 10 ∷ [])

-- the files: their records, and the dates in them that could not be read
abbrev pub file_lines : List Record → List Record → Report → List (List ℕ)
file_lines a b report =
    line (codes "rows") (decimal (length a) ∷ decimal (length b) ∷ [])
    ∷ line (codes "unreadable") (decimal report.unreadable_a ∷ decimal report.unreadable_b ∷ []) ∷ []

-- the compared pairs, how many have each decision, and what clerical review says of the possible links
abbrev pub pair_lines : Report → List (List ℕ)
pair_lines report =
    line (codes "pairs") (decimal report.pairs ∷ [])
    ∷ line (codes "link") (decimal report.link ∷ [])
    ∷ line (codes "possible") (decimal report.possible ∷ [])
    ∷ line (codes "nonlink") (decimal report.nonlink ∷ [])
    ∷ line (codes "open") (decimal report.undecided ∷ [])
    ∷ line (codes "entries") (decimal report.entries ∷ [])
    ∷ line (codes "idle") (decimal report.idle ∷ []) ∷ []

-- an attained level: its sum, the denominator, and both as whole parts per million, rounded down
abbrev pub level_line : List ℕ → ℕ → ℕ → List ℕ
level_line name sum denominator =
    line name (decimal sum ∷ decimal denominator ∷ decimal (sum * PER_MILLION / denominator) ∷ [])

abbrev pub level_lines : Levels → List (List ℕ)
level_lines levels =
    level_line (codes "mu") levels.mu levels.denominator
    ∷ level_line (codes "lambda") levels.lambda levels.denominator
    ∷ level_line (codes "possible_m") levels.possible_m levels.denominator
    ∷ level_line (codes "possible_u") levels.possible_u levels.denominator ∷ []

-- the links, the sum of their values in eighths of a bit, and the candidates that are not among them
abbrev pub link_lines : Report → List (List ℕ)
link_lines report =
    line (codes "links") (decimal report.links ∷ [])
    ∷ line (codes "total") (signed_decimal report.total ∷ [])
    ∷ line (codes "dropped") (decimal (length report.dropped.items) ∷ []) ∷ []

-- the first sixteen lines
abbrev pub report_head : List Record → List Record → Report → List ℕ
report_head a b report = concat (file_lines a b report ++ pair_lines report ++ level_lines report.levels ++ link_lines report)

-- why a candidate is not among the links: a conflict with links, or its weight
abbrev pub cause_of_drop : Bool → List ℕ
cause_of_drop conflict = if conflict then codes "conflict" else codes "weight"

abbrev pub dropped_row : List Record → List Record → Dropped → List ℕ
dropped_row a b dropped = row_text default_writer (id_at a dropped.at.a ∷ id_at b dropped.at.b ∷ cause_of_drop dropped.conflict ∷ [])

abbrev pub text_of_report : List Record → List Record → Report → List ℕ
text_of_report a b report = report_head a b report ++ flat_map (dropped_row a b) report.dropped.items

-- The first lines of a text: what `first_lines` gives, and that those of a report are its head (law `head_of_report`).

-- the front of a text through so many line feeds, or the whole text where it has fewer
abbrev pub first_lines_of : ℕ → List ℕ → List ℕ
first_lines_of zero text = []
first_lines_of (suc count) [] = []
first_lines_of (suc count) (c ∷ text) = c ∷ (if c == 10 then first_lines_of count text else first_lines_of (suc count) text)
