-- The text of the compared pairs: a header, and a row for each pair, as a `PairsWriter` writes it row by row
-- (`PairsWriter::push`, clause `text`).
use Rattle.std.specs.Prelude.{ℕ, Bool, List, [], ◌∷◌, ◌++◌, codes, decimal, Option, Some, None, flat_map}
use Rattle.std.specs.Fmt.{signed_decimal}
use Rattle.csv.specs.Writing.{default_writer, row_text}
use Rattle.link_base.specs.Words.{id_at, Record}
use Rattle.link_base.specs.declared.rule.Decision.{Decision}
use Rattle.link_base.specs.declared.rule.Verdict.{Verdict}
use Rattle.link_report.specs.LinksText.{outcome_letters}
use Rattle.link_report.specs.declared.open.PairRow.{PairRow}
use Rattle.link_base.specs.declared.rule.PairAt.{PairAt}
use Rattle.link_base.specs.declared.rule.Decision.TheVariants as decision
use Rattle.link_base.specs.declared.rule.Verdict.TheVariants as verdict

abbrev pub pairs_header : List (List ℕ)
pairs_header =
    codes "id_a" ∷ codes "id_b" ∷ codes "pattern" ∷ codes "outcomes" ∷ codes "weight" ∷ codes "decision" ∷ codes "verdict" ∷ []

-- the word of a decision
abbrev pub decision_word : Decision → List ℕ
decision_word decision.Link = codes "link"
decision_word decision.Possible = codes "possible"
decision_word decision.NonLink = codes "nonlink"

-- the word of a verdict, and nothing where there is none
abbrev pub printed_verdict : Option Verdict → List ℕ
printed_verdict None = []
printed_verdict (Some verdict.Link) = codes "link"
printed_verdict (Some verdict.NonLink) = codes "nonlink"
printed_verdict (Some verdict.Undecided) = codes "open"

-- a pair: the ids of its records, its comparison pattern with the outcomes, its weight, its decision and its verdict
abbrev pub pair_fields : List Bool → List Record → List Record → PairRow → List (List ℕ)
pair_fields rares a b row =
    id_at a row.at.a ∷ id_at b row.at.b ∷ decimal row.pattern ∷ outcome_letters rares row.pattern ∷ signed_decimal row.weight
    ∷ decision_word row.decision ∷ printed_verdict row.verdict ∷ []

abbrev pub pair_row : List Bool → List Record → List Record → PairRow → List ℕ
pair_row rares a b row = row_text default_writer (pair_fields rares a b row)

abbrev pub text_of_pairs : List Bool → List Record → List Record → List PairRow → List ℕ
text_of_pairs rares a b rows = row_text default_writer pairs_header ++ flat_map (pair_row rares a b) rows

-- what is seen of a writer: which of its fields may be rare, and its text so far
pub record PairsWritten : Type 0 where
  pub rares : List Bool
  pub text : List ℕ

-- The texts of ids that are printed: lines of fields, as RFC 4180 has them (`IdsWriter`).

-- a line for the ids of a pair
abbrev pub ids_line : List Record → List Record → PairAt → List ℕ
ids_line a b at = row_text default_writer (id_at a at.a ∷ id_at b at.b ∷ [])

-- the header of a text of ids
abbrev pub ids_header : List ℕ
ids_header = row_text default_writer (codes "id_a" ∷ codes "id_b" ∷ [])

-- a header, and a line for each pair
abbrev pub ids_text : List Record → List Record → List PairAt → List ℕ
ids_text a b pairs = ids_header ++ flat_map (ids_line a b) pairs

-- a record of A with one of B
abbrev pub pair_with : ℕ → ℕ → PairAt
pair_with at j = record { a = at; b = j }
