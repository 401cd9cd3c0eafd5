-- The text of the final links: a header, and a row for each link (`links_text`, its lone clause).
use Rattle.std.specs.Prelude.{ℕ, Bool, List, [], ◌∷◌, ◌++◌, codes, if◌then◌else◌, ℤ, pos, not, filter, zip, decimal, ◌-◌, length, map}
use Rattle.std.specs.Fmt.{signed_decimal}
use Rattle.std.specs.List.{flat_map, range_with_len}
use Rattle.csv.specs.Writing.{default_writer, row_text}
use Rattle.link_base.specs.Words.{id_at, Record}
use Rattle.link_base.specs.declared.rule.Candidate.{Candidate}
use Rattle.std.specs.Ordering.{int_eq}
use Rattle.level_frontier.specs.declared.levels.FrontierRow.{FrontierRow}
use Rattle.link_limits.specs.declared.TheConstants.{WHOLE_RULE}
use Rattle.link_base.specs.declared.rule.Outcome.{Outcome}
use Rattle.link_base.specs.declared.rule.Outcome.TheVariants.{Agree, Disagree, Missing, Rare}
use Rattle.link_base.specs.declared.rule.RuleCell.{RuleCell}
use Rattle.patterns.specs.Patterns.{outcome_at}
use Rattle.link_report.specs.declared.open.PairRow.{PairRow}

-- what a link goes by: clerical review, or the rule
abbrev pub source_of_link : Bool → List ℕ
source_of_link reviewed = if reviewed then codes "review" else codes "rule"

abbrev pub links_header : List (List ℕ)
links_header = codes "id_a" ∷ codes "id_b" ∷ codes "weight" ∷ codes "value" ∷ codes "by" ∷ []

-- a link: the ids of its records, its weight and its value in eighths of a bit, and what it goes by
abbrev pub link_fields : List Record → List Record → Candidate → List (List ℕ)
link_fields a b link = id_at a link.a ∷ id_at b link.b ∷ signed_decimal link.weight ∷ signed_decimal link.value ∷ source_of_link link.reviewed ∷ []

abbrev pub link_row : List Record → List Record → Candidate → List ℕ
link_row a b link = row_text default_writer (link_fields a b link)

abbrev pub text_of_links : List Record → List Record → List Candidate → List ℕ
text_of_links a b links = row_text default_writer links_header ++ flat_map (link_row a b) links

-- The text of dual prices: a header, and a row for each record whose price is not 0 (`prices_text`, its lone clause).

abbrev pub prices_header : List (List ℕ)
prices_header = codes "side" ∷ codes "id" ∷ codes "price" ∷ []

-- a price is not 0
abbrev pub is_priced : ℤ × Record → Bool
is_priced priced = not (int_eq priced.0 (pos 0))

-- a priced record: its side, its id and its price in eighths of a bit
abbrev pub price_fields : List ℕ → ℤ × Record → List (List ℕ)
price_fields side priced = side ∷ priced.1.id ∷ signed_decimal priced.0 ∷ []

abbrev pub price_row : List ℕ → ℤ × Record → List ℕ
price_row side priced = row_text default_writer (price_fields side priced)

-- the rows of a side: its records in order, without those whose price is 0
abbrev pub price_rows : List ℕ → List ℤ → List Record → List ℕ
price_rows side prices file = flat_map (price_row side) (filter is_priced (zip prices file))

abbrev pub text_of_prices : List ℤ → List ℤ → List Record → List Record → List ℕ
text_of_prices prices_a prices_b a b =
    row_text default_writer prices_header ++ (price_rows (codes "A") prices_a a ++ price_rows (codes "B") prices_b b)

-- The text of the frontier of levels: a header, and a row for each asked level of links (`frontier_text`).

abbrev pub frontier_header : List (List ℕ)
frontier_header =
    codes "mu_ppm" ∷ codes "mu" ∷ codes "lambda" ∷ codes "possible_m" ∷ codes "possible_u" ∷ codes "denominator" ∷ codes "slack_m"
    ∷ codes "slack_u" ∷ []

-- an asked level in parts per million, the four sums over their denominator, and the slack in its unit
abbrev pub level_fields : ℕ → FrontierRow → List (List ℕ)
level_fields mu row =
    decimal mu ∷ decimal row.levels.mu ∷ decimal row.levels.lambda ∷ decimal row.levels.possible_m ∷ decimal row.levels.possible_u
    ∷ decimal row.levels.denominator ∷ decimal row.slack_m ∷ decimal row.slack_u ∷ []

abbrev pub level_row : ℕ × FrontierRow → List ℕ
level_row asked = row_text default_writer (level_fields asked.0 asked.1)

abbrev pub text_of_frontier : List ℕ → List FrontierRow → List ℕ
text_of_frontier mus rows = row_text default_writer frontier_header ++ flat_map level_row (zip mus rows)

-- The text of a decision rule: a header, and a row for each cell in the order of the table (`rule_text`).

-- the letter of an outcome: A, D, M or R
abbrev pub outcome_letter : Outcome → ℕ
outcome_letter Agree = 65
outcome_letter Disagree = 68
outcome_letter Missing = 77
outcome_letter Rare = 82

-- the letters of a comparison pattern, one for each field, of which these may be rare
abbrev pub outcome_letters : List Bool → ℕ → List ℕ
outcome_letters rares pattern = map (λ field. outcome_letter (outcome_at rares pattern field)) (range_with_len 0 (length rares))

abbrev pub rule_header : List (List ℕ)
rule_header = codes "pattern" ∷ codes "outcomes" ∷ codes "m" ∷ codes "u" ∷ codes "weight" ∷ codes "link" ∷ codes "possible" ∷ codes "nonlink" ∷ []

-- a cell: its pattern and outcomes, its chances m and u, its weight, and its shares of links, possible links and non-links
abbrev pub cell_fields : List Bool → RuleCell → List (List ℕ)
cell_fields rares c =
    decimal c.pattern ∷ outcome_letters rares c.pattern ∷ decimal c.m ∷ decimal c.u ∷ signed_decimal c.weight ∷ decimal c.link
    ∷ decimal (WHOLE_RULE - c.link - c.nonlink) ∷ decimal c.nonlink ∷ []

abbrev pub cell_row : List Bool → RuleCell → List ℕ
cell_row rares c = row_text default_writer (cell_fields rares c)

abbrev pub text_of_rule : List Bool → List RuleCell → List ℕ
text_of_rule rares cells = row_text default_writer rule_header ++ flat_map (cell_row rares) cells

-- The text of the possible links that wait for a verdict: a header, and a row for each pair (`open_text`, its lone clause).

abbrev pub open_header : List (List ℕ)
open_header = codes "id_a" ∷ codes "id_b" ∷ codes "pattern" ∷ codes "weight" ∷ []

-- a pair: the ids of its records, its comparison pattern and its weight
abbrev pub open_row : List Record → List Record → PairRow → List ℕ
open_row a b row =
    row_text default_writer (id_at a row.at.a ∷ id_at b row.at.b ∷ decimal row.pattern ∷ signed_decimal row.weight ∷ [])

abbrev pub text_of_open : List Record → List Record → List PairRow → List ℕ
text_of_open a b rows = row_text default_writer open_header ++ flat_map (open_row a b) rows
