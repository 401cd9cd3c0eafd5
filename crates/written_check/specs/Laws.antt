-- The laws of verified files: what is verified is greatest (`verified_is_greatest`), and what a run writes is verified
-- (`written_is_verified`), each by its lone clause; and what is verified has the rows of a rule, of links and of prices that certify them,
-- whoever wrote them (`verified_means`).
use Rattle.std.specs.Prelude.{◌≡◌, ℤ, All, AllPairs, Bool, List, length, map, Ok, ◌<◌, ◌≤◌, ◌≤ℤ◌, ◌^◌, pos, neg_ℤ}
use Rattle.price_check.specs.Assignment.{Certifies, IsBefore, IsGreatest, IsOneToOne, IsWithin}
use Rattle.file_reader.specs.Words.{records_in}
use Rattle.link_base.specs.Words.{HaveDistinctIds, Record, IsWithinRanges}
use Rattle.link_base.specs.declared.rule.Candidate.{Candidate}
use Rattle.link_base.specs.declared.rule.RuleCell.{RuleCell}
use Rattle.link_report.specs.LinksText.{link_fields, links_header, text_of_links, prices_header, text_of_prices, cell_fields, rule_header, text_of_rule}
use Rattle.link_report.specs.Reading.{rows_of_prices, rows_under}
use Rattle.price_check.specs.Verdict.{HasAllowedValue}
use Rattle.written_check.specs.Verified.{verified, WrittenTexts}
use Rattle.link_limits.specs.declared.TheConstants.{MOST_FIELD_BYTES, MOST_FIELDS, MOST_PATTERNS, MOST_ROWS, MOST_VALUE, MOST_WRITTEN_BYTES}

-- files that are verified prove links that are written there and are greatest: `verified_is_greatest`
pub record ProvesLinks (candidates : List Candidate) (a b : List Record) (texts : WrittenTexts) (links : List Candidate) : Type 0 where
  pub rows : rows_under links_header (records_in 44 texts.links) ≡ Ok (map (link_fields a b) links)
  pub greatest : IsGreatest candidates links

abbrev pub VerifiedIsGreatest : Type 0
VerifiedIsGreatest =
    (rares : List Bool) (cells : List RuleCell) (candidates : List Candidate) (a b : List Record) (texts : WrittenTexts) (links : List Candidate)
    → verified rares cells candidates a b texts ≡ Ok links → ProvesLinks candidates a b texts links

-- what a run writes is verified: `written_is_verified`
abbrev pub written_texts : List Bool → List RuleCell → List Candidate → List ℤ → List ℤ → List Record → List Record → WrittenTexts
written_texts rares cells links prices_a prices_b a b = record {
  rule = text_of_rule rares cells;
  links = text_of_links a b links;
  prices = text_of_prices prices_a prices_b a b;
}

-- candidates between records of two files with distinct ids, rising, with values that are allowed
pub record AreCandidatesOf (a b : List Record) (candidates : List Candidate) : Type 0 where
  pub distinct_a : HaveDistinctIds a
  pub distinct_b : HaveDistinctIds b
  pub rising : AllPairs IsBefore candidates
  pub within : All (IsWithin (length a) (length b)) candidates
  pub allowed : All HasAllowedValue candidates

abbrev pub WrittenIsVerified : Type 0
WrittenIsVerified =
    (rares : List Bool) (cells : List RuleCell) (candidates links : List Candidate) (prices_a prices_b : List ℤ) (a b : List Record)
    → AreCandidatesOf a b candidates → IsOneToOne candidates links → Certifies candidates links prices_a prices_b
    → length prices_a ≡ length a → length prices_b ≡ length b
    → verified rares cells candidates a b (written_texts rares cells links prices_a prices_b a b) ≡ Ok links

-- texts have exactly these rows under their headers, in any form that CSV allows: those of a rule's cells, of links, and of the prices
-- that are not 0
pub record HaveRows (rares : List Bool) (cells : List RuleCell) (links : List Candidate) (prices_a prices_b : List ℤ) (a b : List Record) (texts : WrittenTexts) : Type 0 where
  pub of_rule : rows_under rule_header (records_in 44 texts.rule) ≡ Ok (map (cell_fields rares) cells)
  pub of_links : rows_under links_header (records_in 44 texts.links) ≡ Ok (map (link_fields a b) links)
  pub of_prices : rows_under prices_header (records_in 44 texts.prices) ≡ Ok (rows_of_prices prices_a prices_b a b)

-- texts have the rows of cells, of one-to-one links of candidates, and of prices, one for each record, that certify these links
pub record HaveCertifiedRows (rares : List Bool) (cells : List RuleCell) (candidates : List Candidate) (a b : List Record) (texts : WrittenTexts) (links : List Candidate) : Type 0 where
  pub prices_a : List ℤ
  pub prices_b : List ℤ
  pub rows : HaveRows rares cells links prices_a prices_b a b texts
  pub one_to_one : IsOneToOne candidates links
  pub certified : Certifies candidates links prices_a prices_b
  pub priced_a : length prices_a ≡ length a
  pub priced_b : length prices_b ≡ length b

-- what the five steps of `verified` come to: clauses `rows` and `verified` of `verified_means`
abbrev pub VerifiedHaveRows : Type 0
VerifiedHaveRows =
    (rares : List Bool) (cells : List RuleCell) (candidates : List Candidate) (a b : List Record) (texts : WrittenTexts) (links : List Candidate)
    → verified rares cells candidates a b texts ≡ Ok links → HaveCertifiedRows rares cells candidates a b texts links

abbrev pub RowsAreVerified : Type 0
RowsAreVerified =
    (rares : List Bool) (cells : List RuleCell) (candidates : List Candidate) (a b : List Record) (texts : WrittenTexts) (links : List Candidate)
    → AreCandidatesOf a b candidates → HaveCertifiedRows rares cells candidates a b texts links → verified rares cells candidates a b texts ≡ Ok links

-- How long written files may be, and what keeps them so: the law `written_is_short` says that what a run writes is no longer than a file
-- that is verified may be.

-- each file may be verified
pub record AreShort (texts : WrittenTexts) : Type 0 where
  pub rule : length texts.rule ≤ MOST_WRITTEN_BYTES
  pub links : length texts.links ≤ MOST_WRITTEN_BYTES
  pub prices : length texts.prices ≤ MOST_WRITTEN_BYTES

-- a cell of a pattern of six fields at most: its chances are below 2 ^ 64
pub record IsSmallCell (cell : RuleCell) : Type 0 where
  pub pattern : cell.pattern < MOST_PATTERNS
  pub m : cell.m < 2 ^ 64
  pub u : cell.u < 2 ^ 64
  pub ranges : IsWithinRanges cell

-- the cells of a table of six fields at most
pub record AreSmallCells (rares : List Bool) (cells : List RuleCell) : Type 0 where
  pub fields : length rares ≤ MOST_FIELDS
  pub few : length cells ≤ MOST_PATTERNS
  pub each : All IsSmallCell cells

abbrev pub HasShortId : Record → Type 0
HasShortId r = length r.id ≤ MOST_FIELD_BYTES

-- the records of a file that is read: not too many, with ids that are not too long
pub record IsSmallFile (file : List Record) : Type 0 where
  pub few : length file ≤ MOST_ROWS
  pub ids : All HasShortId file

abbrev pub HasAllowedWeight : Candidate → Type 0
HasAllowedWeight c = (neg_ℤ (pos MOST_VALUE) ≤ℤ c.weight) × (c.weight ≤ℤ pos MOST_VALUE)

-- what a run writes may be verified: `written_is_short`
abbrev pub WrittenIsShort : Type 0
WrittenIsShort =
    (rares : List Bool) (cells : List RuleCell) (candidates links : List Candidate) (prices_a prices_b : List ℤ) (a b : List Record)
    → AreSmallCells rares cells → AreCandidatesOf a b candidates → All HasAllowedWeight candidates → IsSmallFile a → IsSmallFile b
    → IsOneToOne candidates links → Certifies candidates links prices_a prices_b
    → AreShort (written_texts rares cells links prices_a prices_b a b)
