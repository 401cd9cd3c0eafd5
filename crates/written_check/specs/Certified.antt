-- What refutes links and prices that are read: the first candidate that the prices do not cover, and else two sums that differ
-- (`verify_sums`, clause `answer`).
use Rattle.std.specs.Prelude.{◌≡◌, ◌≤◌, ◌≤ℤ◌, ◌-◌, ◌&&◌, ◌+◌, ℕ, ℤ, pos, All, Bool, true, false, List, [], ◌∷◌, bytes_eq, codes, drop, if◌then◌else◌, length, nat_le, replicate, slice_index_or, slice_set, Option, Some, None, Result, Ok, Err, ◌+ℤ◌, AllPairs, Contains, find, int_le, not}
use Rattle.std.specs.List.{list_all}
use Rattle.std.specs.Ordering.{int_eq}
use Rattle.csv_rows.specs.Numbers.{is_decimal, number_in}
use Rattle.link_base.specs.Words.{and_then, position_of_id, Record}
use Rattle.link_limits.specs.declared.TheConstants.{MOST_VALUE}
use Rattle.link_report.specs.LinksText.{prices_header}
use Rattle.written_check.specs.LinkRows.{rows_of_file}
use Rattle.written_check.specs.declared.refutation.Refutation.{Refutation}
use Rattle.price_check.specs.Assignment.{IsBefore, price_of, price_sum, worth}
use Rattle.link_base.specs.declared.rule.Candidate.{Candidate}
use Rattle.link_base.specs.declared.rule.PairAt.{PairAt}
use Rattle.written_check.specs.declared.refutation.Refutation.TheVariants as refutation

-- What refutes written prices: the first row that is not a price of a record after those before it (`verify_prices`, clause `answer`).

-- a price for each record of A, and for each of B: 0 for those that are not listed
pub record PricePair : Type 0 where
  pub a : List ℤ
  pub b : List ℤ

abbrev pub no_prices : List Record → List Record → PricePair
no_prices a b = record { a = replicate (length a) (pos 0); b = replicate (length b) (pos 0) }

-- the price that a text writes in decimal digits, from 1 to the greatest that is allowed
abbrev pub price_in : List ℕ → Option ℕ
price_in text = if is_decimal text && nat_le 1 (number_in text) && nat_le (number_in text) MOST_VALUE then Some (number_in text) else None

-- these have no price
abbrev pub have_none : List ℤ → Bool
have_none prices = list_all (λ p. int_eq p (pos 0)) prices

-- the prices with that of the record at a position, which stands after each that has one
abbrev pub priced_at : List ℤ → Option ℕ → Option ℕ → Option (List ℤ)
priced_at prices (Some at) (Some price) = if have_none (drop at prices) then Some (slice_set prices at (pos price)) else None
priced_at prices (Some at) None = None
priced_at prices None price = None

-- the prices of a side with that of a row
abbrev pub side_priced : List Record → List (List ℕ) → List ℤ → Option (List ℤ)
side_priced file row prices = priced_at prices (position_of_id (slice_index_or row 1 []) file) (price_in (slice_index_or row 2 []))

abbrev pub with_a : PricePair → Option (List ℤ) → Option PricePair
with_a prices (Some of_a) = Some (record { a = of_a; b = prices.b })
with_a prices None = None

abbrev pub with_b : PricePair → Option (List ℤ) → Option PricePair
with_b prices (Some of_b) = Some (record { a = prices.a; b = of_b })
with_b prices None = None

-- the prices with that of a row: those of A come before those of B
abbrev pub row_priced : List Record → List Record → List (List ℕ) → PricePair → Option PricePair
row_priced a b row prices =
    if bytes_eq (slice_index_or row 0 []) (codes "A")
    then (if have_none prices.b then with_a prices (side_priced a row prices.a) else None)
    else if bytes_eq (slice_index_or row 0 []) (codes "B") then with_b prices (side_priced b row prices.b) else None

abbrev pub priced_more : (PricePair → Result PricePair Refutation) → ℕ → Option PricePair → Result PricePair Refutation
priced_more go number None = Err (refutation.Price number)
priced_more go number (Some prices) = go prices

-- the prices of rows, of which the first has the number, after those so far
abbrev pub prices_in : List Record → List Record → ℕ → PricePair → List (List (List ℕ)) → Result PricePair Refutation
prices_in a b number prices [] = Ok prices
prices_in a b number prices (row ∷ rows) = priced_more (λ more. prices_in a b (number + 1) more rows) number (row_priced a b row prices)

-- the prices of a written file
abbrev pub prices_verified : List Record → List Record → List ℕ → Result PricePair Refutation
prices_verified a b text = and_then (rows_of_file refutation.Price prices_header text) (λ rows. prices_in a b 1 (no_prices a b) rows)

-- machinery: prices are at least 0 and at most the greatest that is allowed
abbrev pub ArePrices : List ℤ → Type 0
ArePrices prices = All (λ p. (pos 0 ≤ℤ p) × (p ≤ℤ pos MOST_VALUE)) prices

-- machinery: the record before `next` has a price, if there is one, and none from there on has
pub record IsReadTo (prices : List ℤ) (next : ℕ) : Type 0 where
  pub within : next ≤ length prices
  pub last : 1 ≤ next → int_eq (slice_index_or prices (next - 1) (pos 0)) (pos 0) ≡ false
  pub none : have_none (drop next prices) ≡ true

-- the records of a candidate
abbrev pub pair_of : Candidate → PairAt
pair_of c = record { a = c.a; b = c.b }

-- the prices of the two records reach the candidate's value
abbrev pub is_covered : List ℤ → List ℤ → Candidate → Bool
is_covered prices_a prices_b c = int_le c.value (price_of prices_a c.a +ℤ price_of prices_b c.b)

abbrev pub first_uncovered : List Candidate → PricePair → Option Candidate
first_uncovered candidates prices = find (λ c. not (is_covered prices.a prices.b c)) candidates

-- the links, where they are worth what all prices add up to
abbrev pub balanced : List Candidate → ℤ → ℤ → Result (List Candidate) Refutation
balanced links total sum = if int_eq total sum then Ok links else Err (refutation.Sum total sum)

abbrev pub covered_then : Option Candidate → Result (List Candidate) Refutation → Result (List Candidate) Refutation
covered_then None rest = rest
covered_then (Some c) rest = Err (refutation.Uncovered (pair_of c))

-- the links, which the prices certify
abbrev pub sums_verified : List Candidate → List Candidate → PricePair → Result (List Candidate) Refutation
sums_verified candidates links prices =
    covered_then (first_uncovered candidates prices) (balanced links (worth links) (price_sum prices.a +ℤ price_sum prices.b))

-- machinery: links that were taken of candidates, rising by position
pub record AreTaken (candidates links : List Candidate) : Type 0 where
  pub among : All (Contains candidates) links
  pub rising : AllPairs IsBefore links
