-- The laws of certificates, each carried by a clause of a function that does nothing: `certified_is_greatest`,
-- `certificate_is_tight`, `prices_are_bounded`, `greatest_value_is_least` and `parts_together_are_certified`.
use Rattle.std.specs.Prelude.{◌≡◌, ◌≢◌, ℕ, ℤ, pos, ◌+ℤ◌, ◌≤ℤ◌, List, All, Contains, ◌↔◌, ◌<◌, length, ◌==◌, zero, suc, [], ◌∷◌, AllPairs, filter}
use Rattle.link_base.specs.declared.rule.Candidate.{Candidate}
use Rattle.price_check.specs.Assignment.{IsOneToOne, IsGreatest, Certifies, greatest_value, price_of, IsBefore, SharesNoRecord, CertifiesWithin, IsGreatestWithin, IsWithinCapacities}

-- weak duality: `certified_is_greatest`
abbrev pub CertifiedIsGreatest : Type 0
CertifiedIsGreatest =
    (candidates links : List Candidate) (prices_a prices_b : List ℤ) → IsOneToOne candidates links → Certifies candidates links prices_a prices_b → IsGreatest candidates links

-- complementary slackness at a record without a link: clause `unlinked` of `certificate_is_tight`
abbrev pub UnlinkedHasNoPrice : Type 0
UnlinkedHasNoPrice =
    (candidates links : List Candidate) (prices_a prices_b : List ℤ) → IsOneToOne candidates links → Certifies candidates links prices_a prices_b
    → (position : ℕ) → (All (λ c. c.a ≢ position) links → price_of prices_a position ≡ pos 0)
    × (All (λ c. c.b ≢ position) links → price_of prices_b position ≡ pos 0)

-- complementary slackness at a link: clause `linked` of `certificate_is_tight`
abbrev pub LinkedIsTight : Type 0
LinkedIsTight =
    (candidates links : List Candidate) (prices_a prices_b : List ℤ) → IsOneToOne candidates links → Certifies candidates links prices_a prices_b
    → All (λ c. (price_of prices_a c.a +ℤ price_of prices_b c.b) ≡ c.value) links

-- no price of a certificate is above the greatest of 0 and the links' values: clause `by_links` of `prices_are_bounded`
abbrev pub PricesAreBoundedByLinks : Type 0
PricesAreBoundedByLinks =
    (candidates links : List Candidate) (prices_a prices_b : List ℤ) → IsOneToOne candidates links → Certifies candidates links prices_a prices_b
    → (position : ℕ) → (price_of prices_a position ≤ℤ greatest_value links) × (price_of prices_b position ≤ℤ greatest_value links)

-- nor above the greatest of 0 and the candidates' values: clause `by_candidates` of `prices_are_bounded`
abbrev pub PricesAreBoundedByCandidates : Type 0
PricesAreBoundedByCandidates =
    (candidates links : List Candidate) (prices_a prices_b : List ℤ) → IsOneToOne candidates links → Certifies candidates links prices_a prices_b
    → (position : ℕ) → (price_of prices_a position ≤ℤ greatest_value candidates) × (price_of prices_b position ≤ℤ greatest_value candidates)

-- what bounds 0 and the value of each candidate bounds the greatest value of some of them: `greatest_value_is_least`
abbrev pub GreatestValueIsLeast : Type 0
GreatestValueIsLeast =
    (candidates links : List Candidate) (most : ℤ) → All (Contains candidates) links → pos 0 ≤ℤ most → All (λ c. c.value ≤ℤ most) candidates → greatest_value links ≤ℤ most

-- The laws of capacities, each carried by a clause of a function that does nothing: `certified_within_is_greatest` and
-- `single_capacities`.

-- weak duality: `certified_within_is_greatest`
abbrev pub CertifiedWithinIsGreatest : Type 0
CertifiedWithinIsGreatest =
    (candidates : List Candidate) (capacities : List ℕ) (links : List Candidate) (prices_a prices_b : List ℤ)
    → IsWithinCapacities candidates capacities links → CertifiesWithin candidates capacities links prices_a prices_b
    → IsGreatestWithin candidates capacities links

-- each record of B that is there has capacity 1, and the candidates are of records that are there
pub record AreSingle (candidates : List Candidate) (capacities : List ℕ) : Type 0 where
  pub single : All (λ n. n ≡ 1) capacities
  pub within : All (λ c. c.b < length capacities) candidates

-- with every capacity 1, the lists within capacities are the one-to-one lists: clause `lists` of `single_capacities`
abbrev pub SingleIsOneToOne : Type 0
SingleIsOneToOne =
    (candidates : List Candidate) (capacities : List ℕ) (links : List Candidate) → AreSingle candidates capacities → IsWithinCapacities candidates capacities links ↔ IsOneToOne candidates links

-- and the greatest ones are the greatest one-to-one lists: clause `greatest` of `single_capacities`
abbrev pub SingleIsGreatest : Type 0
SingleIsGreatest =
    (candidates : List Candidate) (capacities : List ℕ) (links : List Candidate) → AreSingle candidates capacities → IsGreatestWithin candidates capacities links ↔ IsGreatest candidates links

-- and the certificates are those of one-to-one lists: clause `certificates` of `single_capacities`
abbrev pub SingleCertifies : Type 0
SingleCertifies =
    (candidates : List Candidate) (capacities : List ℕ) (links : List Candidate) (prices_a prices_b : List ℤ) → AreSingle candidates capacities
    → length prices_b ≡ length capacities → CertifiesWithin candidates capacities links prices_a prices_b ↔ Certifies candidates links prices_a prices_b

-- Certificates of parts that share no record, put together: clause of `parts_together_are_certified`.

-- the prices of two lists, added record by record
abbrev pub added_prices : List ℤ → List ℤ → List ℤ
added_prices [] qs = qs
added_prices (p ∷ ps) [] = p ∷ ps
added_prices (p ∷ ps) (q ∷ qs) = (p +ℤ q) ∷ added_prices ps qs

-- the prices of the parts below n, put together record by record
abbrev pub prices_together : ℕ → (ℕ → List ℤ) → List ℤ
prices_together zero prices = []
prices_together (suc n) prices = added_prices (prices n) (prices_together n prices)

-- the members of a part, by the part's number
abbrev pub in_part : (Candidate → ℕ) → ℕ → List Candidate → List Candidate
in_part part number cs = filter (λ c. part c == number) cs

-- parts with numbers below n, of which no two share a record
pub record AreApart (part : Candidate → ℕ) (n : ℕ) (candidates : List Candidate) : Type 0 where
  pub below : All (λ c. part c < n) candidates
  pub apart : (x y : Candidate) → Contains candidates x → Contains candidates y → part x ≢ part y → SharesNoRecord x y

-- in each part the members of `links` are a one-to-one list that the part's prices certify
pub record AreCertifiedParts (candidates links : List Candidate) (part : Candidate → ℕ) (n : ℕ) (prices_a prices_b : ℕ → List ℤ) : Type 0 where
  pub apart : AreApart part n candidates
  pub one_to_one : (p : ℕ) → p < n → IsOneToOne (in_part part p candidates) (in_part part p links)
  pub certified : (p : ℕ) → p < n → Certifies (in_part part p candidates) (in_part part p links) (prices_a p) (prices_b p)

-- a rising list of candidates that is certified in each part is certified by the parts' prices together
abbrev pub PartsTogether : Type 0
PartsTogether =
    (candidates links : List Candidate) (part : Candidate → ℕ) (n : ℕ) (prices_a prices_b : ℕ → List ℤ) → All (Contains candidates) links
    → AllPairs IsBefore links → AreCertifiedParts candidates links part n prices_a prices_b → IsOneToOne candidates links
    × Certifies candidates links (prices_together n prices_a) (prices_together n prices_b)
