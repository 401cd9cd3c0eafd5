-- The candidates for links among decided pairs: the links by rule, and the possible links that clerical review calls links,
-- each with what it is worth (Fellegi and Sunter 1969, section 2). `candidates_among` carries it (clauses
-- `candidates` and `most`).
use Rattle.std.specs.Prelude.{◌≡◌, ◌≤◌, ◌+ℤ◌, ◌≤ℤ◌, ℕ, ℤ, pos, true, false, List, All, AllPairs, filter_map, length, Option, Some, None, ◌==◌, ◌&&◌, ◌<◌, Bool, filter, int_lt, map, not}
use Rattle.link_limits.specs.declared.TheConstants.{GREATEST_WEIGHT, LEAST_WEIGHT, MOST_PAIRS}
use Rattle.assignment.specs.Solution.{HasSmallValue}
use Rattle.price_check.specs.Assignment.{IsBefore, IsWithin, Certifies, greatest_value, IsGreatest, worth, CertifiesWithin, IsGreatestWithin}
use Rattle.link_base.specs.declared.rule.Candidate.{Candidate}
use Rattle.link_base.specs.declared.rule.Decision.{Decision}
use Rattle.link_base.specs.declared.rule.PairAt.{PairAt}
use Rattle.link_base.specs.declared.rule.Verdict.{Verdict}
use Rattle.pair_decisions.specs.Words.{decision_at, cell_of, FileRule}
use Rattle.review_journal.specs.Verdict.{verdict_on}
use Rattle.review_journal.specs.declared.entry.Entry.{Entry}
use Rattle.std.specs.List.{list_any}
use Rattle.candidate_links.specs.declared.choice.ChosenLinks.{ChosenLinks}
use Rattle.candidate_links.specs.declared.choice_within.LinksWithin.{LinksWithin}
use Rattle.link_report.specs.declared.report.Dropped.{Dropped}
use Rattle.link_base.specs.declared.rule.Decision.TheVariants as decision
use Rattle.link_base.specs.declared.rule.Verdict.TheVariants as verdict

-- the weight of the comparison pattern of a pair, in eighths of a bit
abbrev pub weight_of_pair : FileRule → PairAt → ℤ
weight_of_pair rule at = (cell_of rule.cells (rule.pattern at)).weight

-- a link by rule is worth its weight
abbrev pub linked : PairAt → ℤ → Candidate
linked at weight = record { a = at.a; b = at.b; weight = weight; value = weight; reviewed = false }

-- a link by review is worth its weight and the award
abbrev pub reviewed : PairAt → ℤ → ℕ → Candidate
reviewed at weight award = record { a = at.a; b = at.b; weight = weight; value = weight +ℤ pos award; reviewed = true }

-- a possible link is a candidate where its verdict is that it is a link
abbrev pub candidate_by_verdict : Option Verdict → PairAt → ℤ → ℕ → Option Candidate
candidate_by_verdict (Some verdict.Link) at weight award = Some (reviewed at weight award)
candidate_by_verdict other at weight award = None

-- a link by rule as a candidate
abbrev pub of_link : FileRule → PairAt → Option Candidate
of_link rule at = Some (linked at (weight_of_pair rule at))

-- a possible link as a candidate, by the entries of a journal and the award
abbrev pub of_possible : FileRule → List Entry → ℕ → PairAt → Option Candidate
of_possible rule entries award at = candidate_by_verdict (verdict_on entries at.a at.b) at (weight_of_pair rule at) award

-- what a pair gives by its decision
abbrev pub by_decision : Decision → Option Candidate → Option Candidate → Option Candidate
by_decision decision.Link link possible = link
by_decision decision.Possible link possible = possible
by_decision decision.NonLink link possible = None

-- a pair of positions as a candidate, by a rule over two files, the entries of a journal and the award
abbrev pub candidate_of : FileRule → List Entry → ℕ → PairAt → Option Candidate
candidate_of rule entries award at =
    by_decision (decision_at rule at) (of_link rule at) (of_possible rule entries award at)

-- the candidates among pairs, in their order
abbrev pub candidates_of : FileRule → List Entry → ℕ → List PairAt → List Candidate
candidates_of rule entries award pairs = filter_map (candidate_of rule entries award) pairs

-- the greatest value that a candidate may have: the greatest weight and the award
abbrev pub most_value : ℕ → ℤ
most_value award = GREATEST_WEIGHT +ℤ pos award

-- a candidate's weight is that of six fields at most, and its value at most that and the award: law `candidates_are_bounded`
pub record HasBounds (award : ℕ) (c : Candidate) : Type 0 where
  pub weight_low : LEAST_WEIGHT ≤ℤ c.weight
  pub weight_high : c.weight ≤ℤ GREATEST_WEIGHT
  pub value_low : LEAST_WEIGHT ≤ℤ c.value
  pub value_high : c.value ≤ℤ most_value award

-- candidates as they are wanted, of which the links may be chosen: few, rising, between records that are there, with small values
pub record AreCandidates (rows_a rows_b : ℕ) (wanted cs : List Candidate) : Type 0 where
  pub same : cs ≡ wanted
  pub few : length cs ≤ MOST_PAIRS
  pub rising : AllPairs IsBefore cs
  pub within : All (IsWithin rows_a rows_b) cs
  pub small : All HasSmallValue cs

-- The links chosen among candidates, their prices, and the candidates that are not among them, each with the cause (`choose_links`,
-- clause `chosen`), and the links chosen within capacities (`choose_within`, clause `chosen`).

-- two candidates are of the same records
abbrev pub is_same_pair : Candidate → Candidate → Bool
is_same_pair x y = (x.a == y.a) && (x.b == y.b)

-- the records of a candidate are those of a link
abbrev pub is_chosen : List Candidate → Candidate → Bool
is_chosen links c = list_any (λ link. is_same_pair link c) links

-- a candidate that is no link: for a conflict with links, or for its weight where its value is at most 0
abbrev pub dropped : Candidate → Dropped
dropped c = record { at = record { a = c.a; b = c.b }; conflict = int_lt (pos 0) c.value }

-- the candidates that are not among the links, in their order
abbrev pub dropped_of : List Candidate → List Candidate → List Dropped
dropped_of candidates links = map dropped (filter (λ c. not (is_chosen links c)) candidates)

-- the choice among candidates of files of so many records: a greatest one-to-one list, a price for each record, which certify it and are
-- at most the greatest value of the candidates, the candidates that are not in it, and what it is worth
pub record IsChoice (rows_a rows_b : ℕ) (candidates : List Candidate) (c : ChosenLinks) : Type 0 where
  pub greatest : IsGreatest candidates c.links.items
  pub certified : Certifies candidates c.links.items c.prices_a.items c.prices_b.items
  pub priced_a : length c.prices_a.items ≡ rows_a
  pub priced_b : length c.prices_b.items ≡ rows_b
  pub most_a : All (λ price. price ≤ℤ greatest_value candidates) c.prices_a.items
  pub most_b : All (λ price. price ≤ℤ greatest_value candidates) c.prices_b.items
  pub dropped : c.dropped.items ≡ dropped_of candidates c.links.items
  pub total : c.total ≡ worth c.links.items

-- the choice within capacities: a greatest list within them, whose links stand in the files, and a price for each record, which certify it
pub record IsChoiceWithin (rows_a rows_b : ℕ) (capacities : List ℕ) (candidates : List Candidate) (c : LinksWithin) : Type 0 where
  pub greatest : IsGreatestWithin candidates capacities c.links.items
  pub certified : CertifiesWithin candidates capacities c.links.items c.prices_a.items c.prices_b.items
  pub priced_a : length c.prices_a.items ≡ rows_a
  pub priced_b : length c.prices_b.items ≡ rows_b
  pub in_a : All (λ (l : Candidate). l.a < rows_a) c.links.items
  pub in_b : All (λ (l : Candidate). l.b < rows_b) c.links.items
