-- No candidate is worth more than the greatest weight and the award.
use Rattle.std.proofs.Common.{◌≡◌, ◌∷◌, ℕ, ℤ, List, [], Bool, true, false, Option, Some, None, arith, subst, ◌≤ℤ◌, All, find, if◌then◌else◌, unwrap_or}
use Rattle.std.proofs.lemmas.Int.{ints}
use Rattle.std.proofs.lemmas.List.Elements.{All-contains_itself, All-head, All-nil, All-tail}
use Rattle.price_check.specs.Law.{GreatestValueIsLeast, PricesAreBoundedByCandidates}
use Rattle.price_check.specs.Assignment.{Certifies, IsOneToOne, price_of}
use Rattle.link_base.specs.Words.{empty_cell, IsWithinRanges}
use Rattle.link_base.specs.declared.rule.Candidate.{Candidate}
use Rattle.link_base.specs.declared.rule.Decision.{Decision}
use Rattle.link_base.specs.declared.rule.Decision.TheVariants as decision
use Rattle.link_base.specs.declared.rule.PairAt.{PairAt}
use Rattle.link_base.specs.declared.rule.RuleCell.{RuleCell}
use Rattle.link_base.specs.declared.rule.Verdict.{Verdict}
use Rattle.link_base.specs.declared.rule.Verdict.TheVariants as verdict
use Rattle.link_limits.specs.declared.TheConstants.{GREATEST_WEIGHT, LEAST_WEIGHT}
use Rattle.pair_decisions.specs.Words.{decision_at, cell_of, has_pattern, FileRule}
use Rattle.review_journal.specs.Verdict.{verdict_on}
use Rattle.review_journal.specs.declared.entry.Entry.{Entry}
use Rattle.candidate_links.specs.CandidateLaws.{all_if, some_same}
use Rattle.candidate_links.specs.Candidates.{by_decision, candidate_by_verdict, candidate_of, candidates_of, HasBounds, linked, most_value, weight_of_pair}

-- what holds of each cell, and of the one that stands for none, holds of the cell of a pattern
found_holds : (P : RuleCell → Type 0) (x : RuleCell) (rest : Option RuleCell) (t : Bool) → P x → P (unwrap_or rest empty_cell) → P (unwrap_or (if t then Some x else rest) empty_cell)
found_holds P x rest true here later = here
found_holds P x rest false here later = later

cell_holds : (P : RuleCell → Type 0) (cells : List RuleCell) (pattern : ℕ) → P empty_cell → All P cells → P (cell_of cells pattern)
cell_holds P [] pattern none all = none
cell_holds P (x ∷ xs) pattern none all =
    found_holds P x (find (has_pattern pattern) xs) (has_pattern pattern x) (All-head P x xs all) (cell_holds P xs pattern none (All-tail P x xs all))

bounds_by : (w : ℤ) (award : ℕ) (x c : Candidate) → HasBounds award x → Some x ≡ Some c → HasBounds award c
bounds_by w award x c h e = subst (HasBounds award) (some_same x c e) h

verdict_bounds : (v : Option Verdict) (at : PairAt) (w : ℤ) (award : ℕ) (c : Candidate) → LEAST_WEIGHT ≤ℤ w → w ≤ℤ GREATEST_WEIGHT → candidate_by_verdict v at w award ≡ Some c → HasBounds award c
verdict_bounds (Some verdict.Link) at w award c low high e =
    bounds_by w award _ c (record { weight_low = low; weight_high = high; value_low = omega (arith, ints, low); value_high = omega (arith, ints, high) }) e
verdict_bounds (Some verdict.NonLink) at w award c low high e = absurd (cc)
verdict_bounds (Some verdict.Undecided) at w award c low high e = absurd (cc)
verdict_bounds None at w award c low high e = absurd (cc)

decision_bounds : (d : Decision) (v : Option Verdict) (at : PairAt) (w : ℤ) (award : ℕ) (c : Candidate) → LEAST_WEIGHT ≤ℤ w → w ≤ℤ GREATEST_WEIGHT
    → by_decision d (Some (linked at w)) (candidate_by_verdict v at w award) ≡ Some c → HasBounds award c
decision_bounds decision.Link v at w award c low high e = bounds_by w award _ c (record { weight_low = low; weight_high = high; value_low = low; value_high = omega (arith, ints, high) }) e
decision_bounds decision.Possible v at w award c low high e = verdict_bounds v at w award c low high e
decision_bounds decision.NonLink v at w award c low high e = absurd (cc)

module _ (rule : FileRule) (entries : List Entry) (award : ℕ) (ranges : All IsWithinRanges rule.cells) where
  candidate_bounds : (at : PairAt) (c : Candidate) → candidate_of rule entries award at ≡ Some c → HasBounds award c
  candidate_bounds at c e =
      let w = cell_holds (λ (x : RuleCell). (LEAST_WEIGHT ≤ℤ x.weight) × (x.weight ≤ℤ GREATEST_WEIGHT)) rule.cells (rule.pattern at) (omega (arith, ints), omega (arith, ints))
      (λ k d lt. ((ranges k d lt).weight_low, (ranges k d lt).weight_high)) in
      decision_bounds (decision_at rule at) (verdict_on entries at.a at.b) at (weight_of_pair rule at) award c w.0 w.1 e

  pub all_bounds : (pairs : List PairAt) → All (HasBounds award) (candidates_of rule entries award pairs)
  all_bounds [] = All-nil (HasBounds award)
  all_bounds (at ∷ pairs) =
      all_if (HasBounds award) (candidates_of rule entries award pairs) (candidate_of rule entries award at) (candidate_bounds at) (all_bounds pairs)

  values_most : (pairs : List PairAt) → All (λ (c : Candidate). c.value ≤ℤ most_value award) (candidates_of rule entries award pairs)
  values_most pairs k d lt = (all_bounds pairs k d lt).value_high

  pub prices_most : PricesAreBoundedByCandidates → GreatestValueIsLeast → (pairs : List PairAt) (links : List Candidate) (prices_a prices_b : List ℤ) → IsOneToOne (candidates_of rule entries award pairs) links
      → Certifies (candidates_of rule entries award pairs) links prices_a prices_b → (position : ℕ) → (price_of prices_a position ≤ℤ most_value award) × (price_of prices_b position ≤ℤ most_value award)
  prices_most by_candidates is_least pairs links prices_a prices_b one cert position =
      let cs : List Candidate = candidates_of rule entries award pairs in
      let bounded = by_candidates cs links prices_a prices_b one cert position in
      let least = is_least cs cs (most_value award) (All-contains_itself cs) (omega (arith, ints)) (values_most pairs) in
      (omega (arith, ints, bounded.0, least), omega (arith, ints, bounded.1, least))
