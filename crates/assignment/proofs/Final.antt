-- From agreeing links and tight prices to a greatest list with a certificate.
use Rattle.std.proofs.Common.{◌≡◌, ◌≢◌, ℕ, ◌+◌, ◌≤◌, ℤ, pos, ◌+ℤ◌, ◌≤ℤ◌, List, [], ◌∷◌, length, get_or, Option, Some, None, filter, ap, sym, ◌∙◌, inl, inr, arith, replicate, All, AllPairs}
use Rattle.std.proofs.lemmas.Int.{ints}
use Rattle.std.proofs.lemmas.List.{get_or-set_other, length-replicate}
use Rattle.std.proofs.lemmas.List.Elements.{All-head, All-tail, All-cons, All-contains_itself, All-nil, All-contains}
use Rattle.link_base.specs.declared.rule.Candidate.{Candidate}
use Rattle.price_check.specs.Assignment.{price_sum, price_of, worth, greatest_value, IsBefore, SharesNoRecord, IsOneToOne, Certifies}
use Rattle.price_check.specs.PlaceLaws.{without, absent-without, IsTight, price_sum-without, price_sum-zero, AllPairs-head, AllPairs-tail}
use Rattle.price_check.specs.Law.{PricesAreBoundedByLinks}
use Rattle.assignment_steps.specs.declared.market.Edge.{Edge}
use Rattle.assignment_steps.specs.Words.{link, edge, number, IsInRange, HasNoLink, IsBetween, ReachAll, edges_of, is_linked, prices_of, link_cases, none_matched, none_linked, absent_a, all_among, all_covered, all_tight, apart_a, link_member, links_rising, member_link, IsLinkedBy, floored, price_of-prices}

-- Tight members, and no price elsewhere: the prices add up to the worth.

tight-without : (ps qs : List ℤ) (c : Candidate) (cs : List Candidate) → All (SharesNoRecord c) cs → All (IsTight ps qs) cs → All (IsTight (without ps c.a) (without qs c.b)) cs
tight-without ps qs c cs apart tight = λ k d l.
    let x : Candidate = get_or cs k d in
    let na : x.a ≢ c.a = λ e. (apart k d l).0 (sym e) in
    let nb : x.b ≢ c.b = λ e. (apart k d l).1 (sym e) in
    rw (get_or-set_other ps c.a x.a (pos 0) (pos 0) na, get_or-set_other qs c.b x.b (pos 0) (pos 0) nb) (tight k d l)

pub sums_from_tight : (links : List Candidate) (ps qs : List ℤ) → AllPairs SharesNoRecord links → All (IsTight ps qs) links → ((position : ℕ) → All (λ c. c.a ≢ position) links → price_of ps position ≡ pos 0) → ((position : ℕ) → All (λ c. c.b ≢ position) links → price_of qs position ≡ pos 0) → (price_sum ps +ℤ price_sum qs) ≡ worth links
sums_from_tight [] ps qs apart tight none_a none_b =
    omega (arith, ints, price_sum-zero ps (λ position. none_a position (All-nil (λ c. c.a ≢ position))), price_sum-zero qs (λ position. none_b position (All-nil (λ c. c.b ≢ position))))
sums_from_tight (c ∷ cs) ps qs apart tight none_a none_b =
    let rest = sums_from_tight cs (without ps c.a) (without qs c.b) (AllPairs-tail SharesNoRecord c cs apart) (tight-without ps qs c cs (AllPairs-head SharesNoRecord c cs apart) (All-tail (IsTight ps qs) c cs tight))
    (λ position absent. absent-without ps c.a position (λ n. none_a position (All-cons (λ d. d.a ≢ position) c cs (λ e. n (sym e)) absent)))
    (λ position absent. absent-without qs c.b position (λ n. none_b position (All-cons (λ d. d.b ≢ position) c cs (λ e. n (sym e)) absent))) in
    omega (arith, ints, rest, All-head (IsTight ps qs) c cs tight, price_sum-without ps c.a, price_sum-without qs c.b)

module _ (cs : List Candidate) (pa pb : List ℕ) (la lb : List (Option ℕ)) (rising : AllPairs IsBefore cs) (w : IsBetween (edges_of cs) pa pb la lb (length pa)) where
  abbrev es : List Edge
  es = edges_of cs

  abbrev links : List Candidate
  links = filter (is_linked es la) cs

  -- two linked candidates are not of one record of B
  apart_b : (x y : Candidate) (k j : ℕ) → IsLinkedBy es la x k → IsLinkedBy es la y j → x.a ≢ y.a → x.b ≢ y.b
  apart_b x y k j hx hy apart e =
      let px = w.matched.of_a x.a k hx.on in
      let py = w.matched.of_a y.a j hy.on in
      let bx : link lb x.b ≡ Some k = rw (← hx.record_b) px.2 in
      let by : link lb y.b ≡ Some j = rw (← hy.record_b) py.2 in
      let by' : link lb x.b ≡ Some j = rw e by in
      let same : k ≡ j = cc (bx, by') in
      apart (sym px.1 ∙ (ap (λ n. (edge es n).a) same ∙ py.1))

  apart : AllPairs SharesNoRecord links
  apart = λ i j d lt m.
      let x : Candidate = get_or links i d in
      let y : Candidate = get_or links j d in
      let hx = member_link cs pa pb la (HasNoLink lb) rising w.priced x (All-contains_itself links i d (omega (arith, lt, m))) in
      let hy = member_link cs pa pb la (HasNoLink lb) rising w.priced y (All-contains_itself links j d m) in
      let apart_a = apart_a cs pa pb la (HasNoLink lb) rising w.priced i j d lt m in
      (apart_a, apart_b x y hx.0 hy.0 hx.1 hy.1 apart_a)

  pub one_to_one : IsOneToOne cs links
  one_to_one = record {
    among = all_among cs pa pb la (HasNoLink lb) rising w.priced;
    rising = links_rising cs pa pb la (HasNoLink lb) rising w.priced;
    apart = apart;
  }

  absent_b : (position : ℕ) → All (λ c. c.b ≢ position) links → price_of (prices_of pb) position ≡ pos 0
  absent_b position absent = price_of-prices pb position ∙ ap pos (elim (link_cases lb position) [
    | inl none ↦ w.priced.free_b position none
    | inr p ↦ (let m = w.matched.of_b position p.0 p.1 in
        let c = link_member cs pa pb la (HasNoLink lb) rising w.priced (edge es p.0).a p.0 m.2 in
        absurd (All-contains (λ c. c.b ≢ position) links c.0 absent c.1.0 (c.1.2 ∙ m.1)))
  ])

  pub certifies : Certifies cs links (prices_of pa) (prices_of pb)
  certifies = record {
    floor_a = floored pa;
    floor_b = floored pb;
    covered = all_covered cs pa pb la (HasNoLink lb) rising w.priced;
    balanced = sums_from_tight links (prices_of pa) (prices_of pb) apart (all_tight cs pa pb la (HasNoLink lb) rising w.priced) (absent_a cs pa pb la (HasNoLink lb) rising w.priced) absent_b;
  }

  -- no price is above the greatest of 0 and the links' values
  pub bounded : PricesAreBoundedByLinks → (position : ℕ) → (pos (number pa position) ≤ℤ greatest_value links) × (pos (number pb position) ≤ℤ greatest_value links)
  bounded by_links position =
      let h = by_links cs links (prices_of pa) (prices_of pb) one_to_one certifies position in
      (rw (← price_of-prices pa position) h.0, rw (← price_of-prices pb position) h.1)

-- What holds before the first round.

pub between_first : (es : List Edge) (pa pb : List ℕ) → IsInRange es (length pa) (length pb) → ReachAll es (length pa) pa pb → ((b : ℕ) → number pb b ≡ 0) → IsBetween es pa pb (replicate (length pa) None) (replicate (length pb) None) 0
between_first es pa pb within r none_b = record {
  priced = record {
    rows_a = length-replicate (length pa) None;
    in_range = within;
    covered = r.covered;
    small_a = r.small;
    small_b = λ b. rw (none_b b) (omega arith);
    linked = λ a k h. absurd (let none = none_linked (length pa) a in cc);
    tight = λ k h. absurd (let none = none_linked (length pa) (edge es k).a in cc);
    free_a = λ a lt none. absurd (omega (arith, lt));
    free_b = λ b none. none_b b;
  };
  rows_b = length-replicate (length pb) None;
  matched = none_matched es (replicate (length pa) None) (replicate (length pb) None) (none_linked (length pa)) (none_linked (length pb));
}
