-- Laws of the candidates of decided pairs (`candidates_of`): they are few, rise, and are between records that are there.
use Rattle.std.proofs.Common.{◌≡◌, ◌<◌, Bool, true, false, List, [], ◌∷◌, ◌++◌, Option, Some, None, cond, filter, drop, append_assoc, append-nil, refl, subst, sym, ap, ◌∙◌, inl, inr, arith, All, AllPairs, IfSome, filter_map, option_to_list, ◌≤◌, ℕ, length, ℤ, pos, ◌≤ℤ◌}
use Rattle.std.specs.List.{cons_option}
use Rattle.std.proofs.lemmas.Bool.Decides.{nat_tests}
use Rattle.std.proofs.lemmas.List.Elements.{All-filter, All-push, All-cons, All-nil, All-tail, All-head, All-weaker}
use Rattle.link_base.specs.declared.rule.Candidate.{Candidate}
use Rattle.link_base.specs.declared.rule.PairAt.{PairAt}
use Rattle.link_base.specs.Words.{IsPairBefore}
use Rattle.price_check.specs.PlaceLaws.{AllPairs-head, AllPairs-tail}
use Rattle.candidate_links.specs.Merging.{comes_first, merged, next_of}
use Rattle.std.proofs.lemmas.Int.{ints}
use Rattle.std.proofs.lemmas.List.Kept.{AllPairs-cons}
use Rattle.price_check.specs.Assignment.{IsBefore, IsWithin}
use Rattle.comparators.specs.declared.ids.IdValue.{IdValue}
use Rattle.link_base.specs.declared.rule.Decision.{Decision}
use Rattle.link_base.specs.declared.rule.Verdict.{Verdict}
use Rattle.pair_decisions.specs.Words.{AreDecisionsOn, DecidedView, decision_at, is_same, pairs_with, IsInside, FileRule, side_rule}
use Rattle.review_journal.specs.Verdict.{verdict_on}
use Rattle.review_journal.specs.declared.entry.Entry.{Entry}
use Rattle.link_limits.specs.declared.TheConstants.{MOST_VALUE}
use Rattle.assignment.specs.Solution.{HasSmallValue}
use Rattle.candidate_links.specs.Candidates.{AreCandidates, by_decision, candidate_by_verdict, candidate_of, candidates_of, most_value, of_link, of_possible}
use Rattle.candidate_links.specs.declared.merging.Next.TheVariants as next
use Rattle.link_base.specs.declared.rule.Decision.TheVariants as decision
use Rattle.link_base.specs.declared.rule.Verdict.TheVariants as verdict

-- Machinery of `candidates_among`: two rising lists taken together, and the filters of one rising list that together give what the whole list
-- gives. No public clause names it.

-- a pair that stands before another does so by the test, and not the other way round
before_true : (x y : PairAt) → IsPairBefore x y → comes_first x y ≡ true
before_true x y (inl lt) = grind (arith, nat_tests)
before_true x y (inr h) = let a : x.a ≡ y.a = h.0 in let b : x.b < y.b = h.1 in grind (arith, nat_tests)

before_false : (x y : PairAt) → IsPairBefore x y → comes_first y x ≡ false
before_false x y (inl lt) = grind (arith, nat_tests)
before_false x y (inr h) = let a : x.a ≡ y.a = h.0 in let b : x.b < y.b = h.1 in grind (arith, nat_tests)

module _ (f g : PairAt → Option Candidate) where
  -- a link that is not after the first possible link
  link_first : (x y : PairAt) (xs ys : List PairAt) → comes_first x y ≡ true → merged f g (x ∷ xs) (y ∷ ys) ≡ cons_option (f x) (merged f g xs (y ∷ ys))
  unfolding merged
  link_first x y xs ys is = rw is refl

  -- a possible link that is before the first link
  possible_first : (x y : PairAt) (xs ys : List PairAt) → comes_first x y ≡ false → merged f g (x ∷ xs) (y ∷ ys) ≡ cons_option (g y) (merged f g (x ∷ xs) ys)
  unfolding merged
  possible_first x y xs ys is = rw is refl

  link_alone : (x : PairAt) (xs : List PairAt) → merged f g (x ∷ xs) [] ≡ cons_option (f x) (merged f g xs [])
  unfolding merged
  link_alone x xs = refl

  possible_alone : (y : PairAt) (ys : List PairAt) → merged f g [] (y ∷ ys) ≡ cons_option (g y) (merged f g [] ys)
  unfolding merged
  possible_alone y ys = refl

  pub none_left : (xs ys : List PairAt) → next_of xs ys ≡ next.End → merged f g xs ys ≡ []
  unfolding merged
  none_left [] [] is = refl
  none_left [] (y ∷ ys) is = absurd (cc)
  none_left (x ∷ xs) [] is = absurd (cc)
  none_left (x ∷ xs) (y ∷ ys) is = by_test (comes_first x y) is
    where
      by_test : (b : Bool) → cond b (next.Link x) (next.Possible y) ≡ next.End → merged f g (x ∷ xs) (y ∷ ys) ≡ []
      by_test true e = absurd (cc)
      by_test false e = absurd (cc)

  -- the next pair is a link
  pub link_next : (xs ys : List PairAt) (at : PairAt) → next_of xs ys ≡ next.Link at → merged f g xs ys ≡ cons_option (f at) (merged f g (drop 1 xs) ys)
  link_next [] [] at is = absurd (cc)
  link_next [] (y ∷ ys) at is = absurd (cc)
  link_next (x ∷ xs) [] at is = let same : x ≡ at = cc in link_alone x xs ∙ ap (λ (p : PairAt). cons_option (f p) (merged f g xs [])) same
  link_next (x ∷ xs) (y ∷ ys) at is = by_test (comes_first x y) refl is
    where
      by_test : (b : Bool) → comes_first x y ≡ b → cond b (next.Link x) (next.Possible y) ≡ next.Link at → merged f g (x ∷ xs) (y ∷ ys) ≡ cons_option (f at) (merged f g xs (y ∷ ys))
      by_test true t e = let same : x ≡ at = cc in link_first x y xs ys t ∙ ap (λ (p : PairAt). cons_option (f p) (merged f g xs (y ∷ ys))) same
      by_test false t e = absurd (cc)

  -- the next pair is a possible link
  pub possible_next : (xs ys : List PairAt) (at : PairAt) → next_of xs ys ≡ next.Possible at → merged f g xs ys ≡ cons_option (g at) (merged f g xs (drop 1 ys))
  possible_next [] [] at is = absurd (cc)
  possible_next [] (y ∷ ys) at is = let same : y ≡ at = cc in possible_alone y ys ∙ ap (λ (p : PairAt). cons_option (g p) (merged f g [] ys)) same
  possible_next (x ∷ xs) [] at is = absurd (cc)
  possible_next (x ∷ xs) (y ∷ ys) at is = by_test (comes_first x y) refl is
    where
      by_test : (b : Bool) → comes_first x y ≡ b → cond b (next.Link x) (next.Possible y) ≡ next.Possible at → merged f g (x ∷ xs) (y ∷ ys) ≡ cons_option (g at) (merged f g (x ∷ xs) ys)
      by_test true t e = absurd (cc)
      by_test false t e = let same : y ≡ at = cc in possible_first x y xs ys t ∙ ap (λ (p : PairAt). cons_option (g p) (merged f g (x ∷ xs) ys)) same

  -- what is told and what is left to tell stays the same where the next pair is passed
  pub link_told : (all more : List Candidate) (xs ys : List PairAt) (at : PairAt) (c : Candidate) → next_of xs ys ≡ next.Link at → Some c ≡ f at → more ≡ all ++ c ∷ []
      → more ++ merged f g (drop 1 xs) ys ≡ all ++ merged f g xs ys
  link_told all more xs ys at c is given pushed =
      ap (λ (cs : List Candidate). cs ++ merged f g (drop 1 xs) ys) pushed ∙ append_assoc all (c ∷ []) (merged f g (drop 1 xs) ys)
      ∙ ap (λ (o : Option Candidate). all ++ cons_option o (merged f g (drop 1 xs) ys)) given ∙ ap (λ (cs : List Candidate). all ++ cs) (sym (link_next xs ys at is))

  option_put : (all cs : List Candidate) (o : Option Candidate) → (all ++ option_to_list o) ++ cs ≡ all ++ cons_option o cs
  option_put all cs None = ap (λ (ds : List Candidate). ds ++ cs) (append-nil all)
  option_put all cs (Some c) = append_assoc all (c ∷ []) cs

  pub possible_told : (all more : List Candidate) (xs ys : List PairAt) (at : PairAt) (o : Option Candidate) → next_of xs ys ≡ next.Possible at → o ≡ g at → more ≡ all ++ option_to_list o
      → more ++ merged f g xs (drop 1 ys) ≡ all ++ merged f g xs ys
  possible_told all more xs ys at o is given pushed =
      ap (λ (cs : List Candidate). cs ++ merged f g xs (drop 1 ys)) pushed ∙ option_put all (merged f g xs (drop 1 ys)) o
      ∙ ap (λ (given : Option Candidate). all ++ cons_option given (merged f g xs (drop 1 ys))) given ∙ ap (λ (cs : List Candidate). all ++ cs) (sym (possible_next xs ys at is))

  pub all_told : (all whole : List Candidate) (xs ys : List PairAt) → next_of xs ys ≡ next.End → all ++ merged f g xs ys ≡ whole → all ≡ whole
  all_told all whole xs ys is told = sym (append-nil all) ∙ ap (λ (cs : List Candidate). all ++ cs) (sym (none_left xs ys is)) ∙ told

  -- a pair before all of the other list is taken first
  link_before : (x : PairAt) (xs ys : List PairAt) → All (IsPairBefore x) ys → merged f g (x ∷ xs) ys ≡ cons_option (f x) (merged f g xs ys)
  link_before x xs [] before = link_alone x xs
  link_before x xs (y ∷ ys) before = link_first x y xs ys (before_true x y (before 0 y (omega arith)))

  possible_before : (y : PairAt) (xs ys : List PairAt) → All (IsPairBefore y) xs → merged f g xs (y ∷ ys) ≡ cons_option (g y) (merged f g xs ys)
  possible_before y [] ys before = possible_alone y ys
  possible_before y (x ∷ xs) ys before = possible_first x y xs ys (before_false y x (before 0 x (omega arith)))

-- what holds of candidates and of one more, where there is one
pub all_kept : (P : Candidate → Type 0) (cs : List Candidate) (o : Option Candidate) → All P cs → IfSome o P → All P (cs ++ option_to_list o)
all_kept P cs None all here = subst (λ (ds : List Candidate). All P ds) (sym (append-nil cs)) all
all_kept P cs (Some c) all here = All-push P cs c all here

-- by two tests of which at most one holds, a pair gives what `f` or what `g` says, or nothing
pub data GivesBy (f g h : PairAt → Option Candidate) (p q : PairAt → Bool) (at : PairAt) : Type 0 where
  by_link : p at ≡ true → q at ≡ false → h at ≡ f at → GivesBy f g h p q at
  by_possible : p at ≡ false → q at ≡ true → h at ≡ g at → GivesBy f g h p q at
  by_none : p at ≡ false → q at ≡ false → h at ≡ None → GivesBy f g h p q at

-- the filters of a rising list by both tests, taken together, give what the list gives
module _ (f g h : PairAt → Option Candidate) (p q : PairAt → Bool) where
  one_more : (x : PairAt) (xs : List PairAt) → All (IsPairBefore x) xs → GivesBy f g h p q x → merged f g (filter p xs) (filter q xs) ≡ filter_map h xs
      → merged f g (filter p (x ∷ xs)) (filter q (x ∷ xs)) ≡ filter_map h (x ∷ xs)
  one_more x xs after (by_link first second is) rest =
      let taken = link_before f g x (filter p xs) (filter q xs) (All-filter q (IsPairBefore x) xs after) in
      rw (first, second, is) (taken ∙ ap (cons_option (f x)) rest)
  one_more x xs after (by_possible first second is) rest =
      let taken = possible_before f g x (filter p xs) (filter q xs) (All-filter p (IsPairBefore x) xs after) in
      rw (first, second, is) (taken ∙ ap (cons_option (g x)) rest)
  one_more x xs after (by_none first second is) rest = rw (first, second, is) rest

  pub merged_filters : ((at : PairAt) → GivesBy f g h p q at) → (pairs : List PairAt) → AllPairs IsPairBefore pairs → merged f g (filter p pairs) (filter q pairs) ≡ filter_map h pairs
  unfolding merged
  merged_filters gives [] rising = refl
  merged_filters gives (x ∷ xs) rising = one_more x xs (AllPairs-head IsPairBefore x xs rising) (gives x) (merged_filters gives xs (AllPairs-tail IsPairBefore x xs rising))

-- a candidate stands at a pair
abbrev IsAt : PairAt → Candidate → Type 0
IsAt at c = (c.a ≡ at.a) × (c.b ≡ at.b)

-- what a function of pairs gives stands at its pair
abbrev StandsAt : (PairAt → Option Candidate) → Type 0
StandsAt h = (at : PairAt) (c : Candidate) → h at ≡ Some c → IsAt at c

pub some_same : (x y : Candidate) → Some x ≡ Some y → x ≡ y
some_same x y e = cc

-- what holds of a candidate, if there is one, and of those after it
pub all_if : (Q : Candidate → Type 0) (cs : List Candidate) (o : Option Candidate) → ((c : Candidate) → o ≡ Some c → Q c) → All Q cs → All Q (cons_option o cs)
all_if Q cs None here rest = rest
all_if Q cs (Some c) here rest = All-cons Q c cs (here c refl) rest

module _ (h : PairAt → Option Candidate) (stands : StandsAt h) where
  few_if : (o : Option Candidate) (x : PairAt) (xs : List PairAt) → length (filter_map h xs) ≤ length xs → length (cons_option o (filter_map h xs)) ≤ length (x ∷ xs)
  few_if None x xs rest = omega arith
  few_if (Some c) x xs rest = omega arith

  pub given_few : (pairs : List PairAt) → length (filter_map h pairs) ≤ length pairs
  given_few [] = omega arith
  given_few (x ∷ xs) = few_if (h x) x xs (given_few xs)

  -- what holds of a candidate at a pair for which something holds
  given_all : (P : PairAt → Type 0) (Q : Candidate → Type 0) → ((at : PairAt) (c : Candidate) → P at → IsAt at c → Q c) → (pairs : List PairAt) → All P pairs → All Q (filter_map h pairs)
  given_all P Q step [] all = All-nil Q
  given_all P Q step (x ∷ xs) all =
      all_if Q (filter_map h xs) (h x) (λ c is. step x c (All-head P x xs all) (stands x c is)) (given_all P Q step xs (All-tail P x xs all))

  pub given_within : (rows_a rows_b : ℕ) (pairs : List PairAt) → All (IsInside rows_a rows_b) pairs → All (IsWithin rows_a rows_b) (filter_map h pairs)
  given_within rows_a rows_b pairs all =
      given_all (IsInside rows_a rows_b) (IsWithin rows_a rows_b) (λ at c inside is. (omega (arith, inside.0, is.0), omega (arith, inside.1, is.1))) pairs all

  before_as : (x y : PairAt) (c d : Candidate) → IsAt x c → IsAt y d → IsPairBefore x y → IsBefore c d
  before_as x y c d of_x of_y (inl lt) = inl (omega (arith, of_x.0, of_y.0))
  before_as x y c d of_x of_y (inr p) = inr (of_x.0 ∙ p.0 ∙ sym of_y.0, omega (arith, of_x.1, of_y.1, p.1))

  rise_if : (cs : List Candidate) (o : Option Candidate) → ((c : Candidate) → o ≡ Some c → All (IsBefore c) cs) → AllPairs IsBefore cs → AllPairs IsBefore (cons_option o cs)
  rise_if cs None first rest = rest
  rise_if cs (Some c) first rest = AllPairs-cons IsBefore c cs (first c refl) rest

  pub given_rise : (pairs : List PairAt) → AllPairs IsPairBefore pairs → AllPairs IsBefore (filter_map h pairs)
  given_rise [] rising = λ i j d lt within. absurd (omega arith)
  given_rise (x ∷ xs) rising =
      let after = AllPairs-head IsPairBefore x xs rising in
      rise_if (filter_map h xs) (h x)
      (λ c is. given_all (IsPairBefore x) (IsBefore c) (λ at d lt of_d. before_as x at c d (stands x c is) of_d lt) xs after)
      (given_rise xs (AllPairs-tail IsPairBefore x xs rising))

module _ (rule : FileRule) (entries : List Entry) (award : ℕ) where
  abbrev links : PairAt → Option Candidate
  links = of_link rule

  abbrev possibles : PairAt → Option Candidate
  possibles = of_possible rule entries award

  possible_stands : (at : PairAt) (c : Candidate) (v : Option Verdict) (w : ℤ) → candidate_by_verdict v at w award ≡ Some c → IsAt at c
  possible_stands at c None w is = absurd (cc)
  possible_stands at c (Some verdict.Link) w is = (cc, cc)
  possible_stands at c (Some verdict.NonLink) w is = absurd (cc)
  possible_stands at c (Some verdict.Undecided) w is = absurd (cc)

  stands_by : (at : PairAt) (c : Candidate) (kind : Decision) → by_decision kind (links at) (possibles at) ≡ Some c → IsAt at c
  stands_by at c decision.Link is = (cc, cc)
  stands_by at c decision.Possible is = possible_stands at c (verdict_on entries at.a at.b) _ is
  stands_by at c decision.NonLink is = absurd (cc)

  pub candidate_stands : StandsAt (candidate_of rule entries award)
  candidate_stands at c is = stands_by at c (decision_at rule at) is

  gives : (at : PairAt) → GivesBy links possibles (candidate_of rule entries award) (λ p. is_same decision.Link (decision_at rule p)) (λ p. is_same decision.Possible (decision_at rule p)) at
  gives at = by_kind (decision_at rule at) refl
    where
      by_kind : (kind : Decision) → decision_at rule at ≡ kind
          → GivesBy links possibles (candidate_of rule entries award) (λ p. is_same decision.Link (decision_at rule p)) (λ p. is_same decision.Possible (decision_at rule p)) at
      by_kind decision.Link is = by_link (rw is refl) (rw is refl) (rw is refl)
      by_kind decision.Possible is = by_possible (rw is refl) (rw is refl) (rw is refl)
      by_kind decision.NonLink is = by_none (rw is refl) (rw is refl) (rw is refl)

  -- links and possible links, taken together, give the candidates of all pairs
  pub merged_all : (pairs : List PairAt) → AllPairs IsPairBefore pairs
      → merged links possibles (pairs_with decision.Link rule pairs) (pairs_with decision.Possible rule pairs) ≡ candidates_of rule entries award pairs
  merged_all pairs rising = merged_filters links possibles (candidate_of rule entries award) _ _ gives pairs rising

-- the candidates of decided lists are those of every list of pairs of which these are the decisions
pub are_candidates : (rows_a rows_b : List (List IdValue)) (entries : List Entry) (award : ℕ) (d : DecidedView) (cs : List Candidate) → most_value award ≤ℤ pos MOST_VALUE
    → cs ≡ merged (of_link (side_rule d.rule rows_a rows_b)) (of_possible (side_rule d.rule rows_a rows_b) entries award) d.links d.possible
    → All (λ (c : Candidate). c.value ≤ℤ most_value award) cs
    → (pairs : List PairAt) → AreDecisionsOn rows_a rows_b pairs d → AreCandidates (length rows_a) (length rows_b) (candidates_of (side_rule d.rule rows_a rows_b) entries award pairs) cs
are_candidates rows_a rows_b entries award d cs small is most pairs are =
    let rule = side_rule d.rule rows_a rows_b in
    let h = candidate_of rule entries award in
    let stands : StandsAt h = candidate_stands rule entries award in
    let f = of_link rule in
    let g = of_possible rule entries award in
    let lists : merged f g d.links d.possible ≡ merged f g (pairs_with decision.Link rule pairs) (pairs_with decision.Possible rule pairs) = λ i. merged f g (are.links i) (are.possible i) in
    let same : cs ≡ candidates_of rule entries award pairs = is ∙ lists ∙ merged_all rule entries award pairs are.rising in
    record {
      same = same;
      few = omega (arith, ap length same, given_few h stands pairs, are.few);
      rising = subst (λ (all : List Candidate). AllPairs IsBefore all) (sym same) (given_rise h stands pairs are.rising);
      within = subst (λ (all : List Candidate). All (IsWithin (length rows_a) (length rows_b)) all) (sym same) (given_within h stands (length rows_a) (length rows_b) pairs are.inside);
      small = All-weaker (λ (c : Candidate). c.value ≤ℤ most_value award) HasSmallValue (λ c lt. omega (arith, ints, lt, small)) cs most;
    }
