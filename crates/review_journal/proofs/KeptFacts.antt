-- New verdicts after the entries of a journal: what is kept.
use Rattle.std.proofs.Common.{◌≡◌, ◌≤◌, ◌+◌, ◌∷◌, ◌++◌, ◌∙◌, ℕ, ℤ, Bool, true, false, cond, List, [], All, length, map, Option, Some, None, Ok, refl, sym, ap, arith, append_assoc, length-append, nat_lt, subst, ◌&&◌, ◌==◌, int_le, if◌then◌else◌, option_map, append-nil}
use Rattle.std.proofs.lemmas.Bool.{false_from_ne_true}
use Rattle.std.proofs.lemmas.Bool.Decides.{nat_tests}
use Rattle.std.proofs.lemmas.Int.{ints}
use Rattle.std.proofs.lemmas.List.Elements.{All-cons, All-nil, All-push, All-tail}
use Rattle.std.proofs.lemmas.List.Sums.{AllPass-from_list_all, list_all-from_AllPass}
use Rattle.link_base.specs.Words.{or_else, IsDay, Record}
use Rattle.link_base.specs.declared.fault.Fault.{Fault}
use Rattle.link_base.specs.declared.fault.Fault.TheVariants as fault
use Rattle.link_base.specs.declared.fault.FileRole.TheVariants as role
use Rattle.link_base.specs.declared.rule.PairAt.{PairAt}
use Rattle.link_base.specs.declared.rule.Verdict.{Verdict}
use Rattle.link_base.specs.declared.rule.Verdict.TheVariants as verdict
use Rattle.link_limits.specs.declared.TheConstants.{MOST_ENTRIES}
use Rattle.review_journal.specs.Batch.{added, batch_fault, date_back_fault, entries_fault, entry_after, is_not_before, ok_unless, pair_fault, with_verdicts, NamesRecords}
use Rattle.review_journal.specs.Verdict.{IsReviewer, confirms_in, step_by, step_fits, is_on, last_on, standing_verdict, verdict_on}
use Rattle.review_journal.specs.Kept.{IsSignedBy, KeepsAll, NoneIsOn, said_by}
use Rattle.review_journal.specs.declared.batch.NewVerdict.{NewVerdict}
use Rattle.review_journal.specs.declared.entry.Entry.{Entry}
use Rattle.review_journal.proofs.PlaceLemmas.{last_on-push}
use Rattle.review_journal.proofs.ListLemmas.{IsJournalOver, one_over}

-- a batch without a fault
ok_unless_is : {A : Type 0} (f : Option Fault) (x y : A) → ok_unless f x ≡ Ok y → (f ≡ None) × (x ≡ y)
ok_unless_is None x y e = (refl, cc e)
ok_unless_is (Some f) x y e = absurd (cc e)

neither : (f g : Option Fault) → or_else f g ≡ None → (f ≡ None) × (g ≡ None)
neither None g e = (refl, e)
neither (Some f) g e = absurd (cc e)

none_if : (test : Bool) (f : Fault) → cond test (Some f) None ≡ None → test ≡ false
none_if true f e = absurd (cc e)
none_if false f e = refl

none_unless : (test : Bool) (f : Fault) → cond test None (Some f) ≡ None → test ≡ true
none_unless true f e = refl
none_unless false f e = absurd (cc e)

-- the step of a new verdict may stand
step_stands : (double : Bool) (v : Verdict) (confirming : Bool) → step_fits (step_by double v confirming) v confirming ≡ true
step_stands false v confirming = refl
step_stands true verdict.Link true = refl
step_stands true verdict.Link false = refl
step_stands true verdict.NonLink true = refl
step_stands true verdict.NonLink false = refl
step_stands true verdict.Undecided confirming = refl

same_day : (day : ℤ) → int_le day day ≡ true
same_day day = grind (arith, ints)

module _ (double : Bool) (day : ℤ) (name : List ℕ) where
  abbrev entry : List Entry → NewVerdict → Entry
  entry entries v = entry_after double day name entries v

  -- the entries of the new verdicts
  abbrev later_of : List Entry → List NewVerdict → List Entry
  later_of entries [] = []
  later_of entries (v ∷ vs) = entry entries v ∷ later_of (entries ++ entry entries v ∷ []) vs

  in_front : (entries : List Entry) (batch : List NewVerdict) → with_verdicts double day name entries batch ≡ entries ++ later_of entries batch
  in_front entries [] = sym (append-nil entries)
  in_front entries (v ∷ vs) =
      in_front (entries ++ entry entries v ∷ []) vs ∙ append_assoc entries (entry entries v ∷ []) (later_of (entries ++ entry entries v ∷ []) vs)

  one_each : (entries : List Entry) (batch : List NewVerdict) → map said_by (later_of entries batch) ≡ batch
  one_each entries [] = refl
  one_each entries (v ∷ vs) = ap (λ (rest : List NewVerdict). v ∷ rest) (one_each (entries ++ entry entries v ∷ []) vs)

  signed : (entries : List Entry) (batch : List NewVerdict) → All (IsSignedBy name day) (later_of entries batch)
  signed entries [] = All-nil (IsSignedBy name day)
  signed entries (v ∷ vs) =
      All-cons (IsSignedBy name day) (entry entries v) (later_of (entries ++ entry entries v ∷ []) vs) (record { by = refl; on = refl }) (signed (entries ++ entry entries v ∷ []) vs)

  -- the last entry on a pair that no new verdict is on
  not_on : (a b : ℕ) (v : NewVerdict) → ¬ ((v.a ≡ a) × (v.b ≡ b)) → ((v.a == a) && (v.b == b)) ≡ false
  not_on a b v apart = false_from_ne_true ((v.a == a) && (v.b == b)) (λ h. apart (grind (arith, nat_tests), grind (arith, nat_tests)))

  last_stays : (a b : ℕ) (entries : List Entry) (batch : List NewVerdict) → NoneIsOn batch a b → last_on (with_verdicts double day name entries batch) a b ≡ last_on entries a b
  last_stays a b entries [] none = refl
  last_stays a b entries (v ∷ vs) none =
      let other : is_on a b (entry entries v) ≡ false = not_on a b v (none 0 v (omega arith)) in
      last_stays a b (entries ++ entry entries v ∷ []) vs (All-tail (λ (w : NewVerdict). ¬ ((w.a ≡ a) × (w.b ≡ b))) v vs none)
      ∙ last_on-push entries (entry entries v) a b
      ∙ ap (λ t. if t then Some (entry entries v) else last_on entries a b) other

  others : (entries : List Entry) (batch : List NewVerdict) (a b : ℕ) → NoneIsOn batch a b → verdict_on (with_verdicts double day name entries batch) a b ≡ verdict_on entries a b
  others entries batch a b none = ap (λ (o : Option Entry). option_map (λ (e : Entry). standing_verdict e.step e.verdict) o) (last_stays a b entries batch none)

  -- the last new verdict on a pair
  same_pair : (a b : ℕ) → ((a == a) && (b == b)) ≡ true
  same_pair a b = grind (arith, nat_tests)

  more_added : (entries : List Entry) (earlier more : List NewVerdict)
      → with_verdicts double day name entries (earlier ++ more) ≡ with_verdicts double day name (with_verdicts double day name entries earlier) more
  more_added entries [] more = refl
  more_added entries (v ∷ vs) more = more_added (entries ++ entry entries v ∷ []) vs more

  last_given : (entries : List Entry) (v : NewVerdict) → last_on (entries ++ entry entries v ∷ []) v.a v.b ≡ Some (entry entries v)
  last_given entries v =
      last_on-push entries (entry entries v) v.a v.b ∙ ap (λ t. if t then Some (entry entries v) else last_on entries v.a v.b) (same_pair v.a v.b)

  latest : double ≡ false → (entries : List Entry) (batch earlier : List NewVerdict) (v : NewVerdict) (rest : List NewVerdict) → batch ≡ earlier ++ v ∷ rest → NoneIsOn rest v.a v.b
      → verdict_on (with_verdicts double day name entries batch) v.a v.b ≡ Some v.verdict
  latest single entries batch earlier v rest is none =
      let before : List Entry = with_verdicts double day name entries earlier in
      let all : with_verdicts double day name entries batch ≡ with_verdicts double day name (before ++ entry before v ∷ []) rest =
      ap (with_verdicts double day name entries) is ∙ more_added entries earlier (v ∷ rest) in
      ap (λ (es : List Entry). verdict_on es v.a v.b) all ∙ others (before ++ entry before v ∷ []) rest v.a v.b none
      ∙ ap (λ (o : Option Entry). option_map (λ (e : Entry). standing_verdict e.step e.verdict) o) (last_given before v)
      ∙ ap (λ (d : Bool). Some (standing_verdict (step_by d v.verdict (confirms_in before name v.a v.b v.verdict)) v.verdict)) single

  all_kept : (entries : List Entry) (batch : List NewVerdict) → KeepsAll double day name entries batch (with_verdicts double day name entries batch)
  all_kept entries batch = record {
    later = later_of entries batch;
    in_front = in_front entries batch;
    one_each = one_each entries batch;
    signed = signed entries batch;
    steps = refl;
    others = others entries batch;
    latest = λ single earlier v rest. latest single entries batch earlier v rest;
  }

  -- the entries are those of a journal
  not_before_next : (entries : List Entry) (v : NewVerdict) → is_not_before entries day ≡ true → is_not_before (entries ++ entry entries v ∷ []) day ≡ true
  not_before_next entries v back =
      list_all-from_AllPass (λ (e : Entry). int_le e.date day) (entries ++ entry entries v ∷ [])
      (All-push (λ (e : Entry). int_le e.date day ≡ true) entries (entry entries v) (AllPass-from_list_all (λ (e : Entry). int_le e.date day) entries back) (same_day day))

  module _ (is_day : IsDay day) (is_name : IsReviewer name) (a b : List Record) where
    all_over : (entries : List Entry) (batch : List NewVerdict) → length entries + length batch ≤ MOST_ENTRIES → is_not_before entries day ≡ true
        → All (NamesRecords (length a) (length b)) batch → IsJournalOver a b entries → IsJournalOver a b (with_verdicts double day name entries batch)
    all_over entries [] few back names is = is
    all_over entries (v ∷ vs) few back names is =
        let named : NamesRecords (length a) (length b) v = names 0 v (omega arith) in
        let next = one_over a b entries (entry entries v) (omega arith) is (record {
          follows = record { day = is_day; not_back = back; reviewer = is_name; fits = step_stands double v.verdict (confirms_in entries name v.a v.b v.verdict) };
          within = record { of_a = named.in_a; of_b = named.in_b };
        }) in
        all_over (entries ++ entry entries v ∷ []) vs (omega (arith, length-append entries (entry entries v ∷ []))) (not_before_next entries v back)
        (All-tail (NamesRecords (length a) (length b)) v vs names) next

    batch_over : (entries : List Entry) (batch : List NewVerdict) → length entries + length batch ≤ MOST_ENTRIES → date_back_fault entries batch day ≡ None
        → All (NamesRecords (length a) (length b)) batch → IsJournalOver a b entries → IsJournalOver a b (with_verdicts double day name entries batch)
    batch_over entries [] few back names is = is
    batch_over entries (v ∷ vs) few back names is =
        all_over entries (v ∷ vs) few (none_unless (is_not_before entries day) (fault.DateBack role.Verdicts 1) back) names is

    pub added_over : (possible : List PairAt) (entries new : List Entry) (batch : List NewVerdict) → added double day name possible entries batch ≡ Ok new
        → All (NamesRecords (length a) (length b)) batch → IsJournalOver a b entries → IsJournalOver a b new
    added_over possible entries new batch told names is =
        let sound = ok_unless_is (batch_fault entries batch day possible) (with_verdicts double day name entries batch) new told in
        let first = neither (entries_fault entries batch) (or_else (date_back_fault entries batch day) (pair_fault batch possible)) sound.0 in
        let second = neither (date_back_fault entries batch day) (pair_fault batch possible) first.1 in
        let under = none_if (nat_lt MOST_ENTRIES (length entries + length batch)) (fault.TooManyEntries MOST_ENTRIES) first.0 in
        let few : length entries + length batch ≤ MOST_ENTRIES = grind (arith, nat_tests) in
        subst (IsJournalOver a b) sound.1 (batch_over entries batch few second.0 names is)

  pub added_keeps : (possible : List PairAt) (entries new : List Entry) (batch : List NewVerdict) → added double day name possible entries batch ≡ Ok new
      → KeepsAll double day name entries batch new
  added_keeps possible entries new batch told =
      let sound = ok_unless_is (batch_fault entries batch day possible) (with_verdicts double day name entries batch) new told in
      subst (KeepsAll double day name entries batch) sound.1 (all_kept entries batch)
