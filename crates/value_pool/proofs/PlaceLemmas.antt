-- One text more in the order.
use Rattle.std.proofs.Common.{◌≡◌, ◌<◌, ◌+◌, ◌++◌, ◌∷◌, ◌∙◌, ◌||◌, ℕ, zero, suc, List, [], Bool, true, false, Option, Some, None, length, get_or, take, refl, ap, sym, subst, arith, IfSome, if◌then◌else◌, bytes_eq, is_some, slice_get, slice_range, inl, inr, Global, Ordering, Vec}
use Rattle.std.specs.BTreeMap.{BTreeMap, Updates, is_at}
use Rattle.std.specs.Cmp.Lexicographic.{nat_list_eq_equiv, slice_cmp}
use Rattle.std.specs.Map.{KeepsOthers}
use Rattle.std.specs.Ordering.{eq_by_cmp, is_eq, nat_cmp}
use Rattle.std.proofs.lemmas.Cmp.{eq_by_cmp_equiv, nat_list_cmp_total}
use Rattle.std.proofs.lemmas.List.{length-map, length-take-le, take_more}
use Rattle.std.proofs.lemmas.List.Folds.{list_any-append}
use Rattle.std.proofs.lemmas.Map.Text.{is_eq-slice_cmp}
use Rattle.std.proofs.lemmas.Slice.Eq.{bytes_eq-Decides}
use Rattle.value_pool.specs.Table.{HasPlaces, place_in, texts_at}
use Rattle.value_pool.specs.Pool.{stands_among, place_among}
use Rattle.value_pool.specs.declared.chains.Slot.{Slot}
use Rattle.value_pool.proofs.ChainLemmas.{text_at}
use Rattle.std.specs.List.{list_any, position_or_len}
use Rattle.std.proofs.lemmas.Bool.{cases_Bool, false≢true}
use Rattle.std.proofs.lemmas.List.Sums.{passes_at_first}
use Rattle.std.proofs.lemmas.Option.{slice_get-get_or}

abbrev Places : Type 0
Places = BTreeMap (Vec ℕ Global) ℕ

abbrev key_cmp : Vec ℕ Global → Vec ℕ Global → Ordering
key_cmp a b = slice_cmp nat_cmp a.items b.items

-- a key that one text finds is not found by another
apart : (text other key : List ℕ) → bytes_eq text other ≡ false → is_eq (slice_cmp nat_cmp text key) ≡ true → is_eq (slice_cmp nat_cmp other key) ≡ false
apart text other key differs same =
    is_eq-slice_cmp other key ∙ nat_list_eq_equiv.symm other key ∙ sym (nat_list_eq_equiv.congr text key other (sym (is_eq-slice_cmp text key) ∙ same)) ∙ differs

others-kept : (text : List ℕ) (old new : Places) → KeepsOthers (eq_by_cmp key_cmp) (is_at (λ (k : Vec ℕ Global). slice_cmp nat_cmp text k.items)) old.entries new.entries
    → (other : List ℕ) → bytes_eq text other ≡ false → place_in new other ≡ place_in old other
unfolding KeepsOthers
others-kept text old new h other differs =
    h (is_at (λ (k : Vec ℕ Global). slice_cmp nat_cmp other k.items)) (λ x y. (eq_by_cmp_equiv nat_list_cmp_total).congr other x.items y.items) (λ k. apart text other k.items differs)

get-end : (texts : List (List ℕ)) (text : List ℕ) → slice_get (texts ++ text ∷ []) (length texts) ≡ Some text
get-end [] text = refl
get-end (t ∷ ts) text = get-end ts text

get-front : (texts : List (List ℕ)) (text other : List ℕ) (p : ℕ) → slice_get texts p ≡ Some other → slice_get (texts ++ text ∷ []) p ≡ Some other
get-front [] text other p h = cc
get-front (t ∷ ts) text other zero h = h
get-front (t ∷ ts) text other (suc p) h = get-front ts text other p h

found-front : (texts : List (List ℕ)) (text other : List ℕ) (place : Option ℕ) → IfSome place (λ p. slice_get texts p ≡ Some other) → IfSome place (λ p. slice_get (texts ++ text ∷ []) p ≡ Some other)
found-front texts text other None h = h
found-front texts text other (Some p) h = get-front texts text other p h

or-last : (a b : Bool) → (a || (b || false)) ≡ (if b then true else a)
or-last true true = refl
or-last true false = refl
or-last false true = refl
or-last false false = refl

module _ (old new : Places) (key : Vec ℕ Global) (place : ℕ) (updates : Updates key_cmp old new key (Some place)) (texts : List (List ℕ)) (h : HasPlaces old texts) (at_end : place ≡ length texts) where
  here : (other : List ℕ) → bytes_eq key.items other ≡ true → place_in new other ≡ Some place
  here other same = ap (place_in new) (sym ((bytes_eq-Decides key.items other).0 same)) ∙ updates.1

  put-found : (other : List ℕ) (t : Bool) → bytes_eq key.items other ≡ t → IfSome (place_in new other) (λ p. slice_get (texts ++ key.items ∷ []) p ≡ Some other)
  put-found other true same =
      let text : key.items ≡ other = (bytes_eq-Decides key.items other).0 same in
      rw (here other same) (ap (slice_get (texts ++ key.items ∷ [])) at_end ∙ get-end texts key.items ∙ ap Some text)
  put-found other false differs = rw (others-kept key.items old new updates.3 other differs) (found-front texts key.items other (place_in old other) (h.found other))

  put-held : (other : List ℕ) (t : Bool) → bytes_eq key.items other ≡ t → is_some (place_in new other) ≡ (if t then true else stands_among texts other)
  put-held other true same = ap is_some (here other same)
  put-held other false differs = ap is_some (others-kept key.items old new updates.3 other differs) ∙ h.held other

  put-key : HasPlaces new (texts ++ key.items ∷ [])
  put-key =
      record {
        found = λ other. put-found other (bytes_eq key.items other) refl;
        held = λ other. put-held other (bytes_eq key.items other) refl ∙ sym (list_any-append (λ t. bytes_eq t other) texts (key.items ∷ []) ∙ or-last (stands_among texts other) (bytes_eq key.items other));
      }

-- the order of these texts and one more
pub put-places : (old new : Places) (key : Vec ℕ Global) (text : List ℕ) (place : ℕ) → key.items ≡ text → Updates key_cmp old new key (Some place)
    → (texts : List (List ℕ)) → HasPlaces old texts → place ≡ length texts → HasPlaces new (texts ++ text ∷ [])
put-places old new key text place is_key updates texts h at_end =
    subst (λ t. HasPlaces new (texts ++ t ∷ [])) is_key (put-key old new key place updates texts h at_end)

-- the order of no texts
pub none-placed : (places : Places) → places.entries ≡ [] → HasPlaces places []
none-placed places empty = record { found = λ text. rw empty tt; held = λ text. rw empty refl }

-- the order of the texts up to a place, and of the one there
pub next-placed : (old new : Places) (bytes : List ℕ) (slots : List Slot) (p : ℕ) (d : Slot) → p < length slots
    → ((texts : List (List ℕ)) → HasPlaces old texts → p ≡ length texts → HasPlaces new (texts ++ slice_range bytes (get_or slots p d).start (get_or slots p d).end ∷ []))
    → HasPlaces old (take p (texts_at bytes slots)) → HasPlaces new (take (p + 1) (texts_at bytes slots))
next-placed old new bytes slots p d within step h =
    let texts = texts_at bytes slots in
    let many : length texts ≡ length slots = length-map slots (λ (s : Slot). slice_range bytes s.start s.end) in
    let long : p ≡ length (take p texts) = sym (length-take-le p texts (omega (arith, many, within))) in
    let next : take p texts ++ slice_range bytes (get_or slots p d).start (get_or slots p d).end ∷ [] ≡ take (p + 1) texts =
    ap (λ t. take p texts ++ t ∷ []) (text_at bytes slots p d within) ∙ sym (take_more texts p [] (omega (arith, many, within))) in
    subst (HasPlaces new) next (step (take p texts) h long)

-- The place of a text that stands among others. Crates above cite these lemmas.

-- what some element passes, the first of them has a place for
pub any-place : {T : Type 0} (p : T → Bool) (xs : List T) → list_any p xs ≡ true → position_or_len p xs < length xs
any-place p [] h = absurd (false≢true h)
any-place p (x ∷ xs) h =
    elim (cases_Bool (p x)) [
      | inl here ↦ rw here (omega arith)
      | inr later ↦ let rest = any-place p xs (rw later at h) in rw later (omega arith)
    ]

-- the test may be turned round
pub held-turned : (text : List ℕ) (texts : List (List ℕ)) → stands_among texts text ≡ list_any (bytes_eq text) texts
held-turned text [] = refl
held-turned text (t ∷ ts) = rw (nat_list_eq_equiv.symm t text, held-turned text ts) refl

-- a text that stands among others has a place there
pub held-place : (texts : List (List ℕ)) (text : List ℕ) → stands_among texts text ≡ true → place_among texts text < length texts
held-place texts text h = any-place (bytes_eq text) texts (sym (held-turned text texts) ∙ h)

-- and it stands at its place
pub at-place : (texts : List (List ℕ)) (text : List ℕ) → place_among texts text < length texts → text ≡ get_or texts (place_among texts text) []
at-place texts text within = (bytes_eq-Decides text _).0 (passes_at_first (bytes_eq text) texts [] within)

-- and is read there
pub place-reads : (texts : List (List ℕ)) (text : List ℕ) → stands_among texts text ≡ true → slice_get texts (place_among texts text) ≡ Some text
place-reads texts text h =
    let within = held-place texts text h in
    slice_get-get_or texts (place_among texts text) [] within ∙ ap Some (sym (at-place texts text within))

-- what is found for a text that stands among distinct ones is its place
pub found-place : (texts : List (List ℕ)) (text : List ℕ) (found : Option ℕ) → ((a b : ℕ) → a < length texts → slice_get texts a ≡ slice_get texts b → a ≡ b)
    → IfSome found (λ id. slice_get texts id ≡ Some text) → is_some found ≡ stands_among texts text → stands_among texts text ≡ true
    → found ≡ Some (place_among texts text)
found-place texts text None distinct is held h = absurd (false≢true (held ∙ h))
found-place texts text (Some id) distinct is held h =
    ap Some (sym (distinct (place_among texts text) id (held-place texts text h) (place-reads texts text h ∙ sym is)))
