-- What a search along a chain has still to look at.
use Rattle.std.proofs.Common.{◌≡◌, ◌<◌, ◌≤◌, ◌+◌, ◌-◌, ◌==◌, ℕ, suc, true, false, ◌≢◌, List, [], length, get_or, ap, sym, ◌∙◌, arith, eq-eqb, inl, inr, slice_range, All, subst, ◌++◌, ◌∷◌, if◌then◌else◌, refl, bytes_eq}
use Rattle.std.proofs.lemmas.Slice.Eq.{bytes_eq-Decides}
use Rattle.std.proofs.lemmas.Bool.{and_from, and_parts, cases_order, false_from_ne_true, false≢true}
use Rattle.std.proofs.lemmas.List.{get_or_read, length-map}
use Rattle.std.proofs.lemmas.List.Elements.{All-from_get_or}
use Rattle.std.proofs.lemmas.List.Folds.{list_any_at, list_any_none}
use Rattle.value_pool.specs.declared.chains.Slot.{Slot}
use Rattle.value_pool.specs.Pool.{stands_among, PoolState, HasTaken, KeepsRoom, with_text}
use Rattle.value_pool.specs.Table.{hashes_of, nexts_of, texts_at, IsSlotWithin, IsChained, bucket_of, last_in, IsHashed, has_text, IsTable, texts_of, HasAppended, state_of}
use Rattle.value_pool.specs.Hashes.{hash_of}
use Rattle.value_pool.proofs.ChainLemmas.{at-bucket, last-le, last-same, last-skip, slot_at}
use Rattle.value_pool.specs.declared.table.Table.{Table}

pub none-held : (texts : List (List ℕ)) (text : List ℕ) → ((q : ℕ) → q < length texts → get_or texts q [] ≢ text) → stands_among texts text ≡ false
none-held texts text h =
    list_any_none (λ t. bytes_eq t text) texts
    (All-from_get_or (λ t. bytes_eq t text ≡ false) texts [] (λ q within. false_from_ne_true (bytes_eq (get_or texts q []) text) (λ e. h q within ((bytes_eq-Decides (get_or texts q []) text).0 e))))

pub held_where : (texts : List (List ℕ)) (text : List ℕ) (k : ℕ) → k < length texts → get_or texts k [] ≡ text → stands_among texts text ≡ true
held_where texts text k h e = list_any_at (λ t. bytes_eq t text) texts k [] h ((bytes_eq-Decides (get_or texts k []) text).1 e)

pub text_at_slot : (bytes : List ℕ) (slots : List Slot) (p : ℕ) (s : Slot) → p < length slots → s ≡ get_or slots p s → slice_range bytes s.start s.end ≡ get_or (texts_at bytes slots) p []
text_at_slot bytes slots p s h e = slot_at (λ (y : Slot). slice_range bytes y.start y.end) slots p s [] h e

-- what is left to look at in a chain
pub record IsLeft (m : ℕ) (texts : List (List ℕ)) (hashes : List ℕ) (text : List ℕ) (b at : ℕ) : Type 0 where
  pub within : at ≤ length hashes
  pub own : at ≡ last_in m hashes b at
  pub others : (q : ℕ) → at ≤ q → q < length texts → get_or texts q [] ≢ text

-- a place outside a bucket has no text of that bucket
other_bucket : (m : ℕ) (texts : List (List ℕ)) (hashes : List ℕ) (text : List ℕ) (b q : ℕ) → IsHashed texts hashes → b ≡ bucket_of m (hash_of text) → q < length texts → bucket_of m (get_or hashes q 0) ≢ b → get_or texts q [] ≢ text
other_bucket m texts hashes text b q h is_b within other = λ same. other (ap (bucket_of m) (h.hash_at q within ∙ ap hash_of same) ∙ sym is_b)

pub left-start : (heads : List ℕ) (texts : List (List ℕ)) (hashes nexts : List ℕ) (text : List ℕ) (b at : ℕ) → IsChained heads hashes nexts → IsHashed texts hashes → length texts ≡ length hashes → b < length heads → b ≡ bucket_of (length heads) (hash_of text) → at ≡ get_or heads b at → IsLeft (length heads) texts hashes text b at
left-start heads texts hashes nexts text b at h hashed many low is_b is_at =
    let m = length heads in
    let is_last : at ≡ last_in m hashes b (length hashes) = get_or_read heads b at low is_at 0 ∙ h.head_at b low in
    let below = last-le m hashes b (length hashes) in
    record {
      within = omega arith;
      own = is_last ∙ sym (last-same m hashes b (length hashes)) ∙ ap (last_in m hashes b) (sym is_last);
      others = λ q above within. other_bucket m texts hashes text b q hashed is_b within (last-skip m hashes b (length hashes) q (omega arith) (omega arith));
    }

left-next : (heads : List ℕ) (texts : List (List ℕ)) (hashes nexts : List ℕ) (text : List ℕ) (b at p next : ℕ) → IsChained heads hashes nexts → IsHashed texts hashes → b ≡ bucket_of (length heads) (hash_of text) → IsLeft (length heads) texts hashes text b at → at ≡ p + 1 → next ≡ get_or nexts p 0 → get_or texts p [] ≢ text → IsLeft (length heads) texts hashes text b next × (next < at)
left-next heads texts hashes nexts text b at p next h hashed is_b left is_at is_next differs =
    let m = length heads in
    let own : suc p ≡ last_in m hashes b (suc p) = let same : at ≡ suc p = omega arith in sym same ∙ left.own ∙ ap (last_in m hashes b) same in
    let here : bucket_of m (get_or hashes p 0) ≡ b = at-bucket m hashes b p own in
    let is_last : next ≡ last_in m hashes b p = is_next ∙ h.next_at p (omega (arith, left.within)) ∙ ap (λ c. last_in m hashes c p) here in
    let low = last-le m hashes b p in (
      record {
        within = omega (arith, left.within);
        own = is_last ∙ sym (last-same m hashes b p) ∙ ap (last_in m hashes b) (sym is_last);
        others = λ q low within. elim (cases_order q p) [
          | inl e ↦ λ same. differs (ap (λ k. get_or texts k []) (sym e) ∙ same)
          | inr w ↦ elim w [
            | inl below ↦ other_bucket m texts hashes text b q hashed is_b within (last-skip m hashes b p q (omega arith) below)
            | inr past ↦ left.others q (omega arith) within
          ]
        ];
      },
      omega arith,
    )

pub as_many : (bytes : List ℕ) (slots : List Slot) → length (texts_at bytes slots) ≡ length (hashes_of slots)
as_many bytes slots = length-map slots (λ (s : Slot). slice_range bytes s.start s.end) ∙ sym (length-map slots (λ (s : Slot). s.hash))

pub inside_slots : (slots : List Slot) (at : ℕ) → at ≤ length (hashes_of slots) → at ≢ 0 → at - 1 < length slots
inside_slots slots at h k = omega (arith, length-map slots (λ (s : Slot). s.hash))

-- a slot that has not a text by its hash has another text
pub next_left : (bytes : List ℕ) (slots : List Slot) (heads text : List ℕ) (hash b at : ℕ) (s : Slot) → IsChained heads (hashes_of slots) (nexts_of slots) → IsHashed (texts_at bytes slots) (hashes_of slots) → hash ≡ hash_of text → b ≡ bucket_of (length heads) hash → IsLeft (length heads) (texts_at bytes slots) (hashes_of slots) text b at → at ≢ 0 → s ≡ get_or slots (at - 1) s → has_text bytes s hash text ≡ false → IsLeft (length heads) (texts_at bytes slots) (hashes_of slots) text b s.next × (s.next < at)
next_left bytes slots heads text hash b at s h hashed is_hash is_b left some is_s differs =
    let within = inside_slots slots at left.within some in
    let many = as_many bytes slots in
    let inside : at - 1 < length (texts_at bytes slots) = omega (arith, length-map slots (λ (s : Slot). s.hash)) in
    left-next heads (texts_at bytes slots) (hashes_of slots) (nexts_of slots) text b at (at - 1) s.next h hashed (is_b ∙ ap (bucket_of (length heads)) is_hash) left (omega arith) (slot_at (λ (y : Slot). y.next) slots (at - 1) s 0 within is_s)
    (λ same.
    let own : s.hash ≡ hash = slot_at (λ (y : Slot). y.hash) slots (at - 1) s 0 within is_s ∙ hashed.hash_at (at - 1) inside ∙ ap hash_of same ∙ sym is_hash in
    false≢true (sym differs ∙ and_from (s.hash == hash) (bytes_eq (slice_range bytes s.start s.end) text) (eq-eqb _ _ own) ((bytes_eq-Decides _ _).1 (text_at_slot bytes slots (at - 1) s within is_s ∙ same))))

pub text_by_hash : (bytes : List ℕ) (s : Slot) (hash : ℕ) (text : List ℕ) → has_text bytes s hash text ≡ true → slice_range bytes s.start s.end ≡ text
text_by_hash bytes s hash text h = (bytes_eq-Decides (slice_range bytes s.start s.end) text).0 (and_parts (s.hash == hash) (bytes_eq (slice_range bytes s.start s.end) text) h).1

-- Tables whose chains are made anew, or whose texts are put in order.

texts_count : (bytes : List ℕ) (slots : List Slot) → length (texts_at bytes slots) ≡ length slots
texts_count bytes slots = length-map slots (λ (s : Slot). slice_range bytes s.start s.end)

-- the same texts in other chains
pub anew : (old new : Table) (slots : List Slot) (heads : List ℕ) → IsTable old → new.bytes.items ≡ old.bytes.items → new.slots.items ≡ slots → new.heads.items ≡ heads → new.order ≡ old.order
    → texts_at old.bytes.items slots ≡ texts_of old → All (IsSlotWithin old.bytes.items) slots
    → IsHashed (texts_at old.bytes.items slots) (hashes_of slots) → IsChained heads (hashes_of slots) (nexts_of slots) → IsTable new
anew old new slots heads h bytes is_slots is_heads is_order same within hashed chained =
    let texts : texts_of new ≡ texts_of old = (λ i. texts_at (bytes i) (is_slots i)) ∙ same in
    let count : length new.slots.items ≡ length old.slots.items = ap length is_slots ∙ sym (texts_count old.bytes.items slots) ∙ ap length same ∙ texts_count old.bytes.items old.slots.items in
    record {
      within = rw (bytes, is_slots) within;
      distinct = rw texts h.distinct;
      few = rw (texts, count, bytes) h.few;
      chained = rw (is_slots, is_heads) chained;
      hashed = rw (texts, is_slots) (subst (λ (ts : List (List ℕ)). IsHashed ts (hashes_of slots)) same hashed);
      ordered = rw (texts, is_order) h.ordered;
      short = rw bytes h.short;
      whole = rw (texts, bytes) h.whole;
    }

-- What a pool is after it has taken a text: its table may have changed its order and its chains since.

module _ (limit : ℕ) (old made new : Table) (pool : PoolState) (text : List ℕ) (view : pool ≡ state_of limit old) (same : state_of 0 new ≡ state_of 0 made) (fresh : stands_among (texts_of old) text ≡ false) where
  taken_texts : with_text pool text ≡ texts_of old ++ text ∷ []
  taken_texts = rw (view, fresh) refl

  new_texts : texts_of made ≡ texts_of old ++ text ∷ [] → texts_of new ≡ with_text pool text
  new_texts made_is = ap (λ (s : PoolState). s.texts) same ∙ made_is ∙ sym taken_texts

  taken_bytes : pool.used + (if stands_among pool.texts text then 0 else length text) ≡ length old.bytes.items + length text
  taken_bytes = rw (view, fresh) refl

  new_used : length made.bytes.items ≡ length old.bytes.items + length text → length new.bytes.items ≡ pool.used + (if stands_among pool.texts text then 0 else length text)
  new_used made_is = ap (λ (s : PoolState). s.used) same ∙ made_is ∙ sym taken_bytes

  new_room : KeepsRoom (state_of 0 old) (state_of 0 made) 1 (length text) → KeepsRoom pool (state_of limit new) 1 (length text)
  new_room made_room =
      record {
        of_texts = omega (arith, ap (λ (s : PoolState). s.spare_texts) view, ap (λ (s : PoolState). s.spare_texts) same, made_room.of_texts);
        of_bytes = omega (arith, ap (λ (s : PoolState). s.spare_bytes) view, ap (λ (s : PoolState). s.spare_bytes) same, made_room.of_bytes);
      }

  pub new_taken : HasAppended text old made → HasTaken text pool (state_of limit new)
  new_taken appended = record {
    texts = new_texts appended.texts;
    used = new_used appended.used;
    room = new_room appended.room;
    room_held = λ held. let other : stands_among (texts_of old) text ≡ true = subst (λ (s : PoolState). stands_among s.texts text ≡ true) view held in absurd (cc);
  }
