-- Chains of the places whose hashes have one bucket, the last first.
use Rattle.std.proofs.Common.{◌≡◌, ◌<◌, ◌≤◌, ◌==◌, ℕ, zero, suc, Bool, true, false, ◌≢◌, List, [], ◌∷◌, ◌++◌, length, map, get_or, refl, ap, sym, ◌∙◌, arith, inl, inr, eqb-true, eq-eqb, if◌then◌else◌, set, length-set, ◌+◌, ◌*◌, ◌-◌, ◌^◌, nat_le, ◌||◌, take, drop, length-append, length-drop, Some, slice_get, slice_range, bytes_eq}
use Rattle.std.proofs.lemmas.Grind.{common_steps}
use Rattle.std.proofs.lemmas.Bool.{cases_lt, false≢true}
use Rattle.std.proofs.lemmas.Bool.Decides.{nat_tests}
use Rattle.std.proofs.lemmas.List.{get_or-map, get_or_append_left, get_or_push, get_or_read, length_push, ext_get_or, drop-append-le, length-map, map-append, take-append-le}
use Rattle.value_pool.specs.declared.chains.Slot.{Slot}
use Rattle.value_pool.specs.Table.{IsChained, bucket_of, last_in, IsHashed, IsSlotWithin, most_texts, texts_at}
use Rattle.std.proofs.lemmas.Slice.Eq.{bytes_eq-Decides}
use Rattle.std.specs.Int.{to_le_bytes, w32, w64}
use Rattle.std.proofs.lemmas.Nat.{le_bytes_4, le_bytes_8}
use Rattle.value_pool.specs.Hashes.{eight_bytes_at, few_bytes, four_bytes_at, last_word, hash_of}
use Rattle.std.specs.List.{All, AllPairs, list_any, sum_by}
use Rattle.std.proofs.lemmas.List.Sums.{sum_by_push}
use Rattle.std.proofs.lemmas.List.Quantifiers.{all_pairs_push}
use Rattle.std.proofs.lemmas.List.Folds.{list_any-append, list_any_at}
use Rattle.std.proofs.lemmas.Option.{slice_get-get_or}
use Rattle.std.proofs.lemmas.List.Elements.{All-push}
use Rattle.value_pool.specs.Pool.{stands_among}

module _ (m : ℕ) where
  pub last-le : (hashes : List ℕ) (b n : ℕ) → last_in m hashes b n ≤ n
  last-le hashes b zero = omega arith
  last-le hashes b (suc n) = by_test (bucket_of m (get_or hashes n 0) == b) (last-le hashes b n)
    where
      by_test : (t : Bool) → last_in m hashes b n ≤ n → (if t then suc n else last_in m hashes b n) ≤ suc n
      by_test true rest = omega arith
      by_test false rest = omega arith

  pub last-same : (hashes : List ℕ) (b n : ℕ) → last_in m hashes b (last_in m hashes b n) ≡ last_in m hashes b n
  last-same hashes b zero = refl
  last-same hashes b (suc n) = by_test (bucket_of m (get_or hashes n 0) == b) refl (last-same hashes b n)
    where
      by_test : (t : Bool) → (bucket_of m (get_or hashes n 0) == b) ≡ t → last_in m hashes b (last_in m hashes b n) ≡ last_in m hashes b n → last_in m hashes b (if t then suc n else last_in m hashes b n) ≡ (if t then suc n else last_in m hashes b n)
      by_test true e rest = rw e refl
      by_test false e rest = rest

  pub at-bucket : (hashes : List ℕ) (b p : ℕ) → suc p ≡ last_in m hashes b (suc p) → bucket_of m (get_or hashes p 0) ≡ b
  at-bucket hashes b p e = by_test (bucket_of m (get_or hashes p 0) == b) refl e
    where
      by_test : (t : Bool) → (bucket_of m (get_or hashes p 0) == b) ≡ t → suc p ≡ (if t then suc p else last_in m hashes b p) → bucket_of m (get_or hashes p 0) ≡ b
      by_test true h k = eqb-true _ b h
      by_test false h k = let low = last-le hashes b p in absurd (omega arith)

  skip-at : (hashes : List ℕ) (b n q : ℕ) (u t : Bool) → (q == n) ≡ u → (bucket_of m (get_or hashes n 0) == b) ≡ t → (if t then suc n else last_in m hashes b n) ≤ q → q < suc n → (last_in m hashes b n ≤ q → q < n → bucket_of m (get_or hashes q 0) ≢ b) → bucket_of m (get_or hashes q 0) ≢ b
  skip-at hashes b n q u true at e low within rest = absurd (omega arith)
  skip-at hashes b n q true false at e low within rest = λ same. let here : q ≡ n = eqb-true q n at in let found : (bucket_of m (get_or hashes n 0) == b) ≡ true = eq-eqb _ b (ap (λ k. bucket_of m (get_or hashes k 0)) (sym here) ∙ same) in cc
  skip-at hashes b n q false false at e low within rest = rest low (grind (arith, nat_tests))

  pub last-skip : (hashes : List ℕ) (b n q : ℕ) → last_in m hashes b n ≤ q → q < n → bucket_of m (get_or hashes q 0) ≢ b
  last-skip hashes b zero q h k = absurd (omega arith)
  last-skip hashes b (suc n) q h k = skip-at hashes b n q (q == n) (bucket_of m (get_or hashes n 0) == b) refl refl h k (last-skip hashes b n q)

head-step : (heads : List ℕ) (b c v w : ℕ) → b < length heads → get_or heads c 0 ≡ w → get_or (set heads b v) c 0 ≡ (if b == c then v else w)
head-step heads b c v w h e = grind (arith, common_steps, nat_tests)

-- lists that agree below n have the same chains there
last-alike : (m : ℕ) (hashes others : List ℕ) (b n : ℕ) → ((q : ℕ) → q < n → get_or others q 0 ≡ get_or hashes q 0) → last_in m others b n ≡ last_in m hashes b n
last-alike m hashes others b zero same = refl
last-alike m hashes others b (suc n) same = rw (same n (omega arith), last-alike m hashes others b n (λ q lt. same q (omega arith))) refl

-- the chains of the first n hashes
pub record IsThreaded (m : ℕ) (heads : List ℕ) (hashes : List ℕ) (nexts : List ℕ) (n : ℕ) : Type 0 where
  pub head_at : (b : ℕ) → b < length heads → get_or heads b 0 ≡ last_in m hashes b n
  pub next_at : (p : ℕ) → p < n → get_or nexts p 0 ≡ last_in m hashes (bucket_of m (get_or hashes p 0)) p

-- one hash more, in front of the chain of its bucket
module _ (m : ℕ) (heads hashes nexts others links : List ℕ) (n b next v n' : ℕ) (h : IsThreaded m heads hashes nexts n) (same : (q : ℕ) → q < n → get_or others q 0 ≡ get_or hashes q 0) (kept : (q : ℕ) → q < n → get_or links q 0 ≡ get_or nexts q 0) (own : get_or links n 0 ≡ next) where
  pub threaded_step : b < length heads → b ≡ bucket_of m (get_or others n 0) → next ≡ get_or heads b next → v ≡ suc n → n' ≡ suc n → IsThreaded m (set heads b v) others links n'
  threaded_step low is_b is_next is_v is_n' = rw is_n' (record {
    head_at = λ c within. head-step heads b c v (last_in m hashes c n) low (h.head_at c (omega (arith, length-set heads b v, within))) ∙ (λ i. if is_b i == c then is_v i else last_in m hashes c n)
        ∙ ap (λ k. if bucket_of m (get_or others n 0) == c then suc n else k) (sym (last-alike m hashes others c n same));
    next_at = λ p within. elim (cases_lt p n) [
      | inl below ↦ kept p below ∙ h.next_at p below ∙ ap (λ k. last_in m hashes (bucket_of m k) p) (sym (same p below)) ∙ sym (last-alike m hashes others (bucket_of m (get_or others p 0)) p (λ q lt. same q (omega arith)))
      | inr past ↦
          let at : p ≡ n = omega arith in
          let first : next ≡ last_in m hashes b n = get_or_read heads b next low is_next 0 ∙ h.head_at b low in
          rw at (own ∙ first ∙ ap (λ c. last_in m hashes c n) is_b ∙ sym (last-alike m hashes others (bucket_of m (get_or others n 0)) n same))
    ];
  })

pub threaded_all : (m : ℕ) (heads : List ℕ) (hashes : List ℕ) (nexts : List ℕ) (n : ℕ) → 1 ≤ m → length heads ≡ m → n ≡ length hashes → IsThreaded m heads hashes nexts n → IsChained heads hashes nexts
threaded_all m heads hashes nexts n some size all h =
    record { some = omega arith; head_at = λ b within. rw size (h.head_at b within ∙ ap (last_in m hashes b) all); next_at = λ p within. rw size (h.next_at p (omega arith)) }

pub chained-push : (heads : List ℕ) (hashes : List ℕ) (nexts : List ℕ) (t : ℕ) (b next v : ℕ) → IsChained heads hashes nexts → length nexts ≡ length hashes → b < length heads → b ≡ bucket_of (length heads) t → next ≡ get_or heads b next → v ≡ suc (length hashes) → IsChained (set heads b v) (hashes ++ t ∷ []) (nexts ++ next ∷ [])
chained-push heads hashes nexts t b next v h long low is_b is_next is_v =
    let n = length hashes in
    let step = threaded_step (length heads) heads hashes nexts (hashes ++ t ∷ []) (nexts ++ next ∷ []) n b next v (suc n) (record { head_at = h.head_at; next_at = h.next_at })
    (λ q lt. get_or_append_left hashes (t ∷ []) 0 q lt) (λ q lt. get_or_append_left nexts (next ∷ []) 0 q (omega arith)) (get_or_push nexts next 0 n long)
    low (rw (get_or_push hashes t 0 n refl) is_b) is_next is_v refl in
    threaded_all (length heads) (set heads b v) (hashes ++ t ∷ []) (nexts ++ next ∷ []) (suc n) h.some (length-set heads b v) (omega (arith, length_push hashes t)) step

-- what a slot has is what stands at its place among those of all slots
pub slot_at : {X : Type 0} (f : Slot → X) (slots : List Slot) (p : ℕ) (s : Slot) (d : X) → p < length slots → s ≡ get_or slots p s → f s ≡ get_or (map f slots) p d
slot_at f slots p s d lt e = ap f e ∙ sym (get_or-map f slots p s d lt)

-- Last words tell short texts apart.

abbrev IsBytes : List ℕ → Type 0
IsBytes text = (i : ℕ) → get_or text i 0 < 256

-- four bytes from a place on, and eight
abbrev four : List ℕ → ℕ → List ℕ
four t m = get_or t m 0 ∷ get_or t (m + 1) 0 ∷ get_or t (m + 2) 0 ∷ get_or t (m + 3) 0 ∷ []

abbrev eight : List ℕ → ℕ → List ℕ
eight t m = get_or t m 0 ∷ get_or t (m + 1) 0 ∷ get_or t (m + 2) 0 ∷ get_or t (m + 3) 0 ∷ get_or t (m + 4) 0 ∷ get_or t (m + 5) 0 ∷ get_or t (m + 6) 0 ∷ get_or t (m + 7) 0 ∷ []

at_four : (t : List ℕ) (m j k : ℕ) → j < 4 → k ≡ m + j → get_or (four t m) j 0 ≡ get_or t k 0
at_four t m zero k lt e = ap (λ x. get_or t x 0) (omega arith)
at_four t m (suc zero) k lt e = ap (λ x. get_or t x 0) (omega arith)
at_four t m (suc (suc zero)) k lt e = ap (λ x. get_or t x 0) (omega arith)
at_four t m (suc (suc (suc zero))) k lt e = ap (λ x. get_or t x 0) (omega arith)
at_four t m (suc (suc (suc (suc j)))) k lt e = absurd (omega arith)

at_eight : (t : List ℕ) (m j k : ℕ) → j < 8 → k ≡ m + j → get_or (eight t m) j 0 ≡ get_or t k 0
at_eight t m zero k lt e = ap (λ x. get_or t x 0) (omega arith)
at_eight t m (suc zero) k lt e = ap (λ x. get_or t x 0) (omega arith)
at_eight t m (suc (suc zero)) k lt e = ap (λ x. get_or t x 0) (omega arith)
at_eight t m (suc (suc (suc zero))) k lt e = ap (λ x. get_or t x 0) (omega arith)
at_eight t m (suc (suc (suc (suc zero)))) k lt e = ap (λ x. get_or t x 0) (omega arith)
at_eight t m (suc (suc (suc (suc (suc zero))))) k lt e = ap (λ x. get_or t x 0) (omega arith)
at_eight t m (suc (suc (suc (suc (suc (suc zero)))))) k lt e = ap (λ x. get_or t x 0) (omega arith)
at_eight t m (suc (suc (suc (suc (suc (suc (suc zero))))))) k lt e = ap (λ x. get_or t x 0) (omega arith)
at_eight t m (suc (suc (suc (suc (suc (suc (suc (suc j)))))))) k lt e = absurd (omega arith)

small_four : (t : List ℕ) (m : ℕ) → IsBytes t → IsBytes (four t m)
small_four t m h zero = h m
small_four t m h (suc zero) = h (m + 1)
small_four t m h (suc (suc zero)) = h (m + 2)
small_four t m h (suc (suc (suc zero))) = h (m + 3)
small_four t m h (suc (suc (suc (suc k)))) = omega arith

small_eight : (t : List ℕ) (m : ℕ) → IsBytes t → IsBytes (eight t m)
small_eight t m h zero = h m
small_eight t m h (suc zero) = h (m + 1)
small_eight t m h (suc (suc zero)) = h (m + 2)
small_eight t m h (suc (suc (suc zero))) = h (m + 3)
small_eight t m h (suc (suc (suc (suc zero)))) = h (m + 4)
small_eight t m h (suc (suc (suc (suc (suc zero))))) = h (m + 5)
small_eight t m h (suc (suc (suc (suc (suc (suc zero)))))) = h (m + 6)
small_eight t m h (suc (suc (suc (suc (suc (suc (suc zero))))))) = h (m + 7)
small_eight t m h (suc (suc (suc (suc (suc (suc (suc (suc k)))))))) = omega arith

fours : (x t : List ℕ) (m : ℕ) → IsBytes x → IsBytes t → four_bytes_at x m ≡ four_bytes_at t m → four x m ≡ four t m
fours x t m of_x of_t same =
    sym (le_bytes_4 (four x m) (four_bytes_at x m) refl (small_four x m of_x) refl) ∙ ap (to_le_bytes w32) same ∙ le_bytes_4 (four t m) (four_bytes_at t m) refl (small_four t m of_t) refl

eights : (x t : List ℕ) (m : ℕ) → IsBytes x → IsBytes t → eight_bytes_at x m ≡ eight_bytes_at t m → eight x m ≡ eight t m
eights x t m of_x of_t same =
    sym (le_bytes_8 (eight x m) (eight_bytes_at x m) refl (small_eight x m of_x) refl) ∙ ap (to_le_bytes w64) same ∙ le_bytes_8 (eight t m) (eight_bytes_at t m) refl (small_eight t m of_t) refl

-- what is less than 2^32 and what is behind it
halves : (low high low' high' : ℕ) → low < 2 ^ 32 → low' < 2 ^ 32 → low + high * 2 ^ 32 ≡ low' + high' * 2 ^ 32 → (low ≡ low') × (high ≡ high')
halves low high low' high' small small' same = (omega arith, omega arith)

small_word : (t : List ℕ) (m : ℕ) → IsBytes t → four_bytes_at t m < 2 ^ 32
small_word t m h = omega (arith, h m, h (m + 1), h (m + 2), h (m + 3))

of_few : (x t : List ℕ) → IsBytes x → IsBytes t → length x ≡ length t → length x < 4 → few_bytes x ≡ few_bytes t → x ≡ t
of_few x t of_x of_t long few same = ext_get_or 0 x t long each
  where
    each : (k : ℕ) → k < length x → get_or x k 0 ≡ get_or t k 0
    each zero lt = omega (arith, of_x 0, of_x 1, of_x 2, of_t 0, of_t 1, of_t 2)
    each (suc zero) lt = omega (arith, of_x 0, of_x 1, of_x 2, of_t 0, of_t 1, of_t 2)
    each (suc (suc zero)) lt = omega (arith, of_x 0, of_x 1, of_x 2, of_t 0, of_t 1, of_t 2)
    each (suc (suc (suc k))) lt = absurd (omega arith)

of_four : (x t : List ℕ) → IsBytes x → IsBytes t → length x ≡ length t → 4 ≤ length x → length x < 8 → four_bytes_at x 0 + four_bytes_at x (length x - 4) * 2 ^ 32 ≡ four_bytes_at t 0 + four_bytes_at t (length x - 4) * 2 ^ 32 → x ≡ t
of_four x t of_x of_t long some few same =
    let m = length x - 4 in
    let parts = halves (four_bytes_at x 0) (four_bytes_at x m) (four_bytes_at t 0) (four_bytes_at t m) (small_word x 0 of_x) (small_word t 0 of_t) same in
    let front = fours x t 0 of_x of_t parts.0 in
    let back = fours x t m of_x of_t parts.1 in
    ext_get_or 0 x t long (λ k lt. by_half (nat_le 4 k) k refl lt m refl front back)
  where
    by_half : (u : Bool) (k : ℕ) → nat_le 4 k ≡ u → k < length x → (m : ℕ) → m ≡ length x - 4 → four x 0 ≡ four t 0 → four x m ≡ four t m → get_or x k 0 ≡ get_or t k 0
    by_half true k is lt m e front back = sym (at_four x m (k - m) k (grind (arith, nat_tests)) (grind (arith, nat_tests))) ∙ ap (λ ws. get_or ws (k - m) 0) back ∙ at_four t m (k - m) k (grind (arith, nat_tests)) (grind (arith, nat_tests))
    by_half false k is lt m e front back = sym (at_four x 0 k k (grind (arith, nat_tests)) (omega arith)) ∙ ap (λ ws. get_or ws k 0) front ∙ at_four t 0 k k (grind (arith, nat_tests)) (omega arith)

of_eight : (x t : List ℕ) → IsBytes x → IsBytes t → length x ≡ length t → length x ≡ 8 → eight_bytes_at x 0 ≡ eight_bytes_at t 0 → x ≡ t
of_eight x t of_x of_t long is same =
    let all = eights x t 0 of_x of_t same in
    ext_get_or 0 x t long (λ k lt. sym (at_eight x 0 k k (omega (arith, is, lt)) (omega arith)) ∙ ap (λ ws. get_or ws k 0) all ∙ at_eight t 0 k k (omega (arith, is, lt)) (omega arith))

-- the last word of a text of so many bytes
abbrev word_of : ℕ → List ℕ → ℕ
word_of n text = if nat_le 8 n then eight_bytes_at text (n - 8) else (if nat_le 4 n then four_bytes_at text 0 + four_bytes_at text (n - 4) * 2 ^ 32 else few_bytes text)

-- texts of one length that are no longer than a word are equal where their last words are
pub word_whole : (x t : List ℕ) → ((i : ℕ) → get_or x i 0 < 256) → ((i : ℕ) → get_or t i 0 < 256) → length x ≡ length t → length x ≤ 8 → last_word x ≡ last_word t → x ≡ t
unfolding last_word
word_whole x t of_x of_t long few same = by_tests (nat_le 8 (length x)) (nat_le 4 (length x)) refl refl (same ∙ ap (λ n. word_of n t) (sym long))
  where
    by_tests : (u v : Bool) → nat_le 8 (length x) ≡ u → nat_le 4 (length x) ≡ v
        → (if u then eight_bytes_at x (length x - 8) else (if v then four_bytes_at x 0 + four_bytes_at x (length x - 4) * 2 ^ 32 else few_bytes x)) ≡ (if u then eight_bytes_at t (length x - 8) else (if v then four_bytes_at t 0 + four_bytes_at t (length x - 4) * 2 ^ 32 else few_bytes t))
        → x ≡ t
    by_tests true v is_u is_v e =
        let all : length x ≡ 8 = grind (arith, nat_tests) in
        of_eight x t of_x of_t long all (ap (eight_bytes_at x) (omega (arith, all)) ∙ e ∙ ap (eight_bytes_at t) (omega (arith, all)))
    by_tests false true is_u is_v e = of_four x t of_x of_t long (grind (arith, nat_tests)) (grind (arith, nat_tests)) e
    by_tests false false is_u is_v e = of_few x t of_x of_t long (grind (arith, nat_tests)) e

-- The hashes that the texts of a table have.

-- one text more
pub hashed-push : (texts : List (List ℕ)) (hashes : List ℕ) (text : List ℕ) (hash : ℕ) → IsHashed texts hashes → length texts ≡ length hashes → hash ≡ hash_of text → IsHashed (texts ++ text ∷ []) (hashes ++ hash ∷ [])
hashed-push texts hashes text hash h many is_hash = record {
  hash_at = λ p within. elim (cases_lt p (length texts)) [
    | inl below ↦ get_or_append_left hashes (hash ∷ []) 0 p (omega arith) ∙ h.hash_at p below ∙ ap hash_of (sym (get_or_append_left texts (text ∷ []) [] p below))
    | inr past ↦
        let at : length texts ≡ p = omega (arith, length_push texts text) in
        get_or_push hashes hash 0 p (omega arith) ∙ is_hash ∙ ap hash_of (sym (get_or_push texts text [] p at))
  ];
}

-- One text more in a region of bytes.

pub found_at : (bytes : List ℕ) (slots : List Slot) (i : ℕ) (s : Slot) (text : List ℕ) → i < length slots → s ≡ get_or slots i s → slice_range bytes s.start s.end ≡ text → slice_get (texts_at bytes slots) i ≡ Some text
found_at bytes slots i s text h e r =
    let read = λ (y : Slot). slice_range bytes y.start y.end in
    slice_get-get_or (texts_at bytes slots) i [] (omega (arith, length-map slots read)) ∙ ap Some (sym (slot_at read slots i s [] h e) ∙ r)

read-append : (bytes more : List ℕ) (a b : ℕ) → a ≤ b → b ≤ length bytes → slice_range (bytes ++ more) a b ≡ slice_range bytes a b
read-append bytes more a b h k =
    let rest : b - a ≤ length (drop a bytes) = simp length-drop (omega arith) in
    ap (take (b - a)) (drop-append-le a bytes more (omega arith)) ∙ take-append-le (b - a) (drop a bytes) more rest

pub texts-append : (bytes more : List ℕ) (slots : List Slot) → All (IsSlotWithin bytes) slots → texts_at (bytes ++ more) slots ≡ texts_at bytes slots
texts-append bytes more [] h = refl
texts-append bytes more (s ∷ ss) h =
    let here = h 0 s (omega arith) in
    let rest = texts-append bytes more ss (λ k d within. h (suc k) d (omega arith)) in
    λ i. read-append bytes more s.start s.end here.ordered here.within i ∷ rest i

read-last : (bytes text : List ℕ) (a b : ℕ) → a ≡ length bytes → b ≡ a + length text → slice_range (bytes ++ text) a b ≡ text
read-last bytes text a b e f = grind (arith, common_steps)

pub texts-push : (bytes text : List ℕ) (slots : List Slot) (s : Slot) → All (IsSlotWithin bytes) slots → s.start ≡ length bytes → s.end ≡ length bytes + length text → texts_at (bytes ++ text) (slots ++ s ∷ []) ≡ texts_at bytes slots ++ text ∷ []
texts-push bytes text slots s h e f =
    map-append (λ (x : Slot). slice_range (bytes ++ text) x.start x.end) slots (s ∷ []) ∙ (λ i. texts-append bytes text slots h i ++ read-last bytes text s.start s.end e (f ∙ ap (λ n. n + length text) (sym e)) i ∷ [])

pub differs_at : (texts : List (List ℕ)) (text : List ℕ) → stands_among texts text ≡ false → (k : ℕ) (d : List ℕ) → k < length texts → get_or texts k d ≢ text
differs_at texts text h k d within = λ same. false≢true (sym h ∙ list_any_at (λ t. bytes_eq t text) texts k d within ((bytes_eq-Decides (get_or texts k d) text).1 same))

pub distinct-push : (texts : List (List ℕ)) (text : List ℕ) → AllPairs (λ a b. a ≢ b) texts → stands_among texts text ≡ false → AllPairs (λ a b. a ≢ b) (texts ++ text ∷ [])
distinct-push texts text h fresh = all_pairs_push (λ a b. a ≢ b) texts text h (differs_at texts text fresh)

abbrev any_empty : List (List ℕ) → Bool
any_empty texts = list_any (λ text. bytes_eq text []) texts

pub most-push : (n bytes : ℕ) (texts : List (List ℕ)) (text : List ℕ) → n ≤ most_texts bytes texts → stands_among texts text ≡ false → n + 1 ≤ most_texts (bytes + length text) (texts ++ text ∷ [])
most-push n bytes texts [] h fresh = rw (list_any-append (λ text. bytes_eq text []) texts ([] ∷ [])) (by_empty (any_empty texts) fresh h)
  where
    by_empty : (b : Bool) → b ≡ false → n ≤ bytes + (if b then 1 else 0) → n + 1 ≤ bytes + 0 + (if (b || true) then 1 else 0)
    by_empty true e k = cc
    by_empty false e k = omega arith
most-push n bytes texts (x ∷ xs) h fresh = rw (list_any-append (λ text. bytes_eq text []) texts ((x ∷ xs) ∷ [])) (by_other (any_empty texts) h)
  where
    by_other : (b : Bool) → n ≤ bytes + (if b then 1 else 0) → n + 1 ≤ bytes + suc (length xs) + (if (b || false) then 1 else 0)
    by_other true k = omega arith
    by_other false k = omega arith

pub within-push : (bytes text : List ℕ) (slots : List Slot) (s : Slot) → All (IsSlotWithin bytes) slots → s.start ≡ length bytes → s.end ≡ length bytes + length text → s.last ≡ last_word text → All (IsSlotWithin (bytes ++ text)) (slots ++ s ∷ [])
within-push bytes text slots s h e f g =
    let longer = length-append bytes text in
    let before : All (IsSlotWithin (bytes ++ text)) slots = λ k d within.
    let old = h k d within in
    let slot = get_or slots k d in
    record { ordered = old.ordered; within = omega (arith, longer, old.within); last = old.last ∙ ap last_word (sym (read-append bytes text slot.start slot.end old.ordered old.within)) } in
    let own : IsSlotWithin (bytes ++ text) s =
    record { ordered = omega arith; within = omega (arith, longer); last = g ∙ ap last_word (sym (read-last bytes text s.start s.end e (f ∙ ap (λ n. n + length text) (sym e)))) } in
    All-push (IsSlotWithin (bytes ++ text)) slots s before own

-- what holds of a region after one text more
pub record IsAppended (bytes text : List ℕ) (slots : List Slot) (bytes' : List ℕ) (slots' : List Slot) : Type 0 where
  pub texts : texts_at bytes' slots' ≡ texts_at bytes slots ++ text ∷ []
  pub within : All (IsSlotWithin bytes') slots'
  pub distinct : AllPairs (λ a b. a ≢ b) (texts_at bytes' slots')
  pub most : length slots' ≤ most_texts (length bytes') (texts_at bytes' slots')
  pub texts_sum : sum_by length (texts_at bytes slots) ≡ length bytes → sum_by length (texts_at bytes' slots') ≡ length bytes'

pub appended : (bytes text : List ℕ) (slots : List Slot) (s : Slot) (bytes' : List ℕ) (slots' : List Slot) → All (IsSlotWithin bytes) slots → AllPairs (λ a b. a ≢ b) (texts_at bytes slots) → length slots ≤ most_texts (length bytes) (texts_at bytes slots) → list_any (λ held. bytes_eq held text) (texts_at bytes slots) ≡ false → s.start ≡ length bytes → s.end ≡ length bytes + length text → s.last ≡ last_word text → bytes' ≡ bytes ++ text → slots' ≡ slots ++ s ∷ [] → IsAppended bytes text slots bytes' slots'
appended bytes text slots s bytes' slots' h distinct most fresh e f g is_bytes is_slots =
    let is_texts : texts_at bytes' slots' ≡ texts_at bytes slots ++ text ∷ [] = rw (is_bytes, is_slots) (texts-push bytes text slots s h e f) in
    let long : length bytes' ≡ length bytes + length text = ap length is_bytes ∙ length-append bytes text in
    let many : length slots' ≡ length slots + 1 = ap length is_slots ∙ length-append slots (s ∷ []) in
    record {
      texts = is_texts;
      within = rw (is_bytes, is_slots) (within-push bytes text slots s h e f g);
      distinct = rw is_texts (distinct-push (texts_at bytes slots) text distinct fresh);
      most = rw (many, long, is_texts) (most-push (length slots) (length bytes) (texts_at bytes slots) text most fresh);
      texts_sum = λ before. ap (sum_by length) is_texts ∙ sum_by_push length (texts_at bytes slots) text ∙ ap (λ n. n + length text) before ∙ sym long;
    }

pub text_at : (bytes : List ℕ) (slots : List Slot) (p : ℕ) (d : Slot) → p < length slots → slice_range bytes (get_or slots p d).start (get_or slots p d).end ≡ get_or (texts_at bytes slots) p []
text_at bytes slots p d h = sym (get_or-map (λ (s : Slot). slice_range bytes s.start s.end) slots p d [] h)
