-- One piece more in a list, fewer pieces, and a piece at a place.
use Rattle.std.proofs.Common.{◌≡◌, ◌<◌, ◌≤◌, ◌+◌, ◌-◌, ◌∷◌, ◌++◌, ◌∙◌, ℕ, zero, suc, List, [], length, get_or, map, take, drop, refl, ap, arith, length-drop, length-append, replicate, slice_range, sum_by, sym, append_assoc, Bool, true, false, Option, Some, None, bytes_eq, inl, inr, nat_lt, IfSome, if◌then◌else◌, is_some, slice_get}
use Rattle.std.proofs.lemmas.List.{drop-append-le, drop-map, length-take-le, take-append-le, take-map, get_or-map, get_or_append_left, length-map, map-append, take-append-drop, take_more, length_push}
use Rattle.std.proofs.lemmas.List.Sums.{sum_by-cons, fails_before_first}
use Rattle.std.proofs.lemmas.Grind.{common_steps}
use Rattle.link_base.specs.Words.{EndsAt, pieces_from, start_at, AreCells, BeginsAs, IsPlaced, value_in, values_in, IsNewId, Keeps, position_among}
use Rattle.std.specs.List.{All, list_any, position_or_len}
use Rattle.std.proofs.Math.Seq.{take-append_seam, take-length}
use Rattle.std.proofs.lemmas.List.Elements.{All-append, All-cons, All-drop, All-head, All-nil, All-tail, All-take}
use Rattle.link_base.specs.declared.rows.Cell.{Cell}
use Rattle.link_base.specs.declared.rows.Cell.TheVariants as cell
use Rattle.link_base.specs.declared.standard.Value.{Value}
use Rattle.link_base.specs.declared.standard.Value.TheVariants as value
use Rattle.std.proofs.lemmas.Bool.{cases_Bool}
use Rattle.std.proofs.lemmas.Bool.Decides.{nat_tests}
use Rattle.std.proofs.lemmas.Option.{get_or_from_slice_get, slice_get_within}
use Rattle.std.proofs.lemmas.Slice.Eq.{bytes_eq-Decides}
use Rattle.link_texts.specs.Texts.{stands_among}
use Rattle.value_pool.proofs.PlaceLemmas.{found-place, held-turned}
use Rattle.value_pool.proofs.SearchLemmas.{held_where}

pub ends_below : (last start : ℕ) (ends : List ℕ) → EndsAt last start ends → start ≤ last
ends_below last start [] h = omega (arith, h)
ends_below last start (end ∷ ends) h = omega (arith, h.0, ends_below last end ends h.1)

read_before : {T : Type 0} (items more : List T) (a b : ℕ) → a ≤ b → b ≤ length items → slice_range (items ++ more) a b ≡ slice_range items a b
read_before items more a b h k =
    let rest : b - a ≤ length (drop a items) = simp length-drop (omega arith) in
    ap (take (b - a)) (drop-append-le a items more (omega arith)) ∙ take-append-le (b - a) (drop a items) more rest

read_last : {T : Type 0} (items piece : List T) (a b : ℕ) → a ≡ length items → b ≡ a + length piece → slice_range (items ++ piece) a b ≡ piece
read_last items piece a b e f = grind (arith, common_steps)

-- a piece more ends at the end of the items
pub ends_push : (last last2 start : ℕ) (ends : List ℕ) → EndsAt last start ends → last ≤ last2 → EndsAt last2 start (ends ++ last2 ∷ [])
ends_push last last2 start [] h le = (omega (arith, h), refl)
ends_push last last2 start (end ∷ ends) h le = (h.0, ends_push last last2 end ends h.1 le)

pub pieces_push : {T : Type 0} (items piece : List T) (start last : ℕ) (ends : List ℕ) → EndsAt (length items) start ends → last ≡ length items + length piece
    → pieces_from (items ++ piece) start (ends ++ last ∷ []) ≡ pieces_from items start ends ++ piece ∷ []
pieces_push {T = T} items piece start last [] h e = ap (λ (t : List T). t ∷ []) (read_last items piece start last h (omega (arith, h, e)))
pieces_push items piece start last (end ∷ ends) h e =
    let here = read_before items piece start end h.0 (ends_below (length items) end ends h.1) in
    let rest = pieces_push items piece end last ends h.1 e in
    λ i. here i ∷ rest i

-- the piece at a place lies between its start and its end
pub record IsPieceAt {T : Type 0} (items : List T) (ends : List ℕ) (start at : ℕ) : Type 0 where
  pub ordered : start_at start ends at ≤ get_or ends at 0
  pub within : get_or ends at 0 ≤ length items
  pub piece : get_or (pieces_from items start ends) at [] ≡ slice_range items (start_at start ends at) (get_or ends at 0)

pub piece_at : {T : Type 0} (items : List T) (start : ℕ) (ends : List ℕ) (at : ℕ) → EndsAt (length items) start ends → at < length ends → IsPieceAt items ends start at
piece_at items start [] at h lt = absurd (omega arith)
piece_at items start (end ∷ ends) zero h lt = record { ordered = h.0; within = ends_below (length items) end ends h.1; piece = refl }
piece_at items start (end ∷ ends) (suc zero) h lt =
    let rest = piece_at items end ends zero h.1 (omega arith) in
    record { ordered = rest.ordered; within = rest.within; piece = rest.piece }
piece_at items start (end ∷ ends) (suc (suc at)) h lt =
    let rest = piece_at items end ends (suc at) h.1 (omega arith) in
    record { ordered = rest.ordered; within = rest.within; piece = rest.piece }

pub length_pieces : {T : Type 0} (items : List T) (start : ℕ) (ends : List ℕ) → length (pieces_from items start ends) ≡ length ends
length_pieces items start [] = refl
length_pieces items start (end ∷ ends) = ap suc (length_pieces items end ends)

-- what the pieces are after one more
pub record IsPushed {T : Type 0} (items piece : List T) (ends : List ℕ) (items2 : List T) (ends2 : List ℕ) : Type 0 where
  pub rising : EndsAt (length items2) 0 ends2
  pub pieces : pieces_from items2 0 ends2 ≡ pieces_from items 0 ends ++ piece ∷ []

pub pushed : {T : Type 0} (items piece : List T) (ends : List ℕ) (items2 : List T) (ends2 : List ℕ) (last : ℕ) → EndsAt (length items) 0 ends → items2 ≡ items ++ piece
    → ends2 ≡ ends ++ last ∷ [] → last ≡ length items2 → IsPushed items piece ends items2 ends2
pushed items piece ends items2 ends2 last h ei ee el =
    let long : length items2 ≡ length items + length piece = ap length ei ∙ length-append items piece in
    let same : ends2 ≡ ends ++ length items2 ∷ [] = ee ∙ ap (λ n. ends ++ n ∷ []) el in
    record {
      rising = rw same (ends_push (length items) (length items2) 0 ends h (omega (arith, long)));
      pieces = rw (same, ei) (pieces_push items piece 0 (length (items ++ piece)) ends h (length-append items piece));
    }

-- the end of the first pieces
pub start_below : (last start : ℕ) (ends : List ℕ) (count : ℕ) → EndsAt last start ends → count ≤ length ends → (start ≤ start_at start ends count) × (start_at start ends count ≤ last)
start_below last start ends zero h le = (omega arith, ends_below last start ends h)
start_below last start [] (suc count) h le = absurd (omega arith)
start_below last start (end ∷ ends) (suc zero) h le = (h.0, ends_below last end ends h.1)
start_below last start (end ∷ ends) (suc (suc count)) h le =
    let rest = start_below last end ends (suc count) h.1 (omega arith) in
    (omega (arith, h.0, rest.0), rest.1)

ends_first : (last start : ℕ) (ends : List ℕ) (count : ℕ) → EndsAt last start ends → count ≤ length ends → EndsAt (start_at start ends count) start (take count ends)
ends_first last start ends zero h le = refl
ends_first last start [] (suc count) h le = absurd (omega arith)
ends_first last start (end ∷ ends) (suc zero) h le = (h.0, refl)
ends_first last start (end ∷ ends) (suc (suc count)) h le = (h.0, ends_first last end ends (suc count) h.1 (omega arith))

-- pieces that end among the first items are pieces of these
pub among_first : {T : Type 0} (items more : List T) (last start : ℕ) (ends : List ℕ) → last ≤ length items → EndsAt last start ends → pieces_from (items ++ more) start ends ≡ pieces_from items start ends
among_first items more last start [] le h = refl
among_first items more last start (end ∷ ends) le h =
    let below = ends_below last end ends h.1 in
    let here = read_before items more start end h.0 (omega (arith, below, le)) in
    let rest = among_first items more last end ends le h.1 in
    λ i. here i ∷ rest i

-- pieces of what is made of each item
pub pieces_map : {S T : Type 0} (f : S → T) (items : List S) (start : ℕ) (ends : List ℕ) → pieces_from (map f items) start ends ≡ map (map f) (pieces_from items start ends)
pieces_map f items start [] = refl
pieces_map f items start (end ∷ ends) =
    let here : slice_range (map f items) start end ≡ map f (slice_range items start end) = ap (take (end - start)) (drop-map f start items) ∙ take-map f (end - start) (drop start items) in
    let rest = pieces_map f items end ends in
    λ i. here i ∷ rest i

-- the pieces have all items together, as far as the last one ends
pub count_items : {T : Type 0} (items : List T) (last start : ℕ) (ends : List ℕ) → last ≤ length items → EndsAt last start ends → start + sum_by length (pieces_from items start ends) ≡ last
count_items items last start [] le h = omega (arith, h)
count_items items last start (end ∷ ends) le h =
    let rest = count_items items last end ends le h.1 in
    let below = ends_below last end ends h.1 in
    let here : length (slice_range items start end) ≡ end - start = length-take-le (end - start) (drop start items) (simp length-drop (omega (arith, below, le))) in
    omega (arith, here, rest, h.0, sum_by-cons length (slice_range items start end) (pieces_from items end ends))

-- what stands behind the last piece is a piece of its own
pub rest_closed : {T : Type 0} (items : List T) (last start end : ℕ) (ends : List ℕ) → last ≤ length items → EndsAt last start ends → end ≡ length items
    → pieces_from items start (ends ++ end ∷ []) ≡ pieces_from items start ends ++ drop last items ∷ []
rest_closed {T = T} items last start end [] le h e =
    let all : take (end - start) (drop start items) ≡ drop start items = grind (arith, common_steps) in
    ap (λ (t : List T). t ∷ []) (all ∙ ap (λ n. drop n items) h)
rest_closed {T = T} items last start end (first ∷ ends) le h e = ap (λ (t : List (List T)). slice_range items start first ∷ t) (rest_closed items last first end ends le h.1 e)

-- pieces of nothing
pub no_ends : (n : ℕ) → EndsAt 0 0 (replicate n 0)
no_ends zero = refl
no_ends (suc n) = (omega arith, no_ends n)

pub no_pieces : {T : Type 0} (n : ℕ) → pieces_from {T = T} [] 0 (replicate n 0) ≡ replicate n []
no_pieces zero = refl
no_pieces {T = T} (suc n) = ap (λ (rest : List (List T)). [] ∷ rest) (no_pieces n)

-- Cells by their words, and one cell more.

abbrev Words : Type 0
Words = List (List ℕ)

-- a list that is longer than before
pub begun_append : {T : Type 0} (old rest new : List T) → new ≡ old ++ rest → BeginsAs old new
begun_append old rest new e = rw e (take-append_seam old rest)

pub begun_same : {T : Type 0} (old new : List T) → new ≡ old → BeginsAs old new
begun_same old new e = rw e (take-length old)

begun_rest : {T : Type 0} (old new : List T) → BeginsAs old new → new ≡ old ++ drop (length old) new
begun_rest {T = T} old new h = sym (take-append-drop (length old) new) ∙ ap (λ (l : List T). l ++ drop (length old) new) h

pub begun_then : {T : Type 0} (old new newer : List T) → BeginsAs old new → BeginsAs new newer → BeginsAs old newer
begun_then {T = T} old new newer h k =
    let first = begun_rest old new h in
    let all : newer ≡ old ++ (drop (length old) new ++ drop (length new) newer) = begun_rest new newer k ∙ ap (λ (l : List T). l ++ drop (length new) newer) first ∙ append_assoc old (drop (length old) new) (drop (length new) newer) in
    begun_append old (drop (length old) new ++ drop (length new) newer) newer all

begun_longer : {T : Type 0} (old new : List T) → BeginsAs old new → length old ≤ length new
begun_longer old new h = omega (arith, ap length (begun_rest old new h) ∙ length-append old (drop (length old) new))

-- a cell keeps its value where words come behind the others
value_kept : (words more : Words) (c : Cell) → IsPlaced (length words) c → value_in (words ++ more) c ≡ value_in words c
value_kept words more cell.Absent h = refl
value_kept words more (cell.Word at) h = ap value.Word (get_or_append_left words more [] at h)
value_kept words more (cell.Day day) h = refl

values_behind : (words more : Words) (cells : List Cell) → All (IsPlaced (length words)) cells → values_in (words ++ more) cells ≡ values_in words cells
values_behind words more [] h = refl
values_behind words more (c ∷ cells) h =
    let here = value_kept words more c (All-head (IsPlaced (length words)) c cells h) in
    let rest = values_behind words more cells (All-tail (IsPlaced (length words)) c cells h) in
    λ i. here i ∷ rest i

values_kept : (words words2 : Words) (cells : List Cell) → BeginsAs words words2 → All (IsPlaced (length words)) cells → values_in words2 cells ≡ values_in words cells
values_kept words words2 cells h placed =
    ap (λ (w : Words). values_in w cells) (begun_rest words words2 h) ∙ values_behind words (drop (length words) words2) cells placed

placed_more : (m n : ℕ) (c : Cell) → m ≤ n → IsPlaced m c → IsPlaced n c
placed_more m n cell.Absent le h = tt
placed_more m n (cell.Word at) le h = omega (arith, le, h)
placed_more m n (cell.Day day) le h = tt

-- cells that were added for values: what holds before and after each one
pub record AreAdded (before after : Words) (old new : List Cell) (added : List Value) : Type 0 where
  pub words : BeginsAs before after
  pub begun : BeginsAs old new
  pub cells : AreCells after new
  pub count : length new ≡ length old + length added
  pub values : values_in after new ≡ values_in before old ++ added

pub none_added : (words : Words) (cells : List Cell) (values : List Value) → AreCells words cells → AreAdded words words cells cells (take 0 values)
none_added words cells values h =
    record {
      words = begun_same words words refl;
      begun = begun_same cells cells refl;
      cells = h;
      count = omega arith;
      values = search Rattle.std.proofs.Common.rules;
    }

-- one cell more
pub one_added : (words words2 words3 : Words) (cells cells2 cells3 : List Cell) (row : List Value) (i : ℕ) (none : Value) (c : Cell)
    → AreAdded words words2 cells cells2 (take i row) → i < length row → BeginsAs words2 words3 → length words3 ≤ length words2 + 1 → IsPlaced (length words3) c
    → value_in words3 c ≡ get_or row i none → cells3 ≡ cells2 ++ c ∷ [] → AreAdded words words3 cells cells3 (take (i + 1) row)
one_added words words2 words3 cells cells2 cells3 row i none c so_far lt begun few placed is grown =
    let long : length cells3 ≡ length cells2 + 1 = ap length grown ∙ length_push cells2 c in
    let more : take (i + 1) row ≡ take i row ++ get_or row i none ∷ [] = take_more row i none lt in
    let all : All (IsPlaced (length words3)) cells2 = λ k d h. placed_more (length words2) (length words3) (get_or cells2 k d) (begun_longer words2 words3 begun) (so_far.cells.placed k d h) in
    record {
      words = begun_then words words2 words3 so_far.words begun;
      begun = begun_then cells cells2 cells3 so_far.begun (begun_append cells2 (c ∷ []) cells3 grown);
      cells = record {
        placed = rw grown (All-append (IsPlaced (length words3)) cells2 (c ∷ []) all (All-cons (IsPlaced (length words3)) c [] placed (All-nil (IsPlaced (length words3)))));
        few = omega (arith, few, long, so_far.cells.few);
      };
      count = omega (arith, long, so_far.count, ap length more, length_push (take i row) (get_or row i none));
      values =
          ap (values_in words3) grown ∙ map-append (value_in words3) cells2 (c ∷ [])
          ∙ ap (λ (l : List Value). l ++ value_in words3 c ∷ []) (values_kept words2 words3 cells2 begun so_far.cells.placed ∙ so_far.values)
          ∙ ap (λ (v : Value). (values_in words cells ++ take i row) ++ v ∷ []) is
          ∙ append_assoc (values_in words cells) (take i row) (get_or row i none ∷ [])
          ∙ ap (λ (l : List Value). values_in words cells ++ l) (sym more);
    }

pub length_values : (words : Words) (cells : List Cell) → length (values_in words cells) ≡ length cells
length_values words cells = length-map cells (value_in words)

-- the values of a row are those of its cells
pub row_at : (words : Words) (cells : List Cell) (ends : List ℕ) (at : ℕ) → at < length ends
    → get_or (pieces_from (values_in words cells) 0 ends) at [] ≡ values_in words (get_or (pieces_from cells 0 ends) at [])
row_at words cells ends at lt =
    ap (λ (rows : List (List Value)). get_or rows at []) (pieces_map (value_in words) cells 0 ends)
    ∙ get_or-map (values_in words) (pieces_from cells 0 ends) at [] [] (omega (arith, lt, length_pieces cells 0 ends))

-- a row's words are among the words
pub row_placed : (P : Cell → Type 0) (cells : List Cell) (ends : List ℕ) (at : ℕ) → EndsAt (length cells) 0 ends → at < length ends → All P cells → All P (get_or (pieces_from cells 0 ends) at [])
row_placed P cells ends at rising lt all =
    rw (piece_at cells 0 ends at rising lt).piece (All-take P _ _ (All-drop P _ cells all))

-- Where an id stands among those that are held, whether it does, and that no one stands twice.

shift : (m n : ℕ) → nat_lt m n ≡ nat_lt (1 + m) (suc n)
shift m n = grind (arith, nat_tests)

first : (n : ℕ) → true ≡ nat_lt 0 (suc n)
first n = grind (arith, nat_tests)

-- some item passes exactly where the first place of one is before the end
stands : {X : Type 0} (p : X → Bool) (xs : List X) → list_any p xs ≡ nat_lt (position_or_len p xs) (length xs)
stands p [] = refl
stands p (x ∷ xs) =
    elim (cases_Bool (p x)) [
      | inl here ↦ rw here (first (length xs))
      | inr gone ↦ rw gone (stands p xs ∙ shift (position_or_len p xs) (length xs))
    ]

-- no two places have the same id
abbrev pub AreApart : List (List ℕ) → Type 0
AreApart ids = (a b : ℕ) → a < length ids → slice_get ids a ≡ slice_get ids b → a ≡ b

-- what is found for an id is its place
pub found_at_place : (id : List ℕ) (ids : List (List ℕ)) (found : Option ℕ) → AreApart ids → IfSome found (λ at. slice_get ids at ≡ Some id) → is_some found ≡ stands_among ids id → found ≡ position_among id ids
found_at_place id ids None apart is held =
    let test : nat_lt (position_or_len (bytes_eq id) ids) (length ids) ≡ false = sym (stands (bytes_eq id) ids) ∙ sym (held-turned id ids) ∙ sym held in
    rw test refl
found_at_place id ids (Some at) apart is held =
    let test : nat_lt (position_or_len (bytes_eq id) ids) (length ids) ≡ true = sym (stands (bytes_eq id) ids) ∙ sym (held-turned id ids) ∙ sym held in
    found-place ids id (Some at) apart is held (sym held) ∙ rw test refl

module _ (id : List ℕ) (old new : List (List ℕ)) (place : ℕ) (found : slice_get new place ≡ Some id) (grown : new ≡ (if stands_among old id then old else old ++ id ∷ [])) where
  -- an id that is found among those that were held
  was_held : place < length old → stands_among old id ≡ true
  was_held h =
      elim (cases_Bool (stands_among old id)) [
        | inl held ↦ held
        | inr new_one ↦
            let longer : new ≡ old ++ id ∷ [] = rw new_one at grown in
            let at : get_or old place [] ≡ id = sym (get_or_append_left old (id ∷ []) [] place h) ∙ ap (λ (l : List (List ℕ)). get_or l place []) (sym longer) ∙ get_or_from_slice_get new place id [] found in
            held_where old id place h at
      ]

  -- an id that is found behind them
  was_new : length old ≤ place → stands_among old id ≡ false
  was_new h =
      elim (cases_Bool (stands_among old id)) [
        | inl held ↦
            let same : new ≡ old = rw held at grown in
            absurd (omega (arith, h, slice_get_within new place id found, ap length same))
        | inr new_one ↦ new_one
      ]

  pub kept_there : AreApart old → place < length old → Keeps id old new (Some place)
  kept_there apart h =
      let held = was_held h in
      let same : new ≡ old = rw held at grown in
      (found_at_place id old (Some place) apart (ap (λ (l : List (List ℕ)). slice_get l place) (sym same) ∙ found) (sym held), same)

  pub kept_last : AreApart old → length old ≤ place → Keeps id old new None
  kept_last apart h =
      let new_one = was_new h in
      (found_at_place id old None apart tt (sym new_one), rw new_one at grown)

-- where an id has no place, each of the ids is another
pub new_if_none : (id : List ℕ) (ids : List (List ℕ)) → None ≡ position_among id ids → IsNewId id ids
new_if_none id ids none k d within is = by_test (nat_lt (position_or_len (bytes_eq id) ids) (length ids)) refl
  where
    by_test : (b : Bool) → nat_lt (position_or_len (bytes_eq id) ids) (length ids) ≡ b → ⊥
    by_test true e = let some = rw e at none in cc
    by_test false e =
        let past : length ids < 1 + position_or_len (bytes_eq id) ids = grind (arith, nat_tests, e) in
        let other : bytes_eq id (get_or ids k d) ≡ false = fails_before_first (bytes_eq id) ids k d (omega (arith, past, within)) in
        let held : bytes_eq id (get_or ids k d) ≡ true = (bytes_eq-Decides id (get_or ids k d)).1 (sym is) in
        cc
