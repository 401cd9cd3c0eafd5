-- The ids of one pass among those of all passes, and what is read from them.
use Rattle.std.proofs.Common.{◌≡◌, ◌<◌, ◌≤◌, ◌+◌, ◌-◌, ◌*◌, ◌^◌, List, [], ◌∷◌, ◌++◌, ℕ, zero, suc, Option, Some, None, refl, sym, ◌∙◌, ap, subst, length, length-append, take, drop, get_or, arith, append_assoc, min, option_map, false, bytes_eq, suc-mul}
use Rattle.std.proofs.lemmas.List.{drop-drop, drop_at, drop_more, get_or-map, length-map, take_at, append-nil, drop_all}
use Rattle.std.proofs.lemmas.List.FromFn.{get_or-map-range_with_len, length-map-range_with_len}
use Rattle.std.proofs.lemmas.Nat.{row_fits}
use Rattle.value_pool.specs.Pool.{place_among, PoolState, stands_among, with_text}
use Rattle.block_passes.specs.CodedRows.{rows_of_code}
use Rattle.block_passes.specs.Numbering.{bytes_of_ids, AreNumbers, no_number, number_among, with_code}
use Rattle.block_passes.specs.Ids.{AreAllHeld, id_key_in}
use Rattle.block_passes.specs.Keys.{row_at, rows_with_key, ids_in_pass, ids_of_row, key_ids, part_id, parts_in, joined, key_in_pass, no_part, part_key, same_key, same_text, extended}
use Rattle.block_passes.specs.PassIds.{all_ids, AreByPart, AreFirstIds, AreIdsInPass, code_at, first_number, part_at, rows_in_pass}
use Rattle.block_passes.proofs.ChainLemmas.{codes-same, ids-joined, ids-tell, rows-by-part}
use Rattle.block_passes.specs.NumberingLaws.{filter-agree, none-place}
use Rattle.link_base.specs.Words.{no_record, Record}
use Rattle.value_forms.specs.declared.passes.Part.{Part}
use Rattle.link_base.specs.declared.standard.Value.{Value}
use Rattle.value_pool.proofs.PlaceLemmas.{held-turned}

pass-long : (texts : List (List ℕ)) (row : List Value) (pass : List Part) → length (ids_in_pass texts row pass) ≡ length pass
pass-long texts row pass = length-map pass (part_id texts row)

row-long : (texts : List (List ℕ)) (passes : List (List Part)) (row : List Value) → length (ids_of_row texts passes row) ≡ parts_in passes
row-long texts [] row = refl
row-long texts (pass ∷ passes) row =
    length-append (ids_in_pass texts row pass) (ids_of_row texts passes row) ∙ omega (arith, pass-long texts row pass, row-long texts passes row)

-- how many ids a file has
pub file-long : (texts : List (List ℕ)) (passes : List (List Part)) (file : List Record) → length (key_ids texts passes file) ≡ length file * parts_in passes
file-long texts passes [] = omega arith
file-long texts passes (r ∷ file) =
    length-append (ids_of_row texts passes r.row) (key_ids texts passes file)
    ∙ omega (arith, row-long texts passes r.row, file-long texts passes file, suc-mul (length file) (parts_in passes))

-- the ids from a row on
ids-from : (texts : List (List ℕ)) (passes : List (List Part)) (file : List Record) (at : ℕ) → at ≤ length file → drop (at * parts_in passes) (key_ids texts passes file) ≡ key_ids texts passes (drop at file)
ids-from texts passes file zero le = let none : 0 * parts_in passes ≡ 0 = omega arith in rw none refl
ids-from texts passes [] (suc at) le = absurd (omega arith)
ids-from texts passes (r ∷ file) (suc at) le =
    let width = parts_in passes in
    let here = ids_of_row texts passes r.row in
    let rest = key_ids texts passes file in
    let later : suc at * width ≡ width + at * width = omega (arith, suc-mul at width) in
    ap (λ n. drop n (here ++ rest)) later
    ∙ sym (drop-drop (at * width) width (here ++ rest))
    ∙ ap (drop (at * width)) (drop_at here rest width (row-long texts passes r.row))
    ∙ ids-from texts passes file at (omega arith)

-- the ids of a pass among those of a row
ids-at : (texts : List (List ℕ)) (passes : List (List Part)) (row : List Value) (rest : List (Option ℕ)) (k : ℕ) → k < length passes
    → take (length (get_or passes k [])) (drop (parts_in (take k passes)) (ids_of_row texts passes row ++ rest)) ≡ ids_in_pass texts row (get_or passes k [])
ids-at texts [] row rest k lt = absurd (omega arith)
ids-at texts (pass ∷ passes) row rest zero lt =
    let here = ids_in_pass texts row pass in
    let more = ids_of_row texts passes row in
    ap (take (length pass)) (append_assoc here more rest) ∙ take_at here (more ++ rest) (length pass) (pass-long texts row pass)
ids-at texts (pass ∷ passes) row rest (suc k) lt =
    let here = ids_in_pass texts row pass in
    let more = ids_of_row texts passes row in
    let before = parts_in (take k passes) in
    let parts = length (get_or passes k []) in
    ap (λ ids. take parts (drop (length pass + before) ids)) (append_assoc here more rest)
    ∙ ap (take parts) (sym (drop-drop before (length pass) (here ++ (more ++ rest))) ∙ ap (drop before) (drop_at here (more ++ rest) (length pass) (pass-long texts row pass)))
    ∙ ids-at texts passes row rest k (omega arith)

-- the ids of one pass, row by row
pub ids-of-pass : (texts : List (List ℕ)) (passes : List (List Part)) (file : List Record) (ids : List (Option ℕ)) (k : ℕ) → k < length passes → ids ≡ key_ids texts passes file
    → AreIdsInPass texts (get_or passes k []) file (rows_in_pass ids (parts_in passes) (parts_in (take k passes)) (length (get_or passes k [])) (length file))
ids-of-pass texts passes file ids k lt same = (
  length-map-range_with_len row_of 0 (length file),
  λ at within. get_or-map-range_with_len row_of 0 (length file) at at [] within (omega arith) ∙ here at within,
)
  where
    row_of : ℕ → List (Option ℕ)
    row_of at = take (length (get_or passes k [])) (drop (at * parts_in passes + parts_in (take k passes)) ids)

    here : (at : ℕ) → at < length file → take (length (get_or passes k [])) (drop (at * parts_in passes + parts_in (take k passes)) ids) ≡ ids_in_pass texts (row_at file at) (get_or passes k [])
    here at within =
        let parts = length (get_or passes k []) in
        let before = parts_in (take k passes) in
        let front = at * parts_in passes in
        ap (take parts)
        (sym (drop-drop before front ids)
        ∙ ap (drop before) (ap (drop front) same ∙ ids-from texts passes file at (omega arith) ∙ ap (key_ids texts passes) (drop_more file at no_record within)))
        ∙ ids-at texts passes (row_at file at) (key_ids texts passes (drop (at + 1) file)) k lt

-- the same of the ids of one pass that are made, and how many ids there are
pub told-ids : (texts : List (List ℕ)) (passes same : List (List Part)) (file : List Record) (ids : List (Option ℕ)) (k many : ℕ) (made : List (List (Option ℕ))) → k < length passes → ids ≡ key_ids texts passes file
    → same ≡ passes → many ≡ length file → made ≡ rows_in_pass ids (parts_in same) (parts_in (take k same)) (length (get_or same k [])) many → AreIdsInPass texts (get_or passes k []) file made
told-ids texts passes same file ids k many made lt keys e long is =
    subst (AreIdsInPass texts (get_or passes k []) file)
    (sym (is ∙ ap (λ ps. rows_in_pass ids (parts_in ps) (parts_in (take k ps)) (length (get_or ps k [])) many) e ∙ ap (rows_in_pass ids (parts_in passes) (parts_in (take k passes)) (length (get_or passes k []))) long))
    (ids-of-pass texts passes file ids k lt keys)

pub told-long : (texts : List (List ℕ)) (passes same : List (List Part)) (file : List Record) (ids : List (Option ℕ)) (many : ℕ) → ids ≡ key_ids texts passes file → same ≡ passes → many ≡ length file
    → length ids ≡ many * parts_in same
told-long texts passes same file ids many keys e long = rw (e, long) (ap length keys ∙ file-long texts passes file)

-- a pass ends within a row
pub pass-fits : (passes : List (List Part)) (k : ℕ) → k < length passes → parts_in (take k passes) + length (get_or passes k []) ≤ parts_in passes
pass-fits [] k lt = absurd (omega arith)
pass-fits (pass ∷ passes) zero lt = omega arith
pass-fits (pass ∷ passes) (suc k) lt = let rest = pass-fits passes k (omega arith) in omega arith

-- where a list is counted, so is a row of it
row-counted : (long rows width most : ℕ) → 0 < rows → long ≡ rows * width → long ≤ most → width ≤ most
row-counted long (suc rows) width most some is le = let more = suc-mul rows width in omega arith
row-counted long zero width most some is le = absurd (omega arith)

-- and the ids of a pass stand within the list
pub row-within : (ids : List (Option ℕ)) (width start parts rows at : ℕ) → start + parts ≤ width → length ids ≡ rows * width → length ids ≤ 2 ^ 64 - 1 → at < rows
    → at * min width (2 ^ 64 - 1) + min start (2 ^ 64 - 1) + parts ≤ length ids
row-within ids width start parts rows at le is few lt =
    let wide = row-counted (length ids) rows width (2 ^ 64 - 1) (omega arith) is few in
    let fits = row_fits at width rows width lt (omega arith) in
    let w : min width (2 ^ 64 - 1) ≡ width = omega arith in
    let s : min start (2 ^ 64 - 1) ≡ start = omega arith in
    rw (w, s) (omega arith)

pub rows-counted : (ids : List (Option ℕ)) (width start parts rows : ℕ) → start ≤ width → length ids ≡ rows * width → length ids ≤ 2 ^ 64 - 1
    → rows_in_pass ids (min width (2 ^ 64 - 1)) (min start (2 ^ 64 - 1)) parts rows ≡ rows_in_pass ids width start parts rows
rows-counted ids width start parts zero le is few = refl
rows-counted ids width start parts (suc rows) le is few =
    let wide = row-counted (length ids) (suc rows) width (2 ^ 64 - 1) (omega arith) is few in
    let w : min width (2 ^ 64 - 1) ≡ width = omega arith in
    let s : min start (2 ^ 64 - 1) ≡ start = omega arith in
    ap (λ n. rows_in_pass ids n (min start (2 ^ 64 - 1)) parts (suc rows)) w ∙ ap (λ n. rows_in_pass ids width n parts (suc rows)) s

-- the ids of all parts are the key as ids
all-parts : (texts : List (List ℕ)) (row : List Value) (pass : List Part) → all_ids (ids_in_pass texts row pass) ≡ id_key_in texts row pass
all-parts texts row [] = refl
all-parts texts row (part ∷ pass) = ap (joined (part_id texts row part)) (all-parts texts row pass) ∙ sym (ids-joined texts row part pass)

code-told : (texts : List (List ℕ)) (pass : List Part) (file : List Record) (rows : List (List (Option ℕ))) (at : ℕ) → AreIdsInPass texts pass file rows → at < length file
    → code_at rows at ≡ option_map bytes_of_ids (id_key_in texts (row_at file at) pass)
code-told texts pass file rows at told lt = ap (option_map bytes_of_ids) (ap all_ids (told.1 at lt) ∙ all-parts texts (row_at file at) pass)

first-id : (texts : List (List ℕ)) (row : List Value) (pass : List Part) → length pass ≡ 1 → first_number (ids_in_pass texts row pass) ≡ number_among texts (part_key row (get_or pass 0 no_part))
first-id texts row [] one = absurd (omega arith)
first-id texts row (part ∷ pass) one = placed (part_key row part)
  where
    placed : (key : Option (List ℕ)) → first_number (option_map (place_among texts) key ∷ ids_in_pass texts row pass) ≡ number_among texts key
    placed None = refl
    placed (Some text) = refl

-- the first ids are the numbers of keys of one part
pub first-told : (texts : List (List ℕ)) (pass : List Part) (file : List Record) (rows : List (List (Option ℕ))) (numbers : List ℕ) → AreIdsInPass texts pass file rows → length pass ≡ 1
    → AreFirstIds rows (length rows) numbers → AreNumbers texts (part_at pass file) (length file) numbers
first-told texts pass file rows numbers told one first = (
  first.0 ∙ told.0,
  λ at lt. first.1 at (rw told.0 lt) ∙ ap first_number (told.1 at lt) ∙ first-id texts (row_at file at) pass one,
)

pub by-part-long : (a b : List (List (Option ℕ))) (texts : ℕ) (rows : List (List ℕ)) → AreByPart a b texts rows → length rows ≡ length a
by-part-long a b texts rows made = ap length made.6 ∙ length-map made.0 (λ n. get_or made.2 n []) ∙ made.3.0

-- the rows by the first ids are those by the keys
pub by-part-rows : (texts : List (List ℕ)) (pass : List Part) (file_a file_b : List Record) (a b : List (List (Option ℕ))) (rows : List (List ℕ)) (at : ℕ) → length pass ≡ 1 → length texts ≤ no_number
    → AreAllHeld texts pass file_b → AreIdsInPass texts pass file_a a → AreIdsInPass texts pass file_b b → AreByPart a b (length texts) rows → at < length file_a
    → get_or rows at [] ≡ rows_with_key pass file_b (key_in_pass (row_at file_a at) pass)
by-part-rows texts pass file_a file_b a b rows at one few held told_a told_b made lt =
    let of_a = first-told texts pass file_a a made.0 told_a one made.3 in
    let of_b = first-told texts pass file_b b made.1 told_b one made.4 in
    ap (λ l. get_or l at []) made.6
    ∙ get_or-map (λ n. get_or made.2 n []) made.0 at 0 [] (rw of_a.0 lt)
    ∙ ap (λ n. get_or made.2 n []) (of_a.1 at lt)
    ∙ rows-by-part texts pass file_b (row_at file_a at) made.1 made.2 one few held of_b made.5

-- the rows by the bytes of ids are those by the keys
pub by-code-rows : (texts : List (List ℕ)) (pass : List Part) (file_a file_b : List Record) (a b : List (List (Option ℕ))) (at : ℕ) → AreAllHeld texts pass file_a → AreAllHeld texts pass file_b
    → AreIdsInPass texts pass file_a a → AreIdsInPass texts pass file_b b → at < length file_a → rows_of_code (code_at b) (length b) (code_at a at) ≡ rows_with_key pass file_b (key_in_pass (row_at file_a at) pass)
by-code-rows texts pass file_a file_b a b at held_a held_b told_a told_b lt =
    rw told_b.0 (filter-agree (λ j. same_text (code_at a at) (code_at b j)) (λ j. same_key (key_in_pass (row_at file_a at) pass) (key_in_pass (row_at file_b j) pass)) 0 (length file_b) (λ j below.
    let in_b : j < length file_b = omega arith in
    rw (code-told texts pass file_a a at told_a lt, code-told texts pass file_b b j told_b in_b)
    (codes-same (id_key_in texts (row_at file_a at) pass) (id_key_in texts (row_at file_b j) pass) ∙ ids-tell texts (row_at file_a at) (row_at file_b j) pass pass (held_a at lt) (held_b j in_b))))

-- Numbers in a pool.

pub place-missed : (codes : List (List ℕ)) (code : List ℕ) → stands_among codes code ≡ false → place_among codes code ≡ length codes
place-missed codes code new = none-place (bytes_eq code) codes (sym (held-turned code codes) ∙ new)

-- a text that is taken is a code more
pub text-taken : (old : PoolState) (text : List ℕ) → with_text old text ≡ with_code old.texts text
text-taken old text = rw (held-turned text old.texts) refl

-- One step more: of bytes that are coded, and of lists that are present where each item is.

-- what one item more gives
pub joined_more : {A B : Type 0} (f : A → List B) (join : List A → List B) → ((x : A) (xs : List A) → join (x ∷ xs) ≡ f x ++ join xs)
    → (xs : List A) (i : ℕ) (none : A) (code new all : List B) → i < length xs → code ++ join (drop i xs) ≡ all → new ≡ code ++ f (get_or xs i none) → new ++ join (drop (i + 1) xs) ≡ all
joined_more f join step xs i none code new all lt told grown =
    let x = get_or xs i none in
    let rest = join (drop (i + 1) xs) in
    ap (λ l. l ++ rest) grown ∙ append_assoc code (f x) rest ∙ ap (λ l. code ++ l) (sym (step x (drop (i + 1) xs)) ∙ ap join (sym (drop_more xs i none lt))) ∙ told

-- an item before the rest of a list goes to the end of what stands before it
item-taken : {T : Type 0} (front : List T) (item : T) (x : Option T) (rest : Option (List T)) → Some item ≡ x → extended (front ++ item ∷ []) rest ≡ extended front (joined x rest)
item-taken front item None rest e = cc
item-taken front item (Some t) None e = refl
item-taken front item (Some t) (Some rest) e = ap Some (append_assoc front (item ∷ []) rest ∙ ap (λ i. front ++ i ∷ rest) (cc))

-- one item more of a list that is present where each item is
pub part_more : {A T : Type 0} (f : A → Option T) (join : List A → Option (List T)) → ((x : A) (xs : List A) → join (x ∷ xs) ≡ joined (f x) (join xs))
    → (xs : List A) (i : ℕ) (none : A) (front new : List T) (item : T) (all : Option (List T)) → i < length xs → extended front (join (drop i xs)) ≡ all → Some item ≡ f (get_or xs i none) → new ≡ front ++ item ∷ []
    → extended new (join (drop (i + 1) xs)) ≡ all
part_more f join step xs i none front new item all lt told is grown =
    let rest = join (drop (i + 1) xs) in
    ap (λ l. extended l rest) grown ∙ item-taken front item (f (get_or xs i none)) rest is
    ∙ ap (extended front) (sym (step (get_or xs i none) (drop (i + 1) xs)) ∙ ap join (sym (drop_more xs i none lt))) ∙ told

-- an item that is missing
pub no_part_more : {A T : Type 0} (f : A → Option T) (join : List A → Option (List T)) → ((x : A) (xs : List A) → join (x ∷ xs) ≡ joined (f x) (join xs))
    → (xs : List A) (i : ℕ) (none : A) (front : List T) (all : Option (List T)) → i < length xs → extended front (join (drop i xs)) ≡ all → None ≡ f (get_or xs i none) → None ≡ all
no_part_more f join step xs i none front all lt told is =
    let rest = join (drop (i + 1) xs) in
    ap (λ x. extended front (joined x rest)) is
    ∙ ap (extended front) (sym (step (get_or xs i none) (drop (i + 1) xs)) ∙ ap join (sym (drop_more xs i none lt))) ∙ told

-- no item is left
pub no_more_parts : {A T : Type 0} (join : List A → Option (List T)) → join [] ≡ Some [] → (xs : List A) (i : ℕ) (front : List T) (all : Option (List T)) → length xs ≤ i → extended front (join (drop i xs)) ≡ all → Some front ≡ all
no_more_parts join none xs i front all le told =
    ap Some (sym (append-nil front)) ∙ ap (extended front) (sym none ∙ ap join (sym (drop_all i xs le))) ∙ told

pub extended-nil : {T : Type 0} (rest : Option (List T)) → extended [] rest ≡ rest
extended-nil None = refl
extended-nil (Some rest) = refl
