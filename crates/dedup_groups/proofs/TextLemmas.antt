-- The rows of groups, one group more.
use Rattle.std.proofs.Common.{◌≡◌, ℕ, ◌<◌, ◌≤◌, ◌+◌, ◌++◌, ◌==◌, Bool, true, false, List, [], ◌∷◌, length, filter, refl, ap, sym, ◌∙◌, arith, codes, All, Option, if◌then◌else◌, nat_le, slice_index, append-nil, append_assoc, length-append, map-id}
use Rattle.std.specs.List.{enumerate_from, flat_map, range_with_len}
use Rattle.std.proofs.lemmas.List.Concat.{flat_map-append}
use Rattle.std.proofs.lemmas.List.Elements.{All-filter, filter-append}
use Rattle.std.proofs.lemmas.List.FromFn.{length-range_with_len, map-range_with_len_more}
use Rattle.std.proofs.lemmas.List.Sums.{count_by-le-length, length-filter}
use Rattle.csv.specs.Writing.{default_writer, fields_text, is_blank, row_text}
use Rattle.link_base.specs.Words.{Record}
use Rattle.dedup_groups.proofs.ForestLemmas.{below}
use Rattle.dedup_groups.specs.GroupsText.{group_row, group_rows, groups_header, is_shown, members}

pub header_text : row_text default_writer groups_header ≡ codes "group,id,via\n"
unfolding fields_text is_blank
header_text = refl

pub members_within : (leaders : List ℕ) (leader : ℕ) → All (λ at. at < length leaders) (members leaders leader)
members_within leaders leader = All-filter (λ at. slice_index leaders at == leader) (λ at. at < length leaders) (range_with_len 0 (length leaders)) (below (length leaders))

range_more : (n : ℕ) → range_with_len 0 (n + 1) ≡ range_with_len 0 n ++ n ∷ []
range_more n =
    sym (map-id (range_with_len 0 (n + 1))) ∙ (map-range_with_len_more (λ (x : ℕ). x) 0 n n (omega arith) ∙ ap (λ xs. xs ++ n ∷ []) (map-id (range_with_len 0 n)))

enumerate_more : {X : Type 0} (n : ℕ) (xs : List X) (y : X) → enumerate_from n (xs ++ y ∷ []) ≡ enumerate_from n xs ++ (n + length xs, y) ∷ []
enumerate_more n [] y = ap (λ m. (m, y) ∷ []) (let e : n ≡ n + 0 = omega arith in e)
enumerate_more n (x ∷ xs) y = ap (λ es. (n, x) ∷ es) (enumerate_more (n + 1) xs y ∙ ap (λ m. enumerate_from (n + 1) xs ++ (m, y) ∷ []) (let e : n + 1 + length xs ≡ n + length (x ∷ xs) = omega arith in e))

-- the groups that are printed among those of the first so many leaders
abbrev pub printed_before : List ℕ → ℕ → List ℕ
printed_before leaders n = filter (is_shown leaders) (range_with_len 0 n)

printed_more : (leaders : List ℕ) (n : ℕ) → printed_before leaders (n + 1) ≡ printed_before leaders n ++ (if is_shown leaders n then n ∷ [] else [])
printed_more leaders n = ap (filter (is_shown leaders)) (range_more n) ∙ filter-append (is_shown leaders) (range_with_len 0 n) (n ∷ [])

pub few_printed : (leaders : List ℕ) (n : ℕ) → length (printed_before leaders n) ≤ n
few_printed leaders n =
    omega (arith, length-filter (is_shown leaders) (range_with_len 0 n), count_by-le-length (is_shown leaders) (range_with_len 0 n), length-range_with_len 0 n)

if_longer : (xs : List ℕ) (n : ℕ) (t : Bool) → length (xs ++ (if t then n ∷ [] else [])) ≡ (if t then length xs + 1 else length xs)
if_longer xs n true = omega (arith, length-append xs (n ∷ []))
if_longer xs n false = ap length (append-nil xs)

pub number_more : (leaders : List ℕ) (n : ℕ) → length (printed_before leaders (n + 1)) ≡ (if is_shown leaders n then length (printed_before leaders n) + 1 else length (printed_before leaders n))
number_more leaders n = ap length (printed_more leaders n) ∙ if_longer (printed_before leaders n) n (is_shown leaders n)

abbrev pub rows_before : List ℕ → List (Option ℕ) → List Record → ℕ → List ℕ
rows_before leaders vias records n = flat_map (group_rows leaders vias records) (enumerate_from 1 (printed_before leaders n))

if_told : (leaders : List ℕ) (vias : List (Option ℕ)) (records : List Record) (xs : List ℕ) (n : ℕ) (t : Bool)
    → flat_map (group_rows leaders vias records) (enumerate_from 1 (xs ++ (if t then n ∷ [] else [])))
    ≡ flat_map (group_rows leaders vias records) (enumerate_from 1 xs) ++ (if t then flat_map (group_row vias records (length xs + 1)) (members leaders n) else [])
if_told leaders vias records xs n true =
    ap (flat_map (group_rows leaders vias records)) (enumerate_more 1 xs n)
    ∙ (flat_map-append (group_rows leaders vias records) (enumerate_from 1 xs) ((1 + length xs, n) ∷ [])
    ∙ ap (λ rows. flat_map (group_rows leaders vias records) (enumerate_from 1 xs) ++ rows)
    (append-nil (group_rows leaders vias records (1 + length xs, n)) ∙ ap (λ number. flat_map (group_row vias records number) (members leaders n)) (let e : 1 + length xs ≡ length xs + 1 = omega arith in e)))
if_told leaders vias records xs n false =
    ap (λ ys. flat_map (group_rows leaders vias records) (enumerate_from 1 ys)) (append-nil xs) ∙ sym (append-nil (flat_map (group_rows leaders vias records) (enumerate_from 1 xs)))

pub rows_more : (leaders : List ℕ) (vias : List (Option ℕ)) (records : List Record) (n : ℕ)
    → rows_before leaders vias records (n + 1) ≡ rows_before leaders vias records n ++ (if is_shown leaders n then flat_map (group_row vias records (length (printed_before leaders n) + 1)) (members leaders n) else [])
rows_more leaders vias records n =
    ap (λ ys. flat_map (group_rows leaders vias records) (enumerate_from 1 ys)) (printed_more leaders n) ∙ if_told leaders vias records (printed_before leaders n) n (is_shown leaders n)

-- one group more, which is printed where it has at least two members
pub number_next : (leaders : List ℕ) (n number last : ℕ) (group : List ℕ) → group ≡ members leaders n → number ≡ length (printed_before leaders n)
    → last ≡ (if nat_le 2 (length group) then number + 1 else number)
    → last ≡ length (printed_before leaders (n + 1))
number_next leaders n number last group is count e =
    e ∙ (ap (λ (g : List ℕ). if nat_le 2 (length g) then number + 1 else number) is ∙ (ap (λ (m : ℕ). if is_shown leaders n then m + 1 else m) count ∙ sym (number_more leaders n)))

pub rows_next : (leaders : List ℕ) (vias : List (Option ℕ)) (records : List Record) (n number : ℕ) (group start text new : List ℕ)
    → group ≡ members leaders n → number ≡ length (printed_before leaders n) → text ≡ start ++ rows_before leaders vias records n
    → new ≡ text ++ (if nat_le 2 (length group) then flat_map (group_row vias records (number + 1)) group else [])
    → new ≡ start ++ rows_before leaders vias records (n + 1)
rows_next leaders vias records n number group start text new is count told e =
    let rows : ℕ → List ℕ = λ m. if is_shown leaders n then flat_map (group_row vias records (m + 1)) (members leaders n) else [] in
    e ∙ (ap (λ (g : List ℕ). text ++ (if nat_le 2 (length g) then flat_map (group_row vias records (number + 1)) g else [])) is
    ∙ (ap (λ m. text ++ rows m) count
    ∙ (ap (λ t. t ++ rows (length (printed_before leaders n))) told
    ∙ (append_assoc start (rows_before leaders vias records n) (rows (length (printed_before leaders n)))
    ∙ ap (λ t. start ++ t) (sym (rows_more leaders vias records n))))))
