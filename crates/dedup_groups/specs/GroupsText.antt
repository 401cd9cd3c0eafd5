-- The text of groups: a header, and a row for each record of a group of at least two (`groups_text`, its lone clause).
use Rattle.std.specs.Prelude.{◌==◌, nat_le, ℕ, Bool, List, [], ◌∷◌, ◌++◌, codes, decimal, filter, length, slice_index, slice_index_or, Option, Some, None}
use Rattle.std.specs.List.{enumerate_from, flat_map, range_with_len}
use Rattle.csv.specs.Writing.{default_writer, row_text}
use Rattle.link_base.specs.Words.{id_at, Record}

abbrev pub groups_header : List (List ℕ)
groups_header = codes "group" ∷ codes "id" ∷ codes "via" ∷ []

-- the positions of a leader's group, rising
abbrev pub members : List ℕ → ℕ → List ℕ
members leaders leader = filter (λ at. slice_index leaders at == leader) (range_with_len 0 (length leaders))

-- a group of at least two is printed
abbrev pub is_shown : List ℕ → ℕ → Bool
is_shown leaders leader = nat_le 2 (length (members leaders leader))

-- the leaders of the groups that are printed, rising
abbrev pub printed_leaders : List ℕ → List ℕ
printed_leaders leaders = filter (is_shown leaders) (range_with_len 0 (length leaders))

-- the id of the record that a record was reached from, empty for a leader
abbrev pub id_of_via : List Record → Option ℕ → List ℕ
id_of_via records None = []
id_of_via records (Some from) = id_at records from

-- a record: the number of its group, its id, and the id of the one that it was reached from
abbrev pub group_row : List (Option ℕ) → List Record → ℕ → ℕ → List ℕ
group_row vias records number at =
    row_text default_writer (decimal number ∷ id_at records at ∷ id_of_via records (slice_index_or vias at None) ∷ [])

-- the rows of a group, given with its number
abbrev pub group_rows : List ℕ → List (Option ℕ) → List Record → ℕ × ℕ → List ℕ
group_rows leaders vias records group = flat_map (group_row vias records group.0) (members leaders group.1)

-- groups are numbered from 1, by their leaders
abbrev pub text_of_groups : List ℕ → List (Option ℕ) → List Record → List ℕ
text_of_groups leaders vias records =
    row_text default_writer groups_header ++ flat_map (group_rows leaders vias records) (enumerate_from 1 (printed_leaders leaders))
