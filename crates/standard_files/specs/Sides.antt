-- What is kept of the values of two files: what their fields are compared by, ids of canons and days, and the ids of the
-- parts of their keys. `pool_values` carries it (clause `gives`).
use Rattle.std.specs.Prelude.{◌+◌, ℕ, List, [], ◌∷◌, ◌++◌, length, sum_by, nat_lt, if◌then◌else◌, Option, Some, None, option_to_list, Result, Ok, Err, map, ◌≡◌, ◌<◌, ◌≤◌, filter, not, bytes_eq, flat_map}
use Rattle.link_base.specs.Words.{Record, and_then}
use Rattle.value_forms.specs.declared.canons.CompareKind.{CompareKind}
use Rattle.value_forms.specs.declared.passes.Part.{Part}
use Rattle.link_base.specs.declared.standard.Value.{Value}
use Rattle.block_passes.specs.Keys.{part_key, key_ids}
use Rattle.value_forms.specs.Canons.{canon_of, compares_days}
use Rattle.value_pool.specs.Pool.{stands_among, place_among}
use Rattle.value_pool.specs.declared.pool.PoolFault.{PoolFault}
use Rattle.comparators.specs.Fields.{IdRows}
use Rattle.comparators.specs.declared.ids.IdValue.{IdValue}
use Rattle.link_base.specs.declared.standard.Value.TheVariants as value
use Rattle.value_pool.specs.declared.pool.PoolFault.TheVariants as fault
use Rattle.comparators.specs.declared.ids.IdValue.TheVariants as id

-- The texts of two files that a pool holds, in their order. `pool_values` carries them (clause `gives`), and
-- `distinct_taken` which they are.

-- the standard text of a value: that of a word
abbrev pub standard_text : Value → Option (List ℕ)
standard_text value.Absent = None
standard_text (value.Word text) = Some text
standard_text (value.Day day) = None

-- the texts of a row: its standard texts, its canons, and its parts of keys
abbrev pub texts_of_row : List Value → List (List ℕ)
texts_of_row row = flat_map (λ v. option_to_list (standard_text v)) row

abbrev pub canons_of_row : List CompareKind → List Value → List (List ℕ)
canons_of_row [] row = []
canons_of_row (kind ∷ kinds) [] = []
canons_of_row (kind ∷ kinds) (v ∷ vs) = option_to_list (canon_of kind v) ++ canons_of_row kinds vs

abbrev pub parts_in_pass : List Value → List Part → List (List ℕ)
parts_in_pass row pass = flat_map (λ part. option_to_list (part_key row part)) pass

abbrev pub parts_of_row : List (List Part) → List Value → List (List ℕ)
parts_of_row passes row = flat_map (parts_in_pass row) passes

-- the texts of a file
abbrev pub file_texts : (List Value → List (List ℕ)) → List Record → List (List ℕ)
file_texts texts file = flat_map (λ (r : Record). texts r.row) file

-- of A and then of B
abbrev pub both_texts : (List Value → List (List ℕ)) → List Record → List Record → List (List ℕ)
both_texts texts a b = file_texts texts a ++ file_texts texts b

-- all texts in the order in which they are taken: the standard texts, the canons, the parts of keys
abbrev pub all_texts : List CompareKind → List (List Part) → List Record → List Record → List (List ℕ)
all_texts kinds passes a b =
    both_texts texts_of_row a b ++ both_texts (canons_of_row kinds) a b ++ both_texts (parts_of_row passes) a b

-- a text after those that are held: one that is held is not taken again, and a new one has to keep the limit of their bytes
abbrev pub text_taken : ℕ → List (List ℕ) → List ℕ → Result (List (List ℕ)) PoolFault
text_taken limit held text =
    if stands_among held text then Ok held
    else if nat_lt limit (sum_by length held + length text) then Err (fault.Full (sum_by length held + length text) limit)
    else Ok (held ++ text ∷ [])

-- the distinct texts of a list after those that are held, or the first text that passes the limit
abbrev pub texts_taken : ℕ → List (List ℕ) → List (List ℕ) → Result (List (List ℕ)) PoolFault
texts_taken limit held [] = Ok held
texts_taken limit held (text ∷ texts) = and_then (text_taken limit held text) (λ more. texts_taken limit more texts)

-- the distinct texts of both files, each at the place where it first stands
abbrev pub pooled_texts : ℕ → List CompareKind → List (List Part) → List Record → List Record → Result (List (List ℕ)) PoolFault
pooled_texts limit kinds passes a b = texts_taken limit [] (all_texts kinds passes a b)

-- a canon by its id
abbrev pub id_side : List (List ℕ) → Option (List ℕ) → IdValue
id_side texts None = id.Absent
id_side texts (Some text) = id.Id (place_among texts text)

-- a day as it is
abbrev pub day_side : Value → IdValue
day_side value.Absent = id.Absent
day_side (value.Word text) = id.Absent
day_side (value.Day day) = id.Day day

-- what a value is compared by: its day, where the kind compares days, and else the id of its canon
abbrev pub side_of : List (List ℕ) → CompareKind → Value → IdValue
side_of texts kind v = if compares_days kind then day_side v else id_side texts (canon_of kind v)

-- a row, and a file
abbrev pub sides_of_row : List (List ℕ) → List CompareKind → List Value → List IdValue
sides_of_row texts [] row = []
sides_of_row texts (kind ∷ kinds) [] = []
sides_of_row texts (kind ∷ kinds) (v ∷ vs) = side_of texts kind v ∷ sides_of_row texts kinds vs

abbrev pub sides_of_file : List (List ℕ) → List CompareKind → List Record → List (List IdValue)
sides_of_file texts kinds file = map (λ (r : Record). sides_of_row texts kinds r.row) file

-- what is seen of pooled values: the texts of the pool and its limit, the sides of both files as tables, and the ids of the
-- parts of their keys
pub record PooledView : Type 0 where
  pub texts : List (List ℕ)
  pub limit : ℕ
  pub a : IdRows
  pub b : IdRows
  pub keys_a : List (Option ℕ)
  pub keys_b : List (Option ℕ)

-- the table of a file: as many values a row as there are kinds
abbrev pub id_rows_of : List (List ℕ) → List CompareKind → List Record → IdRows
id_rows_of texts kinds file = record { fields = length kinds; rows = sides_of_file texts kinds file }

-- the pooled values of two files, or the first text that passes the limit
abbrev pub pooled_values : ℕ → List CompareKind → List (List Part) → List Record → List Record → Result PooledView PoolFault
pooled_values limit kinds passes a b =
    and_then (pooled_texts limit kinds passes a b)
    (λ texts. Ok (record {
      texts = texts;
      limit = limit;
      a = id_rows_of texts kinds a;
      b = id_rows_of texts kinds b;
      keys_a = key_ids texts passes a;
      keys_b = key_ids texts passes b;
    }))

-- The distinct texts of a list, and where they pass a limit. `distinct_taken` carries them (clauses `among`, `once`, `taken`,
-- `full`).

-- each text of a list once, at the place where it first stands
abbrev pub distinct_texts : List (List ℕ) → List (List ℕ)
distinct_texts [] = []
distinct_texts (text ∷ texts) = text ∷ filter (λ other. not (bytes_eq text other)) (distinct_texts texts)

-- the texts of a list are refused at a sum of lengths past the limit, up to that of all distinct texts
abbrev pub IsFullAt : ℕ → List (List ℕ) → ℕ → Type 0
IsFullAt limit texts used =
    (texts_taken limit [] texts ≡ Err (fault.Full used limit)) × (limit < used) × (used ≤ sum_by length (distinct_texts texts))
