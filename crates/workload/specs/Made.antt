-- The made input of a number of rows: the texts of A, of B and of the sample, each a header and rows as RFC 4180 has them
-- (`make_input`, clauses `a`, `b`, `sample`).
use Rattle.std.specs.Prelude.{ℕ, ◌+◌, ◌-◌, List, [], ◌∷◌, ◌++◌, codes, decimal, map, min, Option, Some, None, ℤ}
use Rattle.std.specs.List.{flat_map, range_with_len}
use Rattle.csv.specs.Writing.{default_writer, row_text}
use Rattle.value_forms.specs.Days.{text_of_day}
use Rattle.workload.specs.declared.people.Person.{Person}
use Rattle.workload.specs.declared.samples.TheConstants.{MOST_OF_STATUS}
use Rattle.workload.specs.People.{changed, person, word}

-- the text of rows of fields
abbrev pub rows_text : List (List (List ℕ)) → List ℕ
rows_text rows = flat_map (row_text default_writer) rows

-- the ids of a row in A and in B
abbrev pub id_a : ℕ → List ℕ
id_a row = 65 ∷ decimal row

abbrev pub id_b : ℕ → List ℕ
id_b row = 66 ∷ decimal row

-- a day of birth, or nothing
abbrev pub birth_text : Option ℤ → List ℕ
birth_text (Some day) = text_of_day day
birth_text None = []

-- a row of A or B: its id, and the names and the day of birth of its person
abbrev pub person_row : List ℕ → Person → List (List ℕ)
person_row id p = id ∷ word 4 p.surname ∷ word 2 p.given ∷ birth_text p.birth ∷ []

abbrev pub file_header : List (List ℕ)
file_header = codes "id" ∷ codes "surname" ∷ codes "given" ∷ codes "birth" ∷ []

abbrev pub row_a : ℕ → List (List ℕ)
row_a row = person_row (id_a row) (person row)

abbrev pub row_b : ℕ → List (List ℕ)
row_b row = person_row (id_b row) (changed row)

abbrev pub text_of_a : ℕ → List ℕ
text_of_a rows = rows_text (file_header ∷ map row_a (range_with_len 0 rows))

abbrev pub text_of_b : ℕ → List ℕ
text_of_b rows = rows_text (file_header ∷ map row_b (range_with_len 0 rows))

abbrev pub sample_header : List (List ℕ)
sample_header = codes "id_a" ∷ codes "id_b" ∷ codes "status" ∷ []

abbrev pub made_row : ℕ → ℕ → List ℕ → List (List ℕ)
made_row a b status = id_a a ∷ id_b b ∷ status ∷ []

-- a record of A with the copy of that so many rows on
abbrev pub paired_row : ℕ → List ℕ → ℕ → List (List ℕ)
paired_row on status row = made_row row (row + on) status

-- at most `MOST_OF_STATUS` pairs of each status: a record with its own copy is matched, and with the copy of the next unmatched
abbrev pub text_of_sample : ℕ → List ℕ
text_of_sample rows =
    rows_text (sample_header ∷ map (paired_row 0 (codes "matched")) (range_with_len 0 (min rows MOST_OF_STATUS)) ++ map (paired_row 1 (codes "unmatched")) (range_with_len 0 (min (rows - 1) MOST_OF_STATUS)))

-- The settings of the made input of a number of rows (`make_input`, clause `settings`).

-- the files, the asked levels, and the key of the seed
abbrev pub up_to_seed : List ℕ
up_to_seed = codes "file_a = \"a.csv\"\nfile_b = \"b.csv\"\nsample = \"sample.csv\"\nmu_ppm = 100\nlambda_ppm = 1000\nseed = "

-- the three fields
abbrev pub surname_field : List ℕ
surname_field = codes "\n\n[[field]]\nname = \"surname\"\nkind = \"name\"\ncompare = \"soundex\"\n"

abbrev pub given_field : List ℕ
given_field = codes "\n[[field]]\nname = \"given\"\nkind = \"name\"\ncompare = \"exact\"\n"

abbrev pub birth_field : List ℕ
birth_field = codes "\n[[field]]\nname = \"birth\"\nkind = \"date\"\nform_a = \"ymd\"\nform_b = \"ymd\"\ncompare = \"exact\"\n"

-- the two passes
abbrev pub surname_pass : List ℕ
surname_pass = codes "\n[[pass]]\nparts = [{ field = \"surname\", key = \"whole\" }]\n"

abbrev pub birth_pass : List ℕ
birth_pass = codes "\n[[pass]]\nparts = [{ field = \"birth\", key = \"whole\" }]\n"

-- the seed is the number of rows
abbrev pub text_of_settings : ℕ → List ℕ
text_of_settings rows = up_to_seed ++ decimal rows ++ surname_field ++ given_field ++ birth_field ++ surname_pass ++ birth_pass
