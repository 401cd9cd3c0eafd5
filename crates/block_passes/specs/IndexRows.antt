-- What an index gives for a key. `build_index` carries `index_rows` and `build_index_in` carries `id_index_rows`, each by its
-- clause; the two words are closed, so that no caller sees what an index keeps. The rest is machinery of the index.
use Rattle.std.specs.Prelude.{ℕ, List, [], Some, slice_index_or}
use Rattle.block_passes.specs.Numbering.{coded_texts, bytes_of_ids, number_among}
use Rattle.block_passes.specs.declared.coded_rows.RowsByCode.{RowsByCode}
use Rattle.block_passes.specs.declared.id_index.IdIndex.{IdIndex}
use Rattle.block_passes.specs.declared.index.Index.{Index}

-- the rows for a code
abbrev pub rows_by_code : RowsByCode → List ℕ → List ℕ
rows_by_code rows code = slice_index_or rows.groups (number_among rows.numbering (Some code)) []

-- the rows that an index gives for a key
unfoldable pub index_rows : Index → List (List ℕ) → List ℕ
index_rows index key = rows_by_code index.rows (coded_texts key)

-- the rows that an index by ids gives for the ids of a key
unfoldable pub id_index_rows : IdIndex → List ℕ → List ℕ
id_index_rows index ids = rows_by_code index.rows (bytes_of_ids ids)
