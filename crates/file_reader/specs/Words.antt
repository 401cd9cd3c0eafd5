-- No public clause names this module: it hands on the words of this crate that the crates above share, types, constants and
-- definitions, each by the name that it has where it is declared, so that a proof or a definition imports all of them by one line.
pub use Rattle.file_reader.specs.Known.{known_in, or_fault, pair_in}
pub use Rattle.file_reader.specs.Reader.{IsBetweenRecords, IsGoing, IsOfMemory, IsPlain, IsReading, IsUnderway, TakesTableRow, ids_after, records_left, records_unread}
pub use Rattle.file_reader.specs.Rows.{AreIdsFor, Heading, TableRow, Wanted, cell, cells_of, column_in, columns_of, count_in, field_columns, header_has, heading_of, heading_under, ids_of, known_ids, no_row, row_of_cells, rows_in, skipped, table_rows, wanted_of, with_ids}
pub use Rattle.file_reader.specs.Table.{HasDistinctIds, HasTexts, HasWidth, IsFieldText, IsTextRow, IsWholeTable, fault_by, records_in, row_fault, rows_read, table_of, taken, text_fault, unless_fault}
pub use Rattle.file_reader.specs.TableLaws.{IsRowOf, fields_with, length_ids, length_with, none_found, records_few, rows_whole, table_is_whole, table_sound, taken_text, text_at}
pub use Rattle.file_reader.specs.Takers.{HasCells, IsTableFor, IsTaken, each_read, row_refused, row_taken}
