-- No public clause names this module: it hands on the words of this crate that the crates above share, types, constants and
-- definitions, each by the name that it has where it is declared, so that a proof or a definition imports all of them by one line.
pub use Rattle.link_base.specs.AnswerLaws.{refuses-then, refuses_then}
pub use Rattle.link_base.specs.Answers.{GivesBut, RefusesBut, and_then}
pub use Rattle.link_base.specs.Fault.{Gives, IsAnswer, Refuses, fault_status, fault_text, is_want, or_else}
pub use Rattle.link_base.specs.Ids.{AreDistinct, AreRising, IsNewId, Keeps, comes_before, is_lesser, position_among}
pub use Rattle.link_base.specs.Region.{EndsAt, pieces_from, start_at}
pub use Rattle.link_base.specs.RowsWriter.{AreOpen, WrittenRows, with_row, with_value, written_rows}
pub use Rattle.link_base.specs.Rule.{IsPairBefore, IsWithinRanges, empty_cell}
pub use Rattle.link_base.specs.Shares.{IsShares, outcomes_of}
pub use Rattle.link_base.specs.Standard.{AreCells, BeginsAs, HaveDistinctIds, IsDay, IsFreshId, IsPlaced, IsValid, Record, absent_value, id_alone, id_at, ids_alone, no_record, position_of_id, records_of, value_in, value_seen, values_in}
pub use Rattle.link_base.specs.Tables.{AreWordPairs, StandsBefore, is_word, is_word_byte, missing_marks, name_suffixes, name_titles}
