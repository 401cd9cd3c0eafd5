use Rattle.toml.specs.View.{table_view}
use Rattle.settings.proofs.WordTables.{pairs_are_word_pairs}
use Rattle.settings.proofs.word_tables.WordTableReader.read.Goals as goal

pub of-requires : goal.of-requires
of-requires c = pairs_are_word_pairs c.deref.result.now (table_view c.in_ok-table.table.now) _ c.in_ok-table.ensures.ascending c.in_ok-pairs.ensures
