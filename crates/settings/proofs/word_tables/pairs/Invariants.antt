use Rattle.std.proofs.Common.{◌≡◌, []}
use Rattle.toml.specs.View.{members_view}
use Rattle.settings.specs.Words.{pairs}
use Rattle.settings.proofs.word_tables.pairs.Given as goal

abbrev pub invariant-loop-key : goal.invariant-loop-key
invariant-loop-key l = pairs l.above (members_view l.key-iterator) l.before.items ≡ pairs l.above (members_view l.table.entries) []
