use Rattle.std.proofs.Common.{◌≡◌, ◌++◌, drop, map, string_bytes, true}
use Rattle.std.specs.List.{list_all}
use Rattle.link_shell.specs.SettingsCommands.{is_level_word}
use Rattle.csv_rows.specs.Numbers.{number_in}
use Rattle.link_shell.proofs.frontier_settings.levels_of.Given as goal

abbrev pub invariant-loop-word : goal.invariant-loop-word
invariant-loop-word l = record {
  levels : map number_in (map string_bytes l.words) ≡ l.levels.items ++ map number_in (map string_bytes (drop l.word-index l.words));
  left : list_all is_level_word (map string_bytes (drop l.word-index l.words)) ≡ true;
}
