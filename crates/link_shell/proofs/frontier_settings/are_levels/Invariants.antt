use Rattle.std.proofs.Common.{◌≡◌, ◌≤◌, ◌+◌, drop, map, string_bytes}
use Rattle.link_limits.specs.declared.TheConstants.{PER_MILLION}
use Rattle.link_shell.specs.SettingsCommands.{are_levels_from}
use Rattle.link_shell.proofs.frontier_settings.are_levels.Given as goal

abbrev pub invariant-loop-word : goal.invariant-loop-word
invariant-loop-word l = record {
  within : l.least ≤ PER_MILLION + 1;
  rising : are_levels_from 0 (map string_bytes l.words) ≡ are_levels_from l.least (map string_bytes (drop l.word-index l.words));
}
