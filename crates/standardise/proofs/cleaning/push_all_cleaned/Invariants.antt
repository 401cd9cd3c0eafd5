use Rattle.std.proofs.Common.{◌≡◌, ◌++◌, take, encode_utf8_all, flat_map, string_bytes}
use Rattle.standardise.specs.Cleaning.{cleaned_char}
use Rattle.standardise.proofs.cleaning.push_all_cleaned.Given as goal

abbrev pub invariant-loop-c : goal.invariant-loop-c
invariant-loop-c l = string_bytes l.out ≡ string_bytes l.fn.out ++ encode_utf8_all (flat_map cleaned_char (take l.c-index l.cs))
