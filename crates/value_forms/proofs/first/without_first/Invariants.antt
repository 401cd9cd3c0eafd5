use Rattle.std.proofs.Common.{◌≡◌}
use Rattle.std.specs.Str.Iter.{chars_rest}
use Rattle.value_forms.specs.Initials.{later_characters}
use Rattle.value_forms.proofs.first.without_first.Given as goal

abbrev pub invariant-loop : goal.invariant-loop
invariant-loop l = chars_rest l.chars ≡ later_characters l.counter l.text
