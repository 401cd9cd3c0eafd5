use Rattle.std.proofs.Common.{◌≡◌, ◌++◌, drop}
use Rattle.value_forms.specs.InitialBytes.{initials_from}
use Rattle.value_forms.specs.Initials.{initials_of}
use Rattle.value_forms.proofs.initials.initials_text.Given as goal

abbrev pub invariant-loop-byte : goal.invariant-loop-byte
invariant-loop-byte l = l.initials.items ++ initials_from (drop l.byte-index l.text) l.starts l.follows ≡ initials_of l.text
