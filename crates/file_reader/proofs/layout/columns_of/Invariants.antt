use Rattle.std.proofs.Common.{◌≡◌, map, take}
use Rattle.file_reader.proofs.layout.columns_of.Given as goal

abbrev pub invariant-loop-name : goal.invariant-loop-name
invariant-loop-name l = l.columns.items ≡ map (λ name. name.now) (take l.name-index l.names)
