use Rattle.std.proofs.Common.{◌≡◌, take, All}
use Rattle.host_outside.specs.declared.loads.Loaded.{Loaded}
use Rattle.host_outside.proofs.loads.is_noted.Given as goal

abbrev pub invariant-loop-loaded : goal.invariant-loop-loaded
invariant-loop-loaded l = All (λ (loaded : Loaded). loaded.name ≡ l.name → loaded.state ≡ l.state) (take l.loaded-index l.loads)
