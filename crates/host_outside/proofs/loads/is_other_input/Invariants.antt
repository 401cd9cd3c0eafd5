use Rattle.std.proofs.Common.{◌≡◌, take, All}
use Rattle.host_outside.specs.HostFile.{IsSameFile}
use Rattle.host_outside.specs.declared.loads.Loaded.{Loaded}
use Rattle.host_outside.proofs.loads.is_other_input.Given as goal

abbrev pub invariant-loop-loaded : goal.invariant-loop-loaded
invariant-loop-loaded l = All (λ (loaded : Loaded). IsSameFile loaded.state l.state → loaded.name ≡ l.name) (take l.loaded-index l.loads)
