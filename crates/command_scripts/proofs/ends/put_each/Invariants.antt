use Rattle.std.proofs.Common.{◌≡◌, take}
use Rattle.command_scripts.specs.Words.{after_puts, puts_in}
use Rattle.command_scripts.proofs.ends.put_each.Given as goal

abbrev pub invariant-loop-output : goal.invariant-loop-output
invariant-loop-output g l = record {
  logged : g.S.Store.faults l.store ≡ g.S.Store.faults l.fn.store;
  made : g.S.Store.tells → g.S.Store.held l.store ≡ after_puts (take l.output-index (puts_in l.outputs)) (g.S.Store.held l.fn.store);
}
