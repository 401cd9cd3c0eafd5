use Rattle.std.proofs.Common.{refl, sym, ◌∙◌}
use Rattle.host_outside.proofs.Lemmas.{on_false, on_true, other_state, same_state}
use Rattle.host_outside.proofs.loads.fits.Goals as goal

pub returns-then-is_of-clause-fits : goal.returns-then-is_of-clause-fits
returns-then-is_of-clause-fits c = on_true c.eq.result _ (λ e _. same_state c.args.loaded.now.state c.args.state.now (sym c.eq.ensures ∙ e))

pub returns-then-is_of-clause-other : goal.returns-then-is_of-clause-other
returns-then-is_of-clause-other c =
    on_false c.eq.result _ (λ e. ((rw c.if-is_of.true at c.is_of.ensures).0 refl, other_state c.args.loaded.now.state c.args.state.now (sym c.eq.ensures ∙ e)))
