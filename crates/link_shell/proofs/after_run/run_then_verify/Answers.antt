use Rattle.link_shell.proofs.AfterRunFacts.{yes_after_run}
use Rattle.link_shell.proofs.after_run.run_then_verify.Goals as goal

pub returns : goal.returns
returns g c =
    let first = c.linkage-ran.ensures.performed in
    yes_after_run _ _ _ _ _ _ (g.S.Store.held c.linkage-verified.new.store) _ _ _ _ _ _ _ _ _ _ first.0 _ _ first.1 first.2 c.linkage-ran.ensures.proved_by_run c.linkage-verified.ensures.yes_where_proved
