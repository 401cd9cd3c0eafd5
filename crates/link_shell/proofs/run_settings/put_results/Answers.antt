use Rattle.std.proofs.Common.{◌∷◌, [], codes}
use Rattle.command_scripts.specs.Words.{puts_as, a_put}
use Rattle.link_shell.proofs.run_settings.put_results.Goals as goal

pub returns : goal.returns
returns g c =
    puts_as _ _ (λ i. a_put (codes "pairs.csv") (c.bytes.ensures i) ∷ a_put (codes "rule.csv") (c.bytes-2.ensures i) ∷ a_put (codes "links.csv") (c.bytes-3.ensures i)
    ∷ a_put (codes "prices.csv") (c.bytes-4.ensures i) ∷ a_put (codes "report.txt") (c.bytes-5.ensures i) ∷ []) c.put_each.ensures
