use Rattle.command_scripts.specs.Words.{journal_put, puts_as}
use Rattle.command_steps.proofs.reviewed.put_journal.Goals as goal

pub returns : goal.returns
returns g c =
    puts_as _ _ (journal_put c.journal_name.result.now c.args.plan.now.journal c.bytes.result.now c.args.text.now c.journal_name.ensures c.bytes.ensures) c.put_each.ensures
