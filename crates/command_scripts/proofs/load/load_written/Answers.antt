use Rattle.link_limits.specs.declared.TheConstants.{MOST_WRITTEN_BYTES}
use Rattle.command_scripts.specs.Words.{takes_load}
use Rattle.command_scripts.proofs.load.load_written.Goals as goal

pub returns-clause-takes : goal.returns-clause-takes
returns-clause-takes g c =
    let e = c.load_whole.ensures in
    takes_load c.args.role MOST_WRITTEN_BYTES c.args.name.now e.kind e.content e.unchanged e.cause
