use Rattle.link_limits.specs.declared.TheConstants.{MOST_FILE_BYTES}
use Rattle.command_scripts.specs.Words.{takes_load}
use Rattle.command_scripts.proofs.load.load_file.Goals as goal

pub returns : goal.returns
returns g c =
    let e = c.load_whole.ensures in
    takes_load c.args.role MOST_FILE_BYTES c.args.name.now e.kind e.content e.unchanged e.cause
