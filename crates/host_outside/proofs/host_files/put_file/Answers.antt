use Rattle.std.proofs.Common.{sym}
use Rattle.host_outside.proofs.host_files.put_file.Goals as goal

pub returns-clause-locked : goal.returns-clause-locked
returns-clause-locked g c =
    let folder = c.index.result.now in
    (c.in_ok-at.at, folder, c.in_ok-at.ensures.at, sym c.index.ensures, (folder.is_held, rw c.in_ok-put.was at c.put_as-put.ensures.kept))
