use Rattle.std.proofs.Common.{refl, subst}
use Rattle.std.proofs.lemmas.List.{get_or_default}
use Rattle.host_outside.specs.HostFile.{IsSameFile}
use Rattle.host_outside.proofs.locked_folders.place_of.Goals as goal

pub returns-then-is_same_file-clause-same : goal.returns-then-is_same_file-clause-same
returns-then-is_same_file-clause-same g c =
    let same = (rw c.if-is_same_file.true at c.is_same_file.ensures).0 refl in
    λ d. subst (λ kept. IsSameFile kept.state c.args.state.now) (get_or_default c.args.folders.now c.loop-at.at c.index-folders-at.result d c.loop-at-test.true) same
