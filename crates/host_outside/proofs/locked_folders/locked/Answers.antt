use Rattle.std.proofs.Common.{get_or, refl, rules}
use Rattle.host_outside.specs.HostFile.{IsFolderOf}
use Rattle.host_outside.proofs.Lemmas.{holds_pushed, folder_of_state}
use Rattle.host_outside.proofs.locked_folders.locked.Goals as goal

pub returns-in-Some-clause-same : goal.returns-in-Some-clause-same
returns-in-Some-clause-same g c =
    let kept = rw c.deref.ensures.value at c.in-Some.ensures.same in
    λ d. folder_of_state (g.F.HostFile.told_state c.args.folder) c.in_ok-state.state (get_or c.args.folders.now.items c.in-Some.at d).state c.in_ok-state.ensures (kept d)

pub returns-clause-same : goal.returns-clause-same
returns-clause-same g c =
    let state = c.in_ok-state.state in
    let told = folder_of_state (g.F.HostFile.told_state c.args.folder) state state c.in_ok-state.ensures (refl, refl) in
    holds_pushed (λ kept. IsFolderOf g.F.HostFile.told_state c.args.folder kept.state) c.reserve.new.self.items _ _ c.len-at.result (search rules) c.push_reserved.ensures.items told
