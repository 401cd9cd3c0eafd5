use Rattle.std.proofs.Common.{◌≡◌, ◌++◌, ◌∙◌, codes}
use Rattle.settings_readers.proofs.lists.Items.read.Goals as goal

pub returns-clause-gives : goal.returns-clause-gives
returns-clause-gives g c =
    let above : c.deref.result.now ≡ c.args.place.now ++ codes "." = c.deref.ensures.value ∙ c.in_ok-above.ensures in
    rw (c.in_ok-array.ensures.gives, ← above) c.each.ensures.gives
