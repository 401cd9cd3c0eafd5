use Rattle.std.proofs.Common.{◌∙◌, sym}
use Rattle.value_pool.proofs.PlaceLemmas.{held-place}
use Rattle.block_passes.proofs.StepLemmas.{place-missed}
use Rattle.block_passes.specs.NumberingLaws.{place-read}
use Rattle.block_passes.proofs.numbering.Numbering.place.Goals as goal

pub returns-in-Some : goal.returns-in-Some
returns-in-Some c =
    let codes = c.self.inside.codes.texts in
    let code = c.args.code.now in
    rw (← c.self.view_is) (c.place.ensures ∙ place-read codes code c.in-Some.id c.are_distinct.ensures.same_id c.in-Some.ensures.found (held-place codes code (sym c.in-Some.ensures.held)))

pub returns-in-None : goal.returns-in-None
returns-in-None c =
    rw (← c.self.view_is) (c.len.ensures ∙ sym (place-missed c.self.inside.codes.texts c.args.code.now (sym c.in-None.ensures.held)))
