use Rattle.std.proofs.Common.{get_or, length, ◌-◌, subst, sym}
use Rattle.std.specs.Char.{IsAsciiGraphic}
use Rattle.standardise.proofs.StepLemmas.{trim_visible}
use Rattle.standardise.proofs.white_space.trimmed.Goals as goal

pub returns-then-has_visible_ends : goal.returns-then-has_visible_ends
returns-then-has_visible_ends c =
    let same = c.as_bytes.ensures.value in
    let first = subst (λ bs. IsAsciiGraphic (get_or bs 0 0)) same (c.has_visible_ends.ensures.first c.if-has_visible_ends.true) in
    let last = subst (λ bs. IsAsciiGraphic (get_or bs (length bs - 1) 0)) same (c.has_visible_ends.ensures.last c.if-has_visible_ends.true) in
    sym (trim_visible c.args.text.now c.utf8.text first last)
