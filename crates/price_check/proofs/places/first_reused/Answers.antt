use Rattle.std.proofs.Common.{◌∙◌}
use Rattle.price_check.proofs.Tops.{reused_single}
use Rattle.price_check.proofs.places.first_reused.Goals as goal

pub returns : goal.returns
returns c =
    reused_single c.args.rows_b c.deref.result.now c.args.links.now c.in_ok-place.place (c.deref.ensures.value ∙ c.in_ok-single.ensures.items_if_clones_equal (λ y same. same)) c.requires.in_range c.in_ok-place.ensures
