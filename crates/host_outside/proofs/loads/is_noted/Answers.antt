use Rattle.std.proofs.Common.{◌≡◌, arith, subst, take_all}
use Rattle.std.proofs.lemmas.List.Elements.{All-more}
use Rattle.host_outside.specs.declared.loads.Loaded.{Loaded}
use Rattle.host_outside.proofs.loads.is_noted.Goals as goal

pub loop-loaded-preserved : goal.loop-loaded-preserved
loop-loaded-preserved c =
    let noted : Loaded → Type 0 = λ x. x.name ≡ c.args.name.now → x.state ≡ c.args.state.now in
    let here : noted c.loaded-item.result = rw c.if-not-fits.false at c.fits.ensures.fits in
    All-more noted c.args.loads.now c.loop-loaded.loaded-index c.loaded-item.result (omega arith) c.loop-loaded.invariant (subst noted c.loaded-item.is here)

pub returns-clause-noted : goal.returns-clause-noted
returns-clause-noted c = rw (take_all c.loop-loaded.loaded-index c.args.loads.now (omega arith)) at c.loop-loaded.invariant
