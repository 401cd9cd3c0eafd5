use Rattle.std.proofs.Common.{◌≢◌, arith, subst, take_all}
use Rattle.std.proofs.lemmas.List.Elements.{All-more}
use Rattle.host_outside.specs.declared.loads.Loaded.{Loaded}
use Rattle.host_outside.proofs.loads.is_loaded.Goals as goal

pub loop-loaded-preserved : goal.loop-loaded-preserved
loop-loaded-preserved c =
    let other : Loaded → Type 0 = λ x. x.name ≢ c.args.name.now in
    let here : other c.loaded-item.result = grind arith in
    All-more other c.args.loads.now c.loop-loaded.loaded-index c.loaded-item.result (omega arith) c.loop-loaded.invariant (subst other c.loaded-item.is here)

pub returns-clause-none : goal.returns-clause-none
returns-clause-none c = rw (take_all c.loop-loaded.loaded-index c.args.loads.now (omega arith)) at c.loop-loaded.invariant
