use Rattle.std.proofs.Common.{[], arith}
use Rattle.toml.specs.View.{items_view}
use Rattle.settings_readers.specs.Values.{each}
use Rattle.settings_readers.proofs.Lemmas.{each_more, each_refused, one_longer}
use Rattle.settings_readers.proofs.lists.each.Goals as goal

pub loop-i-preserved : goal.loop-i-preserved
loop-i-preserved g c =
    let total = each (g.E.Element.gives c.args.element.now) c.args.above.now (items_view c.args.array.now) [] 1 in
    let grown = c.in_ok-push-in-Ok.ensures.items in (
      each_more (g.E.Element.gives c.args.element.now) c.args.above.now c.args.array.now c.loop-i.i c.index-array-i.result c.loop-i.before.items c.deref.result.now c.push.new.self.items c.in-Ok.item total (omega arith) c.index-array-i.is c.deref.ensures.value c.in-Ok.ensures grown c.loop-i.invariant.0,
      one_longer c.loop-i.before.items c.push.new.self.items c.in-Ok.item c.loop-i.i grown c.loop-i.invariant.1,
    )

pub returns-in-Err-clause-gives : goal.returns-in-Err-clause-gives
returns-in-Err-clause-gives g c =
    each_refused (g.E.Element.gives c.args.element.now) c.args.above.now c.args.array.now c.loop-i.i c.index-array-i.result c.loop-i.before.items c.deref.result.now c.in-Err.fault _ (omega arith) c.index-array-i.is c.deref.ensures.value c.in-Err.ensures c.loop-i.invariant.0
