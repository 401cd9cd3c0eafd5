use Rattle.std.proofs.Common.{◌∙◌, arith, subst, take_all}
use Rattle.standardise.specs.Kept.{IsOrdered}
use Rattle.standardise.proofs.StepLemmas.{taken_more, within_more}
use Rattle.standardise.proofs.word_set.WordSet.new.Goals as goal

pub loop-text-preserved : goal.loop-text-preserved
loop-text-preserved c =
    let texts = c.args.texts.now in
    let inv = c.loop-text.invariant in
    let copy = rw (c.in_ok-copy.ensures, c.text-item.is) at c.in_ok-push.ensures.items in
    let other = rw (c.in_ok-other.ensures, c.text-item.is) at c.in_ok-push-2.ensures.items in
    let here = rw (c.bytes.ensures, c.text-item.is) at c.add.ensures.here in
    record {
      copies = taken_more _ _ texts c.loop-text.text-index c.text-item.result c.loop-text-test.true inv.copies copy;
      ordered = taken_more _ _ texts c.loop-text.text-index c.text-item.result c.loop-text-test.true inv.ordered other;
      outline = within_more c.loop-text.outline c.add.new.self (λ t. t) texts c.loop-text.text-index c.text-item.result c.loop-text-test.true inv.outline c.add.ensures.kept here;
    }

pub invariant_of-result : goal.invariant_of-result
invariant_of-result c =
    let inv = c.loop-text.invariant in
    rw inv.copies (subst (λ ts. IsOrdered ts c.in_order.result.items) inv.ordered c.in_order.ensures, inv.outline)

pub returns : goal.returns
returns c = c.loop-text.invariant.copies ∙ take_all c.loop-text.text-index c.args.texts.now (omega arith)
