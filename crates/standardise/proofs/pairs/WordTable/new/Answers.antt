use Rattle.std.proofs.Common.{◌∙◌, arith, take_all}
use Rattle.link_base.specs.declared.tables.WordPair.{WordPair}
use Rattle.standardise.proofs.StepLemmas.{within_more, taken_more}
use Rattle.standardise.proofs.pairs.WordTable.new.Goals as goal

pub loop-pair-preserved : goal.loop-pair-preserved
loop-pair-preserved c =
    let items = c.pairs-pair-items.result.now in
    let grown = rw (c.in_ok-from.ensures, c.in_ok-to.ensures, c.pair-item.is) at c.in_ok-push.ensures.items in
    let here = rw (c.bytes.ensures, c.pair-item.is) at c.add.ensures.here in
    record {
      copies = taken_more c.loop-pair.copies.items c.push.new.self.items items c.loop-pair.pair-index c.pair-item.result c.loop-pair-test.true c.loop-pair.invariant.copies grown;
      outline = within_more c.loop-pair.outline c.add.new.self (λ (p : WordPair). p.from) items c.loop-pair.pair-index c.pair-item.result c.loop-pair-test.true c.loop-pair.invariant.outline c.add.ensures.kept here;
    }

pub of-pairs-requires : goal.of-pairs-requires
of-pairs-requires c =
    let all = c.loop-pair.invariant.copies ∙ take_all c.loop-pair.pair-index c.pairs-pair-items.result.now (omega arith) ∙ c.pairs-pair-items.ensures.all in
    rw all c.pairs-pair-items.ensures.rising

pub invariant_of-result : goal.invariant_of-result
invariant_of-result c = rw (c.of-pairs.ensures, c.loop-pair.invariant.copies) c.loop-pair.invariant.outline

pub returns : goal.returns
returns c = c.of-pairs.ensures ∙ c.loop-pair.invariant.copies ∙ take_all c.loop-pair.pair-index c.pairs-pair-items.result.now (omega arith) ∙ c.pairs-pair-items.ensures.all
