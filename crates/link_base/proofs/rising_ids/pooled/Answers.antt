use Rattle.std.proofs.Common.{◌∙◌, ap, arith}
use Rattle.link_base.proofs.RisingFacts.{next_pooled}
use Rattle.value_pool.specs.Pool.{with_text}
use Rattle.link_base.proofs.rising_ids.pooled.Goals as goal

pub loop-at-preserved : goal.loop-at-preserved
loop-at-preserved c = record {
  texts = c.in_ok-take_in.ensures.texts ∙ ap (with_text c.loop-at.pool) c.get.ensures
      ∙ next_pooled c.args.ids.now c.loop-at.at c.loop-at.pool c.requires (omega (arith, c.loop-at-test.true, c.len-at-end.ensures)) c.loop-at.invariant.texts;
  limit = c.take_in.ensures.limit ∙ c.loop-at.invariant.limit;
}
