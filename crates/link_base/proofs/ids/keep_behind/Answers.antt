use Rattle.std.proofs.Common.{◌∙◌}
use Rattle.link_base.proofs.RisingFacts.{none_before}
use Rattle.link_base.proofs.ids.keep_behind.Goals as goal

pub returns-then-comes_last-clause-keeps : goal.returns-then-comes_last-clause-keeps
returns-then-comes_last-clause-keeps c =
    (none_before c.args.rising.now c.args.id.now c.requires.rising (c.comes_last.ensures c.if-comes_last.true), rw c.requires.none c.in_ok-push.ensures.ok)

pub returns-clause-kept : goal.returns-clause-kept
returns-clause-kept c = c.keep_in_pool.ensures.limit ∙ c.in_ok-pool.ensures.limit

pub returns-clause-keeps : goal.returns-clause-keeps
returns-clause-keeps c = rw c.in_ok-pool.ensures.texts at c.in_ok-found.ensures.keeps

pub returns-clause-within : goal.returns-clause-within
returns-clause-within c = rw c.in_ok-pool.ensures.texts at c.in_ok-found.ensures.within
