use Rattle.std.proofs.Common.{arith}
use Rattle.sample_counts.specs.CountLaws.{valid_shares4}
use Rattle.sample_counts.proofs.remainders.shares4.Goals as goal

pub returns-clause-valid : goal.returns-clause-valid
returns-clause-valid c =
    valid_shares4 c.args.counts.now c.share_at.result c.share_at-2.result c.share_at-3.result c.share_at-4.result (omega arith) c.requires.some c.share_at.ensures c.share_at-2.ensures c.share_at-3.ensures c.share_at-4.ensures
