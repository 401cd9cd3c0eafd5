use Rattle.std.proofs.Common.{arith}
use Rattle.sample_counts.specs.CountLaws.{valid_shares}
use Rattle.sample_counts.proofs.remainders.shares.Goals as goal

pub returns-clause-valid : goal.returns-clause-valid
returns-clause-valid c =
    valid_shares c.args.counts.now c.share_at.result c.share_at-2.result c.share_at-3.result (omega arith) c.requires.some c.share_at.ensures c.share_at-2.ensures c.share_at-3.ensures
