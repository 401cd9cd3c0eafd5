use Rattle.std.proofs.lemmas.Result.{on_ok_weaker}
use Rattle.block_passes.specs.NumberingLaws.{place-within}
use Rattle.block_passes.proofs.numbering.Numbering.number.Goals as goal

pub returns-clause-numbered : goal.returns-clause-numbered
returns-clause-numbered c = rw c.if-not-has_code.false (on_ok_weaker c.take.result (λ is. rw is (place-within c.args.self.now c.args.code.now)) c.take.ensures.codes)
