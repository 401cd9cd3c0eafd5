use Rattle.std.proofs.Common.{◌≡◌, Ok}
use Rattle.standard_files.specs.Files.{standard_files}
use Rattle.link_core.proofs.StepLemmas.{prepared_by}
use Rattle.link_core.proofs.preparing.prepare_texts.Goals as goal

pub returns-in-Ok-clause-answer : goal.returns-in-Ok-clause-answer
returns-in-Ok-clause-answer c =
    let read : standard_files c.args.plan.now c.args.a c.args.b ≡ Ok c.in-Ok.files = rw (c.bytes.ensures, c.bytes-2.ensures) at c.in-Ok.ensures.answer in
    prepared_by c.args.plan.now c.args.pool_limit c.args.a c.args.b c.in-Ok.files c.pool_pair.result read c.pool_pair.ensures.answer
