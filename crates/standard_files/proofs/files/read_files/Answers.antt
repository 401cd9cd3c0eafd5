use Rattle.std.proofs.Common.{Result, subst}
use Rattle.link_base.specs.Words.{IsAnswer}
use Rattle.link_base.specs.declared.fault.Fault.{Fault}
use Rattle.standard_files.specs.Files.{StandardPair}
use Rattle.standard_files.proofs.FileSteps.{files_ok, files_refused}
use Rattle.standard_files.proofs.files.read_files.Goals as goal

pub returns-in-Ok-read_file-clause-answer : goal.returns-in-Ok-read_file-clause-answer
returns-in-Ok-read_file-clause-answer c =
    subst (λ (expected : Result StandardPair Fault). IsAnswer expected c.pair_of.result)
    (files_ok c.args.plan.now c.args.a.now c.args.b.now c.in-Ok.file c.in-Ok-read_file.of_b c.in-Ok.ensures.answer c.in-Ok-read_file.ensures.answer) c.pair_of.ensures.answer

pub returns-clause-answer : goal.returns-clause-answer
returns-clause-answer c =
    files_refused c.args.plan.now c.args.a.now c.args.b.now c.in-Ok.file c.in-Err-read_file.fault c.in-Ok.ensures.answer c.in-Err-read_file.ensures.answer
