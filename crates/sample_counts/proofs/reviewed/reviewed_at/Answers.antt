use Rattle.std.proofs.Common.{◌+◌, get_or}
use Rattle.file_reader.specs.Words.{no_row}
use Rattle.sample_counts.proofs.Lemmas.{pair_refused}
use Rattle.sample_counts.proofs.reviewed.reviewed_at.Goals as goal

pub returns-in-Err-clause-answer : goal.returns-in-Err-clause-answer
returns-in-Err-clause-answer c =
    pair_refused c.args.a.now c.args.b.now (c.args.at + 1) (get_or c.args.table.now c.args.at no_row).fields c.field.result.now c.field-2.result.now c.field-3.result.now c.in-Some.matched c.in-Err.fault c.field.ensures c.field-2.ensures c.field-3.ensures c.in-Some.ensures c.in-Err.ensures.answer
