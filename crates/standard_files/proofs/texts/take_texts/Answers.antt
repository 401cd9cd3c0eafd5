use Rattle.standard_files.specs.Taking.{file_values}
use Rattle.standard_files.specs.Sides.{file_texts, texts_of_row}
use Rattle.standard_files.proofs.KnownLemmas.{ids-kept}
use Rattle.standard_files.proofs.TakingLemmas.{kept, refused-append, refused-then, taken-then, is-err}
use Rattle.standard_files.proofs.texts.take_texts.Goals as goal

pub returns-in_err-ids_a : goal.returns-in_err-ids_a
returns-in_err-ids_a c =
    let pool = c.args.pool.now in
    rw (is-err c.from_residual.result c.from_residual.ensures.1)
    (refused-append pool.limit pool.texts (file_texts texts_of_row c.args.a.now) (file_texts texts_of_row c.args.b.now) c.in_err-ids_a.field-0.0 c.in_err-ids_a.ensures)

pub returns-in_err-ids_b : goal.returns-in_err-ids_b
returns-in_err-ids_b c =
    rw (is-err c.from_residual-in_err-ids_b.result c.from_residual-in_err-ids_b.ensures.1)
    (refused-then (file_texts texts_of_row c.args.b.now) c.in_err-ids_b.field-0.0 c.in_ok-ids_a.ensures c.in_err-ids_b.ensures)

pub returns : goal.returns
returns c =
    let a = c.in_ok-ids_a.ensures in
    let b = c.in_ok-ids_b.ensures in
    taken-then a b (ids-kept c.take_file.new.pool.texts c.take_file-2.new.pool.texts (kept b) (file_values c.args.a.now) c.in_ok-ids_a.ids_a.items a.holds, b.holds)
