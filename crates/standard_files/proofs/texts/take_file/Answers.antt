use Rattle.std.proofs.Common.{◌+◌, ◌++◌, drop, take, arith}
use Rattle.standard_files.specs.Taking.{AreTextIds, file_values}
use Rattle.standard_files.specs.Sides.{file_texts, texts_of_row}
use Rattle.standard_files.proofs.TakingLemmas.{file-row, values-more, goes-on, goes-refused, is-err}
use Rattle.standard_files.proofs.texts.take_file.Goals as goal

pub loop-at-preserved : goal.loop-at-preserved
loop-at-preserved c =
    let file = c.args.file.now in
    let at = c.loop-at.at in
    let row = c.row-in-loop-at.result in
    let taken = c.in_ok-take_row.ensures in
    let ids : AreTextIds c.take_row.new.pool.texts (file_values (take at file) ++ row) c.take_row.new.ids.items = taken.holds (file_values (take at file)) c.loop-at.invariant.ids in
    record {
      goes = goes-on (file_texts texts_of_row (drop (at + 1) file)) c.loop-at.invariant.goes taken (file-row texts_of_row file at row (omega arith) c.row-in-loop-at.ensures);
      ids = rw (values-more file at row (omega arith) c.row-in-loop-at.ensures) ids;
    }

pub returns-in_err-take_row : goal.returns-in_err-take_row
returns-in_err-take_row c =
    rw (is-err c.from_residual.result c.from_residual.ensures.1)
    (goes-refused (texts_of_row c.row-in-loop-at.result) (file_texts texts_of_row (drop (c.loop-at.at + 1) c.args.file.now)) c.in_err-take_row.field-0.0 c.loop-at.invariant.goes
    (file-row texts_of_row c.args.file.now c.loop-at.at c.row-in-loop-at.result (omega arith) c.row-in-loop-at.ensures) c.in_err-take_row.ensures)
