use Rattle.std.proofs.Common.{◌+◌, drop, get_or, arith, refl}
use Rattle.block_passes.specs.Keys.{ids_of_row, key_ids}
use Rattle.link_base.specs.Words.{no_record}
use Rattle.standard_files.specs.Sides.{canons_of_row, file_texts, parts_of_row}
use Rattle.standard_files.proofs.TakingLemmas.{file-row, push-ids, held-more, before, kept, goes-on, goes-refused, is-err}
use Rattle.standard_files.proofs.KnownLemmas.{ids-row, row-known, rows-many, ids-later, ids-room}
use Rattle.standard_files.proofs.keys.take_file.Goals as goal

pub loop-at-preserved : goal.loop-at-preserved
loop-at-preserved c =
    let kinds = c.args.kinds.now in
    let passes = c.args.passes.now in
    let texts = parts_of_row passes in
    let file = c.args.file.now in
    let at = c.loop-at.at in
    let row = c.row.result in
    let taken = c.in_ok-take_row.ensures in
    record {
      goes = goes-on (file_texts texts (drop (at + 1) file)) c.loop-at.invariant.goes taken (file-row texts file at row (omega arith) c.row.ensures);
      left = ids-later c.loop-at.pool.texts kinds file at row c.loop-at.left.now (omega arith) c.row.ensures c.requires.rows c.loop-at.invariant.left c.take_row.new.pool.texts _ (kept taken) c.split_at.ensures.back;
      canons = held-more (file_texts (canons_of_row kinds) file) taken c.loop-at.invariant.canons;
      sides = λ final e. c.loop-at.invariant.sides final (before taken final e);
      ids = λ final e.
          push-ids c.loop-at.ids.items (key_ids final passes (drop (at + 1) file)) (key_ids final passes file) (key_ids final passes (drop at file))
          (ids_of_row final passes row) c.take_row.new.ids.items (c.loop-at.invariant.ids final (before taken final e)) (ids-row final passes file at row (omega arith) c.row.ensures) (taken.holds final e);
    }

pub returns-in_err-take_row : goal.returns-in_err-take_row
returns-in_err-take_row c =
    let texts = parts_of_row c.args.passes.now in
    rw (is-err c.from_residual.result c.from_residual.ensures.1)
    (goes-refused (texts c.row.result) (file_texts texts (drop (c.loop-at.at + 1) c.args.file.now)) c.in_err-take_row.field-0.0 c.loop-at.invariant.goes
    (file-row texts c.args.file.now c.loop-at.at c.row.result (omega arith) c.row.ensures) c.in_err-take_row.ensures)

pub split_at-requires : goal.split_at-requires
split_at-requires c =
    let row = (get_or c.args.file.now c.loop-at.at no_record).row in
    ids-room c.loop-at.pool.texts c.args.kinds.now c.args.file.now c.loop-at.at row c.loop-at.left.now (omega arith) refl c.requires.rows c.loop-at.invariant.left

pub sides-sides-requires : goal.sides-sides-requires
sides-sides-requires c =
    let many = rows-many c.loop-at.pool.texts c.args.kinds.now c.args.file.now c.args.table.now.rows c.are_distinct.ensures.distinct c.loop-at.invariant.sides in
    omega (arith, many)

pub take_row-requires-clause-known : goal.take_row-requires-clause-known
take_row-requires-clause-known c =
    row-known c.loop-at.pool.texts c.args.kinds.now c.args.file.now c.args.table.now.rows c.are_distinct.ensures.distinct c.loop-at.invariant.sides
    c.loop-at.at c.row.result c.loop-at.left.now c.split_at.result.0.now c.sides-sides.result.now (omega arith) c.row.ensures c.requires.rows
    c.loop-at.invariant.left c.split_at.ensures.front c.loop-at.invariant.canons c.sides-sides.ensures
