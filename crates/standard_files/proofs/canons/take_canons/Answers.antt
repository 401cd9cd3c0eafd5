use Rattle.std.proofs.Common.{subst, sym}
use Rattle.standard_files.specs.Taking.{AreTextIds, file_values}
use Rattle.standard_files.specs.Sides.{canons_of_row, file_texts}
use Rattle.standard_files.proofs.KnownLemmas.{ids-kept}
use Rattle.standard_files.proofs.TakingLemmas.{before, kept, refused-append, refused-then, taken-then, is-err}
use Rattle.standard_files.proofs.canons.take_canons.Goals as goal

pub returns-in_err-a : goal.returns-in_err-a
returns-in_err-a c =
    let pool = c.args.pool.now in
    let texts = file_texts (canons_of_row c.args.kinds.now) in
    rw (is-err c.from_residual.result c.from_residual.ensures.1)
    (refused-append pool.limit pool.texts (texts c.args.a.now) (texts c.args.b.now) c.in_err-a.field-0.0 c.in_err-a.ensures)

pub returns-in_err-b : goal.returns-in_err-b
returns-in_err-b c =
    rw (is-err c.from_residual-in_err-b.result c.from_residual-in_err-b.ensures.1)
    (refused-then (file_texts (canons_of_row c.args.kinds.now) c.args.b.now) c.in_err-b.field-0.0 c.in_ok-a.ensures c.in_err-b.ensures)

pub returns : goal.returns
returns c =
    let a = c.in_ok-a.ensures in
    let b = c.in_ok-b.ensures in
    taken-then a b (record { fields = a.holds.0.fields; sides = λ final e. a.holds.0.sides final (before b final e) }, b.holds.0)

pub take_file-requires-2-clause-ids : goal.take_file-requires-2-clause-ids
take_file-requires-2-clause-ids c =
    let values = file_values c.args.b.now in
    subst (AreTextIds c.take_file.new.pool.texts values) (sym c.deref-2.ensures.value)
    (ids-kept c.args.pool.now.texts c.take_file.new.pool.texts (kept c.in_ok-a.ensures) values c.args.ids.now.b.items c.requires.ids_b)
