use Rattle.std.proofs.Common.{sym, subst}
use Rattle.standard_files.specs.Taking.{IsKnownFile}
use Rattle.standard_files.specs.Sides.{file_texts, parts_of_row}
use Rattle.standard_files.proofs.KnownLemmas.{file-kept}
use Rattle.standard_files.proofs.TakingLemmas.{before, refused-append, refused-then, taken-then, is-err}
use Rattle.standard_files.proofs.keys.take_keys.Goals as goal

pub returns-in_err-ids_a : goal.returns-in_err-ids_a
returns-in_err-ids_a c =
    let pool = c.args.pool.now in
    let texts = file_texts (parts_of_row c.args.passes.now) in
    rw (is-err c.from_residual.result c.from_residual.ensures.1)
    (refused-append pool.limit pool.texts (texts c.args.a.now) (texts c.args.b.now) c.in_err-ids_a.field-0.0 c.in_err-ids_a.ensures)

pub returns-in_err-ids_b : goal.returns-in_err-ids_b
returns-in_err-ids_b c =
    rw (is-err c.from_residual-in_err-ids_b.result c.from_residual-in_err-ids_b.ensures.1)
    (refused-then (file_texts (parts_of_row c.args.passes.now) c.args.b.now) c.in_err-ids_b.field-0.0 c.in_ok-ids_a.ensures c.in_err-ids_b.ensures)

pub returns : goal.returns
returns c =
    let a = c.in_ok-ids_a.ensures in
    let b = c.in_ok-ids_b.ensures in
    taken-then a b (λ final e. a.holds final (before b final e), b.holds)

pub take_file-requires-clause-known : goal.take_file-requires-clause-known
take_file-requires-clause-known c =
    subst (λ ids. IsKnownFile c.args.pool.now.texts c.args.kinds.now c.args.a.now ids c.args.tables.now.0.rows) (sym c.deref.ensures.value) c.requires.known_a

pub take_file-requires-2-clause-known : goal.take_file-requires-2-clause-known
take_file-requires-2-clause-known c =
    let kinds = c.args.kinds.now in
    let rows = c.args.tables.now.1.rows in
    subst (λ ids. IsKnownFile c.take_file.new.pool.texts kinds c.args.b.now ids rows) (sym c.deref-2.ensures.value)
    (file-kept kinds c.in_ok-ids_a.ensures c.args.b.now c.args.texts.b.items rows c.requires.known_b)
