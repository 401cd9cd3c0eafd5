use Rattle.std.proofs.Common.{◌++◌}
use Rattle.standard_files.specs.Taking.{file_values}
use Rattle.standard_files.specs.Sides.{both_texts, canons_of_row, file_texts, parts_of_row, texts_of_row}
use Rattle.standard_files.proofs.TakingLemmas.{held-left, held-right, held-taken, before, kept, refused-append, refused-then, taken-then, is-err}
use Rattle.standard_files.proofs.KnownLemmas.{ids-kept}
use Rattle.standard_files.proofs.pooling.take_values.Goals as goal

pub returns-in_err-texts : goal.returns-in_err-texts
returns-in_err-texts c =
    let pool = c.args.pool.now in
    let a = c.args.a.now in
    let b = c.args.b.now in
    let first = both_texts texts_of_row a b in
    let second = both_texts (canons_of_row c.args.kinds.now) a b in
    let third = both_texts (parts_of_row c.args.passes.now) a b in
    rw (is-err c.from_residual.result c.from_residual.ensures.1)
    (refused-append pool.limit pool.texts (first ++ second) third c.in_err-texts.field-0.0 (refused-append pool.limit pool.texts first second c.in_err-texts.field-0.0 c.in_err-texts.ensures))

pub returns-in_err-tables : goal.returns-in_err-tables
returns-in_err-tables c =
    let pool = c.args.pool.now in
    let a = c.args.a.now in
    let b = c.args.b.now in
    let first = both_texts texts_of_row a b in
    let second = both_texts (canons_of_row c.args.kinds.now) a b in
    let third = both_texts (parts_of_row c.args.passes.now) a b in
    rw (is-err c.from_residual-in_err-tables.result c.from_residual-in_err-tables.ensures.1)
    (refused-append pool.limit pool.texts (first ++ second) third c.in_err-tables.field-0.0 (refused-then second c.in_err-tables.field-0.0 c.in_ok-texts.ensures c.in_err-tables.ensures))

pub returns-in_err-keys : goal.returns-in_err-keys
returns-in_err-keys c =
    let third = both_texts (parts_of_row c.args.passes.now) c.args.a.now c.args.b.now in
    let tables = c.in_ok-tables.ensures in
    rw (is-err c.from_residual-in_err-keys.result c.from_residual-in_err-keys.ensures.1)
    (refused-then third c.in_err-keys.field-0.0 (taken-then c.in_ok-texts.ensures tables tables.holds) c.in_err-keys.ensures)

pub returns : goal.returns
returns c =
    let tables = c.in_ok-tables.ensures in
    let keys = c.in_ok-keys.ensures in
    let a = tables.holds.0 in
    let b = tables.holds.1 in
    taken-then (taken-then c.in_ok-texts.ensures tables tables.holds) keys (
      record { compared = record { fields = a.fields; sides = λ final e. a.sides final (before keys final e) }; keys = keys.holds.0 },
      record { compared = record { fields = b.fields; sides = λ final e. b.sides final (before keys final e) }; keys = keys.holds.1 },
    )

-- what is known of the rows when the parts of their keys are taken
pub take_keys-requires-clause-known_a : goal.take_keys-requires-clause-known_a
take_keys-requires-clause-known_a c =
    let texts = c.in_ok-texts.ensures in
    let tables = c.in_ok-tables.ensures in
    let new = c.take_canons.new.pool.texts in
    let a = c.args.a.now in
    let canons = file_texts (canons_of_row c.args.kinds.now) in
    record {
      texts = ids-kept c.take_texts.new.pool.texts new (kept tables) (file_values a) c.in_ok-texts.texts.a.items texts.holds.0;
      canons = held-left (canons a) (canons c.args.b.now) new (held-taken tables);
      sides = tables.holds.0.sides;
    }

pub take_keys-requires-clause-known_b : goal.take_keys-requires-clause-known_b
take_keys-requires-clause-known_b c =
    let texts = c.in_ok-texts.ensures in
    let tables = c.in_ok-tables.ensures in
    let new = c.take_canons.new.pool.texts in
    let b = c.args.b.now in
    let canons = file_texts (canons_of_row c.args.kinds.now) in
    record {
      texts = ids-kept c.take_texts.new.pool.texts new (kept tables) (file_values b) c.in_ok-texts.texts.b.items texts.holds.1;
      canons = held-right (canons c.args.a.now) (canons b) new (held-taken tables);
      sides = tables.holds.1.sides;
    }
