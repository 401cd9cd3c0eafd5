use Rattle.std.proofs.Common.{◌≡◌, ◌+◌, ◌*◌, ◌++◌, ◌∙◌, [], append-nil, ap, drop, get_or, length, refl, sym, subst, arith, rules}
use Rattle.std.proofs.lemmas.List.{drop_all}
use Rattle.link_base.specs.Words.{no_record}
use Rattle.standard_files.specs.Taking.{AreTextIds, flat_sides}
use Rattle.standard_files.specs.Sides.{sides_of_row, canons_of_row, file_texts}
use Rattle.standard_files.proofs.TakingLemmas.{file-row, flat-sides-at, push-ids, before, kept, goes-end, goes-on, goes-refused, is-err}
use Rattle.standard_files.proofs.KnownLemmas.{ids-later, ids-next, ids-room}
use Rattle.standard_files.proofs.SideLemmas.{rows-cut-as}
use Rattle.standard_files.proofs.canons.take_file.Goals as goal

pub returns-in_err-take_row : goal.returns-in_err-take_row
returns-in_err-take_row c =
    let texts = canons_of_row c.args.kinds.now in
    rw (is-err c.from_residual.result c.from_residual.ensures.1)
    (goes-refused (texts c.row.result) (file_texts texts (drop (c.loop-at.at + 1) c.args.file.now)) c.in_err-take_row.field-0.0 c.loop-at.invariant.goes
    (file-row texts c.args.file.now c.loop-at.at c.row.result (omega arith) c.row.ensures) c.in_err-take_row.ensures)

pub loop-at-preserved : goal.loop-at-preserved
loop-at-preserved c =
    let kinds = c.args.kinds.now in
    let texts = canons_of_row kinds in
    let file = c.args.file.now in
    let row = c.row.result in
    let at = c.loop-at.at in
    let taken = c.in_ok-take_row.ensures in
    let more = taken.holds.0 in
    record {
      goes = goes-on (file_texts texts (drop (at + 1) file)) c.loop-at.invariant.goes taken (file-row texts file at row (omega arith) c.row.ensures);
      left = ids-later c.loop-at.pool.texts kinds file at row c.loop-at.left.now (omega arith) c.row.ensures c.requires.rows c.loop-at.invariant.left c.take_row.new.pool.texts _ (kept taken) c.split_at.ensures.back;
      known = taken.holds.1;
      width = omega (arith, more.many, c.loop-at.invariant.width);
      sides = λ final e.
          push-ids c.loop-at.sides.items (flat_sides final kinds (drop (at + 1) file)) (c.in-Ok.sides.items ++ flat_sides final kinds file) (flat_sides final kinds (drop at file))
          (sides_of_row final kinds row) c.take_row.new.sides.items (c.loop-at.invariant.sides final (before taken final e))
          (flat-sides-at final kinds file at row (omega arith) c.row.ensures) (more.later final e);
    }

pub split_at-requires : goal.split_at-requires
split_at-requires c =
    let row = (get_or c.args.file.now c.loop-at.at no_record).row in
    ids-room c.loop-at.pool.texts c.args.kinds.now c.args.file.now c.loop-at.at row c.loop-at.left.now (omega arith) refl c.requires.rows c.loop-at.invariant.left

pub take_row-requires-clause-ids : goal.take_row-requires-clause-ids
take_row-requires-clause-ids c =
    subst (AreTextIds c.loop-at.pool.texts c.row.result) (sym c.split_at.ensures.front)
    (ids-next c.loop-at.pool.texts c.args.kinds.now c.args.file.now c.loop-at.at c.row.result c.loop-at.left.now (omega arith) c.row.ensures c.requires.rows c.loop-at.invariant.left).0

pub of-requires : goal.of-requires
of-requires c =
    let kinds = c.args.kinds.now in
    let file = c.args.file.now in
    let empty : c.in-Ok.sides.items ≡ [] = search rules in
    let all : c.loop-at.at ≡ length file = omega (arith, c.loop-at.auto.at-end, c.rows-at-end.ensures) in
    let many : length c.loop-at.sides.items ≡ length file * length kinds = omega (arith, c.loop-at.invariant.width, ap (λ n. n * length kinds) all, ap length empty) in
    search rules

pub returns : goal.returns
returns c =
    let kinds = c.args.kinds.now in
    let file = c.args.file.now in
    let sides = c.loop-at.sides.items in
    let empty : c.in-Ok.sides.items ≡ [] = search rules in
    let done : drop c.loop-at.at file ≡ [] = drop_all c.loop-at.at file (omega (arith, c.rows-at-end.ensures)) in
    let fields : c.of.result.fields ≡ length kinds = search rules in
    goes-end c.loop-at.invariant.goes (ap (file_texts (canons_of_row kinds)) done) (
      record {
        fields = fields;
        sides = λ final e.
            let flat : flat_sides final kinds file ≡ sides =
            sym (ap (λ l. l ++ flat_sides final kinds file) empty) ∙ sym (c.loop-at.invariant.sides final e) ∙ ap (λ rs. sides ++ flat_sides final kinds rs) done ∙ append-nil sides in
            rows-cut-as final kinds file sides c.of.result.fields (length file) c.of.result.rows c.requires.rows flat fields refl (search rules);
      },
      c.loop-at.invariant.known,
    )
