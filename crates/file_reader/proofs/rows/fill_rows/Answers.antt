use Rattle.std.proofs.Common.{◌≡◌, ◌+◌, ◌∷◌, ◌∙◌, arith, rules, subst, sym, List, [], ℕ, All}
use Rattle.csv.specs.Records.{fields_of}
use Rattle.file_reader.specs.Words.{cells_of, field_columns, heading_of, with_ids, IsFieldText, length_with}
use Rattle.file_reader.proofs.ReadFacts.{one_too_many, refuses}
use Rattle.file_reader.proofs.RowFacts.{all_taken, fields_texts, underway_more}
use Rattle.file_reader.proofs.rows.fill_rows.Goals as goal

pub returns-then-rows-head : goal.returns-then-rows-head
returns-then-rows-head g c =
    let took : c.rows.left ≡ fields_of c.next.new.row ∷ c.next.new.self = search rules in
    let u = c.rows.invariant.underway in
    record { answer = rw c.from.ensures (one_too_many (heading_of c.args.head.now) (with_ids u.rows c.rows.ids) c.rows.left c.next.new.self c.args.left.now (fields_of c.next.new.row) u.told took (omega (arith, length_with u.rows c.rows.ids, u.as_many))) }

pub take-requires-clause-texts : goal.take-requires-clause-texts
take-requires-clause-texts g c =
    let texts = fields_texts (heading_of c.args.head.now) (c.rows.rows + 1) c.rows.ids (fields_of c.next.new.row) c.in-Ok.ensures.fault.0 in
    let fields : c.of.result ≡ cells_of (field_columns (heading_of c.args.head.now)) (fields_of c.next.new.row) = rw c.columns_after_id-columns.ensures at c.of.ensures in
    subst (λ (texts : List (List ℕ)). All IsFieldText texts) (sym fields) texts

pub rows-preserved : goal.rows-preserved
rows-preserved g c =
    let took : c.rows.left ≡ fields_of c.next.new.row ∷ c.next.new.self = search rules in
    let fields : c.of.result ≡ cells_of (field_columns (heading_of c.args.head.now)) (fields_of c.next.new.row) = rw c.columns_after_id-columns.ensures at c.of.ensures in
    record {
      width = c.take.ensures.same_width ∙ c.rows.invariant.width;
      most = omega (arith, c.take.ensures.same_most, c.rows.invariant.most);
      underway = underway_more c.in-Ok.field-0 (λ rows. g.T.RowTaker.took c.args.taker.now rows c.rows.taker) (λ rows. g.T.RowTaker.took c.args.taker.now rows c.take.new.self) (heading_of c.args.head.now) c.rows.rows c.rows.ids c.take_row.new.ids c.args.left.now c.rows.left c.next.new.self (fields_of c.next.new.row) c.of.result
          c.rows.invariant.underway took (omega (arith, c.if-rows-head.false)) fields c.in-Ok.ensures.fault (c.in_ok-take-in-Ok.ensures.one_more c.args.taker.now);
    }

pub returns-in-Err : goal.returns-in-Err
returns-in-Err g c =
    let took : c.rows.left ≡ fields_of c.next.new.row ∷ c.next.new.self = search rules in
    let u = c.rows.invariant.underway in
    record { answer = refuses (heading_of c.args.head.now) (with_ids u.rows c.rows.ids) c.rows.left c.next.new.self c.args.left.now (fields_of c.next.new.row) (c.rows.rows + 1) c.rows.ids c.take_row.new.ids c.in-Err.fault u.told took (omega (arith, length_with u.rows c.rows.ids, u.as_many)) u.known c.in-Err.ensures.fault }

pub returns : goal.returns
returns g c =
    let none : c.rows.left ≡ [] = search rules in
    record { answer = all_taken (λ rows. g.T.RowTaker.took c.args.taker.now rows c.rows.taker) (heading_of c.args.head.now) c.rows.rows c.rows.ids c.args.left.now c.rows.left c.rows.invariant.underway none }
