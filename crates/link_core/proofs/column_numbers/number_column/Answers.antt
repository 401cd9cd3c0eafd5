use Rattle.std.proofs.Common.{◌≡◌, ◌≤◌, ap, arith, is_some}
use Rattle.file_reader.specs.Words.{records_in, table_of, wanted_of, Wanted}
use Rattle.link_limits.specs.declared.TheConstants.{MOST_ROWS}
use Rattle.link_core.specs.Pairs.{wanted_column}
use Rattle.link_core.proofs.ResultLemmas.{column_taken}
use Rattle.link_core.proofs.column_numbers.number_column.Goals as goal

pub returns-in-Ok : goal.returns-in-Ok
returns-in-Ok c =
    let layout = c.in_ok-layout.layout in
    let told = c.in-Ok.field-0 in
    let bytes = c.args.bytes.now in
    let few : layout.most_rows ≤ MOST_ROWS = omega (arith, ap (λ (w : Wanted). w.most) c.in_ok-layout.ensures.wanted) in
    let is : table_of c.args.role (wanted_of layout) (records_in layout.delimiter bytes) ≡ table_of c.args.role (wanted_column c.args.column.now) (records_in 44 bytes) =
    λ i. table_of c.args.role (c.in_ok-layout.ensures.wanted i) (records_in (c.in_ok-layout.ensures.comma i) bytes) in
    record {
      answer = column_taken (is_some layout.id) layout.most_rows c.args.pool c.read_rows.new.taker.pool c.read_rows.new.taker.numbers.items _ _ told.ids told.rows is few c.in-Ok.ensures.answer;
    }
