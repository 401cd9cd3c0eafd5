use Rattle.std.proofs.Common.{◌∙◌, ap, arith, length, nat_lt, sym}
use Rattle.csv.specs.Records.{fields_of}
use Rattle.link_base.specs.declared.fault.Fault.TheVariants as fault
use Rattle.link_limits.specs.declared.TheConstants.{MOST_FIELD_BYTES}
use Rattle.file_reader.specs.Words.{cell}
use Rattle.file_reader.specs.declared.layout.Column.{Column}
use Rattle.file_reader.proofs.FindFacts.{fault_here, find_next, more_than, no_more}
use Rattle.file_reader.proofs.rows.test_lengths.Goals as goal

pub returns-then-field_of-gt-MOST_FIELD_BYTES : goal.returns-then-field_of-gt-MOST_FIELD_BYTES
returns-then-field_of-gt-MOST_FIELD_BYTES c =
    let fails = ap (λ text. nat_lt MOST_FIELD_BYTES (length text)) (sym c.field_of.ensures) ∙ more_than MOST_FIELD_BYTES _ c.if-field_of-gt-MOST_FIELD_BYTES.true in
    let same = c.deref-needed-items.ensures.value in
    let told = rw same at c.needed-item.is in
    record { fault = rw c.in_ok-column.ensures (fault_here (λ (x : Column). fault.FieldTooLong c.args.head.now.role c.args.number x.name) (λ x. nat_lt MOST_FIELD_BYTES (length (cell (fields_of c.args.row.now) x))) c.args.head.now.columns.items c.loop-needed.needed-index c.needed-item.result (omega (arith, ap length same)) told c.loop-needed.invariant fails) }

pub loop-needed-preserved : goal.loop-needed-preserved
loop-needed-preserved c =
    let passes = ap (λ text. nat_lt MOST_FIELD_BYTES (length text)) (sym c.field_of.ensures) ∙ no_more MOST_FIELD_BYTES _ c.if-field_of-gt-MOST_FIELD_BYTES.false in
    let same = c.deref-needed-items.ensures.value in
    let told = rw same at c.needed-item.is in
    find_next (λ (x : Column). nat_lt MOST_FIELD_BYTES (length (cell (fields_of c.args.row.now) x))) c.args.head.now.columns.items c.loop-needed.needed-index c.needed-item.result (omega (arith, ap length same)) told c.loop-needed.invariant passes
