use Rattle.std.proofs.Common.{◌∙◌, ap, arith, length, sym, not}
use Rattle.std.specs.Str.{is_utf8}
use Rattle.csv.specs.Records.{fields_of}
use Rattle.link_base.specs.declared.fault.Fault.TheVariants as fault
use Rattle.file_reader.specs.Words.{cell}
use Rattle.file_reader.specs.declared.layout.Column.{Column}
use Rattle.file_reader.proofs.FindFacts.{fault_here, find_next}
use Rattle.file_reader.proofs.rows.test_utf8.Goals as goal

pub returns-then-not-is_text : goal.returns-then-not-is_text
returns-then-not-is_text c =
    let fails = ap not (ap is_utf8 (sym c.field_of.ensures) ∙ sym c.is_text.ensures ∙ c.if-not-is_text.true) in
    let same = c.deref-needed-items.ensures.value in
    let told = rw same at c.needed-item.is in
    record { fault = rw c.in_ok-column.ensures (fault_here (λ (x : Column). fault.NotUtf8 c.args.head.now.role c.args.number x.name) (λ x. not (is_utf8 (cell (fields_of c.args.row.now) x))) c.args.head.now.columns.items c.loop-needed.needed-index c.needed-item.result (omega (arith, ap length same)) told c.loop-needed.invariant fails) }

pub loop-needed-preserved : goal.loop-needed-preserved
loop-needed-preserved c =
    let passes = ap not (ap is_utf8 (sym c.field_of.ensures) ∙ sym c.is_text.ensures ∙ c.if-not-is_text.false) in
    let same = c.deref-needed-items.ensures.value in
    let told = rw same at c.needed-item.is in
    find_next (λ (x : Column). not (is_utf8 (cell (fields_of c.args.row.now) x))) c.args.head.now.columns.items c.loop-needed.needed-index c.needed-item.result (omega (arith, ap length same)) told c.loop-needed.invariant passes
