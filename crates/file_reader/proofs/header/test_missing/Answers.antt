use Rattle.std.proofs.Common.{◌∙◌, ap, arith, sym, ◌==◌}
use Rattle.csv.specs.Records.{fields_of}
use Rattle.link_base.specs.declared.fault.Fault.TheVariants as fault
use Rattle.file_reader.specs.Words.{count_in}
use Rattle.file_reader.proofs.FindFacts.{fault_here, find_next, is_none, is_some}
use Rattle.file_reader.proofs.header.test_missing.Goals as goal

pub returns-then-count_of-eq0 : goal.returns-then-count_of-eq0
returns-then-count_of-eq0 c =
    let count = rw c.bytes.ensures at c.count_of.ensures in
    record { fault = rw c.in_ok-column.ensures (fault_here (fault.NoColumn c.args.role) (λ name. count_in (fields_of c.args.row.now) name == 0) c.args.names.now c.loop-name.name-index c.name-item.result (omega arith) c.name-item.is c.loop-name.invariant (ap (λ n. n == 0) (sym count) ∙ is_none c.count_of.result c.if-count_of-eq0.true)) }

pub loop-name-preserved : goal.loop-name-preserved
loop-name-preserved c =
    let count = rw c.bytes.ensures at c.count_of.ensures in
    find_next (λ name. count_in (fields_of c.args.row.now) name == 0) c.args.names.now c.loop-name.name-index c.name-item.result (omega arith) c.name-item.is c.loop-name.invariant (ap (λ n. n == 0) (sym count) ∙ is_some c.count_of.result c.if-count_of-eq0.false)
