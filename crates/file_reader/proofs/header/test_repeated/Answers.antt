use Rattle.std.proofs.Common.{◌∙◌, ap, arith, nat_lt, sym}
use Rattle.csv.specs.Records.{fields_of}
use Rattle.link_base.specs.declared.fault.Fault.TheVariants as fault
use Rattle.file_reader.specs.Words.{count_in}
use Rattle.file_reader.proofs.FindFacts.{fault_here, find_next, more_than, no_more}
use Rattle.file_reader.proofs.header.test_repeated.Goals as goal

pub returns-then-count_of-gt1 : goal.returns-then-count_of-gt1
returns-then-count_of-gt1 c =
    let count = rw c.bytes.ensures at c.count_of.ensures in
    record { fault = rw c.in_ok-column.ensures (fault_here (fault.RepeatedColumn c.args.role) (λ name. nat_lt 1 (count_in (fields_of c.args.row.now) name)) c.args.names.now c.loop-name.name-index c.name-item.result (omega arith) c.name-item.is c.loop-name.invariant (ap (nat_lt 1) (sym count) ∙ more_than 1 c.count_of.result c.if-count_of-gt1.true)) }

pub loop-name-preserved : goal.loop-name-preserved
loop-name-preserved c =
    let count = rw c.bytes.ensures at c.count_of.ensures in
    find_next (λ name. nat_lt 1 (count_in (fields_of c.args.row.now) name)) c.args.names.now c.loop-name.name-index c.name-item.result (omega arith) c.name-item.is c.loop-name.invariant (ap (nat_lt 1) (sym count) ∙ no_more 1 c.count_of.result c.if-count_of-gt1.false)
