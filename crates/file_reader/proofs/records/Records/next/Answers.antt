use Rattle.std.proofs.Common.{refl, ◌∙◌, sym, inr}
use Rattle.file_reader.proofs.RowFacts.{going, goes_on, ends, of_memory}
use Rattle.file_reader.proofs.records.Records.next.Goals as goal

pub invariant_of-self : goal.invariant_of-self
invariant_of-self c =
    let g = going c.self.inside c.if-self.false c.self.invariant in
    let e = rw c.in-Ok-true.field-0-test at (c.in-Ok-true.ensures.reads g.plain g.ready) in
    inr (goes_on c.self.inside c.read_byte_record.new.self _ c.if-self.false g e (c.in-Ok-true.ensures.ready g.plain) c.in-Ok-true.ensures.flexible).1

pub returns-in-Ok-true : goal.returns-in-Ok-true
returns-in-Ok-true c =
    let g = going c.self.inside c.if-self.false c.self.invariant in
    let e = rw c.in-Ok-true.field-0-test at (c.in-Ok-true.ensures.reads g.plain g.ready) in
    sym c.self.view_is ∙ (goes_on c.self.inside c.read_byte_record.new.self _ c.if-self.false g e (c.in-Ok-true.ensures.ready g.plain) c.in-Ok-true.ensures.flexible).0

pub returns-in-Ok-false : goal.returns-in-Ok-false
returns-in-Ok-false c =
    let g = going c.self.inside c.if-self.false c.self.invariant in
    let e = rw c.in-Ok-false.field-0-test at (c.in-Ok-false.ensures.reads g.plain g.ready) in
    (sym c.self.view_is ∙ ends c.self.inside c.read_byte_record.new.self _ c.if-self.false g e, refl)

pub cause_of-requires : goal.cause_of-requires
cause_of-requires c =
    let g = going c.self.inside c.if-self.false c.self.invariant in
    of_memory c.self.inside c.read_byte_record.new.self _ g (c.in-Err.ensures.why g.ready)
