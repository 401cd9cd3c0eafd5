use Rattle.std.proofs.Common.{◌∙◌, Bool, None, Some, ap, get_or, if◌then◌else◌, sym}
use Rattle.csv.specs.Records.{fields_of}
use Rattle.price_check.specs.Assignment.{no_candidate}
use Rattle.written_check.specs.LinkRows.{after_all}
use Rattle.written_check.proofs.LinkLemmas.{another_row, candidate_there, no_candidate_in}
use Rattle.written_check.proofs.links.next_link.Goals as goal

pub returns-in_default-clause-candidate : goal.returns-in_default-clause-candidate
returns-in_default-clause-candidate c = ap (after_all c.args.taken.now) (sym (no_candidate_in c.args.candidates.now c.args.a.now c.args.b.now (fields_of c.args.row.now) c.in_default.ensures))

pub returns-then-not-is_row_of-clause-candidate : goal.returns-then-not-is_row_of-clause-candidate
returns-then-not-is_row_of-clause-candidate c =
    ap (after_all c.args.taken.now) (sym (another_row c.args.candidates.now c.args.a.now c.args.b.now (fields_of c.args.row.now) c.in-Some.place c.in-Some.ensures.0 c.in-Some.ensures.1
    (sym c.is_row_of.ensures ∙ c.if-not-is_row_of.true)))

pub returns-then-not-stands_after-clause-candidate : goal.returns-then-not-stands_after-clause-candidate
returns-then-not-stands_after-clause-candidate c =
    let is = candidate_there c.args.candidates.now c.args.a.now c.args.b.now (fields_of c.args.row.now) c.in-Some.place c.in-Some.ensures.0 c.in-Some.ensures.1 (sym c.is_row_of.ensures ∙ c.if-not-is_row_of.false) in
    ap (λ (t : Bool). if t then Some (get_or c.args.candidates.now c.in-Some.place no_candidate) else None) (sym c.if-not-stands_after.true ∙ c.stands_after.ensures) ∙ ap (after_all c.args.taken.now) (sym is)

pub returns-clause-candidate : goal.returns-clause-candidate
returns-clause-candidate c =
    let is = candidate_there c.args.candidates.now c.args.a.now c.args.b.now (fields_of c.args.row.now) c.in-Some.place c.in-Some.ensures.0 c.in-Some.ensures.1 (sym c.is_row_of.ensures ∙ c.if-not-is_row_of.false) in
    ap (λ (t : Bool). if t then Some (get_or c.args.candidates.now c.in-Some.place no_candidate) else None) (sym c.if-not-stands_after.false ∙ c.stands_after.ensures) ∙ ap (after_all c.args.taken.now) (sym is)
