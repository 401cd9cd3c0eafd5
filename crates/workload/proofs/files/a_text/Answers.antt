use Rattle.std.proofs.Common.{ap}
use Rattle.csv.specs.Writing.{default_writer, row_text}
use Rattle.workload.specs.Made.{file_header, id_a, person_row, row_a}
use Rattle.workload.proofs.Lemmas.{text_more}
use Rattle.workload.proofs.files.a_text.Goals as goal

pub loop-row-preserved : goal.loop-row-preserved
loop-row-preserved c =
    text_more row_a c.loop-row.row (person_row (id_a c.loop-row.row) c.person_of.result) (row_text default_writer file_header) c.loop-row.text.items c.push_person.new.text.items c.loop-row.invariant c.in_ok-push_person.ensures (ap (person_row (id_a c.loop-row.row)) c.person_of.ensures.person)
