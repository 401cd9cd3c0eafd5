use Rattle.std.proofs.Common.{ap}
use Rattle.csv.specs.Writing.{default_writer, row_text}
use Rattle.workload.specs.Made.{file_header, id_b, person_row, row_b}
use Rattle.workload.proofs.Lemmas.{text_more}
use Rattle.workload.proofs.files.b_text.Goals as goal

pub loop-row-preserved : goal.loop-row-preserved
loop-row-preserved c =
    text_more row_b c.loop-row.row (person_row (id_b c.loop-row.row) c.changed_of.result) (row_text default_writer file_header) c.loop-row.text.items c.push_person.new.text.items c.loop-row.invariant c.in_ok-push_person.ensures (ap (person_row (id_b c.loop-row.row)) c.changed_of.ensures.person)
