use Rattle.std.proofs.Common.{◌∙◌, Ok, ap, map, refl, sym}
use Rattle.file_reader.specs.Words.{wanted_of}
use Rattle.link_plan.specs.Plan.{FieldKeys}
use Rattle.standard_files.specs.Values.{sort_in}
use Rattle.standard_files.specs.declared.file_values.DatedFile.{DatedFile}
use Rattle.standard_files.proofs.FileSteps.{IsWholeFile, whole_read}
use Rattle.standard_files.proofs.SortFacts.{file_of_plan}
use Rattle.standard_files.proofs.sources.read_file.Goals.{After-drop-layout-in-Ok-2}
use Rattle.standard_files.proofs.sources.read_file.Goals as goal

pub read_rows-requires-clause-none : goal.read_rows-requires-clause-none
read_rows-requires-clause-none c = record { by_tables = refl; of_sorts = refl; values = c.in_ok-values.ensures.none c.args.tables.now }

pub finish-requires-clause-as_many : goal.finish-requires-clause-as_many
finish-requires-clause-as_many c =
    (whole_read c.args.role c.args.plan.now c.args.bytes.now c.args.tables.now c.in_ok-values.values.sorts.items (wanted_of c.in_ok-layout.layout) c.in_ok-layout.layout.delimiter c.read_rows.new.taker.tables.now c.read_rows.new.taker.values c.in-Ok.told.ids c.in-Ok.told.rows
    c.requires.tables (c.in_ok-values.ensures.sorts ∙ c.in_ok-columns.ensures.sorts ∙ ap (map (λ (f : FieldKeys). sort_in c.args.role f.sort)) c.fields.ensures.all) c.in_ok-layout.ensures.wanted c.in_ok-layout.ensures.delimiter c.in-Ok.ensures.answer).as_many

whole : (c : After-drop-layout-in-Ok-2) → IsWholeFile c.args.role c.args.plan.now c.args.bytes.now c.read_rows.new.taker.values c.in-Ok.told.ids
whole c =
    whole_read c.args.role c.args.plan.now c.args.bytes.now c.args.tables.now c.in_ok-values.values.sorts.items (wanted_of c.in_ok-layout.layout) c.in_ok-layout.layout.delimiter c.read_rows.new.taker.tables.now c.read_rows.new.taker.values c.in-Ok.told.ids c.in-Ok.told.rows
    c.requires.tables (c.in_ok-values.ensures.sorts ∙ c.in_ok-columns.ensures.sorts ∙ ap (map (λ (f : FieldKeys). sort_in c.args.role f.sort)) c.fields.ensures.all) c.in_ok-layout.ensures.wanted c.in_ok-layout.ensures.delimiter c.in-Ok.ensures.answer

pub returns-in-Ok-clause-answer : goal.returns-in-Ok-clause-answer
returns-in-Ok-clause-answer c = (whole c).answer ∙ ap Ok (sym c.finish.ensures.file)

pub returns-in-Ok-clause-of_plan : goal.returns-in-Ok-clause-of_plan
returns-in-Ok-clause-of_plan c =
    let w = whole c in
    let records = ap (λ (d : DatedFile). d.file.records) c.finish.ensures.file in
    file_of_plan c.args.role c.args.plan.now w.table c.finish.result.file.records w.sound (records ∙ w.records) (rw records w.valid) c.finish.ensures.distinct
