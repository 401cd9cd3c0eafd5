use Rattle.std.proofs.Common.{◌≡◌, map, take}
use Rattle.link_plan.specs.Plan.{FieldKeys}
use Rattle.standard_files.specs.Files.{field_column}
use Rattle.standard_files.specs.Values.{sort_in}
use Rattle.standard_files.proofs.sources.columns_of.Given as goal

abbrev pub invariant-loop-field : goal.invariant-loop-field
invariant-loop-field l = record {
  names : l.columns.names.items ≡ map (field_column l.role) (take l.field-index l.fields);
  sorts : l.columns.sorts.items ≡ map (λ (f : FieldKeys). sort_in l.role f.sort) (take l.field-index l.fields);
}
