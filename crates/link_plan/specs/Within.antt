-- The plan of a file with itself: the file of A on both sides (`Plan::within`, clause `gives`).
use Rattle.std.specs.Prelude.{map}
use Rattle.link_base.specs.declared.plan.FieldSort.{FieldSort}
use Rattle.link_base.specs.declared.plan.FieldSort.TheVariants as sort
use Rattle.link_plan.specs.Plan.{FieldKeys}
use Rattle.link_plan.specs.declared.plan.Plan.{Plan}

-- dates have the form of A on both sides
abbrev pub sort_within : FieldSort → FieldSort
sort_within (sort.Date form_a form_b) = sort.Date form_a form_a
sort_within s = s

-- a field has the column and the form of A on both sides
abbrev pub field_within : FieldKeys → FieldKeys
field_within f = record f { column_b = f.column_a; sort = sort_within f.sort }

-- the file, its ids, its delimiter and its fields are those of A on both sides, and all else is the same
abbrev pub plan_within : Plan → Plan
plan_within plan = record plan {
  file_b = plan.file_a;
  id_b = plan.id_a;
  delimiter_b = plan.delimiter_a;
  fields = map field_within plan.fields;
}
