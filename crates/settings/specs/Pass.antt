-- A pass's table, and its parts (`Passes`, by the clause of `Reader::read`; the parts, by the one clause of the function
-- of their name).
use Rattle.std.specs.Prelude.{List, ℕ, ◌+◌, [], ◌∷◌, codes, Option, Some, None, Result, Ok, if◌then◌else◌, bytes_eq}
use Rattle.toml.specs.Data.{Data, Members}
use Rattle.link_texts.specs.Texts.{stands_among}
use Rattle.settings_readers.specs.declared.fault.KeyFault.{KeyFault}
use Rattle.link_base.specs.declared.plan.FieldSort.{FieldSort}
use Rattle.value_forms.specs.declared.passes.Part.{Part}
use Rattle.link_plan.specs.Plan.{FieldKeys}
use Rattle.link_plan.specs.declared.limits.TheConstants.{MOST_PARTS, MOST_PASSES}
use Rattle.settings_readers.specs.Values.{◌>>=◌, needed, known, choice, array_of, on_table}
use Rattle.settings.specs.Words.{numbered, key_named}

-- the keys of a pass and of a part
abbrev pub pass_keys : List (List ℕ)
pass_keys = codes "parts" ∷ []

abbrev pub part_keys : List (List ℕ)
part_keys = codes "field" ∷ codes "key" ∷ codes "n" ∷ []

-- the field of a name, by its number from n, and its sort
abbrev pub field_named : List FieldKeys → ℕ → List ℕ → Option (ℕ × FieldSort)
field_named [] n name = None
field_named (f ∷ fs) n name = if bytes_eq name f.name then Some (n, f.sort) else field_named fs (n + 1) name

unfoldable pub part : List FieldKeys → Members → List ℕ → Result Part KeyFault
part fields t above = do
  listed ← known (stands_among part_keys) t above
  field ← needed (choice (field_named fields 0)) t above (codes "field")
  word ← needed (choice (key_named field.1)) t above (codes "key")
  key ← numbered word t above
  Ok (record { field = field.0; key = key })

-- an array of one to four parts
abbrev pub parts : List FieldKeys → List ℕ → Data → Result (List Part) KeyFault
parts fields at d = array_of 1 MOST_PARTS (λ before. on_table (part fields)) at d

unfoldable pub pass : List FieldKeys → Members → List ℕ → Result (List Part) KeyFault
pass fields t above = do
  listed ← known (stands_among pass_keys) t above
  needed (parts fields) t above (codes "parts")

-- an array of one to eight passes
abbrev pub passes : List FieldKeys → List ℕ → Data → Result (List (List Part)) KeyFault
passes fields at d = array_of 1 MOST_PASSES (λ before. on_table (pass fields)) at d
