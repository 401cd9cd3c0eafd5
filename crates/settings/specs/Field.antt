-- A field's table: its keys in order, with what each gives (`Fields`, by the clause of `Reader::read`; the parts, by the
-- one clause of the function of their name).
use Rattle.std.specs.Prelude.{List, ℕ, ℤ, Bool, not, ◌++◌, [], ◌∷◌, codes, length, map, sum, Option, Some, None, is_some, option_map, Result, Ok, ◌&&◌, nat_le, ◌==◌, if◌then◌else◌, option_and_then, bytes_eq}
use Rattle.std.specs.List.{list_any, list_all}
use Rattle.std.specs.Option.{option_map_or}
use Rattle.toml.specs.Data.{Data, Items, no_items, item, Members, as_array, as_integer}
use Rattle.link_limits.specs.declared.TheConstants.{MOST_FIELDS, WHOLE_FIELD}
use Rattle.link_texts.specs.Texts.{stands_among}
use Rattle.settings_readers.specs.declared.fault.KeyFault.{KeyFault}
use Rattle.link_base.specs.declared.plan.FieldSort.{FieldSort}
use Rattle.link_base.specs.declared.plan.FieldSort.TheVariants as sort
use Rattle.value_forms.specs.declared.canons.CompareKind.{CompareKind}
use Rattle.value_forms.specs.declared.canons.CompareKind.TheVariants as by
use Rattle.link_base.specs.Words.{outcomes_of}
use Rattle.settings_readers.specs.Values.{◌>>=◌, typed, ranged, in_range, needed, optional, defaulted, without, without_both, known, choice, whole, magnitude, array_of, on_table}
use Rattle.link_plan.specs.Plan.{FieldKeys, PlainShares}
use Rattle.link_plan.specs.Ranges.{may_be_rare}
use Rattle.settings.specs.Words.{text, numbered, kind_named, form_named, compare_named}
use Rattle.settings.specs.declared.fields.CompareKeys.{CompareKeys}
use Rattle.settings.specs.declared.fields.NameKeys.{NameKeys}
use Rattle.link_plan.specs.declared.limits.TheConstants.{LEAST_RARE, MOST_DAYS, MOST_RARE, MOST_YEARS}
use Rattle.settings.specs.declared.texts.TextRule.TheVariants as rule
use Rattle.settings.specs.declared.words.Kind.{Kind}
use Rattle.settings.specs.declared.words.Kind.TheVariants as kind

-- the keys of a field
abbrev pub field_keys : List (List ℕ)
field_keys = codes "name" ∷ codes "column_a" ∷ codes "column_b" ∷ codes "kind" ∷ codes "form_a" ∷ codes "form_b" ∷ codes "compare" ∷ codes "n" ∷ codes "t" ∷ codes "rare" ∷ codes "m" ∷ codes "u" ∷ []

-- both forms of a date; no forms for another kind
abbrev pub sort_of : Kind → Members → List ℕ → Result FieldSort KeyFault
sort_of kind.Name t above = without_both sort.Name t above (codes "form_a") (codes "form_b")
sort_of kind.Place t above = without_both sort.Place t above (codes "form_a") (codes "form_b")
sort_of kind.Date t above = needed (choice form_named) t above (codes "form_a") >>= λ a. needed (choice form_named) t above (codes "form_b") >>= λ b. Ok (sort.Date a b)

-- how far apart two values that agree may be; letters are not counted beside it
abbrev pub span : ℕ → Members → List ℕ → Result ℕ KeyFault
span most t above = without {A = Unit {0}} tt t above (codes "n") >>= λ no_n. needed (whole 0 most) t above (codes "t")

-- n for a canon of a number of letters alone, and t for `days` and `years` alone
abbrev pub compare_by : CompareKind → Members → List ℕ → Result CompareKind KeyFault
compare_by (by.Same c) t above = numbered c t above >>= λ canon. without (by.Same canon) t above (codes "t")
compare_by by.Initials t above = without_both by.Initials t above (codes "n") (codes "t")
compare_by (by.DaysWithin least) t above = span MOST_DAYS t above >>= λ days. Ok (by.DaysWithin days)
compare_by (by.YearsWithin least) t above = span MOST_YEARS t above >>= λ years. Ok (by.YearsWithin years)

-- a rare number, where values are compared by a canon
abbrev pub rare_number : CompareKind → Members → List ℕ → Result (Option ℕ) KeyFault
rare_number c t above = if may_be_rare c then optional (whole LEAST_RARE MOST_RARE) t above (codes "rare") else without None t above (codes "rare")

-- the whole numbers of an array of nothing else
abbrev pub wholes : Items → Option (List ℤ)
wholes no_items = Some []
wholes (item d ds) = option_and_then (λ z. option_map (λ zs. z ∷ zs) (wholes ds)) (as_integer d)

-- as many shares as there are outcomes, each at least 1, that add up to the whole
abbrev pub are_shares : Bool → List ℕ → Bool
are_shares rare xs = length xs == outcomes_of rare && list_all (nat_le 1) xs && sum xs == WHOLE_FIELD

-- the shares of four outcomes, of which the last has none where it is no outcome of its own
abbrev pub four : Bool → List ℕ → List ℕ
four rare xs = if rare then xs else xs ++ 0 ∷ []

abbrev pub shares_or_none : Bool → List ℕ → Option (List ℕ)
shares_or_none rare xs = if are_shares rare xs then Some (four rare xs) else None

abbrev pub shares : Bool → List ℕ → Data → Result (List ℕ) KeyFault
shares rare at d = typed at (as_array d) >>= λ ds. typed at (wholes ds) >>= λ zs. ranged at (shares_or_none rare (map magnitude zs))

-- a whole number, or 0 where there is none or it is negative
abbrev pub share_at : Data → ℕ
share_at d = option_map_or magnitude (as_integer d) 0

unfoldable pub given_shares : Bool → Members → List ℕ → Result (Option PlainShares) KeyFault
given_shares rare t above = do
  m ← needed (shares rare) t above (codes "m")
  u ← needed (shares rare) t above (codes "u")
  Ok (Some (record { rare = rare; m = m; u = u }))

abbrev pub field_shares : Bool → Bool → Members → List ℕ → Result (Option PlainShares) KeyFault
field_shares sampled rare t above = if sampled then (without_both {A = Unit {0}} tt t above (codes "m") (codes "u") >>= λ neither. Ok None) else given_shares rare t above

-- the name of a field, which no field before it has, and its columns, which have that name where their keys are not there
unfoldable pub name_keys : List FieldKeys → Members → List ℕ → Result NameKeys KeyFault
name_keys before t above = do
  name ← needed (text rule.FieldName) t above (codes "name")
  fresh ← in_range (above ++ codes "name") (not (list_any (λ f. bytes_eq name f.name) before)) name
  column_a ← defaulted (text rule.Label) fresh t above (codes "column_a")
  column_b ← defaulted (text rule.Label) fresh t above (codes "column_b")
  Ok (record { name = fresh; column_a = column_a; column_b = column_b })

-- what a field holds, how it is compared, and its rare number
unfoldable pub compare_keys : Members → List ℕ → Result CompareKeys KeyFault
compare_keys t above = do
  kind ← needed (choice kind_named) t above (codes "kind")
  sort ← sort_of kind t above
  word ← needed (choice (compare_named sort)) t above (codes "compare")
  compare ← compare_by word t above
  rare ← rare_number compare t above
  Ok (record { sort = sort; compare = compare; rare = rare })

-- a field, after those before it; sampled says that the settings name a sample
unfoldable pub field : Bool → List FieldKeys → Members → List ℕ → Result FieldKeys KeyFault
field sampled before t above = do
  listed ← known (stands_among field_keys) t above
  named ← name_keys before t above
  compared ← compare_keys t above
  shares ← field_shares sampled (is_some compared.rare) t above
  Ok (record { name = named.name; column_a = named.column_a; column_b = named.column_b; sort = compared.sort; compare = compared.compare; rare = compared.rare; shares = shares })

-- an array of fields
abbrev pub fields : Bool → List ℕ → Data → Result (List FieldKeys) KeyFault
fields sampled at d = array_of 1 MOST_FIELDS (λ before. on_table (field sampled before)) at d
