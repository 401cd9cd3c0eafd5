-- Whether a text stands among others, which `Pool::find` of value_pool carries by its clause `held` and `is_listed` of settings_readers
-- by its result. The rest is machinery of `Text::bytes`: where the bytes of a text stand.
use Rattle.std.specs.Prelude.{ℕ, List, Bool, bytes_eq}
use Rattle.std.specs.List.{list_any}
use Rattle.link_texts.specs.declared.text.Bytes.{Bytes}
use Rattle.link_texts.specs.declared.text.Bytes.TheVariants as stand

-- whether a text stands among others
abbrev pub stands_among : List (List ℕ) → List ℕ → Bool
stands_among texts text = list_any (λ held. bytes_eq held text) texts

-- the bytes of a text
abbrev pub bytes_in : Bytes → List ℕ
bytes_in (stand.Short bytes) = bytes
bytes_in (stand.Long bytes) = bytes.items
