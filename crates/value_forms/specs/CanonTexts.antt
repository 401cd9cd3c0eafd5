-- The bytes of a canon, however they are kept: what `bytes_of` gives.
use Rattle.std.specs.Prelude.{ℕ, List}
use Rattle.value_forms.specs.declared.canons.CanonText.{CanonText}
use Rattle.value_forms.specs.declared.canons.CanonText.TheVariants.{Slice, Short, Date, Letters}

abbrev pub canon_bytes : CanonText → List ℕ
canon_bytes (Slice text) = text.now
canon_bytes (Short bytes) = bytes
canon_bytes (Date bytes) = bytes
canon_bytes (Letters key) = key
