-- Steps that may be refused, and answers that are as defined but for want of memory. The contracts of every crate
-- cite them: a call's clause `answer` says that its result is the one that is defined, or the free answer.
use Rattle.std.specs.Prelude.{◌≡◌, Bool, Result, Ok, Err, MatchBool, ⊤}

-- a step that goes on with what the step before gave, and ends at its fault
abbrev pub and_then : {A B E : Type 0} → Result A E → (A → Result B E) → Result B E
and_then (Ok x) next = next x
and_then (Err f) next = Err f

-- a refusal is the one that is defined, where it is not free
abbrev pub RefusesBut : {T E : Type 0} → (E → Bool) → Result T E → E → Type 0
RefusesBut is_free expected f = MatchBool (is_free f) ⊤ (expected ≡ Err f)

-- an answer, seen by `view`, is the one that is defined, or a free refusal
abbrev pub GivesBut : {X T E : Type 0} → (E → Bool) → (X → T) → Result T E → Result X E → Type 0
GivesBut is_free view expected (Ok x) = expected ≡ Ok (view x)
GivesBut is_free view expected (Err f) = RefusesBut is_free expected f
