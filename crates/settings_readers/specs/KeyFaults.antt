-- The faults of keys as faults of a run (`KeyFault::into_fault`), and answers that may be refused by one (the clause of every reader).
use Rattle.link_base.specs.Words.{GivesBut, RefusesBut}
use Rattle.link_base.specs.declared.fault.Fault.{Fault}
use Rattle.settings_readers.specs.declared.fault.KeyFault.{KeyFault}
use Rattle.std.proofs.Common.{◌≡◌, ◌⊎◌, ℕ, List, Ordering, Less, Equal, Greater, nat_cmp, refl, inl, inr, ◌&&◌, Bool, true, false, Result, is_lt}
use Rattle.std.proofs.lemmas.Bool.{and_parts, false≢true}
use Rattle.std.proofs.lemmas.Cmp.{nat_list_cmp_total}
use Rattle.std.specs.Cmp.Lexicographic.{slice_cmp}
use Rattle.toml.specs.Data.{Members, no_members, member, is_before}
use Rattle.link_base.specs.declared.fault.Fault.TheVariants as fault
use Rattle.settings_readers.specs.declared.fault.KeyFault.TheVariants as key_fault

-- the fault of a run that a fault of a key is
abbrev pub fault_of : KeyFault → Fault
fault_of (key_fault.UnknownKey key) = fault.UnknownKey key
fault_of (key_fault.MissingKey key) = fault.MissingKey key
fault_of (key_fault.WrongType key) = fault.WrongType key
fault_of (key_fault.OutOfRange key) = fault.OutOfRange key
fault_of key_fault.NoMemory = fault.NoMemory

-- want of memory is the one free answer: no clause ties it to a cause
abbrev pub is_want : KeyFault → Bool
is_want key_fault.NoMemory = true
is_want f = false

-- a refusal is the one that is defined, but for want of memory
abbrev pub Refuses : {T : Type 0} → Result T KeyFault → KeyFault → Type 0
Refuses expected f = RefusesBut is_want expected f

-- an answer, seen by `view`, is the one that is defined, but for want of memory
abbrev pub Gives : {X T : Type 0} → (X → T) → Result T KeyFault → Result X KeyFault → Type 0
Gives view expected result = GivesBut is_want view expected result

-- an answer is the one that is defined, but for want of memory
abbrev pub IsAnswer : {T : Type 0} → Result T KeyFault → Result T KeyFault → Type 0
IsAnswer expected result = Gives (λ x. x) expected result

-- Which unknown key a fault names: the least (`least_unknown_key`, over tables that `keys_ascend` speaks of).

abbrev pub IsKeyOf : Members → List ℕ → Type 0
IsKeyOf no_members q = ⊥
IsKeyOf (member k d ms) q = (q ≡ k) ⊎ IsKeyOf ms q

-- the keys stand in the order of their bytes
abbrev pub keys_ascend : Members → Bool
keys_ascend no_members = true
keys_ascend (member k d ms) = is_before k ms && keys_ascend ms

less_from : (o : Ordering) → is_lt o ≡ true → o ≡ Less
less_from Less h = refl
less_from Equal h = absurd (false≢true h)
less_from Greater h = absurd (false≢true h)

-- law: a key before the others is below each of them
pub above : (k : List ℕ) (ms : Members) → is_before k ms ≡ true → keys_ascend ms ≡ true → (q : List ℕ) → IsKeyOf ms q → slice_cmp nat_cmp k q ≡ Less
above k no_members front sorted q here = absurd here
above k (member l d ms) front sorted q (inl same) = rw same (less_from _ front)
above k (member l d ms) front sorted q (inr later) =
    let (next, more) = and_parts (is_before l ms) (keys_ascend ms) sorted in
    nat_list_cmp_total.trans k l q (less_from _ front) (above l ms next more q later)

-- the least of the keys that are not known
pub record IsLeastUnknown (is_known : List ℕ → Bool) (t : Members) (key : List ℕ) : Type 0 where
  pub there : IsKeyOf t key
  pub unknown : is_known key ≡ false
  pub least : (q : List ℕ) → IsKeyOf t q → is_known q ≡ false → (q ≡ key) ⊎ (slice_cmp nat_cmp key q ≡ Less)
