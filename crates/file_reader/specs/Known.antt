-- The records that ids in a row of some file name, or the fault of the row (`known_record` and `known_pair`, clause `answer`).
use Rattle.std.specs.Prelude.{ℕ, List, Option, Some, None, Result, Ok, Err, codes}
use Rattle.link_base.specs.Words.{and_then, position_of_id, Record}
use Rattle.link_base.specs.declared.fault.Fault.{Fault}
use Rattle.link_base.specs.declared.fault.Fault.TheVariants as fault
use Rattle.link_base.specs.declared.fault.FileRole.{FileRole}
use Rattle.link_base.specs.declared.rule.PairAt.{PairAt}

-- what was found, or this fault
abbrev pub or_fault : {A : Type 0} → Fault → Option A → Result A Fault
or_fault f None = Err f
or_fault f (Some x) = Ok x

-- the position of the record that an id of this row names, in a column of the file
abbrev pub known_in : FileRole → ℕ → List ℕ → List ℕ → List Record → Result ℕ Fault
known_in role number column id records = or_fault (fault.UnknownId role number column) (position_of_id id records)

-- the positions of the pair that two ids of this row name, the one in A sought first
abbrev pub pair_in : FileRole → ℕ → List ℕ → List ℕ → List Record → List Record → Result PairAt Fault
pair_in role number id_a id_b a b =
    and_then (known_in role number (codes "id_a") id_a a) (λ at_a.
    and_then (known_in role number (codes "id_b") id_b b) (λ at_b.
    Ok (record { a = at_a; b = at_b })))
