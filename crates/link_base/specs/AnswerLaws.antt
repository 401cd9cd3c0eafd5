-- Laws of steps that may be refused: where the first is, all are, by the same fault. They are said over all results, which no clause of a
-- call can range over, so they stand beside the definitions, and the proofs of every crate cite them.
use Rattle.std.proofs.Common.{◌≡◌, Bool, true, false, Result, Err, ap}
use Rattle.std.specs.Prelude.{MatchBool, ⊤}
use Rattle.link_base.specs.Answers.{and_then, RefusesBut}
use Rattle.link_base.specs.Fault.{is_want, Refuses}
use Rattle.link_base.specs.declared.fault.Fault.{Fault}

-- where the first step is refused, all the steps are
pub refuses-then : {A B E : Type 0} (is_free : E → Bool) (x : Result A E) (next : A → Result B E) (f : E) → RefusesBut is_free x f → RefusesBut is_free (and_then x next) f
refuses-then {A = A} {B = B} {E = E} is_free x next f h = by_test (is_free f) h
  where
    by_test : (t : Bool) → MatchBool t ⊤ (x ≡ Err f) → MatchBool t ⊤ (and_then x next ≡ Err f)
    by_test true h = tt
    by_test false h = ap (λ (r : Result A E). and_then r next) h

-- the same of the faults of a run
pub refuses_then : {A B : Type 0} (x : Result A Fault) (next : A → Result B Fault) (f : Fault) → Refuses x f → Refuses (and_then x next) f
refuses_then x next f h = refuses-then is_want x next f h
