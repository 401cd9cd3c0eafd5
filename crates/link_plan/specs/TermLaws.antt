-- Law of terms: they keep their ranges where each number that is read is in its own. It is said over all that may give them, which no
-- clause of a call can range over, so it stands here; that the plan of a settings file keeps its ranges follows by it.
use Rattle.std.proofs.Common.{ℕ, List, Bool, Option, Result, arith, IfOk, IfSome}
use Rattle.link_plan.specs.Terms.{IsIn, KeepsTerms, terms_by}

-- each number that is given is in its range
abbrev pub AreIn : {E : Type 0} → (List ℕ → ℕ → ℕ → Option ℕ → Result ℕ E) → Type 0
AreIn number = (key : List ℕ) (low high : ℕ) (default : Option ℕ) → IfSome default (IsIn low high) → IfOk (number key low high default) (IsIn low high)

pub terms_keep : {E : Type 0} (number : List ℕ → ℕ → ℕ → Option ℕ → Result ℕ E) (truth : List ℕ → Result Bool E) → AreIn number → IfOk (terms_by number truth) KeepsTerms
terms_keep number truth are = grind (arith, are)
