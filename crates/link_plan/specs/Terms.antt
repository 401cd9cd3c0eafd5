-- The terms of a plan: how they are read, key by key, and their ranges (`Terms::read`, clauses `gives` and `ranges`).
use Rattle.std.specs.Prelude.{◌≤◌, List, [], ◌∷◌, ℕ, Bool, codes, Option, Some, None, Result, Ok}
use Rattle.link_limits.specs.declared.TheConstants.{PER_MILLION}
use Rattle.link_base.specs.Words.{and_then}
use Rattle.link_plan.specs.declared.terms.TheConstants.{MOST_AWARD, MOST_SEED}
use Rattle.link_plan.specs.declared.terms.Terms.{Terms}

-- the keys of the terms
abbrev pub term_keys : List (List ℕ)
term_keys = codes "mu_ppm" ∷ codes "lambda_ppm" ∷ codes "seed" ∷ codes "award" ∷ codes "strict" ∷ codes "double" ∷ []

-- a number in its range
pub record IsIn (low high n : ℕ) : Type 0 where
  pub least : low ≤ n
  pub most : n ≤ high

infixl 10 ◌>>=◌
abbrev pub ◌>>=◌ : {A B E : Type 0} → Result A E → (A → Result B E) → Result B E
r >>= next = and_then r next

-- the keys in their order; `number key low high default` is what stands at a key from low to high
abbrev pub terms_by : {E : Type 0} → (List ℕ → ℕ → ℕ → Option ℕ → Result ℕ E) → (List ℕ → Result Bool E) → Result Terms E
terms_by number truth = do
  mu_ppm ← number (codes "mu_ppm") 0 PER_MILLION None
  lambda_ppm ← number (codes "lambda_ppm") 0 PER_MILLION None
  seed ← number (codes "seed") 0 MOST_SEED (Some 0)
  award ← number (codes "award") 0 MOST_AWARD (Some 500)
  strict ← truth (codes "strict")
  double ← truth (codes "double")
  Ok (record { mu_ppm = mu_ppm; lambda_ppm = lambda_ppm; seed = seed; award = award; strict = strict; double = double })

-- the ranges of the terms
pub record KeepsTerms (terms : Terms) : Type 0 where
  pub mu : terms.mu_ppm ≤ PER_MILLION
  pub lambda : terms.lambda_ppm ≤ PER_MILLION
  pub seed : terms.seed ≤ MOST_SEED
  pub award : terms.award ≤ MOST_AWARD
