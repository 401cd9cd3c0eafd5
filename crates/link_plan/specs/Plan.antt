-- What the settings say of a field, as plain values: what a `FieldPlan` is seen as (`FieldList::fields`, clause `all`).
use Rattle.std.specs.Prelude.{List, ℕ, Bool, Option, false, length, map, ◌++◌, ◌-◌, replicate, is_some, codes, ◌&&◌, ◌||◌, nat_le, ◌==◌, bytes_eq}
use Rattle.link_base.specs.declared.shares.FieldShares.{FieldShares}
use Rattle.link_base.specs.declared.plan.FieldSort.{FieldSort}
use Rattle.value_forms.specs.declared.canons.CompareKind.{CompareKind}
use Rattle.link_limits.specs.declared.TheConstants.{MOST_FIELDS}

-- the shares of a field's outcomes among matched and unmatched pairs, in 1,024ths
pub record PlainShares : Type 0 where
  pub rare : Bool
  pub m : List ℕ
  pub u : List ℕ

abbrev pub plain_shares : FieldShares → PlainShares
plain_shares s = record { rare = s.rare; m = s.m; u = s.u }

-- the values of a field's keys
pub record FieldKeys : Type 0 where
  pub name : List ℕ
  pub column_a : List ℕ
  pub column_b : List ℕ
  pub sort : FieldSort
  pub compare : CompareKind
  pub rare : Option ℕ
  pub shares : Option PlainShares

-- The shape of a plan's comparison patterns (`Plan::shape`, clause `rare`).

-- which fields have a rare number; none past the last has one
abbrev pub rare_flags : List FieldKeys → List Bool
rare_flags fields = map (λ (f : FieldKeys). is_some f.rare) fields ++ replicate (MOST_FIELDS - length fields) false

-- The names that no file that is read has (`is_output` of `settings`), and the bytes that the name of a field has.

-- the five files that a run writes
abbrev pub is_output : List ℕ → Bool
is_output s = bytes_eq s (codes "pairs.csv") || bytes_eq s (codes "rule.csv") || bytes_eq s (codes "links.csv") || bytes_eq s (codes "prices.csv") || bytes_eq s (codes "report.txt")

-- a to z, 0 to 9 and _
abbrev pub is_name_byte : ℕ → Bool
is_name_byte b = (nat_le 97 b && nat_le b 122) || (nat_le 48 b && nat_le b 57) || b == 95
