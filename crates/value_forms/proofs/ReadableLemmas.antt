-- A date with its signs where its form has them is cut at them.
use Rattle.std.proofs.Common.{◌≡◌, ◌∙◌, ◌+◌, ◌-◌, ◌*◌, ◌<◌, ◌≤◌, ◌==◌, ◌&&◌, ◌||◌, ◌++◌, ◌∷◌, ℕ, ℤ, Bool, true, false, not, cond, nat_le, nat_lt, List, [], Option, None, Some, ap, refl, sym, subst, arith, drop, length, length-take, position, slice_index, take, IfSome}
use Rattle.std.specs.List.{list_any, position_or_len}
use Rattle.std.proofs.lemmas.Bool.Decides.{nat_tests}
use Rattle.std.proofs.lemmas.Grind.{common_steps}
use Rattle.std.proofs.lemmas.Option.{cond_some, option_and_then_some}
use Rattle.link_base.specs.declared.plan.DateForm.{DateForm}
use Rattle.link_base.specs.declared.plan.DateForm.TheVariants.{Dmy, Mdy, Ymd}
use Rattle.value_forms.specs.Days.{two_of, ◌>>=◌}
use Rattle.value_forms.specs.Written.{day_of_parts, day_with_signs, first_length, in_form, in_signs, short_number, year_number}
use Rattle.link_base.specs.Words.{IsValid}
use Rattle.link_base.specs.declared.standard.Value.{Value}
use Rattle.link_base.specs.declared.standard.Value.TheVariants.{Absent, Word, Day}
use Rattle.value_forms.specs.declared.canons.Canon.{Canon}
use Rattle.value_forms.specs.Canons.{IsReadable}

pub signed_at : (form : DateForm) (t a rest b d : List ℕ) (i j : ℕ) → Some i ≡ position in_signs t → a ≡ take i t → rest ≡ drop (i + 1) t → Some j ≡ position (λ c. c == slice_index t i) rest → b ≡ take j rest → d ≡ drop (j + 1) rest → in_form form a b d ≡ day_with_signs form t
unfolding day_with_signs
signed_at form t a rest b d i j p first behind q second third =
    rw (← p, ← behind, ← q, first, second, third) refl

-- the first place at which a test passes
neither : (a b : Bool) → (a || b) ≡ false → (a ≡ false) × (b ≡ false)
neither true b h = absurd (let e : true ≡ false = h in cc)
neither false b h = (refl, h)

passed : (p : ℕ → Bool) (xs : List ℕ) (y : ℕ) (ys : List ℕ) → list_any p xs ≡ false → p y ≡ true → position_or_len p (xs ++ y ∷ ys) ≡ length xs
passed p [] y ys none here = ap (λ b. cond (not b) (1 + position_or_len p ys) 0) here
passed p (x ∷ xs) y ys none here =
    let parts = neither (p x) (list_any p xs) none in
    let one_more : 1 + length xs ≡ length (x ∷ xs) = omega arith in
    ap (λ b. cond (not b) (1 + position_or_len p (xs ++ y ∷ ys)) 0) parts.0
    ∙ ap (λ n. 1 + n) (passed p xs y ys parts.1 here)
    ∙ one_more

first_at : (p : ℕ → Bool) (t : List ℕ) (n : ℕ) → n < length t → list_any p (take n t) ≡ false → p (slice_index t n) ≡ true → Some n ≡ position p t
first_at p t n lt none here =
    let split : t ≡ take n t ++ slice_index t n ∷ drop (n + 1) t = grind (arith, common_steps) in
    let front : length (take n t) ≡ n = omega (arith, length-take n t) in
    let at : position_or_len p t ≡ n = ap (position_or_len p) split ∙ passed p (take n t) (slice_index t n) (drop (n + 1) t) none here ∙ front in
    let within : nat_lt n (length t) ≡ true = grind (arith, nat_tests) in
    sym (ap (λ k. cond (nat_lt k (length t)) (Some k) None) at ∙ ap (λ b. cond b (Some n) None) within)

-- digits are no signs
abbrev Unsigned : List ℕ → Type 0
Unsigned run = list_any in_signs run ≡ false

two_unsigned : (a b n : ℕ) → two_of a b ≡ Some n → (in_signs a ≡ false) × (in_signs b ≡ false)
two_unsigned a b n h =
    let w = (cond_some (nat_le 48 a && nat_le a 57 && nat_le 48 b && nat_le b 57) (10 * (a - 48) + (b - 48)) n h).0 in
    let la : 48 ≤ a = grind (arith, nat_tests) in
    let lb : 48 ≤ b = grind (arith, nat_tests) in
    (grind (arith, nat_tests), grind (arith, nat_tests))

short_unsigned : (run : List ℕ) (n : ℕ) → length run ≡ 2 → short_number run ≡ Some n → Unsigned run
short_unsigned (a ∷ b ∷ []) n size h =
    let is = two_unsigned a b n h in
    rw (is.0, is.1) refl
short_unsigned run n size h = absurd (omega arith)

year_unsigned : (run : List ℕ) (y : ℕ) → length run ≡ 4 → year_number run ≡ Some y → Unsigned run
year_unsigned (a ∷ b ∷ c ∷ d ∷ []) y size h =
    option_and_then_some (λ high. two_of c d >>= λ low. Some (100 * high + low)) (two_of a b) y h (λ high is rest.
    option_and_then_some (λ low. Some (100 * high + low)) (two_of c d) y rest (λ low is' e.
    let front = two_unsigned a b high is in
    let back = two_unsigned c d low is' in
    rw (front.0, front.1, back.0, back.1) refl))
year_unsigned run y size h = absurd (omega arith)

-- the numbers of a date that is read
record Numbers (y m d : List ℕ) : Type 0 where
  pub year : ℕ
  pub month : ℕ
  pub day : ℕ
  pub year_is : year_number y ≡ Some year
  pub month_is : short_number m ≡ Some month
  pub day_is : short_number d ≡ Some day

numbers : (y m d : List ℕ) (number : ℤ) → day_of_parts y m d ≡ Some number → Numbers y m d
unfolding day_of_parts
numbers y m d number h =
    option_and_then_some _ (year_number y) number h (λ year is rest.
    option_and_then_some _ (short_number m) number rest (λ month is' rest'.
    option_and_then_some _ (short_number d) number rest' (λ day is'' found.
    record { year = year; month = month; day = day; year_is = is; month_is = is'; day_is = is'' })))

both_unsigned : (form : DateForm) (a b d : List ℕ) (number : ℤ) → length a ≡ first_length form → length b ≡ 2 → in_form form a b d ≡ Some number → Unsigned a × Unsigned b
unfolding in_form
both_unsigned Ymd a b d number first second h = let n = numbers a b d number h in (year_unsigned a n.year first n.year_is, short_unsigned b n.month second n.month_is)
both_unsigned Dmy a b d number first second h = let n = numbers d b a number h in (short_unsigned a n.day first n.day_is, short_unsigned b n.month second n.month_is)
both_unsigned Mdy a b d number first second h = let n = numbers d a b number h in (short_unsigned a n.month first n.month_is, short_unsigned b n.day second n.day_is)

no_such : (run : List ℕ) (sign : ℕ) → in_signs sign ≡ true → Unsigned run → list_any (λ c. c == sign) run ≡ false
no_such [] sign is none = refl
no_such (c ∷ cs) sign is none =
    let parts = neither (in_signs c) (list_any in_signs cs) none in
    ap (λ b. b || list_any (λ x. x == sign) cs) (other (c == sign) refl parts.0) ∙ no_such cs sign is parts.1
  where
    other : (b : Bool) → (c == sign) ≡ b → in_signs c ≡ false → b ≡ false
    other true e not_c = absurd (let same : c ≡ sign = grind (arith, nat_tests) in let no : in_signs sign ≡ false = sym (ap in_signs same) ∙ not_c in let no_more : true ≡ false = sym is ∙ no in cc)
    other false e not_c = refl

-- a date whose runs stand between signs at the places of its form
pub placed : (form : DateForm) (t a rest b d : List ℕ) (n : ℕ) (number : ℤ) → n ≡ first_length form → n < length t → 2 < length rest
    → a ≡ take n t → rest ≡ drop (n + 1) t → b ≡ take 2 rest → d ≡ drop 3 rest → in_signs (slice_index t n) ≡ true → slice_index rest 2 ≡ slice_index t n
    → in_form form a b d ≡ Some number → day_with_signs form t ≡ Some number
placed form t a rest b d n number is within long first behind second third sign again h =
    let size_a : length a ≡ first_length form = omega (arith, ap length first, length-take n t, is) in
    let size_b : length b ≡ 2 = omega (arith, ap length second, length-take 2 rest) in
    let unsigned = both_unsigned form a b d number size_a size_b h in
    let front = first_at in_signs t n within (subst Unsigned first unsigned.0) sign in
    let none = no_such b (slice_index t n) sign unsigned.1 in
    let same : (slice_index rest 2 == slice_index t n) ≡ true = grind (arith, nat_tests) in
    let back = first_at (λ c. c == slice_index t n) rest 2 long (subst (λ run. list_any (λ c. c == slice_index t n) run ≡ false) second none) same in
    sym (signed_at form t a rest b d n 2 front first behind back second third) ∙ h

pub if_some : {P : ℤ → Type 0} (result due : Option ℤ) → result ≡ due → ((number : ℤ) → due ≡ Some number → P number) → IfSome result P
if_some None due is holds = tt
if_some (Some number) due is holds = holds number (sym is)

-- What is valid can be read.

pub readable_valid : (canon : Canon) (value : Value) → IsValid value → IsReadable canon value
readable_valid canon Absent h = tt
readable_valid canon (Word text) h = λ _. h
readable_valid canon (Day day) h = h
