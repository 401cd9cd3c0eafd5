-- The whole numbers of an array, and their shares.
use Rattle.std.proofs.Common.{◌≡◌, ℕ, ℤ, ◌<◌, ◌≤◌, List, [], ◌∷◌, length, get_or, map, Bool, true, false, cond, eqb, ◌≢◌, Option, Some, None, option_map, refl, sym, ap, ◌∙◌, arith, option_and_then, zero, suc, ◌-◌, ◌++◌, length-append, inl, inr, IfSome, slice_index, sum, nat_le, ◌==◌, ◌&&◌, Result, Ok, Err, IfOk, not, All}
use Rattle.toml.specs.Data.{as_integer, as_array, Members, as_str}
use Rattle.toml.specs.View.{view, items_view}
use Rattle.toml.specs.declared.value.Value.{Value}
use Rattle.std.proofs.lemmas.Bool.{ne_eqb, and_parts, cases_Bool, leb-true, eqb-true, false≢true, not-true}
use Rattle.std.proofs.lemmas.List.{length-map, get_or-append_right, get_or_past}
use Rattle.std.specs.Option.{option_map_or}
use Rattle.settings_readers.specs.Values.{magnitude, whole, typed}
use Rattle.settings.specs.Field.{wholes, share_at, shares_or_none, are_shares, four, shares}
use Rattle.std.specs.List.{list_all, list_any}
use Rattle.std.proofs.Math.ListN.{get_or-append}
use Rattle.std.proofs.lemmas.List.Sums.{AllPass-from_list_all, sum_by-append}
use Rattle.link_base.specs.Words.{IsShares, outcomes_of}
use Rattle.settings_readers.specs.KeptLaws.{next_keeps, ranged_keeps, Reads, defaulted_keeps, IsWithin, Keeps, needed_keeps, whole_keeps, in_range_keeps, keeps_so}
use Rattle.settings_readers.specs.declared.fault.KeyFault.{KeyFault}
use Rattle.link_plan.specs.Terms.{IsIn, KeepsTerms, terms_by}
use Rattle.link_plan.specs.TermLaws.{AreIn, terms_keep}
use Rattle.settings.specs.Settings.{number_at, terms, truth_at}
use Rattle.std.proofs.lemmas.List.Folds.{list_any_at}
use Rattle.link_limits.specs.declared.TheConstants.{MOST_NAME_BYTES}
use Rattle.link_plan.specs.Ranges.{IsFieldName, IsFileName, IsLabel}
use Rattle.settings.specs.Words.{fits, has_len, text}
use Rattle.link_plan.specs.Plan.{is_name_byte, is_output}
use Rattle.link_plan.specs.declared.limits.TheConstants.{MOST_FIELD_NAME_BYTES, MOST_LABEL_BYTES, MOST_MARK_BYTES}
use Rattle.settings.specs.declared.texts.TextRule.{TextRule}
use Rattle.settings.specs.declared.texts.TextRule.TheVariants as rule

abbrev joined : Option ℤ → Option (List ℤ) → Option (List ℤ)
joined z zs = option_and_then (λ x. option_map (λ xs. x ∷ xs) zs) z

joined_is : (z : Option ℤ) (rest : Option (List ℤ)) (zs : List ℤ) → joined z rest ≡ Some zs → (x : ℤ) × (xs : List ℤ) × (z ≡ Some x) × (rest ≡ Some xs) × (x ∷ xs ≡ zs)
joined_is None rest zs h = absurd cc
joined_is (Some x) None zs h = absurd cc
joined_is (Some x) (Some xs) zs h = (x, xs, refl, refl, cc)

-- the numbers of the values, one by one
pub wholes_are : (vs : List Value) (zs : List ℤ) → wholes (items_view vs) ≡ Some zs → map magnitude zs ≡ map (λ v. share_at (view v)) vs
wholes_are [] zs h = let e : [] ≡ zs = cc in rw (← e)
wholes_are (v ∷ vs) zs h =
    let p = joined_is (as_integer (view v)) (wholes (items_view vs)) zs h in
    let head : magnitude p.0 ≡ share_at (view v) = sym (ap (λ o. option_map_or magnitude o 0) p.2) in
    ap (map magnitude) (sym p.4) ∙ ap (λ m. m ∷ map magnitude p.1) head ∙ ap (λ ms. share_at (view v) ∷ ms) (wholes_are vs p.1 p.3)

pub three_are : (vs : List Value) (x y z : Value) → 3 ≤ length vs → length vs < 4 → x ≡ get_or vs 0 x → y ≡ get_or vs 1 y → z ≡ get_or vs 2 z
    → map (λ v. share_at (view v)) vs ≡ share_at (view x) ∷ share_at (view y) ∷ share_at (view z) ∷ []
three_are [] x y z low high a b c = absurd (omega arith)
three_are (v ∷ []) x y z low high a b c = absurd (omega arith)
three_are (v ∷ w ∷ []) x y z low high a b c = absurd (omega arith)
three_are (v ∷ w ∷ t ∷ []) x y z low high a b c = rw (a, b, c)
three_are (v ∷ w ∷ t ∷ s ∷ vs) x y z low high a b c = absurd (omega arith)

pub four_are : (vs : List Value) (x y z r : Value) → 4 ≤ length vs → length vs < 5 → x ≡ get_or vs 0 x → y ≡ get_or vs 1 y → z ≡ get_or vs 2 z → r ≡ get_or vs 3 r
    → map (λ v. share_at (view v)) vs ≡ share_at (view x) ∷ share_at (view y) ∷ share_at (view z) ∷ share_at (view r) ∷ []
four_are [] x y z r low high a b c d = absurd (omega arith)
four_are (v ∷ []) x y z r low high a b c d = absurd (omega arith)
four_are (v ∷ w ∷ []) x y z r low high a b c d = absurd (omega arith)
four_are (v ∷ w ∷ t ∷ []) x y z r low high a b c d = absurd (omega arith)
four_are (v ∷ w ∷ t ∷ s ∷ []) x y z r low high a b c d = rw (a, b, c, d)
four_are (v ∷ w ∷ t ∷ s ∷ q ∷ vs) x y z r low high a b c d = absurd (omega arith)

pub three_whole : (rare : Bool) (vs : List Value) (x y z : Value) (a b c : ℕ) (zs : List ℤ) → rare ≡ false → 3 ≤ length vs → length vs < 4 → x ≡ get_or vs 0 x → y ≡ get_or vs 1 y → z ≡ get_or vs 2 z
    → a ≡ share_at (view x) → b ≡ share_at (view y) → c ≡ share_at (view z) → wholes (items_view vs) ≡ Some zs → shares_or_none false (a ∷ b ∷ c ∷ []) ≡ shares_or_none rare (map magnitude zs)
three_whole rare vs x y z a b c zs is low high at0 at1 at2 e0 e1 e2 h =
    let same : a ∷ b ∷ c ∷ [] ≡ map magnitude zs = rw (e0, e1, e2) (sym (wholes_are vs zs h ∙ three_are vs x y z low high at0 at1 at2)) in
    rw (is, ← same)

pub four_whole : (rare : Bool) (vs : List Value) (x y z r : Value) (a b c d : ℕ) (zs : List ℤ) → rare ≡ true → 4 ≤ length vs → length vs < 5 → x ≡ get_or vs 0 x → y ≡ get_or vs 1 y → z ≡ get_or vs 2 z → r ≡ get_or vs 3 r
    → a ≡ share_at (view x) → b ≡ share_at (view y) → c ≡ share_at (view z) → d ≡ share_at (view r) → wholes (items_view vs) ≡ Some zs → shares_or_none true (a ∷ b ∷ c ∷ d ∷ []) ≡ shares_or_none rare (map magnitude zs)
four_whole rare vs x y z r a b c d zs is low high at0 at1 at2 at3 e0 e1 e2 e3 h =
    let same : a ∷ b ∷ c ∷ d ∷ [] ≡ map magnitude zs = rw (e0, e1, e2, e3) (sym (wholes_are vs zs h ∙ four_are vs x y z r low high at0 at1 at2 at3)) in
    rw (is, ← same)

-- another number of shares than wanted
pub not_so_many : (rare : Bool) (vs : List Value) (zs : List ℤ) → length vs ≢ cond rare 4 3 → wholes (items_view vs) ≡ Some zs → None ≡ shares_or_none rare (map magnitude zs)
not_so_many rare vs zs other h =
    let same : length (map magnitude zs) ≡ length vs = ap length (wholes_are vs zs h) ∙ length-map vs (λ v. share_at (view v)) in
    let test : eqb (length (map magnitude zs)) (cond rare 4 3) ≡ false = rw same (ne_eqb (length vs) (cond rare 4 3) other) in
    rw test

-- Shares that are given are shares of a field's outcomes.

at_least_one : (xs : List ℕ) → list_all (nat_le 1) xs ≡ true → (k : ℕ) → k < length xs → 1 ≤ slice_index xs k
at_least_one xs all k lt = leb-true 1 (slice_index xs k) (AllPass-from_list_all (nat_le 1) xs all k 0 lt)

nothing_there : (k : ℕ) → let none : ℕ = 0 in get_or (none ∷ []) k none ≡ none
nothing_there zero = refl
nothing_there (suc k) = refl

-- four outcomes, and three with none of the fourth
four_outcomes : (xs : List ℕ) → length xs ≡ 4 → list_all (nat_le 1) xs ≡ true → sum xs ≡ 1024 → IsShares 4 xs
four_outcomes xs len all total = (len, (λ k lt. at_least_one xs all k (omega arith)), (λ k le. get_or_past xs k 0 (omega arith)), total)

three_outcomes : (xs : List ℕ) → length xs ≡ 3 → list_all (nat_le 1) xs ≡ true → sum xs ≡ 1024 → IsShares 3 (xs ++ 0 ∷ [])
three_outcomes xs len all total = (
  omega (arith, length-append xs (0 ∷ [])),
  (λ k lt. rw (get_or-append xs (0 ∷ []) 0 k (omega arith)) (at_least_one xs all k (omega arith))),
  (λ k le. get_or-append_right xs (0 ∷ []) 3 k 0 len le ∙ nothing_there (k - 3)),
  sum_by-append (λ x. x) xs (0 ∷ []) ∙ omega (arith, total),
)

four_sound : (rare : Bool) (ys : List ℕ) → are_shares rare ys ≡ true → IsShares (outcomes_of rare) (four rare ys)
four_sound true ys h =
    let (some, total) = and_parts (length ys == 4 && list_all (nat_le 1) ys) (sum ys == 1024) h in
    let (len, all) = and_parts (length ys == 4) (list_all (nat_le 1) ys) some in
    four_outcomes ys (eqb-true (length ys) 4 len) all (eqb-true (sum ys) 1024 total)
four_sound false ys h =
    let (some, total) = and_parts (length ys == 3 && list_all (nat_le 1) ys) (sum ys == 1024) h in
    let (len, all) = and_parts (length ys == 3) (list_all (nat_le 1) ys) some in
    three_outcomes ys (eqb-true (length ys) 3 len) all (eqb-true (sum ys) 1024 total)

some_is : (rare : Bool) (ys : List ℕ) → IfSome (shares_or_none rare ys) (IsShares (outcomes_of rare))
some_is rare ys = elim (cases_Bool (are_shares rare ys)) [ inl all ↦ rw all (four_sound rare ys all) | inr other ↦ rw other tt ]

-- what is read at a key of shares
pub shares_keep : (rare : Bool) → Reads (shares rare) (IsShares (outcomes_of rare))
shares_keep rare at d =
    next_keeps _ (typed at (as_array d)) _ (λ ds. next_keeps _ (typed at (wholes ds)) _ (λ zs. ranged_keeps _ at (shares_or_none rare (map magnitude zs)) (some_is rare (map magnitude zs))))

-- The terms that are read are in their ranges.

in_range : (low high : ℕ) (r : Result ℕ KeyFault) → Keeps r (IsWithin low high) → IfOk r (IsIn low high)
unfolding Keeps
in_range low high (Ok n) h = record { least = h.0; most = h.1 }
in_range low high (Err f) h = tt

-- the numbers that stand at keys
numbers_in : (t : Members) (above : List ℕ) → AreIn (number_at t above)
numbers_in t above key low high None fits = in_range low high _ (needed_keeps _ (whole low high) t above key (whole_keeps low high))
numbers_in t above key low high (Some default) fits =
    in_range low high _ (defaulted_keeps _ (whole low high) default t above key (whole_keeps low high) (fits.least, fits.most))

kept_if : {A : Type 0} (P : A → Type 0) (r : Result A KeyFault) → IfOk r P → Keeps r P
unfolding Keeps
kept_if P (Ok x) h = h
kept_if P (Err f) h = tt

pub terms_are : (t : Members) (above : List ℕ) → Keeps (terms t above) KeepsTerms
unfolding terms
terms_are t above = kept_if KeepsTerms (terms_by (number_at t above) (truth_at t above)) (terms_keep (number_at t above) (truth_at t above) (numbers_in t above))

-- A text that was read is in its range.

-- where none passes a test, each is as those are that do not pass it
pub none_alike : {X : Type 0} (test : X → Bool) (P : X → Type 0) → ((x : X) → test x ≡ false → P x) → (xs : List X) → list_any test xs ≡ false → All P xs
none_alike test P each xs none =
    λ k d lt. elim (cases_Bool (test (get_or xs k d))) [ inl is ↦ absurd (false≢true (sym none ∙ list_any_at test xs k d lt is)) | inr other ↦ each (get_or xs k d) other ]

-- a text is in the range of a rule
abbrev pub Fits : TextRule → List ℕ → Type 0
Fits rule s = fits rule s ≡ true

pub text_keeps : (rule : TextRule) → Reads (text rule) (Fits rule)
text_keeps rule at d = next_keeps _ (typed at (as_str d)) _ (λ s. in_range_keeps _ at (fits rule s) s (λ is. is))

len_is : (low high : ℕ) (s : List ℕ) → has_len low high s ≡ true → (low ≤ length s) × (length s ≤ high)
len_is low high s h =
    let (least, most) = and_parts (nat_le low (length s)) (nat_le (length s) high) h in
    (leb-true low (length s) least, leb-true (length s) high most)

as_file : (s : List ℕ) → Fits rule.File s → IsFileName s
as_file s h =
    let (long, other) = and_parts (has_len 1 MOST_NAME_BYTES s) (not (is_output s)) h in
    let len = len_is 1 MOST_NAME_BYTES s long in
    record { some = len.0; short = len.1; no_output = not-true (is_output s) other }

pub file_keeps : Reads (text rule.File) IsFileName
file_keeps at d = keeps_so _ _ _ (text_keeps rule.File at d) as_file

as_label : (s : List ℕ) → Fits rule.Label s → IsLabel s
as_label s h = let len = len_is 1 MOST_LABEL_BYTES s h in record { some = len.0; short = len.1 }

pub label_keeps : Reads (text rule.Label) IsLabel
label_keeps at d = keeps_so _ _ _ (text_keeps rule.Label at d) as_label

pub as_mark : (s : List ℕ) → Fits rule.Mark s → length s ≤ MOST_MARK_BYTES
as_mark s h = (len_is 0 MOST_MARK_BYTES s h).1

as_name : (s : List ℕ) → Fits rule.FieldName s → IsFieldName s
as_name s h =
    let (long, bytes) = and_parts (has_len 1 MOST_FIELD_NAME_BYTES s) (list_all is_name_byte s) h in
    let len = len_is 1 MOST_FIELD_NAME_BYTES s long in
    record { some = len.0; short = len.1; bytes = AllPass-from_list_all is_name_byte s bytes }

pub name_keeps : Reads (text rule.FieldName) IsFieldName
name_keeps at d = keeps_so _ _ _ (text_keeps rule.FieldName at d) as_name

-- the name of a field can be that of a column
pub name_as_label : (s : List ℕ) → IsFieldName s → IsLabel s
name_as_label s h = record { some = h.some; short = omega (arith, h.short) }
