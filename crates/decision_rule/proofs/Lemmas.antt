use Rattle.std.proofs.Common.{◌≡◌, ℕ, ℤ, ◌+◌, ◌*◌, ◌/◌, ◌%◌, ◌^◌, ◌<◌, ◌≤◌, List, length, refl, ap, arith, sym, ◌∙◌, get_or, drop, map, ◌+ℤ◌, ◌-◌, min, [], ◌∷◌, ◌++◌, reverse, take, set, inl, inr, All, sum_by}
use Rattle.std.proofs.Math.Nat.{mul-div_cancel_left, pow-le-pow_right}
use Rattle.std.proofs.lemmas.Nat.{div_below, mul-le}
use Rattle.patterns.specs.Patterns.{eighth_weight_of, base_of, pattern_count_of, m_of, u_of, weight_of}
use Rattle.link_base.specs.declared.shares.FieldShares.{FieldShares}
use Rattle.std.proofs.lemmas.List.{get_or-map, length-map, get_or-set_same, get_or-set_other, length-set, take_all}
use Rattle.std.proofs.lemmas.List.FromFn.{fill_by_all}
use Rattle.decision_rule.specs.Filled.{all_chances, chances_of, chances_at, LinksAreCut, NonlinksAreCut}
use Rattle.link_base.specs.declared.rule.RuleCell.{RuleCell}
use Rattle.link_base.specs.Words.{empty_cell}
use Rattle.patterns.specs.PatternLaws.{outcomes_bounds, drop_step, pattern_count_pos, product_small, share_bounds}
use Rattle.std.proofs.lemmas.Bool.{cases_eq}
use Rattle.std.proofs.lemmas.List.Elements.{recursion_from_All}
use Rattle.std.proofs.lemmas.List.Sorted.{All-permutation, IsPermutation-reverse}
use Rattle.decision_rule.specs.Walk.{room_after, CutBy, room_left}
use Rattle.decision_rule.specs.CutLaws.{IsCut-from_walk}
use Rattle.decision_rule.specs.FilledLaws.{same_by_map, positive_as}
use Rattle.std.proofs.lemmas.List.Sums.{sum_by_more}

-- a loop's step: the first field that is left, whose outcome is told
pub record Step (shares : List FieldShares) (i below rest outcome : ℕ) (field : FieldShares) : Type 0 where
  pub below_is : below ≡ pattern_count_of (drop (i + 1) shares)
  pub some : 0 < below
  pub m_is : m_of (drop i shares) rest ≡ get_or field.m outcome 0 * m_of (drop (i + 1) shares) (rest % below)
  pub u_is : u_of (drop i shares) rest ≡ get_or field.u outcome 0 * u_of (drop (i + 1) shares) (rest % below)
  pub weight_is : weight_of (drop i shares) rest ≡ eighth_weight_of (get_or field.m outcome 0) (get_or field.u outcome 0) +ℤ weight_of (drop (i + 1) shares) (rest % below)
  pub m_share : (1 ≤ get_or field.m outcome 0) × (get_or field.m outcome 0 ≤ 1022)
  pub u_share : (1 ≤ get_or field.u outcome 0) × (get_or field.u outcome 0 ≤ 1022)

pub step : (shares : List FieldShares) (i below rest base outcome : ℕ) (field : FieldShares) → base ≡ base_of field → i < length shares → field ≡ get_or shares i field → below ≡ pattern_count_of (drop i shares) → rest < below
    → outcome ≡ rest / (below / base) → Step shares i (below / base) rest outcome field
step shares i below rest base outcome field eb lt e b r told =
    let d = drop_step shares i field lt e in
    let pos : 0 < base = omega (arith, eb, (outcomes_bounds field.rare).0) in
    let is : below ≡ base * pattern_count_of (drop (i + 1) shares) = b ∙ ap pattern_count_of d ∙ ap (λ n. n * pattern_count_of (drop (i + 1) shares)) (sym eb) in
    let third : below / base ≡ pattern_count_of (drop (i + 1) shares) = ap (λ n. n / base) is ∙ mul-div_cancel_left (pattern_count_of (drop (i + 1) shares)) pos in
    let some : 0 < below / base = omega (arith, third, pattern_count_pos (drop (i + 1) shares)) in
    let whole : rest < base_of field * (below / base) = rw (third, ← eb) (omega (arith, r, is)) in
    let within : outcome < base_of field = rw told (div_below rest (below / base) (base_of field) some whole) in
    record {
      below_is = third;
      some = some;
      m_is = rw (told, d, third) refl;
      u_is = rw (told, d, third) refl;
      weight_is = rw (told, d, third) refl;
      m_share = share_bounds field.rare field.m outcome field.of_matched within;
      u_share = share_bounds field.rare field.u outcome field.of_unmatched within;
    }

pub product_fits : (m share i : ℕ) → m ≤ 1024 ^ i → share ≤ 1022 → i < 6 → m * share < 2 ^ 64
product_fits m share i h k lt =
    let more : i + 1 ≤ 6 = omega arith in
    let most : 1024 ^ (i + 1) ≤ 1024 ^ 6 = pow-le-pow_right (omega arith) more in
    omega (arith, product_small share m i k h, most)

pub product_step : (m share same total old new : ℕ) → m * old ≡ total → old ≡ same * new → share ≡ same → m * share * new ≡ total
product_step m share same total old new e f g = let h : m * (same * new) ≡ total = rw f at e in rw g (omega (arith, h))

pub filled_all : (shares : List FieldShares) (cells : List RuleCell) → length cells ≡ pattern_count_of shares → ((k : ℕ) (d : RuleCell) → k < length cells → chances_of (get_or cells k d) ≡ chances_at shares k) → map chances_of cells ≡ all_chances shares
filled_all shares cells size h =
    fill_by_all (chances_at shares) (map chances_of cells) (pattern_count_of shares) (chances_of empty_cell) (omega (arith, size, length-map cells chances_of))
    (λ k lt. let there : k < length cells = omega (arith, size, lt) in rw (get_or-map chances_of cells k empty_cell (chances_of empty_cell) there) (h k empty_cell there))

-- Steps of the two cuts.

pub CutBy-push : {X : Type 0} (share bound weight : X → ℕ) (xs : List X) (x : X) (room : ℕ) → CutBy share bound weight xs room → share x ≡ min (bound x) (room_left share bound weight xs room / weight x) → CutBy share bound weight (xs ++ x ∷ []) room
CutBy-push share bound weight [] x room h e = (e, tt)
CutBy-push share bound weight (y ∷ ys) x room h e = (h.0, CutBy-push share bound weight ys x _ h.1 e)

pub room_left-push : {X : Type 0} (share bound weight : X → ℕ) (xs : List X) (x : X) (room : ℕ) → room_left share bound weight (xs ++ x ∷ []) room ≡ room_after (share x) (bound x) (weight x) (room_left share bound weight xs room)
room_left-push share bound weight [] x room = refl
room_left-push share bound weight (y ∷ ys) x room = room_left-push share bound weight ys x _

-- what a loop's step leaves, where c replaces the cell at i: each step of a walk, in words of the list that it goes along
pub walk_step : (share bound weight : RuleCell → ℕ) (done : List RuleCell) (c : RuleCell) (asked room left : ℕ) → CutBy share bound weight done asked → room ≡ room_left share bound weight done asked → share c ≡ min (bound c) (room / weight c) → left ≡ room_after (share c) (bound c) (weight c) room → CutBy share bound weight (done ++ c ∷ []) asked × (left ≡ room_left share bound weight (done ++ c ∷ []) asked)
walk_step share bound weight done c asked room left h e s l =
    (CutBy-push share bound weight done c asked h (rw e at s), rw (room_left-push share bound weight done c asked) (rw e at l))

pub bound_step_down : (P : RuleCell → Type 0) (cells : List RuleCell) (i : ℕ) (c : RuleCell) → i < length cells → ((k : ℕ) (d : RuleCell) → i + 1 ≤ k → k < length cells → P (get_or cells k d)) → P c → (k : ℕ) (d : RuleCell) → i ≤ k → k < length (set cells i c) → P (get_or (set cells i c) k d)
bound_step_down P cells i c lt h p k d le there =
    elim (cases_eq k i) [
      | inl e ↦ rw (e, get_or-set_same cells i c d lt) p
      | inr n ↦ rw (get_or-set_other cells i k c d n) (h k d (omega (arith, n, le)) (omega (arith, there, length-set cells i c)))
    ]

pub links_cut : (cells old : List RuleCell) (asked i : ℕ) → length cells ≤ i → map chances_of cells ≡ map chances_of old → All (λ (c : RuleCell). 0 < c.u) old → CutBy (λ (c : RuleCell). c.link) (λ (c : RuleCell). 65536) (λ (c : RuleCell). c.u) (take i cells) (asked / 1000000) → LinksAreCut asked cells
links_cut cells old asked i le e pos h =
    let us = same_by_map chances_of (λ ch. ch.u) cells old e in
    let all : take i cells ≡ cells = take_all i cells le in
    let walk : CutBy (λ (c : RuleCell). c.link) (λ (c : RuleCell). 65536) (λ (c : RuleCell). c.u) cells (asked / 1000000) = rw all at h in
    IsCut-from_walk _ _ _ asked cells (recursion_from_All (λ (c : RuleCell). 0 < c.u) cells (positive_as (λ c. c.u) cells old us pos)) walk

pub nonlinks_cut : (cells old : List RuleCell) (asked i : ℕ) → i ≡ 0 → map chances_of cells ≡ map chances_of old → All (λ (c : RuleCell). 0 < c.m) old → CutBy (λ (c : RuleCell). c.nonlink) (λ (c : RuleCell). 65536 - c.link) (λ (c : RuleCell). c.m) (reverse (drop i cells)) (asked / 1000000) → NonlinksAreCut asked (reverse cells)
nonlinks_cut cells old asked i z e pos h =
    let ms = same_by_map chances_of (λ ch. ch.m) cells old e in
    let all : drop i cells ≡ cells = ap (λ n. drop n cells) z in
    let walk : CutBy (λ (c : RuleCell). c.nonlink) (λ (c : RuleCell). 65536 - c.link) (λ (c : RuleCell). c.m) (reverse cells) (asked / 1000000) = rw all at h in
    let positive = All-permutation (λ (c : RuleCell). 0 < c.m) cells (reverse cells) (IsPermutation-reverse cells) (positive_as (λ c. c.m) cells old ms pos) in
    IsCut-from_walk _ _ _ asked (reverse cells) (recursion_from_All (λ (c : RuleCell). 0 < c.m) (reverse cells) positive) walk

pub total_small : (k : ℕ) → k ≤ 6 → 1024 ^ k ≤ 2 ^ 60
total_small k h = pow-le-pow_right (omega arith) h

pub sum_step : (f : RuleCell → ℕ) (cells : List RuleCell) (i s x : ℕ) → i < length cells → s ≡ sum_by f (take i cells) → x ≡ f (get_or cells i empty_cell) → s + x ≡ sum_by f (take (i + 1) cells)
sum_step f cells i s x lt e g = omega (arith, sum_by_more f cells i empty_cell lt, e, g)

pub small_step : (s i a b : ℕ) → s ≤ i * 2 ^ 80 → a < 2 ^ 64 → b ≤ 65536 → s + a * b ≤ (i + 1) * 2 ^ 80
small_step s i a b h la lb =
    let p : a * b ≤ 2 ^ 64 * 2 ^ 16 = mul-le a b (2 ^ 64) (2 ^ 16) (omega arith) lb in
    omega (arith, h, p)
