-- Laws of a filled table: its chances are positive and as many as the patterns, it is in cut form, and there is one at most for given shares
-- and levels; whether it is cut depends on its chances and its shares alone.
use Rattle.std.proofs.Common.{◌≡◌, ℕ, ◌+◌, ◌-◌, ◌<◌, ◌≤◌, inl, inr, List, length, ap, arith, ◌∙◌, get_or, map, reverse, zero, suc, ◌*◌, ◌⊎◌, [], ◌∷◌, ◌++◌, refl, sym, Bool, false, eqb, ℤ, pos, ◌-ℤ◌, ◌≤ℤ◌, IsPermutation}
use Rattle.std.proofs.lemmas.Bool.{cases_lt}
use Rattle.std.specs.List.{All, AllPairs, Contains, sum_by, range_with_len, IsDistinct}
use Rattle.std.proofs.lemmas.List.{get_or-reverse, length-reverse, get_or-map, length-map, reverse-append, reverse-reverse, map-append}
use Rattle.std.proofs.lemmas.Simd.{map-map}
use Rattle.std.proofs.lemmas.List.FromFn.{get_or-map-range_with_len, length-map-range_with_len}
use Rattle.std.proofs.lemmas.List.Elements.{All-from_get_or, recursion_from_All}
use Rattle.std.proofs.lemmas.List.Sorted.{All-permutation, length_permutation, Contains-permutation, IsPermutation-sym, IsPermutation-trans, IsPermutation-reverse, IsPermutation-map, sum_by-IsPermutation}
use Rattle.decision_rule.specs.Exchange.{IsCutForm}
use Rattle.patterns.specs.Patterns.{pattern_count_of}
use Rattle.decision_rule.specs.Filled.{all_chances, Chances, chances_of, chances_at, IsFilled, LinksAreCut, NonlinksAreCut, asked_of, IsLeast}
use Rattle.link_base.specs.declared.rule.RuleCell.{RuleCell}
use Rattle.link_base.specs.declared.shares.FieldShares.{FieldShares}
use Rattle.link_base.specs.Words.{empty_cell, IsWithinRanges}
use Rattle.patterns.specs.PatternLaws.{pattern_count_pos, m_of_pos, u_of_pos, weight_range}
use Rattle.decision_rule.specs.Rule.{RanksBefore, Rule, IsRule, IsRuleOver}
use Rattle.decision_rule.specs.Walk.{room_after, CutBy}
use Rattle.decision_rule.specs.CutLaws.{same_shares, walk_from_IsCut, IsCut-from_walk, ranks_from_test}
use Rattle.std.proofs.lemmas.Int.{ints}
use Rattle.std.proofs.lemmas.Bool.Decides.{nat_tests}
use Rattle.std.proofs.lemmas.List.Sums.{sum_by-cons}
use Rattle.std.proofs.lemmas.Map.Keys.{IsDistinct-from_apart, IsDistinct-IsPermutation, apart_from_distinct}
use Rattle.decision_rule.specs.Sorting.{ranks_before}
use Rattle.decision_rule.specs.ExchangeLaws.{possible_bound_m, possible_bound_u, LinksEndAt-from_cut_form, NonlinksStartAt-from_cut_form}

-- what holds of the chances of each pattern holds of the cells
pub cells_hold : (P : Chances → Type 0) (shares : List FieldShares) (cells : List RuleCell) → IsPermutation (all_chances shares) (map chances_of cells)
    → ((k : ℕ) → k < pattern_count_of shares → P (chances_at shares k)) → All (λ c. P (chances_of c)) cells
cells_hold P shares cells perm h =
    let n = pattern_count_of shares in
    let before : All P (all_chances shares) = All-from_get_or P (all_chances shares) (chances_of empty_cell)
    (λ k lt. let in_range : k < n = omega (arith, lt, length-map-range_with_len (chances_at shares) 0 n) in
    rw (get_or-map-range_with_len (chances_at shares) 0 n k k (chances_of empty_cell) in_range (omega arith)) (h k in_range)) in
    let all = All-permutation P _ _ perm before in
    λ k d lt. let there : k < length (map chances_of cells) = omega (arith, lt, length-map cells chances_of) in
    rw (get_or-map chances_of cells k d (chances_of d) lt) at (all k (chances_of d) there)

pub positive_cells : (shares : List FieldShares) (cells : List RuleCell) → IsPermutation (all_chances shares) (map chances_of cells) → All (λ c. (0 < c.m) × (0 < c.u)) cells
positive_cells shares cells perm = cells_hold (λ ch. (0 < ch.m) × (0 < ch.u)) shares cells perm (λ k lt. (m_of_pos shares k lt, u_of_pos shares k lt))

pub length_filled : (shares : List FieldShares) (cells : List RuleCell) → IsPermutation (all_chances shares) (map chances_of cells) → length cells ≡ pattern_count_of shares
length_filled shares cells perm =
    omega (arith, length_permutation _ _ perm, length-map cells chances_of, length-map-range_with_len (chances_at shares) 0 (pattern_count_of shares))

-- the links are all before i
pub record LinksEnd (cells : List RuleCell) (i : ℕ) : Type 0 where
  pub in_table : i < length cells
  pub before : (k : ℕ) (d : RuleCell) → k < i → (get_or cells k d).link ≡ 65536
  pub after : (k : ℕ) (d : RuleCell) → i < k → k < length cells → (get_or cells k d).link ≡ 0

links_end : (asked : ℕ) (cells : List RuleCell) → 0 < length cells → LinksAreCut asked cells → (i : ℕ) × LinksEnd cells i
links_end asked cells some h =
    elim h.ends [
      | inl all ↦ (
        length cells - 1,
        record {
          in_table = omega arith;
          before = λ k d lt. all k d (omega arith);
          after = λ k d lt in_table. absurd (omega arith);
        },
      )
      | inr w ↦ (w.0, record { in_table = w.1.in_table; before = w.1.earlier; after = w.1.later })
    ]

-- the nonlinks are all after j, and nothing between
pub record NonlinksBegin (cells : List RuleCell) (i j : ℕ) : Type 0 where
  pub places : i ≤ j
  pub in_table : j < length cells
  pub before : (k : ℕ) (d : RuleCell) → i ≤ k → k < j → (get_or cells k d).nonlink ≡ 0
  pub after : (k : ℕ) (d : RuleCell) → j < k → k < length cells → (get_or cells k d).nonlink ≡ 65536

pub turned : (cells : List RuleCell) (k : ℕ) (d : RuleCell) → k < length cells → get_or (reverse cells) (length cells - 1 - k) d ≡ get_or cells k d
turned cells k d lt =
    let back : length cells - 1 - (length cells - 1 - k) ≡ k = omega arith in
    get_or-reverse cells (length cells - 1 - k) d (omega arith) ∙ ap (λ n. get_or cells n d) back

nonlinks_begin : (asked : ℕ) (cells : List RuleCell) (i : ℕ) → LinksEnd cells i → All (λ c. c.link + c.nonlink ≤ 65536) cells → NonlinksAreCut asked (reverse cells) → (j : ℕ) × NonlinksBegin cells i j
nonlinks_begin asked cells i end rule h =
    elim h.ends [
      | inl all ↦ (
        i,
        record {
          places = omega arith;
          in_table = end.in_table;
          before = λ k d le lt. absurd (omega arith);
          after = λ k d lt there. let full = rw (turned cells k d there) at (all (length cells - 1 - k) d (omega (arith, there, length-reverse cells))) in
              omega (arith, full, end.after k d lt there);
        },
      )
      | inr w ↦
          let q = w.0 in
          let b = w.1 in
          let size : length (reverse cells) ≡ length cells = length-reverse cells in
          let j = length cells - 1 - q in
          let q_in : q < length cells = omega (arith, b.in_table, size) in
          let less = rw (get_or-reverse cells q empty_cell q_in) at (b.less empty_cell) in
          let places : i ≤ j = elim (cases_lt j i) [
            | inl lt ↦ absurd (omega (arith, less, end.before j empty_cell lt))
            | inr le ↦ le
          ] in (
            j,
            record {
              places = places;
              in_table = omega arith;
              before = λ k d le lt. rw (turned cells k d (omega arith)) at (b.later (length cells - 1 - k) d (omega arith) (omega (arith, size)));
              after = λ k d lt there. let full = rw (turned cells k d there) at (b.earlier (length cells - 1 - k) d (omega arith)) in
                  omega (arith, full, end.after k d (omega arith) there);
            },
          )
    ]

pub cut_form_from_filled : (shares : List FieldShares) (mu_ppm lambda_ppm : ℕ) (cells : List RuleCell) → IsFilled shares mu_ppm lambda_ppm cells → (i : ℕ) × (j : ℕ) × IsCutForm cells i j
cut_form_from_filled shares mu_ppm lambda_ppm cells h =
    let some : 0 < length cells = omega (arith, length_filled shares cells h.patterns, pattern_count_pos shares) in
    let pos = positive_cells shares cells h.patterns in
    let link = links_end (asked_of shares mu_ppm) cells some h.links in
    let nonlink = nonlinks_begin (asked_of shares lambda_ppm) cells link.0 link.1 h.rule h.nonlinks in
    let i = link.0 in
    let j = nonlink.0 in
    let places : i ≤ j = nonlink.1.places in
    let i_in : i < length cells = link.1.in_table in
    let j_in : j < length cells = nonlink.1.in_table in (
      i,
      j,
      record {
        in_order = h.in_order;
        shares = λ k d lt. record { shares = h.rule k d lt; m_pos = (pos k d lt).0; u_pos = (pos k d lt).1 };
        places = places;
        in_table = j_in;
        before = link.1.before;
        after = nonlink.1.after;
        between_link = λ k d lt le. link.1.after k d lt (omega arith);
        between_nonlink = λ k d lt le. nonlink.1.before k d (omega arith) le;
        link_border = λ d lt. nonlink.1.before i d (omega arith) lt;
        nonlink_border = λ d lt. link.1.after j d lt j_in;
      },
    )

-- ---- two lists in one strict order with the same elements are one
tail_place : {X : Type 0} (R : X → X → Type 0) (not_both : (a b : X) → R a b → R b a → ⊥) (x y : X) (ys : List X) → x ≡ y → (z : X) → R x z → Contains (y ∷ ys) z → Contains ys z
tail_place R not_both x y ys e z from_x (zero, lt, is) =
    let same : x ≡ z = e ∙ is in
    let both : R z z = rw same at from_x in
    absurd (not_both z z both both)
tail_place R not_both x y ys e z from_x (suc k, lt, is) = (k, omega (arith, lt), is)

tail_holds : {X : Type 0} (R : X → X → Type 0) (not_both : (a b : X) → R a b → R b a → ⊥) (x y : X) (xs ys : List X) → x ≡ y → AllPairs R (x ∷ xs) → ((z : X) → Contains (x ∷ xs) z → Contains (y ∷ ys) z) → (z : X) → Contains xs z → Contains ys z
tail_holds R not_both x y xs ys e up has z (k, lt, is) =
    let from_x : R x z = rw is at (up 0 (suc k) z (omega arith) (omega (arith, lt))) in
    tail_place R not_both x y ys e z from_x (has z (suc k, omega (arith, lt), is))

heads_same : {X : Type 0} (R : X → X → Type 0) (not_both : (a b : X) → R a b → R b a → ⊥) (x y : X) (xs ys : List X) → AllPairs R (x ∷ xs) → AllPairs R (y ∷ ys) → Contains (y ∷ ys) x → Contains (x ∷ xs) y → x ≡ y
heads_same R not_both x y xs ys up vp (zero, lt, is) there = sym is
heads_same R not_both x y xs ys up vp (suc k, lt, is) (zero, lt', is') = is'
heads_same R not_both x y xs ys up vp (suc k, lt, is) (suc l, lt', is') =
    let first : R x y = rw is' at (up 0 (suc l) y (omega arith) lt') in
    let second : R y x = rw is at (vp 0 (suc k) x (omega arith) lt) in
    absurd (not_both x y first second)

pub same_list : {X : Type 0} (R : X → X → Type 0) (not_both : (a b : X) → R a b → R b a → ⊥) (xs ys : List X) → AllPairs R xs → AllPairs R ys → ((z : X) → Contains xs z → Contains ys z) → ((z : X) → Contains ys z → Contains xs z) → xs ≡ ys
same_list R not_both [] [] up vp f g = refl
same_list R not_both [] (y ∷ ys) up vp f g = let w = g y (0, omega arith, refl) in absurd (omega (arith, w.1))
same_list R not_both (x ∷ xs) [] up vp f g = let w = f x (0, omega arith, refl) in absurd (omega (arith, w.1))
same_list R not_both (x ∷ xs) (y ∷ ys) up vp f g =
    let e = heads_same R not_both x y xs ys up vp (f x (0, omega arith, refl)) (g y (0, omega arith, refl)) in
    let tails = same_list R not_both xs ys (λ i j d lt there. up (suc i) (suc j) d (omega (arith, lt)) (omega (arith, there))) (λ i j d lt there. vp (suc i) (suc j) d (omega (arith, lt)) (omega (arith, there)))
    (tail_holds R not_both x y xs ys e up f)
    (tail_holds R not_both y x ys xs (sym e) vp g) in
    cc

-- ---- two filled tables
abbrev pub Ranks : Chances → Chances → Type 0
Ranks c d = (d.m * c.u < c.m * d.u) ⊎ ((c.m * d.u ≡ d.m * c.u) × (c.pattern < d.pattern))

ranks_one_way : (c d : Chances) → Ranks c d → Ranks d c → ⊥
ranks_one_way c d h k =
    elim h [
      | inl v ↦ elim k [ inl w ↦ omega (arith, v, w) | inr w ↦ omega (arith, v, w.0) ]
      | inr v ↦ elim k [ inl w ↦ omega (arith, v.0, w) | inr w ↦ omega (arith, v.1, w.1) ]
    ]

pub ranked_chances : (cells : List RuleCell) → AllPairs RanksBefore cells → AllPairs Ranks (map chances_of cells)
ranked_chances cells h i j d lt there =
    let e : RuleCell = record { pattern = d.pattern; m = d.m; u = d.u; weight = d.weight; link = 0; nonlink = 0 } in
    let in_cells : j < length cells = omega (arith, there, length-map cells chances_of) in
    let i_in : i < length cells = omega (arith, lt, in_cells) in
    rw (get_or-map chances_of cells i e d i_in, get_or-map chances_of cells j e d in_cells) (h i j e lt in_cells)

pub ranked_cells : (cells : List RuleCell) → AllPairs Ranks (map chances_of cells) → AllPairs RanksBefore cells
ranked_cells cells h i j d lt there =
    let in_map : j < length (map chances_of cells) = omega (arith, there, length-map cells chances_of) in
    let i_in : i < length cells = omega (arith, lt, there) in
    rw (get_or-map chances_of cells i d (chances_of d) i_in, get_or-map chances_of cells j d (chances_of d) there) at (h i j (chances_of d) lt in_map)

pub same_chances : (shares : List FieldShares) (xs ys : List RuleCell) → IsPermutation (all_chances shares) (map chances_of xs) → IsPermutation (all_chances shares) (map chances_of ys) → AllPairs RanksBefore xs → AllPairs RanksBefore ys → map chances_of xs ≡ map chances_of ys
same_chances shares xs ys p q up vp =
    let there = IsPermutation-trans _ _ _ (IsPermutation-sym _ _ p) q in
    let back = IsPermutation-trans _ _ _ (IsPermutation-sym _ _ q) p in
    same_list Ranks ranks_one_way (map chances_of xs) (map chances_of ys) (ranked_chances xs up) (ranked_chances ys vp)
    (λ z. Contains-permutation _ _ z there) (λ z. Contains-permutation _ _ z back)

pub map-reverse : {X Y : Type 0} (f : X → Y) (xs : List X) → map f (reverse xs) ≡ reverse (map f xs)
map-reverse f [] = refl
map-reverse f (x ∷ xs) =
    ap (map f) (reverse-append (x ∷ []) xs) ∙ map-append f (reverse xs) (x ∷ []) ∙ ap (λ l. l ++ f x ∷ []) (map-reverse f xs)
    ∙ sym (reverse-append (f x ∷ []) (map f xs))

pub map_turned : {X Y : Type 0} (f : X → Y) (xs ys : List X) → map f xs ≡ map f ys → map f (reverse xs) ≡ map f (reverse ys)
map_turned f xs ys e = map-reverse f xs ∙ ap reverse e ∙ sym (map-reverse f ys)

map_turned_back : {X Y : Type 0} (f : X → Y) (xs ys : List X) → map f (reverse xs) ≡ map f (reverse ys) → map f xs ≡ map f ys
map_turned_back f xs ys e =
    sym (reverse-reverse (map f xs)) ∙ ap reverse (sym (map-reverse f xs) ∙ e ∙ map-reverse f ys) ∙ reverse-reverse (map f ys)

pub same_by_map : {X Y Z : Type 0} (f : X → Y) (g : Y → Z) (xs ys : List X) → map f xs ≡ map f ys → map (λ x. g (f x)) xs ≡ map (λ x. g (f x)) ys
same_by_map f g xs ys e = sym (map-map g f xs) ∙ ap (map g) e ∙ map-map g f ys

abbrev cell_from : Chances → ℕ → ℕ → RuleCell
cell_from ch link nonlink = record { pattern = ch.pattern; m = ch.m; u = ch.u; weight = ch.weight; link = link; nonlink = nonlink }

same_cell : (x y : RuleCell) → chances_of x ≡ chances_of y → x.link ≡ y.link → x.nonlink ≡ y.nonlink → x ≡ y
same_cell x y e l n =
    ap (λ ch. cell_from ch x.link x.nonlink) e ∙ ap (λ a. cell_from (chances_of y) a x.nonlink) l ∙ ap (λ a. cell_from (chances_of y) y.link a) n

same_cells : (xs ys : List RuleCell) → map chances_of xs ≡ map chances_of ys → map (λ (c : RuleCell). c.link) xs ≡ map (λ (c : RuleCell). c.link) ys → map (λ (c : RuleCell). c.nonlink) xs ≡ map (λ (c : RuleCell). c.nonlink) ys → xs ≡ ys
same_cells [] [] e l n = refl
same_cells [] (y ∷ ys) e l n = cc
same_cells (x ∷ xs) [] e l n = cc
same_cells (x ∷ xs) (y ∷ ys) e l n =
    let chances : chances_of x ≡ chances_of y = cc in
    let links : x.link ≡ y.link = cc in
    let nonlinks : x.nonlink ≡ y.nonlink = cc in
    let es : map chances_of xs ≡ map chances_of ys = cc in
    let ls : map (λ (c : RuleCell). c.link) xs ≡ map (λ (c : RuleCell). c.link) ys = cc in
    let ns : map (λ (c : RuleCell). c.nonlink) xs ≡ map (λ (c : RuleCell). c.nonlink) ys = cc in
    let tails = same_cells xs ys es ls ns in
    let heads : x ≡ y = same_cell x y chances links nonlinks in
    cc

pub one_filled : (shares : List FieldShares) (mu_ppm lambda_ppm : ℕ) (xs ys : List RuleCell) → IsFilled shares mu_ppm lambda_ppm xs → IsFilled shares mu_ppm lambda_ppm ys → xs ≡ ys
one_filled shares mu_ppm lambda_ppm xs ys h k =
    let chances = same_chances shares xs ys h.patterns k.patterns h.in_order k.in_order in
    let pos_x = positive_cells shares xs h.patterns in
    let pos_y = positive_cells shares ys k.patterns in
    let u_x = recursion_from_All (λ (c : RuleCell). 0 < c.u) xs (λ i d lt. (pos_x i d lt).1) in
    let u_y = recursion_from_All (λ (c : RuleCell). 0 < c.u) ys (λ i d lt. (pos_y i d lt).1) in
    let m_x = recursion_from_All (λ (c : RuleCell). 0 < c.m) (reverse xs) (All-permutation (λ (c : RuleCell). 0 < c.m) xs (reverse xs) (IsPermutation-reverse xs) (λ i d lt. (pos_x i d lt).0)) in
    let m_y = recursion_from_All (λ (c : RuleCell). 0 < c.m) (reverse ys) (All-permutation (λ (c : RuleCell). 0 < c.m) ys (reverse ys) (IsPermutation-reverse ys) (λ i d lt. (pos_y i d lt).0)) in
    let us = same_by_map chances_of (λ ch. ch.u) xs ys chances in
    let ms = same_by_map chances_of (λ ch. ch.m) xs ys chances in
    let bounds = same_by_map chances_of (λ ch. 65536) xs ys chances in
    let links = same_shares (λ (c : RuleCell). c.link) (λ (c : RuleCell). 65536) (λ (c : RuleCell). c.u) xs ys _ bounds us (walk_from_IsCut _ _ _ (asked_of shares mu_ppm) xs u_x h.links) (walk_from_IsCut _ _ _ (asked_of shares mu_ppm) ys u_y k.links) in
    let left = same_by_map (λ (c : RuleCell). c.link) (λ l. 65536 - l) xs ys links in
    let nonlinks = same_shares (λ (c : RuleCell). c.nonlink) (λ (c : RuleCell). 65536 - c.link) (λ (c : RuleCell). c.m) (reverse xs) (reverse ys) _ (map_turned _ xs ys left) (map_turned _ xs ys ms) (walk_from_IsCut _ _ _ (asked_of shares lambda_ppm) (reverse xs) m_x h.nonlinks) (walk_from_IsCut _ _ _ (asked_of shares lambda_ppm) (reverse ys) m_y k.nonlinks) in
    same_cells xs ys chances links (map_turned_back _ xs ys nonlinks)

pub same_length : {X Y : Type 0} (f : X → Y) (xs ys : List X) → map f xs ≡ map f ys → length xs ≡ length ys
same_length f xs ys e = omega (arith, length-map xs f, length-map ys f, ap length e)

pub same_at : {Y : Type 0} (f : RuleCell → Y) (xs ys : List RuleCell) (i : ℕ) → map f xs ≡ map f ys → i < length xs → f (get_or xs i empty_cell) ≡ f (get_or ys i empty_cell)
same_at f xs ys i e lt =
    let there : i < length ys = omega (arith, lt, same_length f xs ys e) in
    sym (get_or-map f xs i empty_cell (f empty_cell) lt) ∙ ap (λ l. get_or l i (f empty_cell)) e ∙ get_or-map f ys i empty_cell (f empty_cell) there

pub positive_as : (f : RuleCell → ℕ) (xs ys : List RuleCell) → map f xs ≡ map f ys → All (λ c. 0 < f c) ys → All (λ c. 0 < f c) xs
positive_as f xs ys e h =
    All-from_get_or (λ c. 0 < f c) xs empty_cell
    (λ k lt. rw (same_at f xs ys k e lt) (h k empty_cell (omega (arith, lt, same_length f xs ys e))))

walk_same : (share bound weight : RuleCell → ℕ) (xs ys : List RuleCell) (room : ℕ) → map share xs ≡ map share ys → map bound xs ≡ map bound ys → map weight xs ≡ map weight ys → CutBy share bound weight ys room → CutBy share bound weight xs room
walk_same share bound weight [] ys room s b w h = tt
walk_same share bound weight (x ∷ xs) [] room s b w h = cc
walk_same share bound weight (x ∷ xs) (y ∷ ys) room s b w h =
    let es : share x ≡ share y = cc in
    let eb : bound x ≡ bound y = cc in
    let ew : weight x ≡ weight y = cc in
    let ss : map share xs ≡ map share ys = cc in
    let bs : map bound xs ≡ map bound ys = cc in
    let ws : map weight xs ≡ map weight ys = cc in
    let rest : CutBy share bound weight ys (room_after (share x) (bound x) (weight x) room) = rw (es, eb, ew) h.1 in
    (rw (es, eb, ew) h.0, walk_same share bound weight xs ys _ ss bs ws rest)

pub links_kept : (xs ys : List RuleCell) (asked : ℕ) → map chances_of xs ≡ map chances_of ys → map (λ (c : RuleCell). c.link) xs ≡ map (λ (c : RuleCell). c.link) ys → All (λ (c : RuleCell). 0 < c.u) ys → LinksAreCut asked ys → LinksAreCut asked xs
links_kept xs ys asked e l above h =
    let us = same_by_map chances_of (λ ch. ch.u) xs ys e in
    let bounds = same_by_map chances_of (λ ch. 65536) xs ys e in
    let walk = walk_from_IsCut _ _ _ asked ys (recursion_from_All (λ (c : RuleCell). 0 < c.u) ys above) h in
    IsCut-from_walk _ _ _ asked xs (recursion_from_All (λ (c : RuleCell). 0 < c.u) xs (positive_as (λ c. c.u) xs ys us above))
    (walk_same (λ (c : RuleCell). c.link) (λ (c : RuleCell). 65536) (λ (c : RuleCell). c.u) xs ys _ l bounds us walk)

-- Laws of the rule: sums over the cells of a filled table are sums over the patterns, the sort gives its order, its cells keep their ranges, and
-- no randomised rule with levels at most its own has a lower chance of a possible link (Fellegi and Sunter 1969, section 2).

-- the patterns of the cells before a sort, and after
pub permuted : (shares : List FieldShares) (filled ordered : List RuleCell) → map chances_of filled ≡ all_chances shares → IsPermutation filled ordered → IsPermutation (all_chances shares) (map chances_of ordered)
permuted shares filled ordered e p = rw e at (IsPermutation-map chances_of filled ordered p)

abbrev same_pattern : Chances → Chances → Bool
same_pattern a b = eqb a.pattern b.pattern

differ_before : (shares : List FieldShares) → IsDistinct same_pattern (all_chances shares)
differ_before shares =
    IsDistinct-from_apart same_pattern (all_chances shares)
    (λ i j d lt there. let n = pattern_count_of shares in
    let j_in : j < n = omega (arith, there, length-map-range_with_len (chances_at shares) 0 n) in
    let i_in : i < n = omega (arith, lt, j_in) in
    rw (get_or-map-range_with_len (chances_at shares) 0 n i i d i_in (omega arith), get_or-map-range_with_len (chances_at shares) 0 n j j d j_in (omega arith))
    (grind (arith, nat_tests)))

not_apart : (p q : ℕ) → p ≡ q → eqb p q ≡ false → ⊥
not_apart p q e h = grind (arith, nat_tests)

differ : (shares : List FieldShares) (cells : List RuleCell) → IsPermutation (all_chances shares) (map chances_of cells) → (i j : ℕ) (d : RuleCell) → i < j → j < length cells → (get_or cells i d).pattern ≡ (get_or cells j d).pattern → ⊥
differ shares cells p i j d lt there e =
    let apart = IsDistinct-IsPermutation same_pattern (λ x y. grind (arith, nat_tests)) _ _ p (differ_before shares) in
    let i_in : i < length cells = omega arith in
    let at = apart_from_distinct same_pattern (map chances_of cells) i j (chances_of d) apart lt (omega (arith, there, length-map cells chances_of)) in
    let test = rw (get_or-map chances_of cells i d (chances_of d) i_in, get_or-map chances_of cells j d (chances_of d) there) at at in
    not_apart _ _ e test

pub in_order : (shares : List FieldShares) (cells : List RuleCell) → IsPermutation (all_chances shares) (map chances_of cells) → ((i j : ℕ) (d : RuleCell) → i < j → j < length cells → ranks_before (get_or cells j d) (get_or cells i d) ≡ false) → AllPairs RanksBefore cells
in_order shares cells p h i j d lt there =
    let pos = positive_cells shares cells p in
    ranks_from_test (get_or cells i d) (get_or cells j d) (pos i d (omega (arith, lt, there))).1 (pos j d there).1 (differ shares cells p i j d lt there) (h i j d lt there)

-- the order depends on the chances alone
pub order_kept : (xs ys : List RuleCell) → map chances_of xs ≡ map chances_of ys → AllPairs RanksBefore ys → AllPairs RanksBefore xs
order_kept xs ys e h = let ranks : AllPairs Ranks (map chances_of xs) = rw e (ranked_chances ys h) in ranked_cells xs ranks

sum_by-map : {X Y : Type 0} (f : X → Y) (g : Y → ℕ) (xs : List X) → sum_by g (map f xs) ≡ sum_by (λ x. g (f x)) xs
sum_by-map f g [] = refl
sum_by-map f g (x ∷ xs) =
    sum_by-cons g (f x) (map f xs) ∙ ap (λ n. g (f x) + n) (sum_by-map f g xs) ∙ sym (sum_by-cons (λ x. g (f x)) x xs)

-- a sum over the cells is the sum over the patterns
pub over_patterns : (shares : List FieldShares) (cells : List RuleCell) → IsPermutation (all_chances shares) (map chances_of cells) → (g : Chances → ℕ) → sum_by (λ c. g (chances_of c)) cells ≡ sum_by (λ p. g (chances_at shares p)) (range_with_len 0 (pattern_count_of shares))
over_patterns shares cells p g =
    sym (sum_by-map chances_of g cells) ∙ sum_by-IsPermutation g (all_chances shares) (map chances_of cells) p ∙ sum_by-map (chances_at shares) g (range_with_len 0 (pattern_count_of shares))

-- each cell of a filled table has one of the patterns
pub patterns_in_range : (shares : List FieldShares) (cells : List RuleCell) → IsPermutation (all_chances shares) (map chances_of cells) → All (λ (c : RuleCell). c.pattern < pattern_count_of shares) cells
patterns_in_range shares cells perm = cells_hold (λ ch. ch.pattern < pattern_count_of shares) shares cells perm (λ k lt. lt)

pub rule_over : (shares : List FieldShares) (cells : List RuleCell) (d : ℕ) (r : Rule) → IsPermutation (all_chances shares) (map chances_of cells) → IsRule d (pattern_count_of shares) r → IsRuleOver d cells r
rule_over shares cells d r perm h k e lt = h _ (patterns_in_range shares cells perm k e lt)

pub least : (shares : List FieldShares) (mu lambda : ℕ) (cells : List RuleCell) → IsFilled shares mu lambda cells → IsLeast shares cells
least shares mu lambda cells filled =
    let w = cut_form_from_filled shares mu lambda cells filled in
    let links = LinksEndAt-from_cut_form cells w.0 w.1 w.2 in
    let nonlinks = NonlinksStartAt-from_cut_form cells w.0 w.1 w.2 in
    let over = over_patterns shares cells filled.patterns in
    record {
      matched = λ d r h.
          let m = over (λ ch. ch.u * r.link ch.pattern) in
          let l = over (λ ch. ch.m * r.nonlink ch.pattern) in
          let p = over (λ ch. ch.m * r.possible ch.pattern) in
          rw (← p) (omega (arith, possible_bound_m cells w.0 w.1 0 0 d r links nonlinks (rule_over shares cells d r filled.patterns h.is_rule) (omega (arith, m, h.mu)) (omega (arith, l, h.lambda))));
      unmatched = λ d r h.
          let m = over (λ ch. ch.u * r.link ch.pattern) in
          let l = over (λ ch. ch.m * r.nonlink ch.pattern) in
          let p = over (λ ch. ch.u * r.possible ch.pattern) in
          rw (← p) (omega (arith, possible_bound_u cells w.0 w.1 0 0 d r links nonlinks (rule_over shares cells d r filled.patterns h.is_rule) (omega (arith, m, h.mu)) (omega (arith, l, h.lambda))));
    }

abbrev IsWeightOf : ℕ → ℤ → Type 0
IsWeightOf k w = ((pos 0 -ℤ pos (80 * k)) ≤ℤ w) × (w ≤ℤ pos (79 * k))

of_six : (k : ℕ) (c : RuleCell) → k ≤ 6 → IsWeightOf k c.weight → c.link + c.nonlink ≤ 65536 → IsWithinRanges c
of_six k c few h shares = record {
  weight_low = omega (arith, ints, h.0, few);
  weight_high = omega (arith, ints, h.1, few);
  shares = shares;
}

-- the cells are within their ranges
pub within_ranges : (shares : List FieldShares) (mu lambda : ℕ) (cells : List RuleCell) → length shares ≤ 6 → IsFilled shares mu lambda cells → All IsWithinRanges cells
within_ranges shares mu lambda cells few filled =
    let weights = cells_hold (λ ch. IsWeightOf (length shares) ch.weight) shares cells filled.patterns (weight_range shares) in
    λ k d lt. of_six (length shares) (get_or cells k d) few (weights k d lt) (filled.rule k d lt)
