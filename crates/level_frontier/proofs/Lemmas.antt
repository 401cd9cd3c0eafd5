-- No rule at the asked levels does better than the filled table by more than its slack.
use Rattle.std.proofs.Common.{◌≡◌, ℕ, zero, suc, Bool, true, false, ◌+◌, ◌-◌, ◌*◌, ◌^◌, ◌<◌, ◌≤◌, ◌⊎◌, inl, inr, List, [], ◌∷◌, length, reverse, refl, ap, arith, ltb, Some, ◌∙◌, get_or, min, ◌/◌, map, set}
use Rattle.std.proofs.Math.Nat.{mul-le-mul_left, le_of_mul-le-mul_right, mul-le-mul_right, le-div_iff_mul-le, div-mul-le_self, pow-le-pow_right}
use Rattle.std.proofs.lemmas.Bool.{cases_lt, lt-ltb, le-ltb, cases_Bool, cases_eq}
use Rattle.std.specs.List.{sum_by, All, find, AllByRecursion, AllZip}
use Rattle.std.proofs.lemmas.List.{length-reverse, get_or-reverse, get_or-set_same, get_or-set_other}
use Rattle.std.proofs.lemmas.List.Sorted.{IsPermutation-reverse, sum_by-IsPermutation, All-permutation}
use Rattle.std.proofs.lemmas.List.Sums.{sum_by-le}
use Rattle.link_base.specs.Words.{empty_cell}
use Rattle.decision_rule.specs.Rule.{Rule, possible_of, mu_of, lambda_of, possible_m_of, possible_u_of, rule_mu, rule_lambda}
use Rattle.decision_rule.specs.Exchange.{IsCell, LinksEndAt, NonlinksStartAt, cell_at}
use Rattle.decision_rule.specs.Filled.{IsBorder, level_of, IsFilled, asked_of, chances_of, sum_over}
use Rattle.level_frontier.specs.Frontier.{IsWithinAsked, FallsTo, IsFrontierRow, IsNearLeast}
use Rattle.patterns.specs.Patterns.{m_of, u_of}
use Rattle.level_frontier.specs.Borders.{border_m, border_u, link_border_of, nonlink_border_of, slack_m_of, slack_u_of}
use Rattle.link_base.specs.declared.rule.RuleCell.{RuleCell}
use Rattle.link_base.specs.declared.shares.FieldShares.{FieldShares}
use Rattle.decision_rule.specs.ExchangeLaws.{possible_bound_m, possible_bound_u, total, total-sum_by}
use Rattle.decision_rule.specs.FilledLaws.{turned, positive_cells, same_chances, same_by_map, map_turned, same_length, cells_hold, over_patterns, rule_over}
use Rattle.std.proofs.lemmas.List.Elements.{recursion_from_All, AllZip-get_or}
use Rattle.decision_rule.specs.Walk.{CutBy, room_after}
use Rattle.decision_rule.specs.CutLaws.{walk_from_IsCut, room_after_full, room_after_less, taken_fits, taken_bound}
use Rattle.patterns.specs.PatternLaws.{m_of_small, u_of_small}
use Rattle.level_frontier.specs.declared.levels.FrontierRow.{FrontierRow}

no_sum : (f : RuleCell → ℕ) (g : RuleCell → ℕ) (cells : List RuleCell) → All (λ c. g c ≡ 0) cells → sum_by (λ c. f c * g c) cells ≡ 0
no_sum f g cells h = omega (arith, sum_by-le (λ c. f c * g c) 0 cells (λ k d lt. omega (arith, ap (λ n. f (get_or cells k d) * n) (h k d lt))))

-- the first cell that passes a test
find_first : (test : RuleCell → Bool) (cells : List RuleCell) (i : ℕ) → i < length cells → ((k : ℕ) → k < i → test (cell_at cells k) ≡ false) → test (cell_at cells i) ≡ true → find test cells ≡ Some (cell_at cells i)
find_first test [] i lt h e = absurd (omega (arith, lt))
find_first test (c ∷ cells) zero lt h e = rw e refl
find_first test (c ∷ cells) (suc i) lt h e =
    let first : test c ≡ false = h 0 (omega arith) in
    rw first (find_first test cells i (omega (arith, lt)) (λ k less. h (suc k) (omega (arith, less))) e)

-- the two sides of a filled table that has both borders
record Borders (shares : List FieldShares) (mu_ppm lambda_ppm : ℕ) (cells : List RuleCell) (i j : ℕ) : Type 0 where
  pub links : LinksEndAt cells i
  pub nonlinks : NonlinksStartAt cells j
  pub mu : asked_of shares mu_ppm ≤ (mu_of cells + (cell_at cells i).u) * 1000000
  pub lambda : asked_of shares lambda_ppm ≤ (lambda_of cells + (cell_at cells j).m) * 1000000
  pub slack_m : slack_m_of cells ≡ (cell_at cells i).m + (cell_at cells j).m
  pub slack_u : slack_u_of cells ≡ (cell_at cells i).u + (cell_at cells j).u

both : (shares : List FieldShares) (mu_ppm lambda_ppm : ℕ) (cells : List RuleCell) (i q : ℕ) → IsFilled shares mu_ppm lambda_ppm cells → IsBorder (λ (c : RuleCell). c.link) (λ (c : RuleCell). 65536) (λ (c : RuleCell). c.u) (asked_of shares mu_ppm) cells i → IsBorder (λ (c : RuleCell). c.nonlink) (λ (c : RuleCell). 65536 - c.link) (λ (c : RuleCell). c.m) (asked_of shares lambda_ppm) (reverse cells) q → Borders shares mu_ppm lambda_ppm cells i (length cells - 1 - q)
both shares mu_ppm lambda_ppm cells i q filled b n =
    let pos = positive_cells shares cells filled.patterns in
    let is_cell : All IsCell cells = λ k d lt. record { shares = filled.rule k d lt; m_pos = (pos k d lt).0; u_pos = (pos k d lt).1 } in
    let size : length (reverse cells) ≡ length cells = length-reverse cells in
    let q_in : q < length cells = omega (arith, n.in_table, size) in
    let i_in : i < length cells = b.in_table in
    let j = length cells - 1 - q in
    let there : get_or (reverse cells) q empty_cell ≡ cell_at cells j = get_or-reverse cells q empty_cell q_in in
    let less = rw there at (n.less empty_cell) in
    let places : i ≤ j = elim (cases_lt j i) [
      | inl lt ↦ absurd (omega (arith, less, b.earlier j empty_cell lt))
      | inr le ↦ le
    ] in
    let level : level_of (λ (c : RuleCell). c.m) (λ (c : RuleCell). c.nonlink) (reverse cells) ≡ lambda_of cells = sum_by-IsPermutation (λ (c : RuleCell). c.m * c.nonlink) cells (reverse cells) (IsPermutation-reverse cells) in
    let more = rw (there, level) at (n.one_more empty_cell) in
    let link : link_border_of cells ≡ Some (cell_at cells i) = find_first (λ c. ltb c.link 65536) cells i i_in (λ k lt. le-ltb _ _ (omega (arith, b.earlier k empty_cell lt))) (lt-ltb _ _ (b.less empty_cell)) in
    let nonlink : nonlink_border_of cells ≡ Some (cell_at cells j) = find_first (λ c. ltb (c.link + c.nonlink) 65536) (reverse cells) q n.in_table (λ k lt. le-ltb _ _ (omega (arith, n.earlier k empty_cell lt))) (lt-ltb _ _ (omega (arith, n.less empty_cell))) ∙ ap Some there in
    record {
      links = record { in_order = filled.in_order; shares = is_cell; in_table = i_in; before = λ k lt. b.earlier k empty_cell lt; after = λ k lt in_table. b.later k empty_cell lt in_table };
      nonlinks = record {
        in_order = filled.in_order;
        shares = is_cell;
        in_table = omega arith;
        before = λ k lt. rw (turned cells k empty_cell (omega arith)) at (n.later (length cells - 1 - k) empty_cell (omega arith) (omega (arith, size)));
        after = λ k lt in_table. let full = rw (turned cells k empty_cell in_table) at (n.earlier (length cells - 1 - k) empty_cell (omega arith)) in
            omega (arith, full, b.later k empty_cell (omega arith) in_table);
      };
      mu = omega (arith, b.one_more empty_cell);
      lambda = omega (arith, more);
      slack_m = omega (arith, ap border_m link, ap border_m nonlink);
      slack_u = omega (arith, ap border_u link, ap border_u nonlink);
    }

borders : (shares : List FieldShares) (mu_ppm lambda_ppm : ℕ) (cells : List RuleCell) → IsFilled shares mu_ppm lambda_ppm cells → All (λ c. possible_of c ≡ 0) cells ⊎ ((i : ℕ) × (j : ℕ) × Borders shares mu_ppm lambda_ppm cells i j)
borders shares mu_ppm lambda_ppm cells filled =
    elim filled.links.ends [
      | inl all ↦ inl (λ k d lt. omega (arith, all k d lt))
      | inr v ↦ elim filled.nonlinks.ends [
        | inl all ↦ inl (λ k d lt. let full = rw (turned cells k d lt) at (all (length cells - 1 - k) d (omega (arith, lt, length-reverse cells))) in omega (arith, full))
        | inr w ↦ inr (v.0, length cells - 1 - w.0, both shares mu_ppm lambda_ppm cells v.0 w.0 filled v.1 w.1)
      ]
    ]

-- a level of another rule, against a level that one unit more passes
within : (level total ppm d limit : ℕ) → level * 1000000 ≤ ppm * total * d → ppm * total * 65536 ≤ limit * 1000000 → 65536 * level ≤ d * limit
within level total ppm d limit h k =
    let scaled : d * (ppm * total * 65536) ≤ d * (limit * 1000000) = mul-le-mul_left d k in
    let whole : 65536 * level * 1000000 ≤ d * limit * 1000000 = omega arith in
    le_of_mul-le-mul_right whole (omega arith)

pub near : (shares : List FieldShares) (mu_ppm lambda_ppm : ℕ) (cells : List RuleCell) → IsFilled shares mu_ppm lambda_ppm cells → (d : ℕ) (r : Rule) → IsWithinAsked shares mu_ppm lambda_ppm d r
    → (d * possible_m_of cells ≤ 65536 * sum_over shares (λ p. m_of shares p) r.possible + d * slack_m_of cells) × (d * possible_u_of cells ≤ 65536 * sum_over shares (λ p. u_of shares p) r.possible + d * slack_u_of cells)
near shares mu_ppm lambda_ppm cells filled d r h =
    elim (borders shares mu_ppm lambda_ppm cells filled) [
      | inl none ↦ (omega (arith, ap (λ n. d * n) (no_sum (λ c. c.m) possible_of cells none)), omega (arith, ap (λ n. d * n) (no_sum (λ c. c.u) possible_of cells none)))
      | inr w ↦
          let b = w.2 in
          let over = over_patterns shares cells filled.patterns in
          let mu : 65536 * rule_mu r cells ≤ d * (mu_of cells + 1 * (cell_at cells w.0).u) = omega (arith, over (λ ch. ch.u * r.link ch.pattern), within _ (1024 ^ length shares) mu_ppm d _ h.mu b.mu) in
          let lambda : 65536 * rule_lambda r cells ≤ d * (lambda_of cells + 1 * (cell_at cells w.1).m) = omega (arith, over (λ ch. ch.m * r.nonlink ch.pattern), within _ (1024 ^ length shares) lambda_ppm d _ h.lambda b.lambda) in
          let rules = rule_over shares cells d r filled.patterns h.is_rule in
          let bound_m = possible_bound_m cells w.0 w.1 1 1 d r b.links b.nonlinks rules mu lambda in
          let bound_u = possible_bound_u cells w.0 w.1 1 1 d r b.links b.nonlinks rules mu lambda in (
            rw (← over (λ ch. ch.m * r.possible ch.pattern)) (omega (arith, bound_m, ap (λ n. d * n) b.slack_m)),
            rw (← over (λ ch. ch.u * r.possible ch.pattern)) (omega (arith, bound_u, ap (λ n. d * n) b.slack_u)),
          )
    ]

-- A higher asked level of links leaves no more possible links.

-- with more room, a cell of no higher bound keeps back no more
record Kept (s t b c w room more : ℕ) : Type 0 where
  pub back : c - t ≤ b - s
  pub rooms : room_after s b w room ≤ room_after t c w more

kept : (s t b c w room more : ℕ) → 0 < w → c ≤ b → room ≤ more → s ≡ min b (room / w) → t ≡ min c (more / w) → Kept s t b c w room more
kept s t b c w room more pos cb rm es et =
    let quotients : room / w ≤ more / w = (le-div_iff_mul-le pos).1 (omega (arith, rm, div-mul-le_self room w)) in
    let fits : w * s ≤ room = taken_fits s b w room pos es in
    elim (cases_lt s b) [
      | inl less ↦ record {
        back = elim (cases_lt t c) [ inl under ↦ omega (arith, es, et, quotients) | inr full ↦ omega arith ];
        rooms = omega (arith, room_after_less s b w room less);
      }
      | inr ge ↦
          let full : s ≡ b = omega (arith, taken_bound s b w room es) in
          let all : t ≡ c = omega (arith, es, et, quotients, full) in
          let scaled : w * c ≤ w * b = mul-le-mul_left w cb in
          record {
            back = omega arith;
            rooms = omega (arith, room_after_full s b w room full, room_after_full t c w more all, scaled, ap (λ n. w * n) full, ap (λ n. w * n) all);
          }
    ]

-- the same along two walks
walks : (share bound weight : RuleCell → ℕ) (xs ys : List RuleCell) (room more : ℕ) → AllByRecursion (λ c. 0 < weight c) xs → map weight xs ≡ map weight ys → AllZip (λ x y. bound y ≤ bound x) xs ys → room ≤ more → CutBy share bound weight xs room → CutBy share bound weight ys more → AllZip (λ x y. bound y - share y ≤ bound x - share x) xs ys
walks share bound weight [] [] room more pos ws bs le h k = tt
walks share bound weight [] (y ∷ ys) room more pos ws bs le h k = cc
walks share bound weight (x ∷ xs) [] room more pos ws bs le h k = cc
walks share bound weight (x ∷ xs) (y ∷ ys) room more pos ws bs le h k =
    let ew : weight x ≡ weight y = cc in
    let rest : map weight xs ≡ map weight ys = cc in
    let first : share y ≡ min (bound y) (more / weight x) = rw ew k.0 in
    let next : CutBy share bound weight ys (room_after (share y) (bound y) (weight x) more) = rw ew k.1 in
    let w = kept (share x) (share y) (bound x) (bound y) (weight x) room more pos.0 bs.0 le h.0 first in
    (w.back, walks share bound weight xs ys _ _ pos.1 rest bs.1 w.rooms h.1 next)

zip_from_index : (R : RuleCell → RuleCell → Type 0) (xs ys : List RuleCell) → length xs ≡ length ys → ((k : ℕ) → k < length xs → R (get_or xs k empty_cell) (get_or ys k empty_cell)) → AllZip R xs ys
zip_from_index R [] [] e h = tt
zip_from_index R [] (y ∷ ys) e h = absurd (omega (arith, e))
zip_from_index R (x ∷ xs) [] e h = absurd (omega (arith, e))
zip_from_index R (x ∷ xs) (y ∷ ys) e h = (h 0 (omega arith), zip_from_index R xs ys (omega (arith, e)) (λ k lt. h (suc k) (omega (arith, lt))))

asked_more : (total a b : ℕ) → a ≤ b → a * total * 65536 / 1000000 ≤ b * total * 65536 / 1000000
asked_more total a b le =
    let scaled : a * total ≤ b * total = mul-le-mul_right total le in
    omega arith

pub possible_falls : (shares : List FieldShares) (mu_ppm more_ppm lambda_ppm : ℕ) (xs ys : List RuleCell) → mu_ppm ≤ more_ppm → IsFilled shares mu_ppm lambda_ppm xs → IsFilled shares more_ppm lambda_ppm ys → (k : ℕ) (d : RuleCell) → k < length xs → possible_of (get_or ys k d) ≤ possible_of (get_or xs k d)
possible_falls shares mu_ppm more_ppm lambda_ppm xs ys le fx fy k d lt =
    let chances = same_chances shares xs ys fx.patterns fy.patterns fx.in_order fy.in_order in
    let pos_x = positive_cells shares xs fx.patterns in
    let pos_y = positive_cells shares ys fy.patterns in
    let size : length xs ≡ length ys = same_length chances_of xs ys chances in
    let rx : length (reverse xs) ≡ length xs = length-reverse xs in
    let ry : length (reverse ys) ≡ length ys = length-reverse ys in
    let u_x = recursion_from_All (λ (c : RuleCell). 0 < c.u) xs (λ i d lt. (pos_x i d lt).1) in
    let u_y = recursion_from_All (λ (c : RuleCell). 0 < c.u) ys (λ i d lt. (pos_y i d lt).1) in
    let m_x = recursion_from_All (λ (c : RuleCell). 0 < c.m) (reverse xs) (All-permutation (λ (c : RuleCell). 0 < c.m) xs (reverse xs) (IsPermutation-reverse xs) (λ i d lt. (pos_x i d lt).0)) in
    let m_y = recursion_from_All (λ (c : RuleCell). 0 < c.m) (reverse ys) (All-permutation (λ (c : RuleCell). 0 < c.m) ys (reverse ys) (IsPermutation-reverse ys) (λ i d lt. (pos_y i d lt).0)) in
    let more : asked_of shares mu_ppm / 1000000 ≤ asked_of shares more_ppm / 1000000 = asked_more (1024 ^ length shares) mu_ppm more_ppm le in
    let links = walks (λ (c : RuleCell). c.link) (λ (c : RuleCell). 65536) (λ (c : RuleCell). c.u) xs ys _ _ u_x (same_by_map chances_of (λ ch. ch.u) xs ys chances) (zip_from_index (λ x y. 65536 ≤ 65536) xs ys size (λ k lt. omega arith)) more
    (walk_from_IsCut _ _ _ (asked_of shares mu_ppm) xs u_x fx.links) (walk_from_IsCut _ _ _ (asked_of shares more_ppm) ys u_y fy.links) in
    let link_at : (k : ℕ) (d : RuleCell) → k < length xs → 65536 - (get_or ys k d).link ≤ 65536 - (get_or xs k d).link = λ k d lt. AllZip-get_or _ xs ys k d d links lt in
    let bounds : AllZip (λ (x : RuleCell) (y : RuleCell). 65536 - y.link ≤ 65536 - x.link) (reverse xs) (reverse ys) =
    zip_from_index (λ x y. 65536 - y.link ≤ 65536 - x.link) (reverse xs) (reverse ys) (omega (arith, rx, ry, size))
    (λ k lt. let there : k < length xs = omega (arith, lt, rx) in
    rw (get_or-reverse xs k empty_cell there, get_or-reverse ys k empty_cell (omega (arith, there, size)), ← size) (link_at (length xs - 1 - k) empty_cell (omega arith))) in
    let nonlinks = walks (λ (c : RuleCell). c.nonlink) (λ (c : RuleCell). 65536 - c.link) (λ (c : RuleCell). c.m) (reverse xs) (reverse ys) _ _ m_x (map_turned _ xs ys (same_by_map chances_of (λ ch. ch.m) xs ys chances)) bounds (omega arith)
    (walk_from_IsCut _ _ _ (asked_of shares lambda_ppm) (reverse xs) m_x fx.nonlinks) (walk_from_IsCut _ _ _ (asked_of shares lambda_ppm) (reverse ys) m_y fy.nonlinks) in
    let at = AllZip-get_or _ (reverse xs) (reverse ys) (length xs - 1 - k) d d nonlinks (omega (arith, lt, rx)) in
    let there : k < length ys = omega (arith, lt, size) in
    let turned_y : get_or (reverse ys) (length xs - 1 - k) d ≡ get_or ys k d = ap (λ n. get_or (reverse ys) (n - 1 - k) d) size ∙ turned ys k d there in
    rw (turned xs k d lt, turned_y) at at

falling_total : (weight : RuleCell → ℕ) (xs ys : List RuleCell) → map weight xs ≡ map weight ys → AllZip (λ x y. possible_of y ≤ possible_of x) xs ys → total (λ c. weight c * possible_of c) ys ≤ total (λ c. weight c * possible_of c) xs
falling_total weight [] [] e h = omega arith
falling_total weight [] (y ∷ ys) e h = absurd h
falling_total weight (x ∷ xs) [] e h = absurd h
falling_total weight (x ∷ xs) (y ∷ ys) e h =
    let ew : weight x ≡ weight y = cc in
    let rest : map weight xs ≡ map weight ys = cc in
    let scaled : weight x * possible_of y ≤ weight x * possible_of x = mul-le-mul_left (weight x) h.0 in
    omega (arith, scaled, ap (λ n. n * possible_of y) ew, falling_total weight xs ys rest h.1)

-- the two chances of a possible link fall
pub sums_fall : (shares : List FieldShares) (mu_ppm more_ppm lambda_ppm : ℕ) (xs ys : List RuleCell) → mu_ppm ≤ more_ppm → IsFilled shares mu_ppm lambda_ppm xs → IsFilled shares more_ppm lambda_ppm ys → (possible_m_of ys ≤ possible_m_of xs) × (possible_u_of ys ≤ possible_u_of xs)
sums_fall shares mu_ppm more_ppm lambda_ppm xs ys le fx fy =
    let chances = same_chances shares xs ys fx.patterns fy.patterns fx.in_order fy.in_order in
    let size : length xs ≡ length ys = same_length chances_of xs ys chances in
    let falls = zip_from_index (λ x y. possible_of y ≤ possible_of x) xs ys size (λ k lt. possible_falls shares mu_ppm more_ppm lambda_ppm xs ys le fx fy k empty_cell lt) in
    let ms = falling_total (λ c. c.m) xs ys (same_by_map chances_of (λ ch. ch.m) xs ys chances) falls in
    let us = falling_total (λ c. c.u) xs ys (same_by_map chances_of (λ ch. ch.u) xs ys chances) falls in (
      rw (total-sum_by (λ c. c.m * possible_of c) xs, total-sum_by (λ c. c.m * possible_of c) ys) ms,
      rw (total-sum_by (λ c. c.u * possible_of c) xs, total-sum_by (λ c. c.u * possible_of c) ys) us,
    )

-- The rows of the frontier.

-- the chances of the cells are at most the whole
abbrev pub IsSmall : RuleCell → Type 0
IsSmall c = (c.m ≤ 2 ^ 60) × (c.u ≤ 2 ^ 60)

pub small_cells : (shares : List FieldShares) (mu_ppm lambda_ppm : ℕ) (cells : List RuleCell) → length shares ≤ 6 → IsFilled shares mu_ppm lambda_ppm cells → All IsSmall cells
small_cells shares mu_ppm lambda_ppm cells few filled =
    let whole : 1024 ^ length shares ≤ 1024 ^ 6 = pow-le-pow_right (omega arith) few in
    cells_hold (λ ch. (ch.m ≤ 2 ^ 60) × (ch.u ≤ 2 ^ 60)) shares cells filled.patterns (λ k lt. (omega (arith, whole, m_of_small shares k lt), omega (arith, whole, u_of_small shares k lt)))

found_small : (test : RuleCell → Bool) (cells : List RuleCell) → AllByRecursion IsSmall cells → (border_m (find test cells) ≤ 2 ^ 60) × (border_u (find test cells) ≤ 2 ^ 60)
found_small test [] h = (omega arith, omega arith)
found_small test (c ∷ cells) h =
    elim (cases_Bool (test c)) [
      | inl yes_here ↦ rw yes_here h.0
      | inr not_here ↦ rw not_here (found_small test cells h.1)
    ]

-- the slack is small
pub slack_small : (shares : List FieldShares) (mu_ppm lambda_ppm : ℕ) (cells : List RuleCell) → length shares ≤ 6 → IsFilled shares mu_ppm lambda_ppm cells → (slack_m_of cells ≤ 2 ^ 61) × (slack_u_of cells ≤ 2 ^ 61)
slack_small shares mu_ppm lambda_ppm cells few filled =
    let small = small_cells shares mu_ppm lambda_ppm cells few filled in
    let turned : All IsSmall (reverse cells) = All-permutation IsSmall cells (reverse cells) (IsPermutation-reverse cells) small in
    let link = found_small (λ c. ltb c.link 65536) cells (recursion_from_All IsSmall cells small) in
    let nonlink = found_small (λ c. ltb (c.link + c.nonlink) 65536) (reverse cells) (recursion_from_All IsSmall (reverse cells) turned) in
    (omega (arith, link.0, nonlink.0), omega (arith, link.1, nonlink.1))

pub rows_fall : (shares : List FieldShares) (mu_ppm more_ppm lambda_ppm : ℕ) (x y : FrontierRow) → mu_ppm ≤ more_ppm → IsFrontierRow shares mu_ppm lambda_ppm x → IsFrontierRow shares more_ppm lambda_ppm y → FallsTo x y
rows_fall shares mu_ppm more_ppm lambda_ppm x y le hx hy =
    let falls = sums_fall shares mu_ppm more_ppm lambda_ppm hx.0 hy.0 le hx.1 hy.1 in
    record {
      matched = omega (arith, falls.0, hx.2.levels.possible_m, hy.2.levels.possible_m);
      unmatched = omega (arith, falls.1, hx.2.levels.possible_u, hy.2.levels.possible_u);
    }

pub row_near : (shares : List FieldShares) (mu_ppm lambda_ppm : ℕ) (row : FrontierRow) → IsFrontierRow shares mu_ppm lambda_ppm row → IsNearLeast shares mu_ppm lambda_ppm row
row_near shares mu_ppm lambda_ppm row h = record {
  matched = λ d r w. rw (h.2.levels.possible_m, h.2.slack_m) (near shares mu_ppm lambda_ppm h.0 h.1 d r w).0;
  unmatched = λ d r w. rw (h.2.levels.possible_u, h.2.slack_u) (near shares mu_ppm lambda_ppm h.0 h.1 d r w).1;
}

-- one row more
pub row_step : (shares : List FieldShares) (lambda_ppm : ℕ) (mus : List ℕ) (rows : List FrontierRow) (i : ℕ) (row : FrontierRow) → i < length rows
    → ((k : ℕ) (d : FrontierRow) → k < i → IsFrontierRow shares (get_or mus k 0) lambda_ppm (get_or rows k d)) → IsFrontierRow shares (get_or mus i 0) lambda_ppm row
    → (k : ℕ) (d : FrontierRow) → k < i + 1 → IsFrontierRow shares (get_or mus k 0) lambda_ppm (get_or (set rows i row) k d)
row_step shares lambda_ppm mus rows i row lt before here k d le =
    elim (cases_eq k i) [
      | inl e ↦ rw (e, get_or-set_same rows i row d lt) here
      | inr n ↦ rw (get_or-set_other rows i k row d n) (before k d (omega (arith, n, le)))
    ]
