-- Laws of the exchange: of two ways to give shares in the order of m over u, the one that gives from the front takes more of the matched pairs
-- for the same unmatched ones (Fellegi and Sunter 1969, section 2), and what that leaves to a possible link.
use Rattle.std.proofs.Common.{◌≡◌, ℕ, ◌+◌, ◌-◌, ◌*◌, ◌<◌, ◌≤◌, ◌⊎◌, List, [], ◌∷◌, refl, ap, arith, inl, inr, length, subst}
use Rattle.std.proofs.Math.Nat.{mul-le-mul_left, le_of_mul-le-mul_left}
use Rattle.std.specs.List.{sum_by, All, AllByRecursion}
use Rattle.std.proofs.lemmas.List.Sums.{sum_by-cons}
use Rattle.std.proofs.lemmas.List.Elements.{recursion_from_All, All-from_get_or, All-weaker}
use Rattle.std.proofs.lemmas.Bool.{cases_order, cases_lt}
use Rattle.decision_rule.specs.Exchange.{IsCutForm, IsCell, LinksEndAt, NonlinksStartAt, cell_at, matched_links_of, rule_matched_links, unmatched_nonlinks_of, rule_unmatched_nonlinks}
use Rattle.link_base.specs.Words.{empty_cell}
use Rattle.decision_rule.specs.Rule.{Rule, IsRuleOver, possible_of, mu_of, lambda_of, possible_m_of, possible_u_of, rule_mu, rule_lambda, rule_possible_m, rule_possible_u, RanksBefore}
use Rattle.link_base.specs.declared.rule.RuleCell.{RuleCell}

-- a sum by recursion
abbrev pub total : {X : Type 0} → (X → ℕ) → List X → ℕ
total f [] = 0
total f (x ∷ xs) = f x + total f xs

pub total-sum_by : {X : Type 0} (f : X → ℕ) (xs : List X) → sum_by f xs ≡ total f xs
total-sum_by f [] = refl
total-sum_by f (x ∷ xs) = rw (sum_by-cons f x xs) (omega (arith, total-sum_by f xs))

-- two rows in order, times two columns in order
rearranged_parts : (p q v w : ℕ) → (p + q) * v + p * (v + w) ≤ p * v + (p + q) * (v + w)
rearranged_parts p q v w = omega arith

pub rearranged : (p q v w : ℕ) → p ≤ q → v ≤ w → q * v + p * w ≤ p * v + q * w
rearranged p q v w h k =
    let eq : q ≡ p + (q - p) = omega arith in
    let ew : w ≡ v + (w - v) = omega arith in
    let r = rearranged_parts p (q - p) v (w - v) in
    rw (← eq, ← ew) at r

-- the share x of one rule, in s-ths, against the share y of another, in d-ths, at a cell of chances a and b
abbrev pub Favours : (s d a b x y ak bk : ℕ) → Type 0
Favours s d a b x y ak bk = ((s * x ≤ d * y) × (b * ak ≤ a * bk)) ⊎ ((d * y ≤ s * x) × (a * bk ≤ b * ak))

exchange_cell : (s d a b x y ak bk : ℕ) → Favours s d a b x y ak bk → bk * (s * (a * x)) + ak * (d * (b * y)) ≤ ak * (s * (b * x)) + bk * (d * (a * y))
exchange_cell s d a b x y ak bk h =
    elim h [
      | inl w ↦ omega (arith, rearranged (b * ak) (a * bk) (s * x) (d * y) w.1 w.0)
      | inr w ↦ omega (arith, rearranged (a * bk) (b * ak) (d * y) (s * x) w.1 w.0)
    ]

exchange_total : {X : Type 0} (s d ak bk : ℕ) (a b x y : X → ℕ) (cells : List X) → AllByRecursion (λ c. Favours s d (a c) (b c) (x c) (y c) ak bk) cells → bk * (s * total (λ c. a c * x c) cells) + ak * (d * total (λ c. b c * y c) cells) ≤ ak * (s * total (λ c. b c * x c) cells) + bk * (d * total (λ c. a c * y c) cells)
exchange_total s d ak bk a b x y [] h = omega arith
exchange_total s d ak bk a b x y (c ∷ cs) h =
    omega (arith, exchange_cell s d (a c) (b c) (x c) (y c) ak bk h.0, exchange_total s d ak bk a b x y cs h.1)

-- where the one rule takes t units of the border more of b, it takes at most t units of the border more of a
pub exchange_bound : {X : Type 0} (s d ak bk t : ℕ) (a b x y : X → ℕ) (cells : List X) → All (λ c. Favours s d (a c) (b c) (x c) (y c) ak bk) cells → 0 < bk → s * sum_by (λ c. b c * x c) cells ≤ d * (sum_by (λ c. b c * y c) cells + t * bk) → s * sum_by (λ c. a c * x c) cells ≤ d * (sum_by (λ c. a c * y c) cells + t * ak)
exchange_bound s d ak bk t a b x y cells h pos_bk le =
    let ax = sum_by (λ c. a c * x c) cells in
    let by = sum_by (λ c. b c * y c) cells in
    let bx = sum_by (λ c. b c * x c) cells in
    let ay = sum_by (λ c. a c * y c) cells in
    let parts : bk * (s * ax) + ak * (d * by) ≤ ak * (s * bx) + bk * (d * ay) =
    rw (total-sum_by (λ c. a c * x c) cells, total-sum_by (λ c. b c * y c) cells, total-sum_by (λ c. b c * x c) cells, total-sum_by (λ c. a c * y c) cells)
    (exchange_total s d ak bk a b x y cells (recursion_from_All _ cells h)) in
    let scaled : ak * (s * bx) ≤ ak * (d * (by + t * bk)) = mul-le-mul_left ak le in
    let whole : bk * (s * ax) ≤ bk * (d * (ay + t * ak)) = omega arith in
    le_of_mul-le-mul_left whole pos_bk

split_total : {X : Type 0} (k : ℕ) (a f g h : X → ℕ) (cells : List X) → AllByRecursion (λ c. f c + g c + h c ≡ k) cells → total (λ c. a c * f c) cells + total (λ c. a c * g c) cells + total (λ c. a c * h c) cells ≡ k * total a cells
split_total k a f g h [] e = omega arith
split_total k a f g h (c ∷ cs) e =
    omega (arith, ap (λ n. a c * n) e.0, split_total k a f g h cs e.1)

-- three shares of sum k
pub split_sum : {X : Type 0} (k : ℕ) (a f g h : X → ℕ) (cells : List X) → All (λ c. f c + g c + h c ≡ k) cells → sum_by (λ c. a c * f c) cells + sum_by (λ c. a c * g c) cells + sum_by (λ c. a c * h c) cells ≡ k * sum_by a cells
split_sum k a f g h cells e =
    rw (total-sum_by (λ c. a c * f c) cells, total-sum_by (λ c. a c * g c) cells, total-sum_by (λ c. a c * h c) cells, total-sum_by a cells)
    (split_total k a f g h cells (recursion_from_All _ cells e))

-- what two shares do not take more, the third does not take less
pub third_share : (s d a lx px nx ly py ny t : ℕ) → lx + px + nx ≡ d * a → ly + py + ny ≡ s * a → s * lx + s * nx ≤ d * (ly + ny + t) → d * py ≤ s * px + d * t
third_share s d a lx px nx ly py ny t e f h =
    omega (arith, ap (λ n. s * n) e, ap (λ n. d * n) f)

crossed : (c d : RuleCell) → RanksBefore c d → d.m * c.u ≤ c.m * d.u
crossed c d h = elim h [ inl w ↦ omega (arith, w) | inr w ↦ omega (arith, w.0) ]

all_of : (d s x y : ℕ) → y ≡ s → x ≤ d → s * x ≤ d * y
all_of d s x y e h = rw e (omega (arith, mul-le-mul_left s h))

none_of : (d s x y : ℕ) → y ≡ 0 → d * y ≤ s * x
none_of d s x y e = rw e (omega arith)

at_border : (s d a b x y : ℕ) → Favours s d a b x y a b
at_border s d a b x y =
    elim (cases_lt (s * x) (d * y)) [ inl w ↦ inl (omega (arith, w), omega arith) | inr w ↦ inr (w, omega arith) ]

link_at_most : (d : ℕ) (r : Rule) (cells : List RuleCell) (k : ℕ) → IsRuleOver d cells r → k < length cells → (r.link (cell_at cells k).pattern ≤ d) × (r.nonlink (cell_at cells k).pattern ≤ d)
link_at_most d r cells k h lt = (omega (arith, h k empty_cell lt), omega (arith, h k empty_cell lt))

-- the share x of a rule against the share y of the table, at a cell and the border
abbrev LinkFavours : ℕ → Rule → RuleCell → RuleCell → Type 0
LinkFavours d r border c = Favours 65536 d c.m c.u (r.link c.pattern) c.link border.m border.u

abbrev NonlinkFavours : ℕ → Rule → RuleCell → RuleCell → Type 0
NonlinkFavours d r border c = Favours 65536 d c.u c.m (r.nonlink c.pattern) c.nonlink border.u border.m

link_favours : (cells : List RuleCell) (i : ℕ) → LinksEndAt cells i → (d : ℕ) (r : Rule) → IsRuleOver d cells r → All (LinkFavours d r (cell_at cells i)) cells
link_favours cells i h d r is_rule =
    All-from_get_or (LinkFavours d r (cell_at cells i)) cells empty_cell
    (λ k lt. let c = cell_at cells k in
    let b = cell_at cells i in
    elim (cases_order k i) [
      | inl e ↦ subst (λ (n : ℕ). LinkFavours d r (cell_at cells n) c) e (at_border 65536 d c.m c.u (r.link c.pattern) c.link)
      | inr w ↦ elim w [
        | inl v ↦ inl (all_of d 65536 (r.link c.pattern) c.link (h.before k v) (link_at_most d r cells k is_rule lt).0, omega (arith, crossed c b (h.in_order k i empty_cell v h.in_table)))
        | inr v ↦ inr (none_of d 65536 (r.link c.pattern) c.link (h.after k v lt), omega (arith, crossed b c (h.in_order i k empty_cell v lt)))
      ]
    ])

nonlink_favours : (cells : List RuleCell) (j : ℕ) → NonlinksStartAt cells j → (d : ℕ) (r : Rule) → IsRuleOver d cells r → All (NonlinkFavours d r (cell_at cells j)) cells
nonlink_favours cells j h d r is_rule =
    All-from_get_or (NonlinkFavours d r (cell_at cells j)) cells empty_cell
    (λ k lt. let c = cell_at cells k in
    let b = cell_at cells j in
    elim (cases_order k j) [
      | inl e ↦ subst (λ (n : ℕ). NonlinkFavours d r (cell_at cells n) c) e (at_border 65536 d c.u c.m (r.nonlink c.pattern) c.nonlink)
      | inr w ↦ elim w [
        | inl v ↦ inr (none_of d 65536 (r.nonlink c.pattern) c.nonlink (h.before k v), omega (arith, crossed c b (h.in_order k j empty_cell v h.in_table)))
        | inr v ↦ inl (all_of d 65536 (r.nonlink c.pattern) c.nonlink (h.after k v lt) (link_at_most d r cells k is_rule lt).1, omega (arith, crossed b c (h.in_order j k empty_cell v lt)))
      ]
    ])

-- a rule of at most t units of the border more in its level takes at most t units of the border more of links from M
pub matched_links : (cells : List RuleCell) (i t d : ℕ) (r : Rule) → LinksEndAt cells i → IsRuleOver d cells r → 65536 * rule_mu r cells ≤ d * (mu_of cells + t * (cell_at cells i).u) → 65536 * rule_matched_links r cells ≤ d * (matched_links_of cells + t * (cell_at cells i).m)
matched_links cells i t d r h is_rule le =
    let b = cell_at cells i in
    exchange_bound 65536 d b.m b.u t (λ c. c.m) (λ c. c.u) (λ c. r.link c.pattern) (λ c. c.link) cells (link_favours cells i h d r is_rule) (h.shares i empty_cell h.in_table).u_pos le

pub unmatched_nonlinks : (cells : List RuleCell) (j t d : ℕ) (r : Rule) → NonlinksStartAt cells j → IsRuleOver d cells r → 65536 * rule_lambda r cells ≤ d * (lambda_of cells + t * (cell_at cells j).m) → 65536 * rule_unmatched_nonlinks r cells ≤ d * (unmatched_nonlinks_of cells + t * (cell_at cells j).u)
unmatched_nonlinks cells j t d r h is_rule le =
    let b = cell_at cells j in
    exchange_bound 65536 d b.u b.m t (λ c. c.u) (λ c. c.m) (λ c. r.nonlink c.pattern) (λ c. c.nonlink) cells (nonlink_favours cells j h d r is_rule) (h.shares j empty_cell h.in_table).m_pos le

shares_add_up : (c : RuleCell) → IsCell c → c.link + possible_of c + c.nonlink ≡ 65536
shares_add_up c h = omega (arith, h.shares)

-- with s units of the link border and t of the nonlink border to spare
pub possible_bound_m : (cells : List RuleCell) (i j s t d : ℕ) (r : Rule) → LinksEndAt cells i → NonlinksStartAt cells j → IsRuleOver d cells r → 65536 * rule_mu r cells ≤ d * (mu_of cells + s * (cell_at cells i).u) → 65536 * rule_lambda r cells ≤ d * (lambda_of cells + t * (cell_at cells j).m) → d * possible_m_of cells ≤ 65536 * rule_possible_m r cells + d * (s * (cell_at cells i).m + t * (cell_at cells j).m)
possible_bound_m cells i j s t d r hi hj is_rule mu lambda =
    third_share 65536 d (sum_by (λ c. c.m) cells) _ _ _ _ _ _ _
    (split_sum d (λ c. c.m) (λ c. r.link c.pattern) (λ c. r.possible c.pattern) (λ c. r.nonlink c.pattern) cells is_rule)
    (split_sum 65536 (λ c. c.m) (λ c. c.link) possible_of (λ c. c.nonlink) cells (All-weaker IsCell _ shares_add_up cells hi.shares))
    (omega (arith, matched_links cells i s d r hi is_rule mu, lambda))

pub possible_bound_u : (cells : List RuleCell) (i j s t d : ℕ) (r : Rule) → LinksEndAt cells i → NonlinksStartAt cells j → IsRuleOver d cells r → 65536 * rule_mu r cells ≤ d * (mu_of cells + s * (cell_at cells i).u) → 65536 * rule_lambda r cells ≤ d * (lambda_of cells + t * (cell_at cells j).m) → d * possible_u_of cells ≤ 65536 * rule_possible_u r cells + d * (s * (cell_at cells i).u + t * (cell_at cells j).u)
possible_bound_u cells i j s t d r hi hj is_rule mu lambda =
    third_share 65536 d (sum_by (λ c. c.u) cells) _ _ _ _ _ _ _
    (split_sum d (λ c. c.u) (λ c. r.link c.pattern) (λ c. r.possible c.pattern) (λ c. r.nonlink c.pattern) cells is_rule)
    (split_sum 65536 (λ c. c.u) (λ c. c.link) possible_of (λ c. c.nonlink) cells (All-weaker IsCell _ shares_add_up cells hi.shares))
    (omega (arith, unmatched_nonlinks cells j t d r hj is_rule lambda, mu))

-- the two sides of a table in cut form
pub LinksEndAt-from_cut_form : (cells : List RuleCell) (i j : ℕ) → IsCutForm cells i j → LinksEndAt cells i
LinksEndAt-from_cut_form cells i j h = record {
  in_order = h.in_order;
  shares = h.shares;
  in_table = omega (arith, h.places, h.in_table);
  before = λ k lt. h.before k empty_cell lt;
  after = λ k lt in_table. elim (cases_order k j) [
    | inl e ↦ let gap : i < j = omega (arith, e, lt) in rw e (h.nonlink_border empty_cell gap)
    | inr w ↦ elim w [
      | inl v ↦ h.between_link k empty_cell lt v
      | inr v ↦ omega (arith, (h.shares k empty_cell in_table).shares, h.after k empty_cell v in_table)
    ]
  ];
}

pub NonlinksStartAt-from_cut_form : (cells : List RuleCell) (i j : ℕ) → IsCutForm cells i j → NonlinksStartAt cells j
NonlinksStartAt-from_cut_form cells i j h = record {
  in_order = h.in_order;
  shares = h.shares;
  in_table = h.in_table;
  before = λ k lt. elim (cases_order k i) [
    | inl e ↦ let gap : i < j = omega (arith, e, lt) in rw e (h.link_border empty_cell gap)
    | inr w ↦ elim w [
      | inl v ↦ let in_table : k < length cells = omega (arith, lt, h.in_table) in omega (arith, (h.shares k empty_cell in_table).shares, h.before k empty_cell v)
      | inr v ↦ h.between_nonlink k empty_cell v lt
    ]
  ];
  after = λ k lt in_table. h.after k empty_cell lt in_table;
}
