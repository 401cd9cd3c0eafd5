-- Laws of the records that a search notes where it reaches them for the first time (`noted`), and of the room for them
-- (`HasRoomForRecords`). Both assigners cite them.
use Rattle.std.proofs.Common.{◌≡◌, ◌≢◌, ◌⊎◌, ℕ, ◌+◌, ◌<◌, List, [], ◌∷◌, ◌++◌, length, set, refl, ap, inl, inr, arith, All, Contains, vec_len, zero, suc, ◌≤◌, Bool, true, false, cond, get_or-set_other, get_or-set_same, get_or, sym, ◌-◌, Option, Some, None, MatchOption, ◌∙◌, IsNone}
use Rattle.std.proofs.lemmas.Bool.{cases_eq, eq-eqb, ne_eqb, cases_lt}
use Rattle.std.proofs.lemmas.List.{length_push, get_or_past}
use Rattle.std.proofs.lemmas.List.Elements.{All-push, Contains-append_left, Contains-push}
use Rattle.assignment_steps.specs.declared.reaching.Reached.{Reached}
use Rattle.assignment_steps.specs.Queue.{Queue}
use Rattle.assignment_steps.specs.Market.{distance, far, unreached, edge, link, number, AreLinked, AreStarts, AreTight}
use Rattle.assignment_steps.specs.Reached.{HasRoomForRecords, noted}
use Rattle.assignment_steps.specs.LinkLaws.{unreached-again, unreached-set}
use Rattle.std.proofs.lemmas.Bool.Decides.{nat_tests}
use Rattle.assignment_steps.specs.declared.market.Edge.{Edge}
use Rattle.assignment_steps.specs.Ways.{count_at, is_left, left, AreTurnedFrom, IsHop, Leads, LeadsFrom}
use Rattle.link_limits.specs.declared.TheConstants.{MOST_VALUE}
use Rattle.assignment_steps.specs.declared.market.Field.{Field}
use Rattle.assignment_steps.specs.Spread.{Spread, HasStopped, IsSearchable, IsSpread, StopsAt, edge_of, rank_above}
use Rattle.assignment_steps.specs.Between.{IsDone, IsPriced}

module _ (dist touched : List ℕ) (b : ℕ) where
  -- a record of B is noted, or was reached before
  noted_cases : ((distance dist b ≡ far) × (noted dist touched b ≡ touched ++ b ∷ [])) ⊎ ((distance dist b ≢ far) × (noted dist touched b ≡ touched))
  noted_cases = elim (cases_eq (distance dist b) far) [
    | inl e ↦ inl (e, rw (eq-eqb (distance dist b) far e) refl)
    | inr n ↦ inr (n, rw (ne_eqb (distance dist b) far n) refl)
  ]

  pub noted_stays : (x : ℕ) → Contains touched x → Contains (noted dist touched b) x
  noted_stays x h = elim noted_cases [ inl p ↦ rw p.1 (Contains-append_left touched (b ∷ []) x h) | inr p ↦ rw p.1 h ]

  pub noted_first : distance dist b ≡ far → Contains (noted dist touched b) b
  noted_first new = elim noted_cases [ inl p ↦ rw p.1 (Contains-push touched b) | inr p ↦ absurd (p.0 new) ]

  pub noted_in : (rows : ℕ) → All (λ x. x < rows) touched → b < rows → All (λ x. x < rows) (noted dist touched b)
  noted_in rows all lt = elim noted_cases [ inl p ↦ rw p.1 (All-push (λ x. x < rows) touched b all lt) | inr p ↦ rw p.1 all ]

  pub noted_count : (near : ℕ) → b < length dist → near < far → length (noted dist touched b) + unreached (set dist b near) ≡ length touched + unreached dist
  noted_count near lt close = elim noted_cases [
    | inl p ↦ omega (arith, ap length p.1, length_push touched b, unreached-set dist b near lt close p.0)
    | inr p ↦ omega (arith, ap length p.1, unreached-again dist b near lt close p.0)
  ]

-- room may be told of other numbers of records that are the same
pub room_at : (rows_a rows_b a b : ℕ) (r : Reached) → a ≡ rows_a → b ≡ rows_b → HasRoomForRecords rows_a rows_b r → HasRoomForRecords a b r
room_at rows_a rows_b a b r same_a same_b room = rw (same_a, same_b) room

pub room_own : (rows_a rows_b : ℕ) (r : Reached) → HasRoomForRecords rows_a rows_b r → HasRoomForRecords (vec_len r.dist_a) (vec_len r.dist_b) r
room_own rows_a rows_b r room = room_at rows_a rows_b (vec_len r.dist_a) (vec_len r.dist_b) r room.of_a room.of_b room

-- room for records is not that of the queue, and does not speak of ends
pub room_kept : (rows_a rows_b : ℕ) (r : Reached) (q : Queue) (current best best_record : ℕ) → HasRoomForRecords rows_a rows_b r → HasRoomForRecords rows_a rows_b (record r { frontier = q; current = current; best = best; best_record = best_record })
room_kept rows_a rows_b r q current best best_record room = record {
  few_a = room.few_a;
  few_b = room.few_b;
  of_a = room.of_a;
  of_rank = room.of_rank;
  of_b = room.of_b;
  of_from = room.of_from;
  touched = room.touched;
  touched_room = room.touched_room;
  top = room.top;
  records = room.records;
  records_room = room.records_room;
  top_a = room.top_a;
  records_in = room.records_in;
  touched_in = room.touched_in;
}

-- Laws of how many edges are not relaxed yet (`left`), by which a search ends. Both assigners cite them.

pub count_same : (t u : Edge → ℕ → Bool) (xs : List Edge) (i : ℕ) → ((k : ℕ) → k < length xs → t (edge xs k) (i + k) ≡ u (edge xs k) (i + k)) → count_at t xs i ≡ count_at u xs i
count_same t u [] i h = refl
count_same t u (x ∷ xs) i h =
    let here : t x i ≡ u x i = (let z : i + 0 ≡ i = omega arith in rw z at (h zero (omega arith))) in
    let rest = count_same t u xs (suc i) (λ k lt. (let z : i + suc k ≡ suc i + k = omega arith in rw z at (h (suc k) (omega arith)))) in
    rw (here, rest) refl

pub count_less : (t u : Edge → ℕ → Bool) (xs : List Edge) (i j : ℕ) → j < length xs → t (edge xs j) (i + j) ≡ true → u (edge xs j) (i + j) ≡ false → ((k : ℕ) → k < length xs → k ≢ j → t (edge xs k) (i + k) ≡ u (edge xs k) (i + k)) → count_at t xs i ≡ count_at u xs i + 1
count_less t u [] i j lt on off h = absurd (omega arith)
count_less t u (x ∷ xs) i zero lt on off h =
    let z : i + 0 ≡ i = omega arith in
    let y : t x i ≡ true = rw z at on in
    let n : u x i ≡ false = rw z at off in
    let rest = count_same t u xs (suc i) (λ k l. (let s : i + suc k ≡ suc i + k = omega arith in rw s at (h (suc k) (omega arith) (λ e. absurd (omega (arith, e)))))) in
    rw (y, n) (omega (arith, rest))
count_less t u (x ∷ xs) i (suc j) lt on off h =
    let s : i + suc j ≡ suc i + j = omega arith in
    let here : t x i ≡ u x i = (let z : i + 0 ≡ i = omega arith in rw z at (h zero (omega arith) (λ e. absurd (omega (arith, e))))) in
    let rest = count_less t u xs (suc i) j (omega arith) (rw s at on) (rw s at off) (λ k l ne. (let z : i + suc k ≡ suc i + k = omega arith in rw z at (h (suc k) (omega arith) (λ e. ne (omega (arith, e)))))) in
    rw here (omega (arith, rest))

count_fewer : (t u : Edge → ℕ → Bool) (xs : List Edge) (i : ℕ) → ((e : Edge) (k : ℕ) → u e k ≡ true → t e k ≡ true) → count_at u xs i ≤ count_at t xs i
count_fewer t u [] i h = omega arith
count_fewer t u (x ∷ xs) i h = (let rest = count_fewer t u xs (suc i) h in elim (cases_bool (u x i)) [
  | inl on ↦ rw (on, h x i on) (omega (arith, rest))
  | inr off ↦ rw off (omega (arith, rest))
])
  where
    cases_bool : (b : Bool) → (b ≡ true) ⊎ (b ≡ false)
    cases_bool true = inl refl
    cases_bool false = inr refl

count_few : (t : Edge → ℕ → Bool) (xs : List Edge) (i : ℕ) → count_at t xs i ≤ length xs
count_few t [] i = omega arith
count_few t (x ∷ xs) i = (let rest = count_few t xs (suc i) in elim (t x i) as (λ b. (cond b 1 0) + count_at t xs (suc i) ≤ length (x ∷ xs)) [ true ↦ omega (arith, rest) | false ↦ omega (arith, rest) ])

pub left_few : (es : List Edge) (da : List ℕ) (position next : ℕ) → left es da position next ≤ length es
left_few es da position next = count_few (is_left da position next) es 0

-- fewer are left from a later place on
pub left_later : (es : List Edge) (da : List ℕ) (position n m : ℕ) → n ≤ m → left es da position m ≤ left es da position n
left_later es da position n m le = count_fewer (is_left da position n) (is_left da position m) es 0 (λ e k on. grind (arith, nat_tests))

-- past the last edge it does not matter of which record
pub left_any : (es : List Edge) (da : List ℕ) (position position' : ℕ) → left es da position (length es) ≡ left es da position' (length es)
left_any es da position position' = count_same (is_left da position (length es)) (is_left da position' (length es)) es 0 (λ k l. grind (arith, nat_tests))

-- the two tests, by the facts on the numbers
left_yes : (da : List ℕ) (position next : ℕ) (e : Edge) (i : ℕ) → e.a ≡ position → next ≤ i → is_left da position next e i ≡ true
left_yes da position next e i same le = grind (arith, nat_tests)

left_no : (da : List ℕ) (position next : ℕ) (e : Edge) (i : ℕ) → distance da e.a < far → i < next → is_left da position next e i ≡ false
left_no da position next e i near lt = grind (arith, nat_tests)

pub left_relaxed : (es : List Edge) (da : List ℕ) (k : ℕ) → k < length es → distance da (edge es k).a < far → left es da (edge es k).a k ≡ left es da (edge es k).a (k + 1) + 1
left_relaxed es da k lt near =
    count_less (is_left da (edge es k).a k) (is_left da (edge es k).a (k + 1)) es 0 k lt
    (left_yes da (edge es k).a k (edge es k) (0 + k) refl (omega arith))
    (left_no da (edge es k).a (k + 1) (edge es k) (0 + k) near (omega arith))
    (λ j l ne. grind (arith, nat_tests))

pub left_joined : (es : List Edge) (da : List ℕ) (position last dist : ℕ) → position < length da → distance da position ≡ far → dist < far → left es (set da position dist) position 0 ≡ left es da last (length es)
left_joined es da position last dist lt new near =
    count_same (is_left (set da position dist) position 0) (is_left da last (length es)) es 0 (λ k l.
    elim (cases_eq (edge es k).a position) [
      | inl e ↦ rw (e, get_or-set_same da position dist far lt) (grind (arith, nat_tests))
      | inr ne ↦ rw (get_or-set_other da position (edge es k).a dist far ne) (grind (arith, nat_tests))
    ])

-- Laws of the entries that wait in a queue: one that is put before others. Both assigners cite them.

-- an entry that waits, where one was put before the others
at_cons : {X : Type 0} (y : X) (ys : List X) (x : X) (k : ℕ) → k < length (y ∷ ys) → get_or (y ∷ ys) k x ≡ x → Contains ys x ⊎ (x ≡ y)
at_cons y ys x zero lt e = inr (sym e)
at_cons y ys x (suc k) lt e = inl (k, omega arith, e)

pub Contains-cons_cases : {X : Type 0} (y : X) (ys : List X) (x : X) → Contains (y ∷ ys) x → Contains ys x ⊎ (x ≡ y)
Contains-cons_cases y ys x h = at_cons y ys x h.0 h.1 h.2

pub cons_first : (y : ℕ × ℕ) (ys : List (ℕ × ℕ)) → Contains (y ∷ ys) y
cons_first y ys = (zero, omega arith, refl)

-- Laws of a search that has stopped (`HasStopped`): what the change of prices does at its end. Both assigners cite them.

-- what holds between two steps makes what is searched
pub searchable : (f : Field) (IsFree : ℕ → Type 0) (done : ℕ) → IsPriced f.edges.now f.price_a.now f.price_b.now f.link_a.now IsFree done → AreStarts f.edges.now (length f.price_a.now) f.starts.now → f.root < length f.price_a.now → link f.link_a.now f.root ≡ None → IsSearchable f
searchable f IsFree done w starts inside none = record {
  rows_a = w.rows_a;
  starts = starts;
  root_in = inside;
  root_free = none;
  in_range = w.in_range;
  covered = w.covered;
  small_a = w.small_a;
  small_b = w.small_b;
  linked = w.linked;
}

-- what has a distance is within the list
pub distance_within : (xs : List ℕ) (i : ℕ) → distance xs i < far → i < length xs
distance_within xs i near = elim (cases_lt i (length xs)) [ inl p ↦ p | inr p ↦ absurd (let past : distance xs i ≡ far = get_or_past xs i far p in omega (arith, past, near)) ]

-- no price of a record of A is less than what its distance lacks to the end
pub falls_within : (f : Field) (s : Spread) (end position next : ℕ) → IsSpread f position next s → end ≤ s.best → (a : ℕ) → end - distance s.da a ≤ number f.price_a.now a
falls_within f s end position next t before_best a = elim (cases_lt (distance s.da a) far) [
  | inl close ↦ omega (arith, t.best_of a close, before_best)
  | inr away ↦ omega (arith, away, before_best, t.best_small)
]

module _ (f : Field) (s : Spread) (IsFree : ℕ → Type 0) (end : ℕ) (free : Option ℕ) (last : ℕ) (pa pb : List ℕ) (ready : IsSearchable f) (t : IsSpread f 0 (length f.edges.now) s) (stopped : HasStopped f s IsFree end free last) (falls : (a : ℕ) → number pa a + (end - distance s.da a) ≡ number f.price_a.now a) (rises : (b : ℕ) → number pb b ≡ number f.price_b.now b + (end - distance s.db b)) where
  end_small : end ≤ MOST_VALUE
  end_small = omega (arith, stopped.before_best, t.best_small)

  -- the two records of a link change alike, where that of B is no nearer than the end if that of A was not reached
  pub tight_kept : ((k : ℕ) → link f.link_a.now (edge_of f k).a ≡ Some k → far ≤ distance s.da (edge_of f k).a → end ≤ distance s.db (edge_of f k).b) → AreTight f.edges.now f.price_a.now f.price_b.now f.link_a.now → AreTight f.edges.now pa pb f.link_a.now
  tight_kept late tight k on = omega (arith, tight k on, falls (edge_of f k).a, rises (edge_of f k).b, alike)
    where
      alike : end - distance s.da (edge_of f k).a ≡ end - distance s.db (edge_of f k).b
      alike = elim (cases_lt (distance s.da (edge_of f k).a) far) [ inl close ↦ ap (λ n. end - n) (t.same k on close) | inr away ↦ omega (arith, late k on away, away, end_small) ]

  pub covered_kept : (k : ℕ) → k < length f.edges.now → (edge_of f k).value ≤ number pa (edge_of f k).a + number pb (edge_of f k).b
  covered_kept k lt = elim (cases_lt (distance s.da (edge_of f k).a) far) [
    | inl close ↦ omega (arith, t.relaxed k lt close (λ _. lt), ready.covered k lt, falls (edge_of f k).a, rises (edge_of f k).b, stopped.before_best)
    | inr away ↦ omega (arith, away, ready.covered k lt, falls (edge_of f k).a, rises (edge_of f k).b, end_small)
  ]

  -- a record of B that is no farther than the end was reached by a hop that is tight afterwards
  hop_after : (b : ℕ) → distance s.db b ≤ end → IsHop f.edges.now pa pb s.from b
  hop_after b near =
      let r = t.reached b (omega (arith, near, end_small)) in
      let k = number s.from b in
      let same : number pb (edge_of f k).b ≡ number pb b = ap (number pb) r.ends in
      let dist : distance s.db (edge_of f k).b ≡ distance s.db b = ap (distance s.db) r.ends in
      record {
        reached = r.within;
        place = r.place;
        ends = r.ends;
        tight = omega (arith, r.exact, ready.covered k r.place, falls (edge_of f k).a, rises (edge_of f k).b, dist, near);
      }

  pub leads_after : (n b : ℕ) → rank_above f s b < n → distance s.db b ≤ end → Leads f.edges.now pa pb f.link_a.now s.from s.rank f.root n b
  leads_after zero b low near = absurd (omega (arith, low))
  leads_after (suc n) b low near =
      let r = t.reached b (omega (arith, near, end_small)) in
      let a = (edge_of f (number s.from b)).a in (
        hop_after b near,
        elim (t.in_tree a r.joined) [
          | inl e ↦ inl (e, rw e ready.root_free)
          | inr p ↦ (let is = (ready.linked a p.0 p.1).1 in
              let on : link f.link_a.now (edge_of f p.0).a ≡ Some p.0 = rw is p.1 in
              let joined : distance s.da (edge_of f p.0).a < far = rw is r.joined in
              let climbs : rank_above f s (edge_of f p.0).b < number s.rank a = rw is at (t.climbs p.0 on joined) in
              let same : distance s.da a ≡ distance s.db (edge_of f p.0).b = rw is at (t.same p.0 on joined) in
              let below : distance s.da a ≤ end = omega (arith, r.exact, near, ready.covered (number s.from b) r.place) in
              inr (p.0, (p.1, climbs, leads_after n (edge_of f p.0).b (omega (arith, climbs, low)) (omega (arith, same, below)))))
        ],
      )

  -- a record of A that stands in the tree is the root, or a way leads from the record of B that it is linked to
  pub leads_from : (r : ℕ) → distance s.da r < far → LeadsFrom f.edges.now pa pb f.link_a.now s.from s.rank f.root r
  leads_from r here = elim (t.in_tree r here) [
    | inl e ↦ inl (e, rw e ready.root_free)
    | inr p ↦ (let is = (ready.linked r p.0 p.1).1 in
        let on : link f.link_a.now (edge_of f p.0).a ≡ Some p.0 = rw is p.1 in
        let joined : distance s.da (edge_of f p.0).a < far = rw is here in
        let climbs : rank_above f s (edge_of f p.0).b < number s.rank r = rw is at (t.climbs p.0 on joined) in
        let same : distance s.da r ≡ distance s.db (edge_of f p.0).b = rw is at (t.same p.0 on joined) in
        inr (p.0, (p.1, climbs, (suc (rank_above f s (edge_of f p.0).b), leads_after (suc (rank_above f s (edge_of f p.0).b)) (edge_of f p.0).b (omega arith) (omega (arith, same, t.low r here, stopped.after))))))
  ]

  abbrev HasWay : Option ℕ → Type 0
  HasWay x = MatchOption x (LeadsFrom f.edges.now pa pb f.link_a.now s.from s.rank f.root last) (λ b. (n : ℕ) × Leads f.edges.now pa pb f.link_a.now s.from s.rank f.root n b)

  ways_at : (x : Option ℕ) → StopsAt s IsFree end x last → HasWay x
  ways_at None stop = leads_from last stop
  ways_at (Some b) stop = (suc (rank_above f s b), leads_after (suc (rank_above f s b)) b (omega arith) (omega (arith, stop.1)))

  -- a way leads from where the search stopped to the root
  pub ways_after : HasWay free
  ways_after = ways_at free stopped.stop

  -- a record of A at which it stopped has no price any more
  paid_up : IsNone free → number pa last ≡ 0
  paid_up none = (let e = stopped.paid none in omega (arith, falls last, e.1))

  -- prices go on as they were, where those of B stay small and links by tight edges are put in the place of the old ones
  pub priced_after : (la : List (Option ℕ)) (IsFree' : ℕ → Type 0) → IsPriced f.edges.now f.price_a.now f.price_b.now f.link_a.now IsFree 0 → length pa ≡ length f.price_a.now → length pb ≡ length f.price_b.now → length la ≡ length f.link_a.now → AreLinked f.edges.now la → AreTight f.edges.now pa pb la → ((b : ℕ) → number pb b ≤ MOST_VALUE) → ((b : ℕ) → IsFree' b → number pb b ≡ 0) → IsPriced f.edges.now pa pb la IsFree' 0
  priced_after la IsFree' old len_a len_b rows linked tight small free = record {
    rows_a = rows ∙ (old.rows_a ∙ sym len_a);
    in_range = rw (len_a, len_b) old.in_range;
    covered = covered_kept;
    small_a = λ a. omega (arith, falls a, old.small_a a);
    small_b = small;
    linked = linked;
    tight = tight;
    free_a = λ a low none. absurd (omega arith);
    free_b = free;
  }

  -- a record of A that was done stays so where links are turned round from there, and the root is done
  pub done_kept : (la : List (Option ℕ)) → AreTurnedFrom f.link_a.now la f.root free last → (a : ℕ) → IsDone f.price_a.now f.link_a.now a → IsDone pa la a
  done_kept la turned a old none = elim (turned.still a none) [ inl p ↦ omega (arith, old p, falls a) | inr p ↦ rw p.1 (paid_up p.0) ]

  pub root_done : (la : List (Option ℕ)) → AreTurnedFrom f.link_a.now la f.root free last → IsDone pa la f.root
  root_done la turned none = (let p = turned.of_root none in rw p.1 (paid_up p.0))

-- a record of B at which a search stopped is free, and a record of A is one of the records
pub stop_free : (s : Spread) (IsFree : ℕ → Type 0) (end : ℕ) (free : Option ℕ) (last : ℕ) → StopsAt s IsFree end free last → MatchOption free (Unit {0}) IsFree
stop_free s IsFree end None last stop = tt
stop_free s IsFree end (Some b) last stop = stop.0

pub stop_within : (s : Spread) (IsFree : ℕ → Type 0) (end : ℕ) (free : Option ℕ) (last rows : ℕ) → length s.da ≡ rows → StopsAt s IsFree end free last → MatchOption free (last < rows) (λ _. Unit {0})
stop_within s IsFree end None last rows count stop = omega (arith, count, distance_within s.da last stop)
stop_within s IsFree end (Some b) last rows count stop = tt
