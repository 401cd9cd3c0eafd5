-- What a step of the growth keeps.
use Rattle.std.proofs.Common.{◌≡◌, ◌⊎◌, ℕ, suc, ◌+◌, ◌<◌, ◌≤◌, List, [], ◌∷◌, length, get_or, Option, Some, None, ap, sym, ◌∙◌, inl, inr, arith, Contains, ◌-◌, refl}
use Rattle.std.proofs.lemmas.Bool.{cases_lt}
use Rattle.std.proofs.lemmas.List.{get_or_default}
use Rattle.assignment_steps.specs.declared.queue.Near.{Near}
use Rattle.assignment_steps.specs.Words.{Contains-cons_cases, cons_first, priced_after, tight_kept, link_there, distance-set, priced_done, link, number, AreLinked, AreTight, AreSmall, distance, far, EndsAt, HasStopped, IsNearer, IsNearest, IsRelaxed, IsSpread, Shortens, edge_of, joins_here, joins_keeps, spread_any, spread_joined, spread_passed, spread_passed_to, spread_planted, spread_shortened, spread_skip, spread_waiting, IsDone}
use Rattle.price_check.specs.PlaceLaws.{Contains-later}
use Rattle.capacity_assign.specs.declared.market.Ground.{Ground}
use Rattle.assignment_steps.specs.declared.market.Edge.{Edge}
use Rattle.capacity_assign.specs.Seating.{AreAlike, HasCopies, HasPlace, IsLastSeat, AreSeats, Seating, seating, KeepsCapacities, linked_at}
use Rattle.capacity_assign.specs.Growth.{Growth, IsGrown, IsHeldAt, IsPending, IsReady, IsExhausted, IsTree, IsTwin, Joins, places_left, with_waiting}
use Rattle.link_limits.specs.declared.TheConstants.{MOST_VALUE}
use Rattle.capacity_assign.specs.Round.{IsBetweenRounds}
use Rattle.capacity_assign.proofs.Links.{counted_link}

-- where the tree ends, and which records of B wait, does not speak of the edges that are relaxed
pub tree_marked : (f : Ground) (position next position' next' : ℕ) (g : Growth) → IsTree f position next g → IsSpread f.field position' next' g.spread → IsTree f position' next' g
tree_marked f position next position' next' g t s = record { spread = s; ends = t.ends; pending = t.pending; held_at = t.held_at }

pub tree_passed : (f : Ground) (k : ℕ) (g : Growth) → IsTree f (edge_of f.field k).a k g → IsRelaxed f.field g.spread k → IsTree f (edge_of f.field k).a (k + 1) g
tree_passed f k g t here = tree_marked f _ _ _ (k + 1) g t (spread_passed f.field k g.spread t.spread here)

pub tree_skip : (f : Ground) (position n m : ℕ) (g : Growth) → IsTree f position n g → ((j : ℕ) → j < length f.field.edges.now → j < m → (edge_of f.field j).a ≡ position → j < n) → IsTree f position m g
tree_skip f position n m g t none = tree_marked f position n position m g t (spread_skip f.field position n m g.spread t.spread none)

pub tree_any : (f : Ground) (position position' : ℕ) (g : Growth) → IsTree f position (length f.field.edges.now) g → IsTree f position' (length f.field.edges.now) g
tree_any f position position' g t = tree_marked f position _ position' _ g t (spread_any f.field position position' g.spread t.spread)

-- where a record of A of equal edges is at the same distance and price, the edges are relaxed as its are
pub copies_through : (es : List Edge) (rows a r : ℕ) (like : List ℕ) → AreAlike es rows like → a < rows → r < rows → number like r ≡ number like a → HasCopies es a r
copies_through es rows a r like w la lr same k lt is =
    let m = w.there a la k lt is in
    let n = w.back r lr m.0 m.1.place (m.1.record_a ∙ sym same) in
    (n.0, record { place = n.1.place; record_a = n.1.record_a; record_b = n.1.record_b ∙ m.1.record_b; value = n.1.value ∙ m.1.value })

pub tree_twin : (f : Ground) (position twin : ℕ) (g : Growth) → IsTree f position 0 g → distance g.spread.da position < far → IsTwin f g.spread position twin → IsTree f position (length f.field.edges.now) g
tree_twin f position twin g t joined w = tree_marked f position 0 position (length f.field.edges.now) g t (spread_passed_to f.field position 0 (length f.field.edges.now) g.spread t.spread (λ j from below lt e.
    let c = w.copies j lt e in
    let i = c.0 in
    let near : distance g.spread.da (edge_of f.field i).a < far = rw (c.1.record_a, w.near) joined in
    let done : IsRelaxed f.field g.spread i = t.spread.relaxed i c.1.place near (λ same. absurd (w.apart (sym c.1.record_a ∙ same))) in
    let da : distance g.spread.da (edge_of f.field i).a ≡ distance g.spread.da (edge_of f.field j).a = rw (c.1.record_a, e) w.near in
    let pa : number f.field.price_a.now (edge_of f.field i).a ≡ number f.field.price_a.now (edge_of f.field j).a = rw (c.1.record_a, e) w.price in
    let db : distance g.spread.db (edge_of f.field i).b ≡ distance g.spread.db (edge_of f.field j).b = ap (distance g.spread.db) c.1.record_b in
    let pb : number f.field.price_b.now (edge_of f.field i).b ≡ number f.field.price_b.now (edge_of f.field j).b = ap (number f.field.price_b.now) c.1.record_b in
    omega (arith, done, da, pa, db, pb, c.1.value)))

-- A record of B is put at a shorter distance, over an edge of the newest record.
module _ (f : Ground) (k : ℕ) (g g' : Growth) (reach : ℕ) (lt : k < length f.field.edges.now) (ready : IsReady f) (t : IsTree f (edge_of f.field k).a k g) (last : distance g.spread.da (edge_of f.field k).a ≡ g.spread.current) (nearer : IsNearer f.field g.spread k reach) (records : (edge_of f.field k).b < length g.spread.db) (froms : length g.spread.from ≡ length g.spread.db) (top : distance g.spread.db (edge_of f.field k).b ≤ far) (best : g'.spread.best ≡ g.spread.best) (best_record : g'.spread.best_record ≡ g.spread.best_record) (held : g'.held ≡ g.held) (r : Shortens g.spread g'.spread (edge_of f.field k).b k reach) where
  abbrev b : ℕ
  b = (edge_of f.field k).b

  pending : (x : ℕ) → distance g'.spread.db x < far → IsPending f g'.spread g'.held x
  pending x close = elim (distance-set g.spread.db b x reach records) [
    | inl p ↦ inl (rw (r.db, p.1, p.0) r.waits.added)
    | inr p ↦
        (let old : distance g.spread.db x < far = rw (r.db, p.1) at close in
        rw (r.db, p.1, r.da, held) (elim (t.pending x old) [ inl q ↦ inl (r.waits.stays (distance g.spread.db x, x) q) | inr q ↦ inr q ]))
  ]

  held_at : (x : ℕ) → g'.held ≡ Some x → IsHeldAt f g'.spread x
  held_at x is =
      let old = t.held_at x (sym held ∙ is) in
      rw (r.db, r.current) (elim (distance-set g.spread.db b x reach records) [
        | inl p ↦ (let same : distance g.spread.db x ≡ distance g.spread.db b = ap (distance g.spread.db) p.0 in absurd (omega (arith, same, old.1, nearer.near, nearer.exact, last, ready.field.covered k lt)))
        | inr p ↦ (old.0, p.1 ∙ old.1)
      ])

  pub tree_reached : IsTree f (edge_of f.field k).a (k + 1) g'
  tree_reached = record {
    spread = spread_shortened f.field k g.spread g'.spread reach lt ready.field t.spread last nearer records froms top (omega (arith, best)) (omega (arith, best, t.spread.now)) r;
    ends = rw (best, best_record, r.da) t.ends;
    pending = pending;
    held_at = held_at;
  }

-- other entries wait, at another distance now, and another record of B is held
tree_waiting : (f : Ground) (position next : ℕ) (g : Growth) (waiting : List (ℕ × ℕ)) (current : ℕ) (held : Option ℕ) → IsTree f position next g → current ≤ g.spread.best → ((a : ℕ) → distance g.spread.da a < far → distance g.spread.da a ≤ current) → ((b : ℕ) → distance g.spread.db b < far → Contains waiting (distance g.spread.db b, b) ⊎ (IsExhausted f g.spread.da b ⊎ (held ≡ Some b))) → ((b : ℕ) → held ≡ Some b → (places_left f b ≡ 0) × (distance g.spread.db b ≡ current)) → ((e : ℕ × ℕ) → Contains waiting e → (current ≤ e.0) × (distance g.spread.db e.1 ≤ e.0) × (e.1 < length g.spread.db)) → IsTree f position next (record g { spread = record g.spread { frontier = waiting; current = current }; held = held })
tree_waiting f position next g waiting current held t now low pending held_at late = record {
  spread = spread_waiting f.field position next g.spread waiting current t.spread now low late;
  ends = t.ends;
  pending = pending;
  held_at = held_at;
}

-- the entries that wait may be listed otherwise
pub tree_relisted : (f : Ground) (position next : ℕ) (g : Growth) (waiting : List (ℕ × ℕ)) → IsTree f position next g → ((x : ℕ × ℕ) → Contains g.spread.frontier x → Contains waiting x) → ((x : ℕ × ℕ) → Contains waiting x → Contains g.spread.frontier x) → IsTree f position next (with_waiting waiting g)
tree_relisted f position next g waiting t stays only =
    tree_waiting f position next g waiting g.spread.current g.held t t.spread.now t.spread.low
    (λ x close. elim (t.pending x close) [ inl p ↦ inl (stays (distance g.spread.db x, x) p) | inr p ↦ inr p ])
    t.held_at (λ e inside. t.spread.late e (only e inside))

-- an entry that was taken waits still
pub tree_taken : (f : Ground) (position next : ℕ) (g : Growth) (e : ℕ × ℕ) (left : List (ℕ × ℕ)) → IsTree f position next g → Contains g.spread.frontier e → ((x : ℕ × ℕ) → Contains g.spread.frontier x → Contains left x ⊎ (x ≡ e)) → ((x : ℕ × ℕ) → Contains left x → Contains g.spread.frontier x) → IsTree f position next (with_waiting (e ∷ left) g)
tree_taken f position next g e left t inside stays only =
    tree_relisted f position next g (e ∷ left) t
    (λ x h. elim (stays x h) [ inl p ↦ Contains-later e left x p | inr p ↦ rw p (cons_first e left) ])
    (λ x h. elim (Contains-cons_cases e left x h) [ inl p ↦ only x p | inr p ↦ rw p inside ])

-- an entry that is farther than its record is dropped
pub tree_dropped : (f : Ground) (position next : ℕ) (g : Growth) (waiting : List (ℕ × ℕ)) (e : ℕ × ℕ) → IsTree f position next (with_waiting (e ∷ waiting) g) → distance g.spread.db e.1 < e.0 → IsTree f position next (with_waiting waiting g)
tree_dropped f position next g waiting e t stale =
    tree_waiting f position next (with_waiting (e ∷ waiting) g) waiting g.spread.current g.held t t.spread.now t.spread.low
    (λ x close. elim (t.pending x close) [
      | inl p ↦ elim (Contains-cons_cases e waiting (distance g.spread.db x, x) p) [
        | inl q ↦ inl q
        | inr q ↦ (let at : x ≡ e.1 = ap (λ (y : ℕ × ℕ). y.1) q in
            let far_as : distance g.spread.db x ≡ e.0 = ap (λ (y : ℕ × ℕ). y.0) q in
            let same : distance g.spread.db x ≡ distance g.spread.db e.1 = ap (distance g.spread.db) at in
            absurd (omega (arith, same, far_as, stale)))
      ]
      | inr p ↦ inr p
    ])
    t.held_at (λ x inside. t.spread.late x (Contains-later e waiting x inside))

-- the growth while a record of B is held, and when it is let go
abbrev pub holding : Growth → Near → Growth
holding g n = record g { spread = record g.spread { current = n.distance }; held = Some n.position }

abbrev pub letting_go : Growth → Growth
letting_go g = record g { held = None }

-- the record of B of the nearest entry is held
pub tree_held : (f : Ground) (position next : ℕ) (g : Growth) (n : Near) → IsTree f position next (with_waiting ((n.distance, n.position) ∷ g.spread.frontier) g) → g.held ≡ None → IsNearest ((n.distance, n.position) ∷ g.spread.frontier) n → n.distance < g.spread.best → distance g.spread.db n.position ≡ n.distance → places_left f n.position ≡ 0 → IsTree f position next (holding g n)
tree_held f position next g n t none near useful exact full =
    tree_waiting f position next (with_waiting ((n.distance, n.position) ∷ g.spread.frontier) g) g.spread.frontier n.distance (Some n.position) t (omega (arith, useful))
    (λ a joined. omega (arith, t.spread.low a joined, (t.spread.late (n.distance, n.position) near.inside).0))
    (λ x close. elim (t.pending x close) [
      | inl p ↦ elim (Contains-cons_cases (n.distance, n.position) g.spread.frontier (distance g.spread.db x, x) p) [
        | inl q ↦ inl q
        | inr q ↦ inr (inr (ap (λ (y : ℕ × ℕ). Some y.1) (sym q)))
      ]
      | inr p ↦ elim p [ inl q ↦ inr (inl (record { full = q.full; joined = q.joined })) | inr q ↦ absurd (let clash : None ≡ Some x = sym none ∙ q in cc) ]
    ])
    (λ x is. (let at : x ≡ n.position = cc in rw at (full, exact)))
    (λ x inside. (near.least x (Contains-later (n.distance, n.position) g.spread.frontier x inside), (t.spread.late x (Contains-later (n.distance, n.position) g.spread.frontier x inside)).1, (t.spread.late x (Contains-later (n.distance, n.position) g.spread.frontier x inside)).2))

-- it is let go when all its records of A have joined
pub tree_let_go : (f : Ground) (position next : ℕ) (g : Growth) (b : ℕ) → IsTree f position next g → g.held ≡ Some b → ((k : ℕ) → link f.field.link_a.now (edge_of f.field k).a ≡ Some k → (edge_of f.field k).b ≡ b → distance g.spread.da (edge_of f.field k).a < far) → IsTree f position next (letting_go g)
tree_let_go f position next g b t is joined =
    tree_waiting f position next g g.spread.frontier g.spread.current None t t.spread.now t.spread.low
    (λ x close. elim (t.pending x close) [
      | inl p ↦ inl p
      | inr p ↦ elim p [
        | inl q ↦ inr (inl (record { full = q.full; joined = q.joined }))
        | inr q ↦ (let at : x ≡ b = cc in inr (inl (record { full = (t.held_at x q).0; joined = λ k on ends. joined k on (ends ∙ at) })))
      ]
    ])
    (λ x none. absurd (let clash : None ≡ Some x = none in cc)) t.spread.late

-- the nearest end, as one at which the tree stops
stopped_best : (f : Ground) (g : Growth) → IsTree f 0 (length f.field.edges.now) g → ((x : ℕ × ℕ) → Contains g.spread.frontier x → g.spread.best ≤ x.0) → HasStopped f.field g.spread (HasPlace f.seats.now.left.items) g.spread.best None g.spread.best_record
stopped_best f g t least = record { before_best = omega arith; after = t.spread.now; least = least; stop = t.ends.0; paid = λ _. t.ends }

-- an end that is as near as the record that is held
pub grown_holding : (f : Ground) (g : Growth) (b : ℕ) → IsTree f 0 (length f.field.edges.now) g → g.held ≡ Some b → g.spread.best ≤ g.spread.current → IsGrown f g g.spread.best None g.spread.best_record
grown_holding f g b t is near = record {
  tree = t;
  stopped = stopped_best f g t (λ x h. omega (arith, (t.spread.late x h).0, near));
  held = λ x q. omega (arith, (t.held_at x q).1, near);
}

-- an end that no entry comes before
pub grown_best : (f : Ground) (g : Growth) → IsTree f 0 (length f.field.edges.now) g → g.held ≡ None → ((x : ℕ × ℕ) → Contains g.spread.frontier x → g.spread.best ≤ x.0) → IsGrown f g g.spread.best None g.spread.best_record
grown_best f g t none least = record { tree = t; stopped = stopped_best f g t least; held = λ x is. absurd (let clash : None ≡ Some x = sym none ∙ is in cc) }

-- the records of A that sit after the seat that comes next have joined
abbrev pub IsPast : Option ℕ → ℕ → Type 0
IsPast None m = Unit {0}
IsPast (Some n) m = n < m

pub last_past : (owner : List ℕ) (n b : ℕ) (place : Option ℕ) (m : ℕ) → IsLastSeat owner n b place → m < n → number owner m ≡ b → IsPast place m → ⊥
last_past owner n b None m h lt e past = h m lt e
last_past owner n b (Some p) m h lt e past = omega (arith, h.2 m lt e, past)

-- how many seats may still come
abbrev pub steps_left : Option ℕ → ℕ
steps_left None = 0
steps_left (Some n) = suc n

pub last_within : (owner : List ℕ) (m b : ℕ) (place : Option ℕ) (n : ℕ) → IsLastSeat owner m b place → place ≡ Some n → (n < m) × (number owner n ≡ b)
last_within owner m b None n h e = absurd (let clash : None ≡ Some n = e in cc)
last_within owner m b (Some p) n h e = (let same : p ≡ n = cc in rw (← same) (h.0, h.1))

pub steps_fewer : (owner : List ℕ) (n b : ℕ) (place : Option ℕ) → IsLastSeat owner n b place → steps_left place < suc n
steps_fewer owner n b None h = omega arith
steps_fewer owner n b (Some p) h = omega (arith, h.0)

-- the seats after an earlier one: the one between, and those after it
pub past_more : (f : Ground) (da da' : List ℕ) (b n : ℕ) (place : Option ℕ) → IsReady f → IsLastSeat f.seats.now.owner.items n b place → ((k : ℕ) → link f.field.link_a.now (edge_of f.field k).a ≡ Some k → (edge_of f.field k).b ≡ b → n < number f.seats.now.seat.items (edge_of f.field k).a → distance da (edge_of f.field k).a < far) → ((a : ℕ) → distance da a < far → distance da' a < far) → distance da' (number f.seats.now.sitter.items n) < far → (k : ℕ) → link f.field.link_a.now (edge_of f.field k).a ≡ Some k → (edge_of f.field k).b ≡ b → IsPast place (number f.seats.now.seat.items (edge_of f.field k).a) → distance da' (edge_of f.field k).a < far
past_more f da da' b n place ready last done stays here k on ends past =
    let a = (edge_of f.field k).a in
    let seat = number f.seats.now.seat.items a in
    let mine = ready.seated.seated a k on in
    elim (cases_lt n seat) [
      | inl after ↦ stays a (done k on ends after)
      | inr upto ↦ elim (cases_lt seat n) [
        | inl before ↦ absurd (last_past f.seats.now.owner.items n b place seat last before (mine.owned ∙ ends) past)
        | inr from ↦
            (let same : seat ≡ n = omega arith in
            let sits : number f.seats.now.sitter.items n ≡ a = rw same at mine.sits in
            rw sits at here)
      ]
    ]

-- A record of A joins that is linked to the record of B that is held.
module _ (f : Ground) (last : ℕ) (g g' : Growth) (k dist : ℕ) (ready : IsReady f) (t : IsTree f last (length f.field.edges.now) g) (new : distance g.spread.da (edge_of f.field k).a ≡ far) (rows_a : (edge_of f.field k).a < length g.spread.da) (ranks_a : (edge_of f.field k).a < length g.spread.rank) (on : link f.field.link_a.now (edge_of f.field k).a ≡ Some k) (held : g.held ≡ Some (edge_of f.field k).b) (now : dist ≡ g.spread.current) (s : Joins f g g' (edge_of f.field k).a dist) where
  abbrev position : ℕ
  position = (edge_of f.field k).a

  dist_is : dist ≡ distance g.spread.db (edge_of f.field k).b
  dist_is = now ∙ sym (t.held_at (edge_of f.field k).b held).1

  here : distance g'.spread.da position ≡ dist
  here = joins_here g.spread g'.spread position dist _ s.nearer s.spread rows_a

  keeps : (a : ℕ) → distance g.spread.da a < far → distance g'.spread.da a ≡ distance g.spread.da a
  keeps = joins_keeps g.spread g'.spread position dist _ s.nearer s.spread new

  ends : EndsAt f.field g'.spread g'.spread.best g'.spread.best_record
  ends = elim s.spread.ends [
    | inl p ↦ rw (p.2, here) (omega (arith, now, t.spread.now, t.spread.best_small), p.1)
    | inr p ↦ rw (p.1, p.2, keeps g.spread.best_record t.ends.0) t.ends
  ]

  joined_pending : (x : ℕ) → distance g.spread.db x < far → Contains g.spread.frontier (distance g.spread.db x, x) ⊎ (IsExhausted f g'.spread.da x ⊎ (g.held ≡ Some x))
  joined_pending x close = elim (t.pending x close) [
    | inl p ↦ inl p
    | inr p ↦ elim p [
      | inl q ↦ inr (inl (record { full = q.full; joined = λ i is ends. (let old = q.joined i is ends in rw (keeps (edge_of f.field i).a old) old) }))
      | inr q ↦ inr (inr q)
    ]
  ]

  pub tree_joining : IsTree f (edge_of f.field k).a 0 g'
  tree_joining = record {
    spread = spread_joined f.field last g.spread g'.spread position k dist s.nearer g.spread.frontier ready.field t.spread new rows_a ranks_a on dist_is (omega (arith, now, t.spread.now)) (omega (arith, now)) (λ x h. omega (arith, (t.spread.late x h).0, now)) (λ x h. h) s.spread;
    ends = ends;
    pending = λ x close. rw (s.spread.db, s.spread.frontier, s.held) (joined_pending x (rw s.spread.db at close));
    held_at = λ x is. (let old = t.held_at x (sym s.held ∙ is) in rw (s.spread.db, s.spread.current) (old.0, old.1 ∙ sym now));
  }

-- the root joins first
pub tree_planted : (f : Ground) (g g' : Growth) → IsReady f → ((a : ℕ) → distance g.spread.da a ≡ far) → ((b : ℕ) → distance g.spread.db b ≡ far) → g.spread.frontier ≡ [] → f.field.root < length g.spread.da → f.field.root < length g.spread.rank → g.spread.best ≡ far → g.held ≡ None → Joins f g g' f.field.root 0 → IsTree f f.field.root 0 g'
tree_planted f g g' ready da db frontier rows_a ranks_a none no_held s =
    let best : g'.spread.best ≡ number f.field.price_a.now f.field.root = omega (arith, s.spread.best, none, ready.field.small_a f.field.root) in
    let here = joins_here g.spread g'.spread f.field.root 0 _ s.nearer s.spread rows_a in
    let record_is : g'.spread.best_record ≡ f.field.root = elim s.spread.ends [ inl p ↦ p.2 | inr p ↦ absurd (omega (arith, p.1, none, best, ready.field.small_a f.field.root)) ] in
    record {
      spread = spread_planted f.field g.spread g'.spread s.nearer ready.field da db frontier rows_a ranks_a none s.spread;
      ends = rw (record_is, here) (omega arith, omega (arith, best));
      pending = λ b near. absurd (let old : distance g.spread.db b < far = rw s.spread.db at near in omega (arith, old, db b));
      held_at = λ b is. absurd (let clash : None ≡ Some b = sym no_held ∙ (sym s.held ∙ is) in cc);
    }

-- the record of A at a seat
pub record IsAtSeat (f : Ground) (n r : ℕ) : Type 0 where
  pub is : number f.seats.now.sitter.items n ≡ r
  pub inside : r < length f.field.price_a.now
  pub edge_there : ℕ
  pub on : link f.field.link_a.now (edge_of f.field edge_there).a ≡ Some edge_there
  pub record_a : (edge_of f.field edge_there).a ≡ r
  pub owned : (edge_of f.field edge_there).b ≡ number f.seats.now.owner.items n

pub at_seat : (f : Ground) (n r : ℕ) → IsReady f → n < f.seats.now.count → r ≡ get_or f.seats.now.sitter.items n r → IsAtSeat f n r
at_seat f n r ready lt read =
    let sitters = f.seats.now.sitter.items in
    let there : n < length sitters = omega (arith, lt, ready.seated.room, ready.seated.sitters) in
    let is : number sitters n ≡ r = get_or_default sitters n 0 r there ∙ sym read in
    let filled = ready.seated.filled n lt in
    let k = filled.edge_there in
    let on : link f.field.link_a.now r ≡ Some k = rw is at filled.on in
    let both = ready.field.linked r k on in
    record {
      is = is;
      inside = omega (arith, link_there f.field.link_a.now r k on, ready.field.rows_a);
      edge_there = k;
      on = rw both.1 on;
      record_a = both.1;
      owned = filled.owned;
    }

-- records of A that stood in the tree stay there
pub joins_stays : (f : Ground) (g g' : Growth) (position dist : ℕ) → Joins f g g' position dist → position < length g.spread.da → dist < far → (a : ℕ) → distance g.spread.da a < far → distance g'.spread.da a < far
joins_stays f g g' position dist s inside near a joined = rw s.spread.da (elim (distance-set g.spread.da position a dist inside) [ inl p ↦ omega (arith, p.1, near) | inr p ↦ omega (arith, p.1, joined) ])

-- What the change of prices at the end of a tree does.

module _ (f : Ground) (g : Growth) (end : ℕ) (free : Option ℕ) (last : ℕ) (pa pb : List ℕ) (ready : IsReady f) (grown : IsGrown f g end free last) (falls : (a : ℕ) → number pa a + (end - distance g.spread.da a) ≡ number f.field.price_a.now a) (rises : (b : ℕ) → number pb b ≡ number f.field.price_b.now b + (end - distance g.spread.db b)) where
  end_small : end ≤ MOST_VALUE
  end_small = omega (arith, grown.stopped.before_best, grown.tree.spread.best_small)

  -- a record of B that is not exhausted is as far as the end
  pub not_exhausted : (b : ℕ) → (IsExhausted f g.spread.da b → ⊥) → end ≤ distance g.spread.db b
  not_exhausted b none = elim (cases_lt (distance g.spread.db b) far) [
    | inl close ↦ elim (grown.tree.pending b close) [
      | inl p ↦ grown.stopped.least (distance g.spread.db b, b) p
      | inr p ↦ elim p [ inl q ↦ absurd (none q) | inr q ↦ grown.held b q ]
    ]
    | inr away ↦ omega (arith, away, end_small)
  ]

  pub tight_after : AreTight f.field.edges.now f.field.price_a.now f.field.price_b.now f.field.link_a.now → AreTight f.field.edges.now pa pb f.field.link_a.now
  tight_after tight = tight_kept f.field g.spread (HasPlace f.seats.now.left.items) end free last pa pb ready.field grown.tree.spread grown.stopped falls rises (λ k on away. not_exhausted (edge_of f.field k).b (λ settled. omega (arith, settled.joined k on refl, away))) tight

  pub free_b_after : (b : ℕ) → 0 < places_left f b → number f.field.price_b.now b ≡ 0 → number pb b ≡ 0
  free_b_after b some zero' = omega (arith, rises b, zero', not_exhausted b (λ exhausted. omega (arith, exhausted.full, some)))

  -- a record of B whose price reaches each of its edges alone is not nearer than the end
  pub closed_far : (b : ℕ) → ((k : ℕ) → k < length f.field.edges.now → (edge_of f.field k).b ≡ b → (edge_of f.field k).value ≤ number f.field.price_b.now b) → end ≤ distance g.spread.db b
  closed_far b closed = elim (cases_lt (distance g.spread.db b) far) [
    | inl close ↦
        (let r = grown.tree.spread.reached b close in
        let k = number g.spread.from b in
        let same : number f.field.price_b.now (edge_of f.field k).b ≡ number f.field.price_b.now b = ap (number f.field.price_b.now) r.ends in
        omega (arith, r.exact, same, closed k r.place r.ends, grown.tree.spread.best_of (edge_of f.field k).a r.joined, grown.stopped.before_best))
    | inr away ↦ omega (arith, away, end_small)
  ]

  pub small_b_after : IsBetweenRounds f.field.edges.now f.field.price_a.now f.field.price_b.now f.field.link_a.now (seating f.seats.now) 0 → AreSmall f.field.edges.now → (b : ℕ) → number pb b ≤ MOST_VALUE
  small_b_after old small b = elim (cases_lt 0 (places_left f b)) [
    | inl some ↦ omega (arith, free_b_after b some (old.priced.free_b b some))
    | inr full ↦ elim (cases_lt 0 (linked_at f.field.edges.now f.field.link_a.now b)) [
      | inl some ↦
          (let p = counted_link f.field.edges.now f.field.link_a.now b some in
          let k = p.1.0 in
          let is = (ready.field.linked p.0 k p.1.1.0).1 in
          let on : link f.field.link_a.now (edge_of f.field k).a ≡ Some k = rw is p.1.1.0 in
          let here = tight_after old.priced.tight k on in
          let same : number pb (edge_of f.field k).b ≡ number pb b = ap (number pb) p.1.1.1 in
          omega (arith, here, same, small k))
      | inr none ↦
          (let late = closed_far b (λ k lt ends. old.closed b k (omega (arith, full, none)) lt ends) in
          omega (arith, rises b, late, old.priced.small_b b))
    ]
  ]

  pub between_after : (la : List (Option ℕ)) (s : Seating) → AreSmall f.field.edges.now → IsBetweenRounds f.field.edges.now f.field.price_a.now f.field.price_b.now f.field.link_a.now (seating f.seats.now) 0 → length pa ≡ length f.field.price_a.now → length pb ≡ length f.field.price_b.now → length la ≡ length f.field.link_a.now → length s.left ≡ length f.seats.now.left.items → AreLinked f.field.edges.now la → AreTight f.field.edges.now pa pb la → AreSeats f.field.edges.now la s → ((b : ℕ) → HasPlace s.left b → HasPlace f.seats.now.left.items b) → KeepsCapacities f.field.edges.now f.field.link_a.now f.seats.now.left.items la s.left → IsBetweenRounds f.field.edges.now pa pb la s 0
  between_after la s small old len_a len_b rows_a rows_b linked tight seated vacant places = record {
    priced = priced_after f.field g.spread (HasPlace f.seats.now.left.items) end free last pa pb ready.field grown.tree.spread grown.stopped falls rises la (HasPlace s.left) old.priced len_a len_b rows_a linked tight (small_b_after old small) (λ b some. free_b_after b (vacant b some) (old.priced.free_b b (vacant b some)));
    rows_b = rows_b ∙ (old.rows_b ∙ sym len_b);
    seated = seated;
    closed = λ b k none lt ends. omega (arith, old.closed b k (sym (places b) ∙ none) lt ends, rises b);
  }

-- what holds between rounds holds whatever was taken up, and of more where they are done
pub between_any : (es : List Edge) (pa pb : List ℕ) (la : List (Option ℕ)) (s : Seating) (done now : ℕ) → IsBetweenRounds es pa pb la s done → ((a : ℕ) → a < now → IsDone pa la a) → IsBetweenRounds es pa pb la s now
between_any es pa pb la s done now w free = record { priced = priced_done es pa pb la (HasPlace s.left) done now w.priced free; rows_b = w.rows_b; seated = w.seated; closed = w.closed }
