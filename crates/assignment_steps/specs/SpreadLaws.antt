-- Laws of all that a search has reached (`IsSpread`): what a step of the search keeps of it. Both assigners cite them.
use Rattle.std.proofs.Common.{◌≡◌, ◌≢◌, ◌⊎◌, ℕ, ◌+◌, ◌<◌, ◌≤◌, min, Bool, List, [], ◌∷◌, ◌++◌, length, set, Some, refl, ap, sym, ◌∙◌, inl, inr, arith, get_or-set_other, get_or-set_same, All, Contains}
use Rattle.std.proofs.lemmas.Bool.{cases_eq, cases_lt}
use Rattle.std.proofs.lemmas.List.{length-set, length_push}
use Rattle.std.proofs.lemmas.List.Elements.{All-contains, Contains-push, Contains-append_left}
use Rattle.assignment_steps.specs.declared.market.Field.{Field}
use Rattle.assignment_steps.specs.declared.queue.Near.{Near}
use Rattle.assignment_steps.specs.Market.{link, number, distance, far}
use Rattle.assignment_steps.specs.Reached.{Waits, noted}
use Rattle.assignment_steps.specs.Spread.{Spread, IsNearer, IsNearest, IsReached, IsRelaxed, IsSearchable, IsSpread, Joins, Shortens, edge_of, paid, rank_above, waits_for}
use Rattle.assignment_steps.specs.ReachedLaws.{noted_first, noted_stays}
use Rattle.assignment_steps.specs.LinkLaws.{distance-set}

-- only what is relaxed speaks of the record whose edges are not relaxed yet, and of the place
pub spread_marked : (f : Field) (position next position' next' : ℕ) (s : Spread) → IsSpread f position next s → ((k : ℕ) → k < length f.edges.now → distance s.da (edge_of f k).a < far → ((edge_of f k).a ≡ position' → k < next') → IsRelaxed f s k) → IsSpread f position' next' s
spread_marked f position next position' next' s t relaxed = record {
  root_here = t.root_here;
  now = t.now;
  best_small = t.best_small;
  low = t.low;
  best_of = t.best_of;
  relaxed = relaxed;
  same = t.same;
  late = t.late;
  reached = t.reached;
  climbs = t.climbs;
  in_tree = t.in_tree;
  ranks = t.ranks;
  noted_a = t.noted_a;
  noted_b = t.noted_b;
}

-- an edge that is of no use is relaxed as it is
pub spread_passed : (f : Field) (k : ℕ) (s : Spread) → IsSpread f (edge_of f k).a k s → IsRelaxed f s k → IsSpread f (edge_of f k).a (k + 1) s
spread_passed f k s t here =
    spread_marked f (edge_of f k).a k (edge_of f k).a (k + 1) s t
    (λ j lt near last. elim (cases_eq j k) [ inl e ↦ rw e here | inr n ↦ t.relaxed j lt near (λ same. (let below : j < k + 1 = last same in omega arith)) ])

-- edges of the record that are of no use are relaxed as they are
pub spread_passed_to : (f : Field) (position n m : ℕ) (s : Spread) → IsSpread f position n s → ((j : ℕ) → n ≤ j → j < m → j < length f.edges.now → (edge_of f j).a ≡ position → IsRelaxed f s j) → IsSpread f position m s
spread_passed_to f position n m s t passed =
    spread_marked f position n position m s t (λ j lt joined last. elim (cases_eq (edge_of f j).a position) [
      | inl e ↦ elim (cases_lt j n) [ inl below ↦ t.relaxed j lt joined (λ same. below) | inr from ↦ passed j from (last e) lt e ]
      | inr ne ↦ t.relaxed j lt joined (λ same. absurd (ne same))
    ])

-- where the nearest end is no farther than the newest record, its edges are of no use
pub spread_ended : (f : Field) (position n : ℕ) (s : Spread) → IsSearchable f → IsSpread f position n s → distance s.da position ≡ s.current → s.best ≤ s.current → IsSpread f position (length f.edges.now) s
spread_ended f position n s ready t last ended =
    spread_passed_to f position n (length f.edges.now) s t
    (λ j from below lt e. (let here : distance s.da (edge_of f j).a ≡ s.current = rw e last in omega (arith, here, ended, ready.covered j lt)))

-- the mark of what is relaxed may be moved where no edge of the record stands between
pub spread_skip : (f : Field) (position n m : ℕ) (s : Spread) → IsSpread f position n s → ((j : ℕ) → j < length f.edges.now → j < m → (edge_of f j).a ≡ position → j < n) → IsSpread f position m s
spread_skip f position n m s t none = spread_marked f position n position m s t (λ j lt joined last. t.relaxed j lt joined (λ same. none j lt (last same) same))

-- with all edges relaxed it does not matter which record was the last
pub spread_any : (f : Field) (position position' : ℕ) (s : Spread) → IsSpread f position (length f.edges.now) s → IsSpread f position' (length f.edges.now) s
spread_any f position position' s t = spread_marked f position (length f.edges.now) position' (length f.edges.now) s t (λ j lt joined last. t.relaxed j lt joined (λ same. lt))

-- other entries wait, and another distance is the newest
pub spread_waiting : (f : Field) (position next : ℕ) (s : Spread) (waiting : List (ℕ × ℕ)) (current : ℕ) → IsSpread f position next s → current ≤ s.best → ((a : ℕ) → distance s.da a < far → distance s.da a ≤ current) → ((e : ℕ × ℕ) → Contains waiting e → (current ≤ e.0) × (distance s.db e.1 ≤ e.0) × (e.1 < length s.db)) → IsSpread f position next (record s { frontier = waiting; current = current })
spread_waiting f position next s waiting current t now low late = record {
  root_here = t.root_here;
  now = now;
  best_small = t.best_small;
  low = low;
  best_of = t.best_of;
  relaxed = t.relaxed;
  same = t.same;
  late = late;
  reached = λ x close. (let old = t.reached x close in record { within = old.within; place = old.place; ends = old.ends; joined = old.joined; exact = old.exact });
  climbs = t.climbs;
  in_tree = t.in_tree;
  ranks = t.ranks;
  noted_a = t.noted_a;
  noted_b = t.noted_b;
}

-- an entry that was taken as a nearest one
pub nearest_taken : (old : List (ℕ × ℕ)) (n : Near) (waiting : List (ℕ × ℕ)) → Contains old (n.distance, n.position) → All (λ (x : ℕ × ℕ). n.distance ≤ x.0) waiting → ((x : ℕ × ℕ) → Contains old x → Contains waiting x ⊎ (x ≡ (n.distance, n.position))) → IsNearest old n
nearest_taken old n waiting inside least stays = record {
  inside = inside;
  least = λ x h. elim (stays x h) [ inl p ↦ All-contains (λ (x : ℕ × ℕ). n.distance ≤ x.0) waiting x least p | inr p ↦ rw p (omega arith) ];
}

-- A record of B is put at a shorter distance, over an edge of the newest record.
module _ (f : Field) (k : ℕ) (s : Spread) (reach best' record' : ℕ) (frontier : List (ℕ × ℕ)) (lt : k < length f.edges.now) (ready : IsSearchable f) (t : IsSpread f (edge_of f k).a k s) (last : distance s.da (edge_of f k).a ≡ s.current) (exact : reach + (edge_of f k).value ≡ distance s.da (edge_of f k).a + paid f k) (near : reach < distance s.db (edge_of f k).b) (useful : reach < s.best) (records : (edge_of f k).b < length s.db) (froms : length s.from ≡ length s.db) (top : distance s.db (edge_of f k).b ≤ far) (no_more : best' ≤ s.best) (best_late : s.current ≤ best') (w : Waits s.frontier frontier (reach, (edge_of f k).b)) where
  abbrev b : ℕ
  b = (edge_of f k).b

  abbrev h : Spread
  h = record s { db = set s.db b reach; from = set s.from b k; touched = noted s.db s.touched b; frontier = frontier; best = best'; best_record = record' }

  late_enough : s.current ≤ reach
  late_enough = omega (arith, ready.covered k lt)

  -- a record of B that is settled is not farther than the newest record
  settled_apart : (j : ℕ) → link f.link_a.now (edge_of f j).a ≡ Some j → distance s.da (edge_of f j).a < far → (edge_of f j).b ≢ b
  settled_apart j on joined e =
      let low = t.low (edge_of f j).a joined in
      let same = t.same j on joined in
      let here : distance s.db (edge_of f j).b ≡ distance s.db b = ap (distance s.db) e in
      omega (arith, low, same, here, near, late_enough)

  relaxed : (j : ℕ) → j < length f.edges.now → distance s.da (edge_of f j).a < far → ((edge_of f j).a ≡ (edge_of f k).a → j < k + 1) → IsRelaxed f h j
  relaxed j ltj joined order = elim (cases_eq j k) [
    | inl e ↦ rw e (let at : distance (set s.db b reach) b ≡ reach = get_or-set_same s.db b reach far records in omega (arith, at, exact, no_more))
    | inr ne ↦ (let old = t.relaxed j ltj joined (λ same. (let below : j < k + 1 = order same in omega arith)) in
        elim (distance-set s.db b (edge_of f j).b reach records) [
          | inl p ↦ (let here : distance s.db (edge_of f j).b ≡ distance s.db b = ap (distance s.db) p.0 in omega (arith, old, here, p.1, near, no_more))
          | inr p ↦ omega (arith, old, p.1, no_more)
        ])
  ]

  same : (j : ℕ) → link f.link_a.now (edge_of f j).a ≡ Some j → distance s.da (edge_of f j).a < far → distance s.da (edge_of f j).a ≡ distance h.db (edge_of f j).b
  same j on joined = t.same j on joined ∙ sym (get_or-set_other s.db b (edge_of f j).b reach far (settled_apart j on joined))

  late_old : (e : ℕ × ℕ) → (s.current ≤ e.0) × (distance s.db e.1 ≤ e.0) × (e.1 < length s.db) → (s.current ≤ e.0) × (distance h.db e.1 ≤ e.0) × (e.1 < length h.db)
  late_old e old = elim (distance-set s.db b e.1 reach records) [
    | inl p ↦ (let same : distance s.db e.1 ≡ distance s.db b = ap (distance s.db) p.0 in (old.0, omega (arith, p.1, same, near, old.1), rw length-set old.2))
    | inr p ↦ (old.0, omega (arith, p.1, old.1), rw length-set old.2)
  ]

  late : (e : ℕ × ℕ) → Contains h.frontier e → (s.current ≤ e.0) × (distance h.db e.1 ≤ e.0) × (e.1 < length h.db)
  late e inside = elim (w.only e inside) [
    | inl r ↦ late_old e (t.late e r)
    | inr r ↦ rw r (late_enough, omega (arith, get_or-set_same s.db b reach far records), rw length-set records)
  ]

  reached_here : IsReached f h b
  reached_here =
      let from_is : number (set s.from b k) b ≡ k = get_or-set_same s.from b k 0 (omega (arith, records, froms)) in
      let db_is : distance (set s.db b reach) b ≡ reach = get_or-set_same s.db b reach far records in
      record {
        within = rw length-set (omega (arith, records, froms));
        place = rw from_is lt;
        ends = rw from_is refl;
        joined = rw from_is (omega (arith, last, t.now, t.best_small));
        exact = rw (from_is, db_is) exact;
      }

  reached : (x : ℕ) → distance h.db x < far → IsReached f h x
  reached x close = elim (cases_eq x b) [
    | inl e ↦ rw e reached_here
    | inr ne ↦ (let old = t.reached x (rw (← get_or-set_other s.db b x reach far ne) close) in
        let from_is : number (set s.from b k) x ≡ number s.from x = get_or-set_other s.from b x k 0 ne in
        let db_is : distance (set s.db b reach) x ≡ distance s.db x = get_or-set_other s.db b x reach far ne in
        record {
          within = rw length-set old.within;
          place = rw from_is old.place;
          ends = rw from_is old.ends;
          joined = rw from_is old.joined;
          exact = rw (from_is, db_is) old.exact;
        })
  ]

  climbs : (j : ℕ) → link f.link_a.now (edge_of f j).a ≡ Some j → distance s.da (edge_of f j).a < far → rank_above f h (edge_of f j).b < number s.rank (edge_of f j).a
  climbs j on joined = rw (get_or-set_other s.from b (edge_of f j).b k 0 (settled_apart j on joined)) (t.climbs j on joined)

  noted_b : (x : ℕ) → distance h.db x < far → Contains h.touched x
  noted_b x close = elim (distance-set s.db b x reach records) [
    | inl p ↦ rw p.0 (elim (cases_lt (distance s.db b) far) [ inl q ↦ noted_stays s.db s.touched b b (t.noted_b b q) | inr q ↦ noted_first s.db s.touched b (omega arith) ])
    | inr p ↦ noted_stays s.db s.touched b x (t.noted_b x (rw (← p.1) close))
  ]

  spread_nearer : IsSpread f (edge_of f k).a (k + 1) h
  spread_nearer = record {
    root_here = t.root_here;
    now = best_late;
    best_small = omega (arith, no_more, t.best_small);
    low = t.low;
    best_of = λ a joined. omega (arith, no_more, t.best_of a joined);
    relaxed = relaxed;
    same = same;
    late = late;
    reached = reached;
    climbs = climbs;
    in_tree = t.in_tree;
    ranks = t.ranks;
    noted_a = t.noted_a;
    noted_b = noted_b;
  }

-- the same, where the nearest end comes nearer too or stays
pub spread_shortened : (f : Field) (k : ℕ) (s s' : Spread) (reach : ℕ) → k < length f.edges.now → IsSearchable f → IsSpread f (edge_of f k).a k s → distance s.da (edge_of f k).a ≡ s.current → IsNearer f s k reach → (edge_of f k).b < length s.db → length s.from ≡ length s.db → distance s.db (edge_of f k).b ≤ far → s'.best ≤ s.best → s.current ≤ s'.best → Shortens s s' (edge_of f k).b k reach → IsSpread f (edge_of f k).a (k + 1) s'
spread_shortened f k s s' reach lt ready t last nearer records froms top no_more best_late r =
    let shape : s' ≡ record s { db = set s.db (edge_of f k).b reach; from = set s.from (edge_of f k).b k; touched = noted s.db s.touched (edge_of f k).b; frontier = s'.frontier; best = s'.best; best_record = s'.best_record } = λ i. record { da = r.da i; rank = r.rank i; db = r.db i; from = r.from i; records = r.records i; touched = r.touched i; frontier = s'.frontier; current = r.current i; best = s'.best; best_record = s'.best_record } in
    rw shape (spread_nearer f k s reach s'.best s'.best_record s'.frontier lt ready t last nearer.exact nearer.near nearer.useful records froms top no_more best_late r.waits)

-- A record of A joins that has a link: s is what was reached before the entry of its record of B was taken.
module _ (f : Field) (last : ℕ) (s : Spread) (position k dist best' record' : ℕ) (frontier : List (ℕ × ℕ)) (ready : IsSearchable f) (t : IsSpread f last (length f.edges.now) s) (new : distance s.da position ≡ far) (rows_a : position < length s.da) (ranks_a : position < length s.rank) (on : link f.link_a.now position ≡ Some k) (dist_is : dist ≡ distance s.db (edge_of f k).b) (near : dist ≤ s.best) (after : s.current ≤ dist) (least : (x : ℕ × ℕ) → Contains frontier x → dist ≤ x.0) (only : (x : ℕ × ℕ) → Contains frontier x → Contains s.frontier x) (best_is : best' ≡ min s.best (dist + number f.price_a.now position)) where
  abbrev j : Spread
  j = record s { da = set s.da position dist; rank = set s.rank position (length s.records); records = s.records ++ position ∷ []; frontier = frontier; current = dist; best = best'; best_record = record' }

  -- a record that stood in the tree is not the new one, and keeps its distance
  old_record : (a : ℕ) → distance s.da a < far → a ≢ position
  old_record a joined e = (let same : distance s.da a ≡ distance s.da position = ap (distance s.da) e in omega (arith, same, new, joined))

  old_da : (a : ℕ) → distance s.da a < far → distance j.da a ≡ distance s.da a
  old_da a joined = get_or-set_other s.da position a dist far (old_record a joined)

  -- the records of the tree after the step: the new one, and the old ones
  cases_a : (a : ℕ) → distance j.da a < far → ((a ≡ position) × (distance j.da a ≡ dist)) ⊎ ((distance s.da a < far) × (distance j.da a ≡ distance s.da a) × (a ≢ position))
  cases_a a joined = elim (distance-set s.da position a dist rows_a) [ inl p ↦ inl p | inr p ↦ inr (rw (← p.1) joined, p.1, p.0) ]

  link_k : (i : ℕ) → link f.link_a.now (edge_of f i).a ≡ Some i → (edge_of f i).a ≡ position → i ≡ k
  link_k i here e = (let h : link f.link_a.now position ≡ Some i = rw (← e) here in cc)

  j_root_here : distance j.da f.root ≡ 0
  j_root_here = (let low : distance s.da f.root < far = omega (arith, t.root_here) in old_da f.root low ∙ t.root_here)

  j_low : (a : ℕ) → distance j.da a < far → distance j.da a ≤ dist
  j_low a joined = elim (cases_a a joined) [ inl p ↦ omega (arith, p.1) | inr p ↦ omega (arith, p.1, t.low a p.0) ]

  j_best_of : (a : ℕ) → distance j.da a < far → best' ≤ distance j.da a + number f.price_a.now a
  j_best_of a joined = elim (cases_a a joined) [
    | inl p ↦ (let same : number f.price_a.now a ≡ number f.price_a.now position = ap (number f.price_a.now) p.0 in omega (arith, p.1, same, best_is))
    | inr p ↦ omega (arith, p.1, t.best_of a p.0, best_is)
  ]

  j_relaxed : (i : ℕ) → i < length f.edges.now → distance j.da (edge_of f i).a < far → ((edge_of f i).a ≡ position → i < 0) → IsRelaxed f j i
  j_relaxed i lt joined none = elim (cases_a (edge_of f i).a joined) [
    | inl p ↦ (let no : i < 0 = none p.0 in absurd (omega (arith, no)))
    | inr p ↦ omega (arith, t.relaxed i lt p.0 (λ _. lt), p.1, best_is)
  ]

  j_same : (i : ℕ) → link f.link_a.now (edge_of f i).a ≡ Some i → distance j.da (edge_of f i).a < far → distance j.da (edge_of f i).a ≡ distance s.db (edge_of f i).b
  j_same i here joined = elim (cases_a (edge_of f i).a joined) [
    | inl p ↦ p.1 ∙ (dist_is ∙ ap (λ n. distance s.db (edge_of f n).b) (sym (link_k i here p.0)))
    | inr p ↦ p.1 ∙ t.same i here p.0
  ]

  j_reached : (b : ℕ) → distance s.db b < far → IsReached f j b
  j_reached b close =
      let old = t.reached b close in
      let da_is = old_da (edge_of f (number s.from b)).a old.joined in
      record { within = old.within; place = old.place; ends = old.ends; joined = rw da_is old.joined; exact = rw da_is old.exact }

  j_climbs : (i : ℕ) → link f.link_a.now (edge_of f i).a ≡ Some i → distance j.da (edge_of f i).a < far → rank_above f j (edge_of f i).b < number j.rank (edge_of f i).a
  j_climbs i here joined =
      elim (cases_a (edge_of f i).a joined) [
        | inl p ↦ (let e = link_k i here p.0 in
            let close : distance s.db (edge_of f i).b < far = rw e (omega (arith, sym dist_is, near, t.best_small)) in
            let up = (t.reached (edge_of f i).b close).joined in
            let rank_is : rank_above f j (edge_of f i).b ≡ rank_above f s (edge_of f i).b = get_or-set_other s.rank position _ (length s.records) 0 (old_record _ up) in
            let here_is : number j.rank (edge_of f i).a ≡ length s.records = rw p.0 (get_or-set_same s.rank position (length s.records) 0 ranks_a) in
            omega (arith, rank_is, here_is, t.ranks _ up))
        | inr p ↦ (let same = t.same i here p.0 in
            let close : distance s.db (edge_of f i).b < far = omega (arith, same, p.0) in
            let up = (t.reached (edge_of f i).b close).joined in
            let rank_is : rank_above f j (edge_of f i).b ≡ rank_above f s (edge_of f i).b = get_or-set_other s.rank position _ (length s.records) 0 (old_record _ up) in
            let here_is : number j.rank (edge_of f i).a ≡ number s.rank (edge_of f i).a = get_or-set_other s.rank position _ (length s.records) 0 p.2 in
            omega (arith, rank_is, here_is, t.climbs i here p.0))
      ]

  j_in_tree : (a : ℕ) → distance j.da a < far → (a ≡ f.root) ⊎ ((i : ℕ) × (link f.link_a.now a ≡ Some i))
  j_in_tree a joined = elim (cases_a a joined) [ inl p ↦ inr (k, rw p.0 on) | inr p ↦ t.in_tree a p.0 ]

  j_ranks : (a : ℕ) → distance j.da a < far → number j.rank a < length j.records
  j_ranks a joined = rw length_push (elim (cases_a a joined) [
    | inl p ↦ rw (p.0, get_or-set_same s.rank position (length s.records) 0 ranks_a) (omega arith)
    | inr p ↦ rw (get_or-set_other s.rank position a (length s.records) 0 p.2) (omega (arith, t.ranks a p.0))
  ])

  j_noted_a : (a : ℕ) → distance j.da a < far → Contains j.records a
  j_noted_a a joined = elim (cases_a a joined) [
    | inl p ↦ rw p.0 (Contains-push s.records position)
    | inr p ↦ Contains-append_left s.records (position ∷ []) a (t.noted_a a p.0)
  ]

  spread_more : IsSpread f position 0 j
  spread_more = record {
    root_here = j_root_here;
    now = omega (arith, near, best_is);
    best_small = omega (arith, best_is, t.best_small);
    low = j_low;
    best_of = j_best_of;
    relaxed = j_relaxed;
    same = j_same;
    late = λ x inside. (least x inside, (t.late x (only x inside)).1, (t.late x (only x inside)).2);
    reached = j_reached;
    climbs = j_climbs;
    in_tree = j_in_tree;
    ranks = j_ranks;
    noted_a = j_noted_a;
    noted_b = t.noted_b;
  }

pub spread_joined : (f : Field) (last : ℕ) (s s' : Spread) (position k dist : ℕ) (nearer : Bool) (frontier : List (ℕ × ℕ)) → IsSearchable f → IsSpread f last (length f.edges.now) s → distance s.da position ≡ far → position < length s.da → position < length s.rank → link f.link_a.now position ≡ Some k → dist ≡ distance s.db (edge_of f k).b → dist ≤ s.best → s.current ≤ dist → ((x : ℕ × ℕ) → Contains frontier x → dist ≤ x.0) → ((x : ℕ × ℕ) → Contains frontier x → Contains s.frontier x) → Joins (waits_for frontier s) s' position dist (dist + number f.price_a.now position) nearer → IsSpread f position 0 s'
spread_joined f last s s' position k dist nearer frontier ready t new rows_a ranks_a on dist_is near after least only r =
    let shape : s' ≡ record s { da = set s.da position dist; rank = set s.rank position (length s.records); records = s.records ++ position ∷ []; frontier = frontier; current = dist; best = s'.best; best_record = s'.best_record } = λ i. record { da = r.da i; rank = r.rank i; db = r.db i; from = r.from i; records = r.records i; touched = r.touched i; frontier = r.frontier i; current = r.current i; best = s'.best; best_record = s'.best_record } in
    rw shape (spread_more f last s position k dist s'.best s'.best_record frontier ready t new rows_a ranks_a on dist_is near after least only r.best)

-- a record that joined has its distance, and those that stood in the tree keep theirs
pub joins_here : (s s' : Spread) (position dist end : ℕ) (nearer : Bool) → Joins s s' position dist end nearer → position < length s.da → distance s'.da position ≡ dist
joins_here s s' position dist end nearer r lt = rw r.da (get_or-set_same s.da position dist far lt)

pub joins_keeps : (s s' : Spread) (position dist end : ℕ) (nearer : Bool) → Joins s s' position dist end nearer → distance s.da position ≡ far → (a : ℕ) → distance s.da a < far → distance s'.da a ≡ distance s.da a
joins_keeps s s' position dist end nearer r new a joined = rw r.da (get_or-set_other s.da position a dist far (λ e. (let same : distance s.da a ≡ distance s.da position = ap (distance s.da) e in omega (arith, same, new, joined))))

-- The root joins first.
module _ (f : Field) (s s' : Spread) (nearer : Bool) (ready : IsSearchable f) (da : (a : ℕ) → distance s.da a ≡ far) (db : (b : ℕ) → distance s.db b ≡ far) (frontier : s.frontier ≡ []) (rows_a : f.root < length s.da) (ranks_a : f.root < length s.rank) (none : s.best ≡ far) (r : Joins s s' f.root 0 (0 + number f.price_a.now f.root) nearer) where
  pub best_is : s'.best ≡ number f.price_a.now f.root
  best_is = omega (arith, r.best, none, ready.small_a f.root)

  only_root : (a : ℕ) → distance s'.da a < far → a ≡ f.root
  only_root a near = elim (distance-set s.da f.root a 0 rows_a) [ inl p ↦ p.0 | inr p ↦ absurd (let here : distance (set s.da f.root 0) a < far = rw r.da at near in omega (arith, here, p.1, da a)) ]

  none_b : (b : ℕ) → distance s'.db b < far → ⊥
  none_b b near = (let here : distance s.db b < far = rw r.db at near in omega (arith, here, db b))

  -- the root has no link
  no_link : (k : ℕ) → link f.link_a.now (edge_of f k).a ≡ Some k → distance s'.da (edge_of f k).a < far → ⊥
  no_link k on near = (let here : link f.link_a.now f.root ≡ Some k = rw (only_root (edge_of f k).a near) at on in let free = ready.root_free in cc)

  root_at : distance s'.da f.root ≡ 0
  root_at = joins_here s s' f.root 0 _ nearer r rows_a

  pub spread_planted : IsSpread f f.root 0 s'
  spread_planted = record {
    root_here = root_at;
    now = rw r.current (omega arith);
    best_small = rw best_is (ready.small_a f.root);
    low = λ a near. rw (only_root a near, root_at) (omega arith);
    best_of = λ a near. rw (only_root a near, root_at) (omega (arith, best_is));
    relaxed = λ k lt near order. absurd (let no : k < 0 = order (only_root (edge_of f k).a near) in omega (arith, no));
    same = λ k on near. absurd (no_link k on near);
    late = λ e inside. absurd (let empty : Contains [] e = rw (r.frontier ∙ frontier) at inside in omega (arith, empty.1));
    reached = λ b near. absurd (none_b b near);
    climbs = λ k on near. absurd (no_link k on near);
    in_tree = λ a near. inl (only_root a near);
    ranks = λ a near. rw (only_root a near, r.rank, r.records, length_push, get_or-set_same s.rank f.root (length s.records) 0 ranks_a) (omega arith);
    noted_a = λ a near. rw (only_root a near, r.records) (Contains-push s.records f.root);
    noted_b = λ b near. absurd (none_b b near);
  }
