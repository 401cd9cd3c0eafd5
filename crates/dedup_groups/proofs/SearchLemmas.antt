-- What each step of a search keeps.
use Rattle.std.proofs.Common.{◌≡◌, ◌≢◌, ℕ, zero, suc, ◌<◌, ◌≤◌, ◌+◌, below_more, cond, ltb, List, [], ◌∷◌, ◌++◌, length, set, get_or, refl, ap, sym, ◌∙◌, inl, inr, arith, None, Some, All, count_by, nat_lt, slice_index, slice_index_or, take, flat_map}
use Rattle.std.proofs.lemmas.Bool.{cases_eq, cases_lt, le-ltb, lt-ltb}
use Rattle.std.proofs.lemmas.List.{get_or-set_other, get_or-set_same, get_or_append_left, get_or_default, get_or_push, length-set, length_push, append_assoc, flat_map_more, take_more}
use Rattle.std.proofs.lemmas.List.Elements.{Contains-append_left, Contains-push}
use Rattle.std.proofs.lemmas.List.Sums.{count_by-le-length, sum_by-set}
use Rattle.link_base.specs.declared.rule.PairAt.{PairAt}
use Rattle.dedup_groups.specs.Groups.{ShareALink, GroupLists, HaveRows, IsForest, IsLinkWithin, IsRooted, depth_of, leader_of, via_of}
use Rattle.dedup_groups.specs.Forest.{AreFound, AreLinked, AreNeighbours, AreAlone, IsNear, IsGathered, IsSearch, StandAlone, reached_lists, waiting_room}
use Rattle.dedup_groups.proofs.ForestLemmas.{rooted_by}

pub alone_later : (near : List (List ℕ)) (lists : GroupLists) (leader : ℕ) → StandAlone near lists leader → StandAlone near lists (leader + 1)
alone_later near lists leader alone x lt le = alone x lt (omega arith)

-- records that stand alone, before the first search
pub found_first : (near : List (List ℕ)) (lists : GroupLists) → AreAlone (length near) lists → AreFound near lists 0
found_first near lists single = record {
  rows = single.complete;
  rooted = λ x lt. record {
    low = omega (arith, single.leaders x lt);
    top = λ e. (single.leaders x lt, single.vias x lt);
    below = λ deep. absurd (omega (arith, single.depths x lt));
  };
  settled = λ x y lt low h. absurd (omega arith);
  alone = λ x lt le. (single.leaders x lt, single.depths x lt);
}

-- a search begins at its leader
pub search_first : (near : List (List ℕ)) (lists : GroupLists) (leader : ℕ) → AreFound near lists leader → leader < length near → leader_of lists leader ≡ leader
    → IsSearch near lists (leader ∷ []) 0 leader
search_first near lists leader found lt own = record {
  rows = found.rows;
  rooted = found.rooted;
  settled = found.settled;
  alone = alone_later near lists leader found.alone;
  reached = first;
  queued = λ x low e. (zero, omega arith, sym e ∙ (found.alone x low (omega arith)).0);
  finished = λ k y low h. absurd (omega arith);
}
  where
    first : (k : ℕ) → k < length (leader ∷ []) → IsGathered near lists leader (slice_index (leader ∷ []) k) k
    first zero low = (lt, own, (let flat = (found.alone leader lt (omega arith)).1 in omega arith))
    first (suc k) low = absurd (omega arith)

-- it ends where the neighbours of all that it reached have its leader
pub search_last : (near : List (List ℕ)) (lists : GroupLists) (queue : List ℕ) (done leader : ℕ) → IsSearch near lists queue done leader → length queue ≤ done
    → AreFound near lists (leader + 1)
search_last near lists queue done leader s all = record {
  rows = s.rows;
  rooted = s.rooted;
  settled = λ x y lt low h. elim (cases_lt (leader_of lists x) leader) [
    | inl before ↦ s.settled x y lt before h
    | inr past ↦ here x y lt (omega arith) h
  ];
  alone = s.alone;
}
  where
    here : (x y : ℕ) → x < length near → leader_of lists x ≡ leader → IsNear near x y → leader_of lists y ≡ leader_of lists x
    here x y lt e h =
        let at = s.queued x lt e in
        let same : slice_index queue at.0 ≡ x = get_or_default queue at.0 0 x at.1 ∙ at.2 in
        s.finished at.0 y (omega (arith, at.1)) (rw same h) ∙ sym e

-- a record with an earlier leader is no leader
pub found_next : (near : List (List ℕ)) (lists : GroupLists) (leader : ℕ) → AreFound near lists leader → leader_of lists leader ≢ leader → AreFound near lists (leader + 1)
found_next near lists leader found other = record {
  rows = found.rows;
  rooted = found.rooted;
  settled = λ x y lt low h. elim (cases_lt (leader_of lists x) leader) [
    | inl before ↦ found.settled x y lt before h
    | inr past ↦ (let own : leader_of lists x ≡ x = (found.alone x lt past).0 in
        let is : leader_of lists x ≡ leader = omega arith in
        let at : x ≡ leader = omega arith in
        absurd (other (rw at at is)))
  ];
  alone = alone_later near lists leader found.alone;
}

-- a neighbour of what the search reached has no earlier leader
pub not_earlier : (near : List (List ℕ)) (lists : GroupLists) (queue : List ℕ) (done leader : ℕ) → AreNeighbours near → IsSearch near lists queue done leader
    → (x y : ℕ) → leader_of lists x ≡ leader → IsNear near x y → leader ≤ leader_of lists y
not_earlier near lists queue done leader n s x y e h = elim (cases_lt (leader_of lists y) leader) [
  | inl before ↦ (let same = s.settled y x (n.within x y h) before (n.turned x y h) in absurd (omega arith))
  | inr past ↦ past
]

-- the neighbours of one more record have the leader
pub search_more : (near : List (List ℕ)) (lists : GroupLists) (queue : List ℕ) (done leader : ℕ) → IsSearch near lists queue done leader
    → ((y : ℕ) → IsNear near (slice_index queue done) y → leader_of lists y ≡ leader)
    → IsSearch near lists queue (done + 1) leader
search_more near lists queue done leader s here = record {
  rows = s.rows;
  rooted = s.rooted;
  settled = s.settled;
  alone = s.alone;
  reached = s.reached;
  queued = s.queued;
  finished = λ k y lt h. elim (cases_eq k done) [
    | inl e ↦ here y (rw e at h)
    | inr ne ↦ s.finished k y (omega arith) h
  ];
}

-- a record that stands alone is reached from one that the search reached
module _ (near : List (List ℕ)) (lists : GroupLists) (queue : List ℕ) (done leader at : ℕ) (n : AreNeighbours near) (s : IsSearch near lists queue done leader) (within : done < length queue) (near_at : IsNear near (slice_index queue done) at) (later : leader < leader_of lists at) where
  abbrev from : ℕ
  from = slice_index queue done

  abbrev next : GroupLists
  next = reached_lists lists at from leader

  at_low : at < length near
  at_low = n.within from at near_at

  at_alone : (leader_of lists at ≡ at) × (depth_of lists at ≡ 0)
  at_alone = s.alone at at_low (omega arith)

  from_reached : IsGathered near lists leader from done
  from_reached = s.reached done within

  from_other : from ≢ at
  from_other e = (let is = from_reached.1 in let same : leader_of lists from ≡ leader_of lists at = ap (leader_of lists) e in omega arith)

  same_leader : (x : ℕ) → x ≢ at → leader_of next x ≡ leader_of lists x
  same_leader x ne = get_or-set_other lists.leaders at x leader 0 ne

  same_via : (x : ℕ) → x ≢ at → via_of next x ≡ via_of lists x
  same_via x ne = get_or-set_other lists.vias at x (Some from) None ne

  same_depth : (x : ℕ) → x ≢ at → depth_of next x ≡ depth_of lists x
  same_depth x ne = get_or-set_other lists.depths at x (depth_of lists from + 1) 0 ne

  pub new_leader : leader_of next at ≡ leader
  new_leader = get_or-set_same lists.leaders at leader 0 (rw s.rows.leaders at_low)

  new_via : via_of next at ≡ Some from
  new_via = get_or-set_same lists.vias at (Some from) None (rw s.rows.vias at_low)

  new_depth : depth_of next at ≡ depth_of lists from + 1
  new_depth = get_or-set_same lists.depths at (depth_of lists from + 1) 0 (rw s.rows.depths at_low)

  rows_after : HaveRows (length near) next
  rows_after = record {
    leaders = length-set lists.leaders at leader ∙ s.rows.leaders;
    vias = length-set lists.vias at (Some from) ∙ s.rows.vias;
    depths = length-set lists.depths at (depth_of lists from + 1) ∙ s.rows.depths;
  }

  -- what has the leader, or an earlier one, is another record
  not_at : (x : ℕ) → leader_of lists x ≤ leader → x ≢ at
  not_at x low e = (let same : leader_of lists x ≡ leader_of lists at = ap (leader_of lists) e in omega arith)

  rooted_at : IsRooted (IsNear near) next at
  rooted_at = record {
    low = omega (arith, new_leader, at_alone.0);
    top = λ e. absurd (omega (arith, new_depth, e));
    below = λ deep. (
      from,
      record {
        via = new_via;
        along = n.turned from at near_at;
        leader = same_leader from from_other ∙ (from_reached.1 ∙ sym new_leader);
        depth = new_depth ∙ ap (λ d. d + 1) (sym (same_depth from from_other));
      },
    );
  }

  rooted_other : (x : ℕ) → x < length near → x ≢ at → IsRooted (IsNear near) next x
  rooted_other x lt ne =
      let old = s.rooted x lt in
      record {
        low = omega (arith, same_leader x ne, old.low);
        top = λ e. (let top = old.top (sym (same_depth x ne) ∙ e) in (same_leader x ne ∙ top.0, same_via x ne ∙ top.1));
        below = λ deep.
            let is : 0 < depth_of lists x = omega (arith, same_depth x ne) in
            let b = old.below is in
            let other : b.0 ≢ at = λ e.
            let same : leader_of lists at ≡ leader_of lists x = rw e at b.1.leader in
            let flat = (s.alone x lt (omega arith)).1 in
            omega arith in (
              b.0,
              record {
                via = same_via x ne ∙ b.1.via;
                along = b.1.along;
                leader = same_leader b.0 other ∙ (b.1.leader ∙ sym (same_leader x ne));
                depth = same_depth x ne ∙ (b.1.depth ∙ ap (λ d. d + 1) (sym (same_depth b.0 other)));
              },
            );
      }

  reached_queue : (k : ℕ) → k < length queue → slice_index (queue ++ at ∷ []) k ≡ slice_index queue k
  reached_queue k lt = get_or_append_left queue (at ∷ []) 0 k lt

  reached_after : (k : ℕ) → k < length (queue ++ at ∷ []) → IsGathered near next leader (slice_index (queue ++ at ∷ []) k) k
  reached_after k lt = elim (cases_lt k (length queue)) [
    | inl before ↦
        let r = s.reached k before in
        let ne = not_at (slice_index queue k) (omega (arith, r.1)) in
        rw (reached_queue k before) (r.0, same_leader (slice_index queue k) ne ∙ r.1, omega (arith, same_depth (slice_index queue k) ne, r.2))
    | inr past ↦
        let last : length queue ≡ k = omega (arith, length_push queue at) in
        rw (get_or_push queue at 0 k last) (at_low, new_leader, omega (arith, new_depth, from_reached.2))
  ]

  pub search_reached : IsSearch near next (queue ++ at ∷ []) done leader
  search_reached = record {
    rows = rows_after;
    rooted = λ x lt. elim (cases_eq x at) [ inl e ↦ rw e rooted_at | inr ne ↦ rooted_other x lt ne ];
    settled = λ x y lt low h.
        let ne : x ≢ at = λ e. (let same : leader_of next x ≡ leader_of next at = ap (leader_of next) e in omega (arith, new_leader)) in
        let before : leader_of lists x < leader = omega (arith, same_leader x ne) in
        let same = s.settled x y lt before h in
        same_leader y (not_at y (omega arith)) ∙ (same ∙ sym (same_leader x ne));
    alone = λ x lt le.
        let ne : x ≢ at = λ e. (let same : leader_of next x ≡ leader_of next at = ap (leader_of next) e in omega (arith, new_leader)) in
        let old = s.alone x lt (omega (arith, same_leader x ne)) in
        (same_leader x ne ∙ old.0, same_depth x ne ∙ old.1);
    reached = reached_after;
    queued = λ x lt e. elim (cases_eq x at) [
      | inl is ↦ rw is (Contains-push queue at)
      | inr ne ↦ Contains-append_left queue (at ∷ []) x (s.queued x lt (sym (same_leader x ne) ∙ e))
    ];
    finished = λ k y lt h.
        let old = s.finished k y lt (rw (reached_queue k (omega arith)) at h) in
        same_leader y (not_at y (omega arith)) ∙ old;
  }

  pub leader_kept : (x : ℕ) → leader_of lists x ≡ leader → leader_of next x ≡ leader
  leader_kept x e = same_leader x (not_at x (omega arith)) ∙ e

-- one record fewer has a later leader
pub fewer_later : (leaders : List ℕ) (at leader : ℕ) → at < length leaders → leader < slice_index leaders at
    → count_by (nat_lt leader) (set leaders at leader) + 1 ≡ count_by (nat_lt leader) leaders
fewer_later leaders at leader lt later =
    let sums = sum_by-set (λ x. cond (ltb leader x) 1 0) leaders at leader 0 lt in
    let new : ◌≡◌ {A = ℕ} (cond (ltb leader leader) 1 0) 0 = ap (λ b. cond b 1 0) (le-ltb leader leader (omega arith)) in
    let old : ◌≡◌ {A = ℕ} (cond (ltb leader (slice_index leaders at)) 1 0) 1 = ap (λ b. cond b 1 0) (lt-ltb leader (slice_index leaders at) later) in
    omega (arith, sums, new, old)

-- all searches are done
pub forest_found : (rows : ℕ) (links : List PairAt) (near : List (List ℕ)) (lists : GroupLists) → All (IsLinkWithin rows) links → AreLinked rows links near → AreFound near lists rows → IsForest rows links lists
forest_found rows links near lists within l found =
    let long : length near ≡ rows = l.many in
    let rooted : (x : ℕ) → x < rows → IsRooted (IsNear near) lists x = λ x lt. found.rooted x (rw long lt) in
    record {
      complete = rw long at found.rows;
      ends = λ k d lt.
          let link : PairAt = get_or links k d in
          let both = within k d lt in
          let linked : ShareALink links link.a link.b = inl (k, lt, here links k d link lt refl) in
          let low : leader_of lists link.a < rows = (let r = (rooted link.a (omega arith)).low in omega arith) in
          sym (found.settled link.a link.b (rw long (omega arith)) low (l.all link.a link.b (omega arith) linked));
      rooted = λ x lt. rooted_by (IsNear near) (ShareALink links) lists x (l.linked x) (rooted x lt);
    }
  where
    here : (links : List PairAt) (k : ℕ) (d link : PairAt) → k < length links → link ≡ get_or links k d → get_or links k link ≡ link
    here links k d link lt e = get_or_default links k link d lt ∙ sym e

-- there is room for all records
pub room_first : (lists : GroupLists) (rows leader : ℕ) → HaveRows rows lists → waiting_room lists (leader ∷ []) leader ≤ rows + 1
room_first lists rows leader h = omega (arith, count_by-le-length (nat_lt leader) lists.leaders, h.leaders)

pub room_kept : (lists : GroupLists) (queue : List ℕ) (leader at from : ℕ) → at < length lists.leaders → leader < leader_of lists at
    → waiting_room (reached_lists lists at from leader) (queue ++ at ∷ []) leader ≡ waiting_room lists queue leader
room_kept lists queue leader at from lt later = omega (arith, fewer_later lists.leaders at leader lt later, length_push queue at)

-- a search whose next record has so many neighbours with the leader
pub record IsVisit (near : List (List ℕ)) (lists : GroupLists) (queue heads : List ℕ) (done leader from i room : ℕ) : Type 0 where
  pub search : IsSearch near lists queue done leader
  pub within : done < length queue
  pub first : slice_index queue done ≡ from
  pub told : (k : ℕ) → k < i → leader_of lists (slice_index heads k) ≡ leader
  pub kept : waiting_room lists queue leader ≡ room

module _ (near : List (List ℕ)) (lists : GroupLists) (queue heads : List ℕ) (done leader from i room : ℕ) (n : AreNeighbours near) (v : IsVisit near lists queue heads done leader from i room) (are : heads ≡ slice_index_or near from []) where
  -- all neighbours have the leader
  pub all_visited : length heads ≤ i → IsSearch near lists queue (done + 1) leader
  all_visited past = search_more near lists queue done leader v.search (λ y h.
      let h2 = rw (v.first, ← are) at h in
      let is : slice_index heads h2.0 ≡ y = get_or_default heads h2.0 0 y h2.1 ∙ h2.2 in
      ap (leader_of lists) (sym is) ∙ v.told h2.0 (omega (arith, h2.1)))

  module _ (lt : i < length heads) where
    abbrev head : ℕ
    head = slice_index heads i

    near_head : IsNear near (slice_index queue done) head
    near_head = rw (v.first, ← are) (i, lt, get_or_default heads i head 0 lt)

    pub head_within : head < length lists.leaders
    head_within = (let inside = n.within (slice_index queue done) head near_head in omega (arith, inside, v.search.rows.leaders))

    -- a neighbour that was reached before has the leader
    pub visit_passed : leader_of lists head ≤ leader → IsVisit near lists queue heads done leader from (i + 1) room
    visit_passed low =
        let least = not_earlier near lists queue done leader n v.search (slice_index queue done) head (v.search.reached done v.within).1 near_head in
        record {
          search = v.search;
          within = v.within;
          first = v.first;
          told = below_more (λ k. leader_of lists (slice_index heads k) ≡ leader) i v.told (omega (arith, low, least));
          kept = v.kept;
        }

    -- another one is reached
    pub visit_reached : (new : GroupLists) (more : List ℕ) → leader < leader_of lists head → new ≡ reached_lists lists head from leader → more ≡ queue ++ head ∷ [] → IsVisit near new more heads done leader from (i + 1) room
    visit_reached new more later is pushed =
        let at : ℕ = slice_index queue done in
        let next : GroupLists = reached_lists lists head at leader in
        let same : new ≡ next = is ∙ ap (λ f. reached_lists lists head f leader) (sym v.first) in
        rw (same, pushed) (record {
          search = search_reached near lists queue done leader head n v.search v.within near_head later;
          within = omega (arith, v.within, length_push queue head);
          first = get_or_append_left queue (head ∷ []) 0 done v.within ∙ v.first;
          told = below_more (λ k. leader_of next (slice_index heads k) ≡ leader) i
              (λ k low. leader_kept near lists queue done leader head n v.search v.within near_head later (slice_index heads k) (v.told k low))
              (new_leader near lists queue done leader head n v.search v.within near_head later);
          kept = room_kept lists queue leader head at head_within later ∙ v.kept;
        })

-- One step of a loop over items.

-- an item more of a list that is made item by item
pub text_more : {A B : Type 0} (f : A → List B) (before now new : List B) (xs : List A) (i : ℕ) (none : A) → i < length xs → now ≡ before ++ flat_map f (take i xs) → new ≡ now ++ f (get_or xs i none)
    → new ≡ before ++ flat_map f (take (i + 1) xs)
text_more f before now new xs i none lt told grown =
    let x = get_or xs i none in
    grown ∙ ap (λ l. l ++ f x) told ∙ flat_map_more f before (take i xs) x ∙ ap (λ l. before ++ flat_map f l) (sym (take_more xs i none lt))

-- two items more for each item
pub two_more : {A : Type 0} (f g : A → ℕ) (now once new : List ℕ) (xs : List A) (i : ℕ) (none : A) → i < length xs → now ≡ flat_map (λ x. f x ∷ g x ∷ []) (take i xs) → once ≡ now ++ f (get_or xs i none) ∷ []
    → new ≡ once ++ g (get_or xs i none) ∷ [] → new ≡ flat_map (λ x. f x ∷ g x ∷ []) (take (i + 1) xs)
two_more f g now once new xs i none lt told first second =
    let x = get_or xs i none in
    text_more (λ x. f x ∷ g x ∷ []) [] now new xs i none lt told (second ∙ ap (λ (l : List ℕ). l ++ g x ∷ []) first ∙ append_assoc now (f x ∷ []) (g x ∷ []))
