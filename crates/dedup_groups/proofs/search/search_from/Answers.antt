use Rattle.std.proofs.Common.{◌≡◌, ◌++◌, ◌∷◌, ◌∙◌, ℕ, List, [], length, ap, arith}
use Rattle.dedup_groups.specs.Forest.{waiting_room, lists_of}
use Rattle.dedup_groups.proofs.SearchLemmas.{room_first, search_first, search_last}
use Rattle.dedup_groups.proofs.search.search_from.Goals as goal

pub search-init : goal.search-init
search-init c =
    let queue : c.push.new.self.items ≡ c.args.leader ∷ [] = c.in_ok-push.ensures.items ∙ ap (λ (q : List ℕ). q ++ c.args.leader ∷ []) c.clear.ensures.items in
    record {
      search = rw queue (search_first c.args.near.now (lists_of c.args.trees.now) c.args.leader c.requires.found c.requires.within c.requires.alone);
      room =
          let most = room_first (lists_of c.args.trees.now) (length c.args.near.now) c.args.leader c.requires.found.rows in
          omega (arith, ap (λ (q : List ℕ). waiting_room (lists_of c.args.trees.now) q c.args.leader) queue, most, c.requires.few);
    }

pub returns : goal.returns
returns c = search_last c.args.near.now (lists_of c.search.trees) c.search.trees.queue.items c.search.done c.args.leader c.search.invariant.search (omega arith)
