use Rattle.std.proofs.Common.{◌≡◌, ◌≤◌, ◌+◌, ◌-◌, ◌++◌, ◌∷◌, [], ℕ, length, vec_capacity, vec_len, arith, rules, sym, ◌∙◌, ap, length-append}
use Rattle.value_pool.specs.declared.chains.Slot.{Slot}
use Rattle.value_pool.specs.Table.{hashes_of, nexts_of, texts_at, texts_of}
use Rattle.std.proofs.lemmas.List.{length-map, map-append}
use Rattle.value_pool.proofs.ChainLemmas.{appended, texts-push, chained-push, hashed-push}
use Rattle.value_pool.proofs.SearchLemmas.{as_many}
use Rattle.value_pool.proofs.table.Table.append.Goals as goal

-- room that is used up by what is appended, where the capacity has grown twice
spare_left : (capacity len grown last longer more n m : ℕ) → capacity ≤ grown → grown ≤ last → len ≡ n → longer ≡ m → m ≡ n + more → capacity - len ≤ last - longer + more
spare_left capacity len grown last longer more n m first second is_n is_m is = omega arith

pub returns-clause-table : goal.returns-clause-table
returns-clause-table c =
    let table = c.args.self.now in
    let slot : Slot = record { start = c.len-start.result; end = c.len-start.result + length c.args.text.now; next = c.index-next.result.now; hash = c.args.hash; last = c.args.last } in
    let start : c.len-start.result ≡ length table.bytes.items = search rules in
    let grown : c.push_reserved.new.self.items ≡ table.slots.items ++ slot ∷ [] = search rules in
    let longer : c.extend_from_slice.new.self.items ≡ table.bytes.items ++ c.args.text.now = search rules in
    let all = appended table.bytes.items c.args.text.now table.slots.items slot _ _ c.requires.table.within c.requires.table.distinct c.requires.table.few c.requires.fresh start (ap (λ n. n + length c.args.text.now) start) c.requires.last longer grown in
    let nexts = ap nexts_of grown ∙ map-append (λ (s : Slot). s.next) table.slots.items (slot ∷ []) in
    let hashes = ap hashes_of grown ∙ map-append (λ (s : Slot). s.hash) table.slots.items (slot ∷ []) in
    let many = length-map table.slots.items (λ (s : Slot). s.hash) in
    let place : c.len-place.result ≡ length table.slots.items = search rules in
    record {
      within = all.within;
      distinct = all.distinct;
      few = all.most;
      chained = rw (hashes, nexts) (chained-push table.heads.items (hashes_of table.slots.items) (nexts_of table.slots.items) c.args.hash c.bucket-bucket.result c.index-next.result.now (c.len-place.result + 1) c.requires.table.chained (length-map table.slots.items (λ (s : Slot). s.next) ∙ sym many) (search rules) (search rules) (search rules) (omega (arith, many, place)));
      hashed = rw (all.texts, hashes) (hashed-push (texts_of table) (hashes_of table.slots.items) c.args.text.now c.args.hash c.requires.table.hashed (as_many table.bytes.items table.slots.items) c.requires.hash);
      ordered = rw all.texts (c.take.ensures (texts_of table) c.requires.table.ordered (place ∙ sym many ∙ sym (as_many table.bytes.items table.slots.items)));
      short = omega (arith, c.requires.fits, ap length longer, length-append table.bytes.items c.args.text.now);
      whole = all.texts_sum c.requires.table.whole;
    }

pub returns-clause-place : goal.returns-clause-place
returns-clause-place c =
    let table = c.args.self.now in
    let place : c.len-place.result ≡ length table.slots.items = search rules in
    place ∙ sym (length-map table.slots.items (λ (s : Slot). s.hash)) ∙ sym (as_many table.bytes.items table.slots.items)

pub returns-clause-appended : goal.returns-clause-appended
returns-clause-appended c =
    let table = c.args.self.now in
    let slot : Slot = record { start = c.len-start.result; end = c.len-start.result + length c.args.text.now; next = c.index-next.result.now; hash = c.args.hash; last = c.args.last } in
    let start : c.len-start.result ≡ length table.bytes.items = search rules in
    let grown : c.push_reserved.new.self.items ≡ table.slots.items ++ slot ∷ [] = search rules in
    let longer : c.extend_from_slice.new.self.items ≡ table.bytes.items ++ c.args.text.now = search rules in
    let more = ap length longer ∙ length-append table.bytes.items c.args.text.now in
    record {
      texts = (λ i. texts_at (longer i) (grown i)) ∙ texts-push table.bytes.items c.args.text.now table.slots.items slot c.requires.table.within start (ap (λ n. n + length c.args.text.now) start);
      used = more;
      room = record {
        of_texts = spare_left (vec_capacity table.slots) (vec_len table.slots) _ _ _ 1 _ _ c.in_ok-reserve.ensures.capacity (omega (arith, c.push_reserved.ensures.capacity)) table.slots.ok.0 c.push_reserved.new.self.ok.0 (ap length grown ∙ length-append table.slots.items (slot ∷ []));
        of_bytes = spare_left (vec_capacity table.bytes) (vec_len table.bytes) _ _ _ (length c.args.text.now) _ _ (omega arith) c.extend_from_slice.ensures.capacity table.bytes.ok.0 c.extend_from_slice.new.self.ok.0 more;
      };
    }
