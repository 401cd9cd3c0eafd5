use Rattle.std.proofs.Common.{◌≡◌, ap, ◌∙◌, rules}
use Rattle.std.proofs.lemmas.List.{places, with_items_is}
use Rattle.value_pool.specs.Table.{hashes_of, texts_at, IsHashed, texts_of}
use Rattle.value_pool.proofs.SearchLemmas.{anew}
use Rattle.value_pool.proofs.table.Table.spread.Goals as goal

pub returns-in-Ok-clause-table : goal.returns-in-Ok-clause-table
returns-in-Ok-clause-table c =
    let table = c.args.self.now in
    let was = c.deref_mut.ensures.value in
    let same : texts_at table.bytes.items c.thread.new.slots ≡ texts_of table = c.thread.ensures.texts table.bytes.items ∙ ap (texts_at table.bytes.items) was in
    let hashes : hashes_of c.thread.new.slots ≡ hashes_of table.slots.items = c.thread.ensures.hashes ∙ ap hashes_of was in
    let hashed : IsHashed (texts_at table.bytes.items c.thread.new.slots) (hashes_of c.thread.new.slots) = rw (same, hashes) c.requires.table.hashed in
    let slots = with_items_is table.slots c.thread.new.slots (search (rules, places)) in
    let heads = with_items_is c.in-Ok.heads c.thread.new.heads (search (rules, places)) in
    anew table _ c.thread.new.slots c.thread.new.heads c.requires.table (λ i. table.bytes.items) slots heads (λ i. table.order) same (c.thread.ensures.within table.bytes.items (rw was c.requires.table.within)) hashed c.thread.ensures.chained
