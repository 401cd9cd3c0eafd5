use Rattle.std.proofs.Common.{◌-◌, sym, ◌∙◌, rules, arith}
use Rattle.std.proofs.lemmas.List.{length-map}
use Rattle.value_pool.specs.Table.{hashes_of, nexts_of, texts_of}
use Rattle.value_pool.proofs.ChainLemmas.{found_at}
use Rattle.value_pool.proofs.SearchLemmas.{as_many, held_where, inside_slots, left-start, next_left, none-held, text_at_slot, text_by_hash}
use Rattle.value_pool.proofs.table.Table.search.Goals as goal

pub chain-init : goal.chain-init
chain-init c =
    let table = c.args.self.now in
    record {
      left = left-start table.heads.items (texts_of table) (hashes_of table.slots.items) (nexts_of table.slots.items) c.args.text.now c.bucket-bucket.result _ c.requires.table.chained c.requires.table.hashed (as_many table.bytes.items table.slots.items) (search rules) (search rules) (search rules);
      few = omega arith;
    }

pub returns-then-has_text-clause-found : goal.returns-then-has_text-clause-found
returns-then-has_text-clause-found c =
    let table = c.args.self.now in
    let slot = c.index-slot.result.now in
    let same = text_by_hash table.bytes.items slot c.args.hash c.args.text.now (search rules) in
    found_at table.bytes.items table.slots.items (c.chain.at - 1) slot c.args.text.now (inside_slots table.slots.items c.chain.at c.chain.invariant.left.within (search rules)) (search rules) same

pub returns-then-has_text-clause-held : goal.returns-then-has_text-clause-held
returns-then-has_text-clause-held c =
    let table = c.args.self.now in
    let slot = c.index-slot.result.now in
    let within = inside_slots table.slots.items c.chain.at c.chain.invariant.left.within (search rules) in
    let same = text_by_hash table.bytes.items slot c.args.hash c.args.text.now (search rules) in
    sym (held_where (texts_of table) c.args.text.now (c.chain.at - 1) (simp length-map within) (sym (text_at_slot table.bytes.items table.slots.items (c.chain.at - 1) slot within (search rules)) ∙ same))

pub chain-smaller : goal.chain-smaller
chain-smaller c =
    let table = c.args.self.now in
    (next_left table.bytes.items table.slots.items table.heads.items c.args.text.now c.args.hash c.bucket-bucket.result c.chain.at c.index-slot.result.now c.requires.table.chained c.requires.table.hashed c.requires.hash (search rules) c.chain.invariant.left (search rules) (search rules) (search rules)).1

pub chain-preserved : goal.chain-preserved
chain-preserved c =
    let table = c.args.self.now in
    let next = next_left table.bytes.items table.slots.items table.heads.items c.args.text.now c.args.hash c.bucket-bucket.result c.chain.at c.index-slot.result.now c.requires.table.chained c.requires.table.hashed c.requires.hash (search rules) c.chain.invariant.left (search rules) (search rules) (search rules) in
    record { left = next.0; few = omega (arith, next.1, c.chain.invariant.few) }

pub returns-clause-held : goal.returns-clause-held
returns-clause-held c =
    let left = c.chain.invariant.left in
    sym (none-held (texts_of c.args.self.now) c.args.text.now (λ q within. left.others q (omega arith) within))
