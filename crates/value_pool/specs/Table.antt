-- Machinery of the pool: a table of distinct texts, and what is seen of it. No public clause names it; the invariant of
-- `Pool` does.
use Rattle.std.specs.Prelude.{◌≡◌, ◌<◌, ◌≤◌, length, ℕ, zero, suc, ◌-◌, ◌==◌, List, bit_and, slice_index_or, if◌then◌else◌, ◌+◌, [], map, slice_range, Option, Some, IfSome, is_some, slice_get, ⊤, ◌≢◌, Bool, ◌&&◌, ◌∷◌, ◌++◌, All, AllPairs, bytes_eq, sum_by, vec_capacity, vec_len, Vec}
use Rattle.value_pool.specs.Hashes.{last_word, hash_of}
use Rattle.value_pool.specs.Pool.{stands_among, PoolState, KeepsRoom}
use Rattle.value_pool.specs.declared.chains.Slot.{Slot}
use Rattle.std.specs.BTreeMap.{BTreeMap, get_by}
use Rattle.std.specs.Cmp.Lexicographic.{slice_cmp}
use Rattle.std.specs.Ordering.{nat_cmp}
use Rattle.std.specs.declared.alloc.Global.{Global}
use Rattle.value_pool.specs.declared.order.Order.{Order}
use Rattle.link_limits.specs.declared.TheConstants.{MOST_POOL_LIMIT}
use Rattle.value_pool.specs.declared.table.Table.{Table}
use Rattle.value_pool.specs.declared.order.Order.TheVariants as order

-- Machinery of the pool: buckets of hashes, and their chains (Knuth, vol. 3, 6.4: hashing with separate chaining). No
-- public clause names it; the invariant of `Pool` does.

-- the low bits of a hash, where the buckets are a power of 2
abbrev pub bucket_of : ℕ → ℕ → ℕ
bucket_of buckets hash = bit_and hash (buckets - 1)

-- one more than the last place below n whose hash has this bucket, or 0
abbrev pub last_in : ℕ → List ℕ → ℕ → ℕ → ℕ
last_in buckets hashes bucket zero = 0
last_in buckets hashes bucket (suc n) =
    if bucket_of buckets (slice_index_or hashes n 0) == bucket then suc n else last_in buckets hashes bucket n

-- each chain goes from the last place of its bucket down
pub record IsChained (heads : List ℕ) (hashes : List ℕ) (nexts : List ℕ) : Type 0 where
  pub some : 1 ≤ length heads
  pub head_at : (b : ℕ) → b < length heads → slice_index_or heads b 0 ≡ last_in (length heads) hashes b (length hashes)
  pub next_at : (p : ℕ) → p < length hashes →
      slice_index_or nexts p 0 ≡ last_in (length heads) hashes (bucket_of (length heads) (slice_index_or hashes p 0)) p

-- Machinery of the pool: texts as parts of one list of bytes. No public clause names it; the invariant of `Pool` does.

-- the texts of the slots
abbrev pub texts_at : List ℕ → List Slot → List (List ℕ)
texts_at bytes slots = map (λ (s : Slot). slice_range bytes s.start s.end) slots

-- what the chain of each slot goes on with
abbrev pub nexts_of : List Slot → List ℕ
nexts_of slots = map (λ (s : Slot). s.next) slots

-- the hashes that the slots have
abbrev pub hashes_of : List Slot → List ℕ
hashes_of slots = map (λ (s : Slot). s.hash) slots

-- the text of a slot is a part of these bytes, and ends with the last word of the slot
pub record IsSlotWithin (bytes : List ℕ) (slot : Slot) : Type 0 where
  pub ordered : slot.start ≤ slot.end
  pub within : slot.end ≤ length bytes
  pub last : slot.last ≡ last_word (slice_range bytes slot.start slot.end)

-- how many distinct texts of so many bytes there may be: one of them may be empty
abbrev pub most_texts : ℕ → List (List ℕ) → ℕ
most_texts bytes texts = bytes + (if stands_among texts [] then 1 else 0)

-- Machinery of the pool: the order of its texts, kept once a chain has been long. No public clause names it; the invariant of
-- `Pool` does.

-- the place of a text in the order
abbrev pub place_in : BTreeMap (Vec ℕ Global) ℕ → List ℕ → Option ℕ
place_in places text = get_by (λ (key : Vec ℕ Global). slice_cmp nat_cmp text key.items) places

-- the order has these texts alone, each with its place
pub record HasPlaces (places : BTreeMap (Vec ℕ Global) ℕ) (texts : List (List ℕ)) : Type 0 where
  pub found : (text : List ℕ) → IfSome (place_in places text) (λ place. slice_get texts place ≡ Some text)
  pub held : (text : List ℕ) → is_some (place_in places text) ≡ stands_among texts text

-- if there is an order, it is that of these texts
abbrev pub IsOrder : Order → List (List ℕ) → Type 0
IsOrder order.Unneeded texts = ⊤
IsOrder (order.Places places) texts = HasPlaces places texts
IsOrder order.Refused texts = ⊤

-- the slot has this hash, and its bytes are this text
abbrev pub has_text : List ℕ → Slot → ℕ → List ℕ → Bool
has_text bytes slot hash text = (slot.hash == hash) && bytes_eq (slice_range bytes slot.start slot.end) text

-- each text has its hash
pub record IsHashed (texts : List (List ℕ)) (hashes : List ℕ) : Type 0 where
  pub hash_at : (p : ℕ) → p < length texts → slice_index_or hashes p 0 ≡ hash_of (slice_index_or texts p [])

abbrev pub texts_of : Table → List (List ℕ)
texts_of table = texts_at table.bytes.items table.slots.items

-- what is seen of a table under a limit
abbrev pub state_of : ℕ → Table → PoolState
state_of limit table = record {
  texts = texts_of table;
  limit = limit;
  used = length table.bytes.items;
  spare_texts = vec_capacity table.slots - vec_len table.slots;
  spare_bytes = vec_capacity table.bytes - vec_len table.bytes;
}

-- distinct texts that fill the bytes, each with its hash, in the chain of its bucket, and in the order if there is one
pub record IsTable (table : Table) : Type 0 where
  pub within : All (IsSlotWithin table.bytes.items) table.slots.items
  pub distinct : AllPairs (λ a b. a ≢ b) (texts_of table)
  pub few : length table.slots.items ≤ most_texts (length table.bytes.items) (texts_of table)
  pub chained : IsChained table.heads.items (hashes_of table.slots.items) (nexts_of table.slots.items)
  pub hashed : IsHashed (texts_of table) (hashes_of table.slots.items)
  pub ordered : IsOrder table.order (texts_of table)
  pub short : length table.bytes.items ≤ MOST_POOL_LIMIT
  pub whole : sum_by length (texts_of table) ≡ length table.bytes.items

-- the text is the last of the texts, and at most its room is used up
pub record HasAppended (text : List ℕ) (old new : Table) : Type 0 where
  pub texts : texts_of new ≡ texts_of old ++ text ∷ []
  pub used : length new.bytes.items ≡ length old.bytes.items + length text
  pub room : KeepsRoom (state_of 0 old) (state_of 0 new) 1 (length text)
