-- What is prepared of the two files of a plan: their standard values, whose distinct texts have room. `prepare` and `prepare_texts`
-- carry it (clause `answer`, by `prepared`), and say of the pool of these texts what later steps need (clauses `pooled` and `ready`).
use Rattle.std.specs.Prelude.{◌≡◌, ℕ, List, map, Result, Ok, Err, ⊤, filter, length, nat_lt}
use Rattle.link_base.specs.Words.{and_then, Record}
use Rattle.link_base.specs.declared.fault.Fault.{Fault}
use Rattle.link_base.specs.declared.fault.FileRole.{FileRole}
use Rattle.value_forms.specs.declared.canons.CompareKind.{CompareKind}
use Rattle.comparators.specs.Fields.{IdRows}
use Rattle.value_pool.specs.declared.pool.PoolFault.{PoolFault}
use Rattle.link_plan.specs.Plan.{FieldKeys}
use Rattle.link_plan.specs.declared.plan.Plan.{Plan}
use Rattle.standard_files.specs.Files.{standard_files, StandardPair}
use Rattle.standard_files.specs.Sides.{pooled_values, PooledView, pooled_texts}
use Rattle.dedup_groups.specs.Groups.{GroupLists, IsForest}
use Rattle.dedup_groups.specs.GroupsText.{text_of_groups}
use Rattle.link_base.specs.declared.rule.PairAt.{PairAt}
use Rattle.link_base.specs.declared.fault.Fault.TheVariants as fault
use Rattle.link_base.specs.declared.fault.FileRole.TheVariants as role
use Rattle.value_pool.specs.declared.pool.PoolFault.TheVariants as pool

-- the comparisons of a plan's fields
abbrev pub kinds_of : Plan → List CompareKind
kinds_of plan = map (λ (f : FieldKeys). f.compare) plan.fields

-- the fault of a pool
abbrev pub pool_fault : PoolFault → Fault
pool_fault (pool.Full used limit) = fault.PoolFull used limit
pool_fault pool.NoMemory = fault.NoMemory

abbrev pub with_fault : {T : Type 0} → Result T PoolFault → Result T Fault
with_fault (Ok x) = Ok x
with_fault (Err f) = Err (pool_fault f)

-- two standard files, where their distinct texts, standard texts, canons and parts of keys, have room in so many bytes
abbrev pub with_room : Plan → ℕ → StandardPair → Result StandardPair Fault
with_room plan limit files = and_then (with_fault (pooled_texts limit (kinds_of plan) plan.passes files.a.records files.b.records)) (λ texts. Ok files)

-- the two files in standard values, whose texts have room in `limit` bytes
abbrev pub prepared : Plan → ℕ → List ℕ → List ℕ → Result StandardPair Fault
prepared plan limit bytes_a bytes_b = and_then (standard_files plan bytes_a bytes_b) (λ files. with_room plan limit files)

-- machinery: what is seen of prepared files, with their values in a pool
pub record PreparedView : Type 0 where
  pub files : StandardPair
  pub values : PooledView

abbrev pub files_of : PreparedView → StandardPair
files_of p = p.files

-- machinery: the values of two standard files in a pool of at most `limit` bytes
abbrev pub pooled : Plan → ℕ → StandardPair → Result PooledView Fault
pooled plan limit files = with_fault (pooled_values limit (kinds_of plan) plan.passes files.a.records files.b.records)

-- A or B
abbrev pub IsOneOfBoth : FileRole → Type 0
IsOneOfBoth role.A = ⊤
IsOneOfBoth role.B = ⊤
IsOneOfBoth r = ⊥

-- what the rows of one of both files are compared by, and how many of its dates could not be read
abbrev pub sides_in : PreparedView → FileRole → IdRows
sides_in p role.B = p.values.b
sides_in p r = p.values.a

abbrev pub unreadable_of : PreparedView → FileRole → ℕ
unreadable_of p role.B = p.files.b.unreadable
unreadable_of p r = p.files.a.unreadable

-- The groups of the records of one file that links join (`duplicate_lines`, its lone clause). Which forest is printed is not said; its
-- leaders are those of the groups, by the law `forest_leaders`.

-- the links of two records of one file: those whose first record stands before the second
abbrev pub links_within : List PairAt → List PairAt
links_within links = filter (λ at. nat_lt at.a at.b) links

-- the text of a forest of these links
pub record IsGroupsText (records : List Record) (links : List PairAt) (text : List ℕ) : Type 0 where
  pub lists : GroupLists
  pub forest : IsForest (length records) (links_within links) lists
  pub lines : text ≡ text_of_groups lists.leaders lists.vias records
