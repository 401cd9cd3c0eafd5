-- What loads and puts of the host's store come to, of some file of the host, where that tells its bytes and its state: a load that ends
-- well gives what one had left, and notes the state of one (`HostFiles::load`, clauses `read`, `noted`); of a put that ends well one has
-- all bytes and is kept, and one has the state that was noted (`HostFiles::put`, clauses `written`, `unchanged`). Which file, no clause says.
use Rattle.std.specs.Prelude.{◌≡◌, ◌++◌, ◌∷◌, [], ℕ, Bool, List, Option, All, IfSome, IsTrue, ◌==◌, None, Some, length, slice_index, if◌then◌else◌}
use Rattle.std.specs.Io.KnownBytes.{Appends}
use Rattle.link_outside.specs.Outside.{Shows}
use Rattle.link_outside.specs.declared.outside.Load.{Load}
use Rattle.host_outside.specs.declared.host_file.FileState.{FileState}
use Rattle.host_outside.specs.declared.loads.Loaded.{Loaded}
use Rattle.std.specs.Path.{slash, dot, rsplit_once}

-- what was read is, of some file whose bytes are known, what a load of them shows
abbrev pub IsRead : {File : Type 0} → (File → Option (List ℕ)) → ℕ → Load → Type 0
IsRead {File} remaining limit load = (file : File) × IfSome (remaining file) (λ bytes. Shows bytes limit load)

-- all of the bytes stand behind what some file had, where that is known, and the file is kept then
abbrev pub IsWritten : {File : Type 0} → (File → Option (List ℕ)) → (File → Bool) → List ℕ → Type 0
IsWritten {File} contents is_kept bytes =
    (before : File) × (after : File) × Appends (contents before) (contents after) bytes × IsTrue (is_kept after)

-- some file has this state, where it tells it
abbrev pub IsStateOf : {File : Type 0} → (File → Option FileState) → FileState → Type 0
IsStateOf {File} told state = (file : File) × IfSome (told file) (λ now. state ≡ now)

-- what was read is of some file that has this state, each where it tells it
abbrev pub IsReadIn : {File : Type 0} → (File → Option (List ℕ)) → (File → Option FileState) → ℕ → Load → FileState → Type 0
IsReadIn {File} remaining told limit load state =
    (file : File) × IfSome (remaining file) (λ bytes. Shows bytes limit load) × IfSome (told file) (λ now. state ≡ now)

-- a load notes the name with that state
abbrev pub IsNoted : {File : Type 0} → (File → Option (List ℕ)) → (File → Option FileState) → ℕ → List ℕ → List Loaded → List Loaded → Load → Type 0
IsNoted remaining told limit name old new load =
    (state : FileState) × IsReadIn remaining told limit load state × (new ≡ old ++ (record { name = name; state = state } ∷ []))

-- for each load of the name some file has the state that it noted, where it tells it
abbrev pub IsUnchanged : {File : Type 0} → (File → Option FileState) → List Loaded → List ℕ → Type 0
IsUnchanged told loads name = All (λ loaded. loaded.name ≡ name → IsStateOf told loaded.state) loads

-- two states are of one file: no two files of a system have one number on one device at a time (IEEE 1003.1, sys/stat.h)
abbrev pub IsSameFile : FileState → FileState → Type 0
IsSameFile a b = (a.device ≡ b.device) × (a.inode ≡ b.inode)

-- this is the state of the folder of that handle, where the handle tells its own
abbrev pub IsFolderOf : {File : Type 0} → (File → Option FileState) → File → FileState → Type 0
IsFolderOf told folder state = IfSome (told folder) (λ now. IsSameFile state now)

-- Lists that only grow: the files and folders that a store of the host keeps (clauses of `HostFiles` and `LockedFolders`).

-- all of the old stay, in front of what is new
abbrev pub KeepsAll : {T : Type 0} → List T → List T → Type 0
KeepsAll {T} old new = (more : List T) × (new ≡ old ++ more)

-- Names of the host, as POSIX has them (IEEE 1003.1, 4.13 Pathname Resolution): the folder of a name, and where links lead
-- (`folder_of`, `led_to` of `places.rt`).

-- what stands before the last slash is the folder: the root where that is nothing, and the folder of the run where there is no slash
abbrev pub folder_of_split : Option (List ℕ × List ℕ) → List ℕ
folder_of_split None = dot ∷ []
folder_of_split (Some split) = if length split.0 == 0 then slash ∷ [] else split.0

-- the folder of a name
abbrev pub folder_of : List ℕ → List ℕ
folder_of name = folder_of_split (rsplit_once slash name)

-- a name beside the one that was split at its last slash
abbrev pub beside_split : List ℕ → Option (List ℕ × List ℕ) → List ℕ
beside_split text None = text
beside_split text (Some split) = split.0 ++ slash ∷ text

-- the name that a link of this text leads to: the text from the root, or else from the link's folder
abbrev pub led_to : List ℕ → List ℕ → List ℕ
led_to link text = if slice_index text 0 == slash then text else beside_split text (rsplit_once slash link)
