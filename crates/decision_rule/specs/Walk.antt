-- Machinery of the two cuts: the walk that gives shares in an order, each as far as the room allows.
use Rattle.std.specs.Prelude.{◌≡◌, ℕ, ◌-◌, ◌*◌, ◌/◌, eqb, cond, min, List, [], ◌∷◌}

-- what is left after a cell: nothing after the first share below its bound
abbrev pub room_after : ℕ → ℕ → ℕ → ℕ → ℕ
room_after share bound weight room = cond (eqb share bound) (room - weight * share) 0

-- the shares that a walk gives from the first cell on
abbrev pub CutBy : {X : Type 0} → (X → ℕ) → (X → ℕ) → (X → ℕ) → List X → ℕ → Type 0
CutBy share bound weight [] room = Unit {0}
CutBy share bound weight (x ∷ xs) room = (share x ≡ min (bound x) (room / weight x)) × CutBy share bound weight xs (room_after (share x) (bound x) (weight x) room)

-- what the walk leaves
abbrev pub room_left : {X : Type 0} → (X → ℕ) → (X → ℕ) → (X → ℕ) → List X → ℕ → ℕ
room_left share bound weight [] room = room
room_left share bound weight (x ∷ xs) room = room_left share bound weight xs (room_after (share x) (bound x) (weight x) room)
