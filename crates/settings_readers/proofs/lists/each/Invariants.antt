use Rattle.std.proofs.Common.{◌≡◌, ◌+◌, drop, [], length}
use Rattle.toml.specs.View.{items_view}
use Rattle.settings_readers.specs.Values.{each}
use Rattle.settings_readers.proofs.lists.each.Given as goal

abbrev pub invariant-loop-i : goal.invariant-loop-i
invariant-loop-i g l =
    (each (g.E.Element.gives l.element) l.above (items_view (drop l.i l.array)) l.before.items (l.i + 1) ≡ each (g.E.Element.gives l.element) l.above (items_view l.array) [] 1) × (length l.before.items ≡ l.i)
