use Rattle.std.proofs.Common.{◌≡◌, ◌++◌, map}
use Rattle.toml.specs.View.{members_view}
use Rattle.link_texts.specs.Texts.{stands_among}
use Rattle.settings_readers.specs.Values.{known}
use Rattle.settings_readers.proofs.keys.Keys.known.Given as goal

abbrev pub invariant-loop-key : goal.invariant-loop-key
invariant-loop-key l =
    known (stands_among (map (λ k. k.now) l.listed ++ map (λ k. k.now) l.others)) (members_view l.key-iterator) l.above ≡ known (stands_among (map (λ k. k.now) l.listed ++ map (λ k. k.now) l.others)) (members_view l.self.table.now.entries) l.above
