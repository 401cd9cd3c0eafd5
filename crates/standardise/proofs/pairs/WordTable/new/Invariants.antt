use Rattle.std.proofs.Common.{◌≡◌, take}
use Rattle.link_base.specs.declared.tables.WordPair.{WordPair}
use Rattle.standardise.specs.Kept.{AreWithin}
use Rattle.standardise.proofs.pairs.WordTable.new.Given as goal

abbrev pub invariant-loop-pair : goal.invariant-loop-pair
invariant-loop-pair l = record {
  copies : l.copies.items ≡ take l.pair-index l.pair-items;
  outline : AreWithin l.outline (λ (p : WordPair). p.from) (take l.pair-index l.pair-items);
}
