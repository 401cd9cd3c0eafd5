use Rattle.std.proofs.Common.{◌≡◌, ◌++◌, ◌∷◌, [], arith, refl, rules}
use Rattle.link_base.specs.declared.rows.Cell.TheVariants as cell
use Rattle.link_base.specs.declared.standard.Value.TheVariants as value
use Rattle.link_base.proofs.RegionFacts.{begun_same}
use Rattle.link_base.proofs.RisingFacts.{value_added}
use Rattle.link_base.proofs.rows_writer.RowsWriter.add_absent.Goals as goal

pub returns : goal.returns
returns c =
    let grown : c.push.new.self.items ≡ c.self.inside.cells.items ++ cell.Absent ∷ [] = search rules in
    rw (← c.self.view_is) (value_added c.self.inside.words c.self.inside.words c.self.inside.cells.items c.push.new.self.items c.self.inside.ends.items c.self.inside.begun cell.Absent value.Absent
    c.self.invariant (begun_same c.self.inside.words c.self.inside.words refl) (omega arith) tt refl grown).seen
