use Rattle.std.proofs.Common.{◌≡◌, ◌++◌, ◌∷◌, [], arith, rules}
use Rattle.link_base.specs.declared.standard.Value.TheVariants as value
use Rattle.link_base.proofs.RisingFacts.{value_added, values_written}
use Rattle.link_base.proofs.rows_writer.RowsWriter.add_word.Goals as goal

pub word_cell-requires : goal.word_cell-requires
word_cell-requires c =
    let room = rw (← c.self.view_is) at c.requires in
    let count = values_written c.self.inside.words c.self.inside.cells.items c.self.inside.ends.items c.self.inside.begun c.self.invariant in
    omega (arith, room, count, c.self.invariant.placed.few)

pub returns : goal.returns
returns c =
    let grown : c.push_reserved.new.self.items ≡ c.self.inside.cells.items ++ c.in_ok-cell.cell ∷ [] = search rules in
    rw (← c.self.view_is) (value_added c.self.inside.words c.word_cell.new.words c.self.inside.cells.items c.push_reserved.new.self.items c.self.inside.ends.items c.self.inside.begun c.in_ok-cell.cell (value.Word c.args.word.now)
    c.self.invariant c.word_cell.ensures.begun c.word_cell.ensures.few c.in_ok-cell.ensures.placed c.in_ok-cell.ensures.value grown).seen
