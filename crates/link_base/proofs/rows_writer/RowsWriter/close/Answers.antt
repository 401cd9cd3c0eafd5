use Rattle.std.proofs.Common.{◌≡◌, ◌++◌, ◌∷◌, [], arith, length, rules}
use Rattle.link_base.proofs.RisingFacts.{row_closed}
use Rattle.link_base.proofs.rows_writer.RowsWriter.close.Goals as goal

pub invariant_of-self-2 : goal.invariant_of-self-2
invariant_of-self-2 c =
    let long : c.len.result ≡ length c.self.inside.cells.items = search (rules, c.len.ensures) in
    let end : c.in_ok-end.end ≡ length c.self.inside.cells.items = omega (arith, c.in_ok-end.ensures, long) in
    let grown : c.push.new.self.items ≡ c.self.inside.ends.items ++ c.in_ok-end.end ∷ [] = search rules in
    (row_closed c.self.inside.words c.self.inside.cells.items c.self.inside.ends.items c.push.new.self.items c.self.inside.begun c.in_ok-end.end c.self.invariant end grown).stands

pub returns : goal.returns
returns c =
    let long : c.len.result ≡ length c.self.inside.cells.items = search (rules, c.len.ensures) in
    let end : c.in_ok-end.end ≡ length c.self.inside.cells.items = omega (arith, c.in_ok-end.ensures, long) in
    let grown : c.push.new.self.items ≡ c.self.inside.ends.items ++ c.in_ok-end.end ∷ [] = search rules in
    rw (← c.self.view_is) (row_closed c.self.inside.words c.self.inside.cells.items c.self.inside.ends.items c.push.new.self.items c.self.inside.begun c.in_ok-end.end c.self.invariant end grown).seen
