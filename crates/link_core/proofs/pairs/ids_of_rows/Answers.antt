use Rattle.link_core.proofs.pairs.ids_of_rows.Goals as goal

pub push_rows-requires-clause-inside : goal.push_rows-requires-clause-inside
push_rows-requires-clause-inside c = rw (c.in_ok-ids_a.ensures, c.in_ok-ids_b.ensures) c.requires.inside
