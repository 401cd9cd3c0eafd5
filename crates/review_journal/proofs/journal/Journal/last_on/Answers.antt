use Rattle.std.proofs.Common.{arith, sym}
use Rattle.review_journal.proofs.PlaceLemmas.{at_place}
use Rattle.review_journal.proofs.journal.Journal.last_on.Goals as goal

pub index-requires : goal.index-requires
index-requires c =
    omega (arith, c.self.invariant.1.within c.args.a c.args.b c.in-Some.place.now (sym c.in-Some.ensures.value))

pub returns-in-Some : goal.returns-in-Some
returns-in-Some c =
    rw (← c.self.view_is) (at_place c.self.inside.places c.self.inside.entries.items c.args.a c.args.b c.in-Some.place.now c.index.result.now c.self.invariant.1 c.in-Some.ensures.value c.index.ensures)
