use Rattle.std.proofs.Common.{◌≡◌, ◌∷◌, ◌++◌, [], arith, rules}
use Rattle.review_journal.proofs.PlaceLemmas.{journal_push, indexed_push}
use Rattle.review_journal.proofs.journal.Journal.push.Goals as goal

pub invariant_of-self-in-Ok : goal.invariant_of-self-in-Ok
invariant_of-self-in-Ok c =
    let es = c.self.inside.entries.items in
    let grown : c.push.new.self.items ≡ es ++ c.args.entry ∷ [] = search rules in
    rw grown (
      journal_push es c.args.entry c.self.invariant.0 (rw c.self.view_is c.requires.room) c.requires.day (rw c.self.view_is c.requires.not_back) c.requires.reviewer (rw c.self.view_is c.requires.fits),
      indexed_push c.self.inside.places c.insert.new.self es c.args.entry c.len-place.result c.self.invariant.1 (omega arith) c.in-Ok.ensures.updates,
    )
