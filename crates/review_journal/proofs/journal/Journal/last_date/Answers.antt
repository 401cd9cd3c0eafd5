use Rattle.std.proofs.Common.{◌≡◌, ◌-◌, ◌∙◌, ap, arith, length, rules, slice_get, Some, sym, w32, FitsSigned, int_le, option_map}
use Rattle.std.proofs.lemmas.Int.{to_z-of_z}
use Rattle.std.proofs.lemmas.Option.{slice_get_within}
use Rattle.review_journal.specs.declared.entry.Entry.{Entry}
use Rattle.review_journal.proofs.PlaceLemmas.{latest}
use Rattle.review_journal.proofs.journal.Journal.last_date.Goals as goal

at_end : (c : goal.After-result-1) → slice_get c.self.inside.entries.items (length c.self.inside.entries.items - 1) ≡ Some c.in-Some.entry.now
at_end c = sym (rw c.deref.ensures.value at c.in-Some.ensures.value)

fits : (c : goal.After-result-1) → FitsSigned w32 c.in-Some.entry.now.date
fits c = search rules

pub returns-in-Some-clause-last : goal.returns-in-Some-clause-last
returns-in-Some-clause-last c =
    rw (← c.self.view_is) (ap Some (to_z-of_z w32 c.in-Some.entry.now.date (fits c)) ∙ ap (option_map (λ (e : Entry). e.date)) (sym (at_end c)))

pub returns-in-Some-clause-latest : goal.returns-in-Some-clause-latest
returns-in-Some-clause-latest c = λ date.
    let es = c.self.inside.entries.items in
    let within = slice_get_within es (length es - 1) c.in-Some.entry.now (at_end c) in
    rw (← c.self.view_is) (latest es (length es - 1) c.in-Some.entry.now date c.self.invariant.0.dates (omega arith) (at_end c) ∙ ap (λ z. int_le z date) (sym (to_z-of_z w32 c.in-Some.entry.now.date (fits c))))
