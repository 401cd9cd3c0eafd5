use Rattle.std.proofs.Common.{◌≡◌, ◌∙◌, ap, arith, length, sym, take}
use Rattle.std.proofs.lemmas.List.Elements.{same_from_all_zip}
use Rattle.review_journal.proofs.PlaceLemmas.{indexed-same}
use Rattle.review_journal.proofs.journal.Journal.add.Goals as goal

pub invariant_of-self : goal.invariant_of-self
invariant_of-self c =
    let es = c.self.inside.entries.items in
    let same : c.in_ok-places.places.entries ≡ c.self.inside.places.entries =
    same_from_all_zip _ c.self.inside.places.entries c.in_ok-places.places.entries c.in_ok-places.ensures.cases (λ p q one. λ i. ((one.0.0 i, one.0.1 i), one.1 i)) in
    let long : c.len-entries.result ≡ length c.args.self.now = omega (arith, ap length c.self.view_is) in
    let cut : c.truncate.new.self.items ≡ es =
    c.truncate.ensures.items ∙ (λ i. take (long i) (c.self-2.view_is i)) ∙ c.in-Err.ensures.kept ∙ sym c.self.view_is in
    rw cut (c.self.invariant.0, indexed-same c.self.inside.places c.in_ok-places.places es same c.self.invariant.1)
