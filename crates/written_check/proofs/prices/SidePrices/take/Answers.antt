use Rattle.std.proofs.Common.{◌∙◌, FitsSigned, List, ap, arith, length, of_z, rules, to_z, w64, ℕ, ℤ, pos}
use Rattle.std.proofs.lemmas.Int.{to_z-of_z}
use Rattle.csv.specs.Records.{fields_of}
use Rattle.link_base.specs.Words.{position_of_id}
use Rattle.written_check.specs.Certified.{price_in}
use Rattle.written_check.proofs.FormLemmas.{stored_read, stored_refused, stored_taken}
use Rattle.written_check.proofs.prices.SidePrices.take.Goals as goal

pub returns-then-at-self-clause-taken : goal.returns-then-at-self-clause-taken
returns-then-at-self-clause-taken c =
    stored_refused c.args.file.now (fields_of c.args.row.now) c.args.self.now c.self.inside.prices.items c.in-Some.at c.in-Some-price_of.price c.self.inside.next (pos 0)
    (c.in-Some.ensures.position ∙ ap (λ (t : List ℕ). position_of_id t c.args.file.now) c.field_of.ensures)
    (c.in-Some-price_of.ensures ∙ ap price_in c.field_of-2.ensures) c.self.view_is c.self.invariant c.if-at-self.true

pub invariant_of-self : goal.invariant_of-self
invariant_of-self c =
    let fits : FitsSigned w64 c.from.result = search rules in
    stored_read c.args.file.now (fields_of c.args.row.now) c.args.self.now c.self.inside.prices.items c.in-Some.at c.in-Some-price_of.price c.self.inside.next (to_z w64 (of_z w64 c.from.result))
    (c.in-Some.ensures.position ∙ ap (λ (t : List ℕ). position_of_id t c.args.file.now) c.field_of.ensures)
    (c.in-Some-price_of.ensures ∙ ap price_in c.field_of-2.ensures) c.self.view_is c.self.invariant c.if-at-self.false (to_z-of_z w64 c.from.result fits ∙ c.from.ensures)
    (omega (arith, c.in-Some.ensures.within, c.requires, ap (λ (ps : List ℤ). length ps) c.self.view_is))

pub returns-clause-taken : goal.returns-clause-taken
returns-clause-taken c =
    let fits : FitsSigned w64 c.from.result = search rules in
    stored_taken c.args.file.now (fields_of c.args.row.now) c.args.self.now c.self.inside.prices.items c.in-Some.at c.in-Some-price_of.price c.self.inside.next (to_z w64 (of_z w64 c.from.result))
    (c.in-Some.ensures.position ∙ ap (λ (t : List ℕ). position_of_id t c.args.file.now) c.field_of.ensures)
    (c.in-Some-price_of.ensures ∙ ap price_in c.field_of-2.ensures) c.self.view_is c.self.invariant c.if-at-self.false (to_z-of_z w64 c.from.result fits ∙ c.from.ensures)
