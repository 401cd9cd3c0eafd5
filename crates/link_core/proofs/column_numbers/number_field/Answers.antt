use Rattle.std.proofs.Common.{◌≡◌, ◌∙◌, length, rules}
use Rattle.link_core.proofs.ResultLemmas.{present_is, taken_place, taken_within}
use Rattle.link_core.proofs.column_numbers.number_field.Goals as goal

pub returns-in-Ok-clause-number : goal.returns-in-Ok-clause-number
returns-in-Ok-clause-number c =
    let field = c.args.field.now in
    let some : length field ≡ 0 → ⊥ = search rules in
    let new = c.intern.new.self.texts in
    rw (present_is field some)
    (c.place.ensures ∙ taken_place c.args.pool.now new field c.in-Ok.id c.in-Ok.ensures.taken.texts c.are_distinct.ensures.same_id c.in-Ok.ensures.found)

pub returns-in-Ok-clause-numbered : goal.returns-in-Ok-clause-numbered
returns-in-Ok-clause-numbered c =
    let field = c.args.field.now in
    let some : length field ≡ 0 → ⊥ = search rules in
    rw (present_is field some) (taken_within c.args.pool.now c.intern.new.self.texts field c.in-Ok.ensures.taken.texts)
