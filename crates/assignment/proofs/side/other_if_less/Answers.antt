use Rattle.std.proofs.Common.{◌≡◌, None, length, sym, ap, ◌∙◌, arith, le-ltb, lt-ltb}
use Rattle.std.proofs.lemmas.List.{length-replicate}
use Rattle.assignment_steps.specs.Words.{none_linked}
use Rattle.assignment.proofs.side.other_if_less.Goals as goal

pub first_side-requires : goal.first_side-requires
first_side-requires c = record { reach = c.requires.reach; none = c.requires.none; in_range = c.requires.in_range }

pub returns-then-sum_of-clause-chosen : goal.returns-then-sum_of-clause-chosen
returns-then-sum_of-clause-chosen c = sym (le-ltb _ _ (rw (c.sum_of.ensures, c.deref.ensures.value, c.sum_of-2.ensures) at c.if-sum_of.true))

pub returns-in-Ok-clause-chosen : goal.returns-in-Ok-clause-chosen
returns-in-Ok-clause-chosen c = sym (lt-ltb _ _ (rw (c.sum_of.ensures, c.deref.ensures.value, c.sum_of-2.ensures) at c.if-sum_of.false))

pub returns-in-Ok-clause-other : goal.returns-in-Ok-clause-other
returns-in-Ok-clause-other c =
    let rows_a = length c.args.price_a.now in
    let rows_b = c.len-rows_b.result in
    let same : rows_b ≡ length c.args.other_a.items = omega (arith, c.len-rows_b.ensures, c.args.other_a.ok.0) in
    let free = c.in-Ok.ensures in
    record {
      side = record { side = c.in_ok-side.ensures.side; count_a = c.in_ok-side.ensures.count_a; count_b = c.in_ok-side.ensures.count_b ∙ c.requires.rows };
      links_a = ap length free.a ∙ length-replicate rows_a None;
      links_b = ap length free.b ∙ (length-replicate rows_b None ∙ same);
      none_a = rw free.a (none_linked rows_a);
      none_b = rw free.b (none_linked rows_b);
    }
