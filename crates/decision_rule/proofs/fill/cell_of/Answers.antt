use Rattle.std.proofs.Common.{◌/◌, arith, rules}
use Rattle.std.proofs.lemmas.Int.{ints}
use Rattle.std.proofs.lemmas.Nat.{mod_below}
use Rattle.patterns.specs.PatternLaws.{product_small}
use Rattle.decision_rule.proofs.Lemmas.{step, product_step, product_fits}
use Rattle.decision_rule.proofs.fill.cell_of.Goals as goal

pub overflow_mul-m : goal.overflow_mul-m
overflow_mul-m c =
    let s = step c.args.shares.now c.loop-field.field-index _ _ _ _ c.field-item.result c.outcome_count-below.ensures (omega arith) c.field-item.is c.loop-field.invariant.below_is c.loop-field.invariant.rest_below c.from-outcome.ensures in
    let fits = product_fits c.loop-field.m c.from-m.result c.loop-field.field-index c.loop-field.invariant.m_small (omega (arith, c.from-m.ensures, s.m_share.1)) (omega arith) in
    search (rules, fits)

pub overflow_mul-u : goal.overflow_mul-u
overflow_mul-u c =
    let s = step c.args.shares.now c.loop-field.field-index _ _ _ _ c.field-item.result c.outcome_count-below.ensures (omega arith) c.field-item.is c.loop-field.invariant.below_is c.loop-field.invariant.rest_below c.from-outcome.ensures in
    let fits = product_fits c.loop-field.u c.from-u.result c.loop-field.field-index c.loop-field.invariant.u_small (omega (arith, c.from-u.ensures, s.u_share.1)) (omega arith) in
    search (rules, fits)

pub eighth_weight-requires-clause-m_in : goal.eighth_weight-requires-clause-m_in
eighth_weight-requires-clause-m_in c =
    (step c.args.shares.now c.loop-field.field-index _ _ _ _ c.field-item.result c.outcome_count-below.ensures (omega arith) c.field-item.is c.loop-field.invariant.below_is c.loop-field.invariant.rest_below c.from-outcome.ensures).m_share

pub eighth_weight-requires-clause-u_in : goal.eighth_weight-requires-clause-u_in
eighth_weight-requires-clause-u_in c =
    (step c.args.shares.now c.loop-field.field-index _ _ _ _ c.field-item.result c.outcome_count-below.ensures (omega arith) c.field-item.is c.loop-field.invariant.below_is c.loop-field.invariant.rest_below c.from-outcome.ensures).u_share

pub loop-field-preserved : goal.loop-field-preserved
loop-field-preserved c =
    let s = step c.args.shares.now c.loop-field.field-index _ _ _ _ c.field-item.result c.outcome_count-below.ensures (omega arith) c.field-item.is c.loop-field.invariant.below_is c.loop-field.invariant.rest_below c.from-outcome.ensures in
    let i = c.loop-field.field-index in
    let inv = c.loop-field.invariant in
    let weight = c.eighth_weight.ensures in
    record {
      below_is = s.below_is;
      rest_below = mod_below c.loop-field.rest (c.loop-field.below / c.outcome_count-below.result) s.some;
      m_is = product_step c.loop-field.m _ _ _ _ _ inv.m_is s.m_is c.from-m.ensures;
      u_is = product_step c.loop-field.u _ _ _ _ _ inv.u_is s.u_is c.from-u.ensures;
      weight_is = omega (arith, ints, c.from-weight.ensures, inv.weight_low, inv.weight_high, weight.range.0, weight.range.1, weight.value, s.weight_is, inv.weight_is);
      m_small = omega (arith, product_small c.from-m.result c.loop-field.m i (omega (arith, c.from-m.ensures, s.m_share.1)) inv.m_small);
      u_small = omega (arith, product_small c.from-u.result c.loop-field.u i (omega (arith, c.from-u.ensures, s.u_share.1)) inv.u_small);
      weight_low = omega (arith, ints, c.from-weight.ensures, inv.weight_low, inv.weight_high, weight.range.0, weight.range.1);
      weight_high = omega (arith, ints, c.from-weight.ensures, inv.weight_low, inv.weight_high, weight.range.0, weight.range.1);
    }
