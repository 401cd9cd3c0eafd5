use Rattle.std.proofs.Common.{◌≡◌, ◌∙◌, Ok, ap, sym}
use Rattle.file_reader.specs.Words.{records_in}
use Rattle.link_base.specs.Words.{and_then}
use Rattle.comparators.specs.Fields.{field_outcome, field_rare}
use Rattle.sample_counts.specs.Counts.{counts_by}
use Rattle.sample_counts.specs.Sample.{sample_of}
use Rattle.pair_decisions.specs.Words.{comparators_of, rares_of, pattern_over, counts_by_pattern, shares_in}
use Rattle.pair_decisions.proofs.ComparatorLemmas.{counts_by_answers, given_then, refuses_as}
use Rattle.pair_decisions.proofs.plan_shares.counted_shares.Goals as goal

pub returns-in-Ok-clause-answer : goal.returns-in-Ok-clause-answer
returns-in-Ok-clause-answer c =
    let kinds = c.in_ok-kinds.kinds.items in
    let a = c.args.sides_a.now.rows in
    let b = c.args.sides_b.now.rows in
    let fields = c.args.plan.now.fields in
    let comparators = comparators_of c.args.texts fields a b in
    let sample = sample_of c.args.a.now c.args.b.now (records_in 44 c.args.sample.now) in
    let counted : and_then sample (λ pairs. Ok (counts_by field_rare field_outcome kinds a b pairs)) ≡ Ok c.in-Ok.counts = rw c.deref.ensures.value at c.in-Ok.ensures.answer in
    given_then sample (counts_by field_rare field_outcome kinds a b) (counts_by_pattern (rares_of fields) (pattern_over comparators a b)) shares_in c.in-Ok.counts (counts_by_answers kinds a b comparators (rares_of fields) c.in_ok-kinds.ensures.answers c.in_ok-kinds.ensures.rares) counted
    ∙ ap Ok (sym c.in_ok-shares_by-in-Ok.ensures.shares)

pub returns-clause-answer : goal.returns-clause-answer
returns-clause-answer c =
    let a = c.args.sides_a.now.rows in
    let b = c.args.sides_b.now.rows in
    let fields = c.args.plan.now.fields in
    let comparators = comparators_of c.args.texts fields a b in
    refuses_as (sample_of c.args.a.now c.args.b.now (records_in 44 c.args.sample.now)) (counts_by field_rare field_outcome c.deref.result.now a b) (λ pairs. shares_in (counts_by_pattern (rares_of fields) (pattern_over comparators a b) pairs)) c.in-Err.fault c.in-Err.ensures.answer
