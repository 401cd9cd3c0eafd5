use Rattle.std.proofs.Common.{◌≡◌, ◌<◌, ◌∙◌, ap, arith, get_or, length, rules, sym, replicate, take_at}
use Rattle.std.proofs.lemmas.List.FromFn.{fill_by_all}
use Rattle.pair_decisions.specs.Words.{count_of_id, has_id}
use Rattle.pair_decisions.proofs.ListSteps.{filter_all, zeros}
use Rattle.pair_decisions.proofs.id_counts.counts_in.Goals as goal

pub count_rows-requires-2-clause-room : goal.count_rows-requires-2-clause-room
count_rows-requires-2-clause-room c = λ k lt.
    let few = filter_all (has_id c.args.field k) c.args.a.now.rows in
    let made : c.in_ok-counts.counts.items ≡ replicate c.args.texts 0 = search rules in
    let here : k < length c.as_mut_slice-slots.result.now = omega (arith, c.count_rows.ensures.as_many) in
    let start : get_or c.as_mut_slice-slots.result.now k 0 ≡ 0 = ap (λ xs. get_or xs k 0) (c.as_mut_slice-slots.ensures.value ∙ made) ∙ zeros c.args.texts k in
    omega (arith, c.count_rows.ensures.counts k here, c.requires.few_a, c.requires.few_b)

pub returns : goal.returns
returns c =
    let made : c.in_ok-counts.counts.items ≡ replicate c.args.texts 0 = search rules in
    let size : length c.count_rows-2.new.counts ≡ c.args.texts = search rules in
    let full : c.in_ok-counts.counts.len ≡ length c.count_rows-2.new.counts = search rules in
    take_at c.count_rows-2.new.counts _ c.in_ok-counts.counts.len (sym full)
    ∙ fill_by_all (count_of_id c.args.a.now.rows c.args.b.now.rows c.args.field) c.count_rows-2.new.counts c.args.texts 0 size
    (λ k lt.
    let later : k < length c.count_rows.new.counts = omega (arith, c.count_rows-2.ensures.as_many) in
    let here : k < length c.as_mut_slice-slots.result.now = omega (arith, c.count_rows.ensures.as_many) in
    let start : get_or c.as_mut_slice-slots.result.now k 0 ≡ 0 = ap (λ xs. get_or xs k 0) (c.as_mut_slice-slots.ensures.value ∙ made) ∙ zeros c.args.texts k in
    omega (arith, c.count_rows.ensures.counts k here, c.count_rows-2.ensures.counts k later))
