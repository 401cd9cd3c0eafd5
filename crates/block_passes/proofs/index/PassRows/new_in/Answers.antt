use Rattle.std.proofs.Common.{[], length, get_or, ap, sym, ◌∙◌, arith}
use Rattle.std.proofs.lemmas.List.{get_or_read}
use Rattle.block_passes.specs.PassIds.{AreIdsInPass}
use Rattle.block_passes.proofs.StepLemmas.{by-code-rows, by-part-long, by-part-rows, told-ids, told-long}
use Rattle.block_passes.proofs.index.PassRows.new_in.Goals.{After-of-of_b}
use Rattle.block_passes.proofs.index.PassRows.new_in.Goals as goal

pub of-of_a-requires-clause-ids : goal.of-of_a-requires-clause-ids
of-of_a-requires-clause-ids c =
    told-long c.args.keyed.now.pool.now.texts c.args.passes.now c.passes-passes.result.now c.args.a.now c.args.keyed.now.a.now c.rows.result c.requires.keys_a c.passes-passes.ensures c.rows.ensures

pub of-of_b-requires-clause-ids : goal.of-of_b-requires-clause-ids
of-of_b-requires-clause-ids c =
    told-long c.args.keyed.now.pool.now.texts c.args.passes.now c.passes-passes.result.now c.args.b.now c.args.keyed.now.b.now c.rows-2.result c.requires.keys_b c.passes-passes.ensures c.rows-2.ensures

-- the ids of A in the pass, and those of B
told_a : (c : After-of-of_b) → AreIdsInPass c.args.keyed.now.pool.now.texts (get_or c.args.passes.now c.args.at []) c.args.a.now c.of-of_a.result
told_a c =
    told-ids c.args.keyed.now.pool.now.texts c.args.passes.now c.passes-passes.result.now c.args.a.now c.args.keyed.now.a.now c.args.at c.rows.result c.of-of_a.result c.requires.at c.requires.keys_a c.passes-passes.ensures
    c.rows.ensures c.of-of_a.ensures

told_b : (c : After-of-of_b) → AreIdsInPass c.args.keyed.now.pool.now.texts (get_or c.args.passes.now c.args.at []) c.args.b.now c.of-of_b.result
told_b c =
    told-ids c.args.keyed.now.pool.now.texts c.args.passes.now c.passes-passes.result.now c.args.b.now c.args.keyed.now.b.now c.args.at c.rows-2.result c.of-of_b.result c.requires.at c.requires.keys_b c.passes-passes.ensures
    c.rows-2.ensures c.of-of_b.ensures

pub returns-then-parts-eq1-clause-len : goal.returns-then-parts-eq1-clause-len
returns-then-parts-eq1-clause-len c =
    by-part-long c.of-of_a.result c.of-of_b.result c.len.result c.in_ok-rows.rows c.in_ok-rows.ensures ∙ (told_a (goal.at.returns-then-parts-eq1-clause-len c).After-of-of_b).0

pub returns-then-parts-eq1-clause-rows : goal.returns-then-parts-eq1-clause-rows
returns-then-parts-eq1-clause-rows c = λ j lt.
    let w = (goal.at.returns-then-parts-eq1-clause-rows c).After-of-of_b in
    let same = c.passes-passes.ensures in
    let parts = ap length (c.parts-parts.ensures ∙ get_or_read c.passes-passes.result.now c.args.at c.index-passes-at.result (rw same c.requires.at) c.index-passes-at.is [] ∙ ap (λ ps. get_or ps c.args.at []) same) in
    let made = rw c.len.ensures at c.in_ok-rows.ensures in
    by-part-rows c.args.keyed.now.pool.now.texts (get_or c.args.passes.now c.args.at []) c.args.a.now c.args.b.now c.of-of_a.result c.of-of_b.result c.in_ok-rows.rows j (sym parts ∙ c.if-parts-eq1.true)
    (omega (arith, c.len.ensures, c.len.type_inv)) c.requires.held_b (told_a w) (told_b w) made lt

pub returns-clause-len : goal.returns-clause-len
returns-clause-len c = c.in_ok-found.ensures.0 ∙ (told_a (goal.at.returns-clause-len c).After-of-of_b).0

pub returns-clause-rows : goal.returns-clause-rows
returns-clause-rows c = λ j lt.
    let w = (goal.at.returns-clause-rows c).After-of-of_b in
    c.in_ok-found.ensures.1 j (rw (told_a w).0 lt)
    ∙ by-code-rows c.args.keyed.now.pool.now.texts (get_or c.args.passes.now c.args.at []) c.args.a.now c.args.b.now c.of-of_a.result c.of-of_b.result j c.requires.held_a c.requires.held_b (told_a w) (told_b w) lt
