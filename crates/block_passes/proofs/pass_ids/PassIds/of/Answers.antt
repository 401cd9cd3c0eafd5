use Rattle.std.proofs.Common.{[], length, take, get_or, arith, ap, ◌∙◌}
use Rattle.std.proofs.lemmas.List.{get_or_read}
use Rattle.block_passes.specs.Keys.{parts_in}
use Rattle.block_passes.proofs.StepLemmas.{pass-fits, row-within, rows-counted}
use Rattle.block_passes.proofs.pass_ids.PassIds.of.Goals as goal

pub invariant_of-result : goal.invariant_of-result
invariant_of-result c = λ at lt.
    let passes = c.args.passes.now in
    let k = c.args.at in
    let long = ap length (c.parts.ensures ∙ get_or_read passes k c.index-passes-at.result c.requires.at c.index-passes-at.is []) in
    rw (c.count_parts.ensures, c.count_parts-2.ensures, long)
    (row-within c.args.ids.now (parts_in passes) (parts_in (take k passes)) (length (get_or passes k [])) c.args.rows at (pass-fits passes k c.requires.at) c.requires.ids (omega arith) lt)

pub returns : goal.returns
returns c =
    let passes = c.args.passes.now in
    let k = c.args.at in
    let long = ap length (c.parts.ensures ∙ get_or_read passes k c.index-passes-at.result c.requires.at c.index-passes-at.is []) in
    let fits = pass-fits passes k c.requires.at in
    rw (c.count_parts.ensures, c.count_parts-2.ensures, long)
    (rows-counted c.args.ids.now (parts_in passes) (parts_in (take k passes)) (length (get_or passes k [])) c.args.rows (omega arith) c.requires.ids (omega arith))
