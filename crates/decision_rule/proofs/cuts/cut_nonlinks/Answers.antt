use Rattle.std.proofs.Common.{◌≡◌, ◌+◌, ◌-◌, ◌/◌, ◌<◌, ◌≤◌, arith, refl, ap, ◌∙◌, get_or, drop, set, length, reverse, [], ◌∷◌, ◌++◌}
use Rattle.std.proofs.Math.Seq.{map-set_same}
use Rattle.std.proofs.lemmas.List.{drop-set, length-set, reverse-append}
use Rattle.decision_rule.specs.Filled.{chances_of}
use Rattle.link_base.specs.declared.rule.RuleCell.{RuleCell}
use Rattle.link_base.specs.Words.{empty_cell}
use Rattle.decision_rule.specs.FilledLaws.{same_length, same_at}
use Rattle.decision_rule.proofs.Lemmas.{walk_step, bound_step_down, nonlinks_cut}
use Rattle.decision_rule.proofs.cuts.cut_nonlinks.Goals as goal

pub overflow_sub-cell : goal.overflow_sub-cell
overflow_sub-cell c =
    let cells = c.loop-i.cells in
    let i = c.loop-i.i - 1 in
    let there : i < length cells = omega arith in
    let same = same_at (λ (c : RuleCell). c.link) cells c.args.cells.now i c.loop-i.invariant.links there in
    omega (arith, same, c.requires.links i empty_cell (omega (arith, there, same_length chances_of cells c.args.cells.now c.loop-i.invariant.chances)))

pub give-share-requires : goal.give-share-requires
give-share-requires c =
    let cells = c.loop-i.cells in
    let i = c.loop-i.i - 1 in
    let there : i < length cells = omega arith in
    let same = ap (λ ch. ch.m) (same_at chances_of cells c.args.cells.now i c.loop-i.invariant.chances there) in
    omega (arith, same, c.requires.weights i empty_cell (omega (arith, there, same_length chances_of cells c.args.cells.now c.loop-i.invariant.chances)))

pub loop-i-preserved : goal.loop-i-preserved
loop-i-preserved c =
    let cells = c.loop-i.cells in
    let i = c.loop-i.i - 1 in
    let there : i < length cells = omega arith in
    let one : i + 1 ≡ c.loop-i.i = omega arith in
    let old : RuleCell = get_or cells i empty_cell in
    let new : RuleCell = record old { nonlink = c.give-share.result.0 } in
    let same = same_at (λ (c : RuleCell). c.link) cells c.args.cells.now i c.loop-i.invariant.links there in
    let links = c.requires.links i empty_cell (omega (arith, there, same_length chances_of cells c.args.cells.now c.loop-i.invariant.chances)) in
    let w = walk_step (λ (c : RuleCell). c.nonlink) (λ (c : RuleCell). 65536 - c.link) (λ (c : RuleCell). c.m) (reverse (drop c.loop-i.i cells)) new (c.args.asked / 1000000) c.loop-i.room c.give-share.result.1 c.loop-i.invariant.cut c.loop-i.invariant.room c.give-share.ensures.share c.give-share.ensures.left in
    let done : reverse (drop i (set cells i new)) ≡ reverse (drop c.loop-i.i cells) ++ new ∷ [] =
    ap reverse (drop-set cells i new there) ∙ reverse-append (new ∷ []) (drop (i + 1) cells) ∙ ap (λ n. reverse (drop n cells) ++ new ∷ []) one in
    record {
      in_table = omega (arith, length-set cells i new);
      chances = map-set_same chances_of cells i new empty_cell refl ∙ c.loop-i.invariant.chances;
      links = map-set_same (λ (c : RuleCell). c.link) cells i new empty_cell refl ∙ c.loop-i.invariant.links;
      bound = bound_step_down (λ (c : RuleCell). c.link + c.nonlink ≤ 65536) cells i new there (λ k d le lt. c.loop-i.invariant.bound k d (omega arith) lt) (omega (arith, same, links, c.give-share.ensures.share));
      cut = rw done w.0;
      room = rw done w.1;
    }

pub returns-clause-cut : goal.returns-clause-cut
returns-clause-cut c = nonlinks_cut c.loop-i.cells c.args.cells.now c.args.asked c.loop-i.i (omega arith) c.loop-i.invariant.chances c.requires.weights c.loop-i.invariant.cut
