use Rattle.std.proofs.Common.{◌/◌, ◌<◌, ◌≤◌, arith, refl, ap, ◌∙◌, get_or, take, length}
use Rattle.std.proofs.Math.Seq.{map-set_same}
use Rattle.std.proofs.lemmas.List.{take_more_set}
use Rattle.std.proofs.lemmas.List.Elements.{AllWithin-more_set}
use Rattle.decision_rule.specs.Filled.{chances_of}
use Rattle.link_base.specs.declared.rule.RuleCell.{RuleCell}
use Rattle.link_base.specs.Words.{empty_cell}
use Rattle.decision_rule.specs.FilledLaws.{same_length, same_at}
use Rattle.decision_rule.proofs.Lemmas.{walk_step, links_cut}
use Rattle.decision_rule.proofs.cuts.cut_links.Goals as goal

pub give-share-requires : goal.give-share-requires
give-share-requires c =
    let cells = c.loop-i.cells in
    let there : c.loop-i.i < length cells = omega arith in
    let same = ap (λ ch. ch.u) (same_at chances_of cells c.args.cells.now c.loop-i.i c.loop-i.invariant.chances there) in
    omega (arith, same, c.requires c.loop-i.i empty_cell (omega (arith, same_length chances_of cells c.args.cells.now c.loop-i.invariant.chances)))

pub loop-i-preserved : goal.loop-i-preserved
loop-i-preserved c =
    let cells = c.loop-i.cells in
    let i = c.loop-i.i in
    let there : i < length cells = omega arith in
    let old : RuleCell = get_or cells i empty_cell in
    let new : RuleCell = record old { link = c.give-share.result.0 } in
    let w = walk_step (λ (c : RuleCell). c.link) (λ (c : RuleCell). 65536) (λ (c : RuleCell). c.u) (take i cells) new (c.args.asked / 1000000) c.loop-i.room c.give-share.result.1 c.loop-i.invariant.cut c.loop-i.invariant.room c.give-share.ensures.share c.give-share.ensures.left in
    record {
      chances = map-set_same chances_of cells i new empty_cell refl ∙ c.loop-i.invariant.chances;
      bound = AllWithin-more_set cells i new there (λ (c : RuleCell). c.link ≤ 65536) c.loop-i.invariant.bound (omega (arith, c.give-share.ensures.share));
      cut = rw (take_more_set cells i new there) w.0;
      room = rw (take_more_set cells i new there) w.1;
    }

pub returns-clause-cut : goal.returns-clause-cut
returns-clause-cut c = links_cut c.loop-i.cells c.args.cells.now c.args.asked c.loop-i.i (omega arith) c.loop-i.invariant.chances c.requires c.loop-i.invariant.cut
