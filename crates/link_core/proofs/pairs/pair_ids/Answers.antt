use Rattle.std.proofs.Common.{◌≡◌, ◌∙◌, List, ap, length, subst, sym, All}
use Rattle.link_base.specs.Words.{Record}
use Rattle.link_base.specs.declared.rule.PairAt.{PairAt}
use Rattle.pair_decisions.specs.Words.{IsInside}
use Rattle.pair_walk.specs.Rows.{pairs_of_rows}
use Rattle.link_core.specs.Results.{compared_in}
use Rattle.link_core.proofs.StepLemmas.{pairs_inside, walked_pairs}
use Rattle.link_core.proofs.pairs.pair_ids.Goals as goal

pub ids_of_rows-requires-clause-inside : goal.ids_of_rows-requires-clause-inside
ids_of_rows-requires-clause-inside c =
    let plan = c.args.plan.now in
    let p = c.args.prepared.now in
    let walked : pairs_of_rows c.walk.result.left ≡ compared_in plan p.files = walked_pairs plan p c.walk.result.left (c.walk.ensures.left ∙ c.in_ok-blocks.ensures) in
    let a = ap (λ (file : List Record). length file) (sym c.a.ensures) in
    let b = ap (λ (file : List Record). length file) (sym c.b.ensures) in
    subst (λ (pairs : List PairAt). All (IsInside (length c.a.result.now) (length c.b.result.now)) pairs) (sym walked) (pairs_inside plan p (length c.a.result.now) (length c.b.result.now) a b)

pub returns : goal.returns
returns c =
    let plan = c.args.plan.now in
    let p = c.args.prepared.now in
    let walked : pairs_of_rows c.walk.result.left ≡ compared_in plan p.files = walked_pairs plan p c.walk.result.left (c.walk.ensures.left ∙ c.in_ok-blocks.ensures) in
    record { answer = rw (← walked, ← c.a.ensures, ← c.b.ensures) c.ids_of_rows.ensures.answer }
