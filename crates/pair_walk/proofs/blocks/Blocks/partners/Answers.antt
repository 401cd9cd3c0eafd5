use Rattle.std.proofs.Common.{◌≡◌, ◌<◌, ◌∙◌, ap, arith, get_or, length, sym}
use Rattle.std.proofs.lemmas.Result.{on_ok_weaker}
use Rattle.pair_walk.specs.Rows.{no_partners}
use Rattle.pair_walk.proofs.JoinLemmas.{joined-first, joined-len, row-is}
use Rattle.pair_walk.proofs.blocks.Blocks.partners.Goals as goal

pub join_row-requires : goal.join_row-requires
join_row-requires c =
    let blocks = c.self.inside in
    let many : blocks.rows ≡ length c.args.self.now = sym (joined-len blocks.passes.items blocks.width 0 blocks.rows) ∙ ap length c.self.view_is in
    rw c.deref.ensures.value (λ k lt. rw (c.self.invariant.0 k lt) (omega (arith, c.requires, many)))

pub returns : goal.returns
returns c =
    let blocks = c.self.inside in
    let passes = blocks.passes.items in
    let many : blocks.rows ≡ length c.args.self.now = sym (joined-len passes blocks.width 0 blocks.rows) ∙ ap length c.self.view_is in
    let lt : c.args.at < blocks.rows = omega (arith, c.requires, many) in
    on_ok_weaker c.join_row.result
    (λ bs. sym (ap (λ rows. get_or rows c.args.at no_partners) c.self.view_is)
    ∙ joined-first passes blocks.width blocks.rows c.args.at lt
    ∙ row-is c.args.at _ _ (sym (bs blocks.width (c.self.invariant.1 c.args.at lt))))
    (rw c.deref.ensures.value at c.join_row.ensures)
