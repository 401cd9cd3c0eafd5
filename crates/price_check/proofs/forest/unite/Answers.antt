use Rattle.std.proofs.Common.{◌∙◌, arith}
use Rattle.price_check.specs.Forest.{top}
use Rattle.price_check.proofs.Tops.{united_tops, merged_swap}
use Rattle.price_check.proofs.forest.unite.Goals as goal

pub returns-then-s-t-clause-tops : goal.returns-then-s-t-clause-tops
returns-then-s-t-clause-tops c =
    let s = c.top_of-s in let t = c.top_of-t in
    united_tops c.args.up.now t.new.up c.args.x c.args.y s.result t.result t.ensures.earlier (λ z. t.ensures.kept z ∙ s.ensures.kept z) s.ensures.value (t.ensures.value ∙ s.ensures.kept c.args.y) (omega arith) (omega (arith, t.ensures.low))

pub returns-else-s-t-clause-tops : goal.returns-else-s-t-clause-tops
returns-else-s-t-clause-tops c =
    let s = c.top_of-s in let t = c.top_of-t in
    λ z. united_tops c.args.up.now t.new.up c.args.y c.args.x t.result s.result t.ensures.earlier (λ z. t.ensures.kept z ∙ s.ensures.kept z) (t.ensures.value ∙ s.ensures.kept c.args.y) s.ensures.value (omega arith) (omega (arith, s.ensures.low)) z ∙ merged_swap (top c.args.up.now c.args.y) (top c.args.up.now c.args.x) (top c.args.up.now z)
