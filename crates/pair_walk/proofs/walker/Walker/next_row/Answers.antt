use Rattle.std.proofs.Common.{rules, ◌<◌, ◌+◌, ◌∷◌, drop, length, arith, sym, ap, ◌∙◌}
use Rattle.std.proofs.lemmas.List.{drop_more}
use Rattle.pair_walk.specs.Rows.{RowAt, no_partners}
use Rattle.pair_walk.proofs.walker.Walker.next_row.Goals as goal

pub returns : goal.returns
returns c =
    let walker = c.self.inside in
    let rows = walker.blocks.now in
    let lt : walker.at < length rows = omega (arith, c.if-self-rows.false, c.rows.ensures) in (
      sym (ap (λ w. w.left) c.self.view_is)
          ∙ drop_more rows walker.at no_partners lt
          ∙ ap (λ (row : RowAt). row ∷ drop (walker.at + 1) rows) c.in_default.ensures,
      search rules,
      c.if-given-gt-MOST_PAIRS.false,
    )
