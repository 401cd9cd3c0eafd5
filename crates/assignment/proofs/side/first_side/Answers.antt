use Rattle.std.proofs.Common.{◌≡◌, None, length, replicate, refl, ap, ◌∙◌, arith}
use Rattle.assignment.proofs.Final.{between_first}
use Rattle.assignment.proofs.side.first_side.Goals as goal

pub returns-in-Ok : goal.returns-in-Ok
returns-in-Ok c =
    let pa = c.args.price_a.items in
    let pb = c.args.price_b.items in
    let rows_a : c.len-rows_a.result ≡ length pa = omega (arith, c.len-rows_a.ensures, c.args.price_a.ok.0) in
    let rows_b : c.len-rows_b.result ≡ length pb = omega (arith, c.len-rows_b.ensures, c.args.price_b.ok.0) in
    let free_a : c.in_ok-links.links.a.items ≡ replicate (length pa) None = c.in_ok-links.ensures.a ∙ ap (λ n. replicate n None) rows_a in
    let free_b : c.in_ok-links.links.b.items ≡ replicate (length pb) None = c.in_ok-links.ensures.b ∙ ap (λ n. replicate n None) rows_b in
    record {
      side = record {
        between = rw (free_a, free_b) (between_first c.args.edges.now pa pb c.requires.in_range c.requires.reach c.requires.none);
        rest = rw (rows_a, rows_b) at c.in-Ok.ensures;
      };
      count_a = refl;
      count_b = refl;
    }
