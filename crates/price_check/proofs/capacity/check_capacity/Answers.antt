use Rattle.price_check.proofs.Tops.{check_single}
use Rattle.price_check.proofs.Order.{verdict_exact_within}
use Rattle.price_check.proofs.capacity.check_capacity.Goals as goal

pub returns : goal.returns
returns c =
    let cs = c.args.candidates.now in
    let ns = c.args.capacity.now in
    let ps = c.args.prices_a.now in
    let qs = c.args.prices_b.now in
    let exact = verdict_exact_within cs ns c.args.links.now ps qs c.in_ok-answer.answer c.in_ok-answer.ensures in
    record {
      first_reason = c.in_ok-answer.ensures;
      certified = exact;
      greatest = λ e. (let t = exact.0 e in (t.0, (t.1.0, c.certified_within_is_greatest.ensures cs ns t.0 ps qs t.1.1 t.1.2)));
      one_to_one = λ single. check_single cs ns c.args.links.now ps qs single (λ k d lt. (c.requires.in_range k d lt).1) c.requires.priced_b c.in_ok-answer.answer c.certified_is_greatest.ensures c.in_ok-answer.ensures;
    }
