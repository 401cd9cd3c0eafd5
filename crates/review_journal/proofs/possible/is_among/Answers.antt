use Rattle.std.proofs.Common.{rules, sym}
use Rattle.std.proofs.lemmas.Fn.{always_returns_same}
use Rattle.link_base.specs.declared.rule.PairAt.{PairAt}
use Rattle.review_journal.specs.Places.{pair_cmp}
use Rattle.review_journal.proofs.PlaceLemmas.{found_pair, missed_pair}
use Rattle.review_journal.proofs.possible.is_among.Goals as goal

-- the closure gives the order of what is held and the pair, and stays as it is
pub returns-in-Ok : goal.returns-in-Ok
returns-in-Ok c =
    let d : PairAt = record { a = 0; b = 0 } in
    let place = c.in-Ok.ensures.position (λ at. pair_cmp (at.a, at.b) (c.args.row.a, c.args.row.b)) (always_returns_same _ _ _ (λ a r g called. (search rules, search rules))) in
    sym (found_pair c.args.possible.now c.args.row c.in-Ok.field-0 d c.in-Ok.ensures.bound (place d))

pub returns-in-Err : goal.returns-in-Err
returns-in-Err c =
    let place = c.in-Err.ensures.position (λ at. pair_cmp (at.a, at.b) (c.args.row.a, c.args.row.b)) (always_returns_same _ _ _ (λ a r g called. (search rules, search rules))) in
    sym (missed_pair c.args.possible.now c.args.row c.in-Err.field-0 c.requires place)
