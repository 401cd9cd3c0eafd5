use Rattle.std.proofs.Common.{◌≡◌, ◌++◌, ◌∷◌, [], arith, ap, sym, ◌∙◌, get_or, nat_lt, true, false, length-append}
use Rattle.std.proofs.lemmas.Bool.Decides.{nat_tests}
use Rattle.std.proofs.lemmas.List.Elements.{All-push}
use Rattle.dedup_groups.specs.Groups.{IsLinkWithin}
use Rattle.link_base.specs.declared.rule.PairAt.{PairAt}
use Rattle.link_core.proofs.StepLemmas.{kept_more, left_more}
use Rattle.link_core.proofs.duplicates.links_within.Goals as goal
use Rattle.link_core.proofs.duplicates.links_within.Goals.{then-at+in_ok-push, else-at}

abbrev no_pair : PairAt
no_pair = record { a = 0; b = 0 }

pub loop-at-preserved : goal.loop-at-preserved
loop-at-preserved c =
    let xs = c.args.links.now in
    let i = c.loop-at.at-index in
    let x = get_or xs i no_pair in
    let before = c.loop-at.invariant in
    elim c.if-at.branch [
      | then-at+in_ok-push w ↦
          (let low : nat_lt x.a x.b ≡ true = grind (arith, nat_tests, w.if-at.true) in
          rw w.within-is (record {
            within = w.in_ok-push.ensures.items ∙ (ap (λ ys. ys ++ x ∷ []) before.within ∙ sym (kept_more (λ (at : PairAt). nat_lt at.a at.b) xs i no_pair c.loop-at-test.true low));
            few = rw (w.in_ok-push.ensures.items, length-append) (omega (arith, before.few));
            inside = rw w.in_ok-push.ensures.items (All-push (IsLinkWithin c.args.rows) c.loop-at.within.items x before.inside (w.if-at.true, c.requires.inside i no_pair c.loop-at-test.true));
          }))
      | else-at w ↦
          (let high : nat_lt x.a x.b ≡ false = grind (arith, nat_tests, w.if-at.false) in
          rw w.within-is (record {
            within = before.within ∙ sym (left_more (λ (at : PairAt). nat_lt at.a at.b) xs i no_pair c.loop-at-test.true high);
            few = omega (arith, before.few);
            inside = before.inside;
          }))
    ]
