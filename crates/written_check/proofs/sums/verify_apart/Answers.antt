use Rattle.std.proofs.Common.{◌+◌, ◌∙◌, List, ap, arith, length, map, subst, sym, All, AllPairs, option_map}
use Rattle.std.proofs.lemmas.List.{length-map, map_more, take_all}
use Rattle.link_base.specs.Words.{IsPairBefore}
use Rattle.link_base.specs.declared.rule.PairAt.{PairAt}
use Rattle.price_check.specs.Search.{IsPairWithin}
use Rattle.price_check.specs.Verdict.{IsFirstReused}
use Rattle.written_check.specs.Certified.{pair_of}
use Rattle.written_check.specs.LinkRows.{unless_row}
use Rattle.written_check.specs.declared.refutation.Refutation.TheVariants as refutation
use Rattle.written_check.proofs.LinkLemmas.{apart_reused, pairs_rise, pairs_within}
use Rattle.written_check.proofs.sums.verify_apart.Goals as goal

pub loop-link-preserved : goal.loop-link-preserved
loop-link-preserved c = rw (c.in_ok-push.ensures.items, c.loop-link.invariant) (sym (map_more pair_of c.args.links.now c.loop-link.link-index _ c.loop-link-test.true))

pub first_reused-requires : goal.first_reused-requires
first_reused-requires c =
    let are = c.deref.ensures.value ∙ c.loop-link.invariant ∙ ap (map pair_of) (take_all c.loop-link.link-index c.args.links.now c.loop-link-test.false) in
    record {
      count = omega (arith, ap (λ (ps : List PairAt). length ps) are, length-map c.args.links.now pair_of);
      rising = subst (λ (ps : List PairAt). AllPairs IsPairBefore ps) (sym are) (pairs_rise c.args.links.now c.requires.rising);
      in_range = subst (λ (ps : List PairAt). All (IsPairWithin c.args.rows_b) ps) (sym are) (pairs_within c.args.links.now c.args.rows_b c.requires.within);
    }

pub returns-in-Some-clause-answer : goal.returns-in-Some-clause-answer
returns-in-Some-clause-answer c =
    let are = c.deref.ensures.value ∙ c.loop-link.invariant ∙ ap (map pair_of) (take_all c.loop-link.link-index c.args.links.now c.loop-link-test.false) in
    apart_reused c.args.links.now c.in_ok-index.field-0 (subst (λ (ps : List PairAt). IsFirstReused ps c.in_ok-index.field-0) are c.in_ok-index.ensures)
    ∙ ap (λ o. unless_row refutation.Reused c.args.links.now (option_map (λ i. i + 1) o)) c.in-Some.is

pub returns-clause-answer : goal.returns-clause-answer
returns-clause-answer c =
    let are = c.deref.ensures.value ∙ c.loop-link.invariant ∙ ap (map pair_of) (take_all c.loop-link.link-index c.args.links.now c.loop-link-test.false) in
    apart_reused c.args.links.now c.in_ok-index.field-0 (subst (λ (ps : List PairAt). IsFirstReused ps c.in_ok-index.field-0) are c.in_ok-index.ensures)
    ∙ ap (λ o. unless_row refutation.Reused c.args.links.now (option_map (λ i. i + 1) o)) c.in-None.is
