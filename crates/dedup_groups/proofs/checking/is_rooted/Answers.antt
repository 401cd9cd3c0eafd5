use Rattle.std.proofs.Common.{◌≡◌, ◌<◌, None, Some, eqb, sym, ◌∙◌, arith, slice_index}
use Rattle.std.proofs.lemmas.Bool.{eq-eqb, eqb-true, false≢true}
use Rattle.std.proofs.lemmas.List.Folds.{Any-from_list_any, list_any_at}
use Rattle.dedup_groups.proofs.ForestLemmas.{named_deep, reached_from}
use Rattle.dedup_groups.proofs.checking.is_rooted.Goals as goal

pub returns-then-leader-at : goal.returns-then-leader-at
returns-then-leader-at c = (λ yes. absurd (false≢true yes), λ rooted. absurd (omega (arith, rooted.low, c.if-leader-at.true)))

pub returns-then-depth-at-eq0 : goal.returns-then-depth-at-eq0
returns-then-depth-at-eq0 c = (
  λ own. record { low = c.if-leader-at.false; top = λ zero. (eqb-true _ _ own, c.in_default.is); below = λ deep. absurd (omega (arith, deep, c.if-depth-at-eq0.true)) },
  λ rooted. eq-eqb _ _ (rooted.top c.if-depth-at-eq0.true).0,
)

pub returns-else-depth-at-eq0 : goal.returns-else-depth-at-eq0
returns-else-depth-at-eq0 c = (
  λ zero. absurd (c.if-depth-at-eq0.false (eqb-true _ _ zero)),
  λ rooted. absurd (let from = rooted.below (omega (arith, c.if-depth-at-eq0.false)) in let clash : None ≡ Some from.0 = sym c.in_default.is ∙ from.1.via in cc),
)

pub returns-then-depth-at-eq0-2 : goal.returns-then-depth-at-eq0-2
returns-then-depth-at-eq0-2 c = (
  λ yes. absurd (false≢true yes),
  λ rooted. absurd (named_deep _ _ c.args.at c.in-Some.from c.in-Some.is rooted c.if-depth-at-eq0-2.true),
)

pub returns-then-depth-from : goal.returns-then-depth-from
returns-then-depth-from c = (
  λ yes. absurd (false≢true yes),
  λ rooted. absurd (let from = reached_from _ _ c.args.at c.in-Some.from c.in-Some.is rooted (omega (arith, c.if-depth-at-eq0-2.false)) in c.if-depth-from.true (omega (arith, from.depth))),
)

pub returns-then-leader-from : goal.returns-then-leader-from
returns-then-leader-from c = (
  λ yes. absurd (false≢true yes),
  λ rooted. absurd (let from = reached_from _ _ c.args.at c.in-Some.from c.in-Some.is rooted (omega (arith, c.if-depth-at-eq0-2.false)) in c.if-leader-from.true from.leader),
)

pub returns : goal.returns
returns c =
    let near = c.args.near.now in
    let from = c.in-Some.from in
    let deep : 0 < slice_index c.args.depth.now c.args.at = omega (arith, c.if-depth-at-eq0-2.false) in (
      λ yes. record {
        low = c.if-leader-at.false;
        top = λ top. absurd (c.if-depth-at-eq0-2.false top);
        below = λ _. (
          from,
          record {
            via = c.in-Some.is;
            along = (let h = Any-from_list_any (λ y. eqb y from) near (sym c.contains.ensures.value ∙ yes) in let same : h.1 ≡ from = eqb-true _ _ h.4 in (h.0, h.2, rw same at h.3));
            leader = c.if-leader-from.false;
            depth = omega (arith, deep, c.if-depth-from.false);
          },
        );
      },
      λ rooted.
          let h = (reached_from _ _ c.args.at from c.in-Some.is rooted deep).along in
          c.contains.ensures.value ∙ list_any_at (λ y. eqb y from) near h.0 from h.1 (eq-eqb _ _ h.2),
    )
