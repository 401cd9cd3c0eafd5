use Rattle.std.proofs.Common.{◌≡◌, ◌∙◌, List, Result, ap, false, not, refl, rules, sym, tests, true}
use Rattle.std.specs.List.{list_any}
use Rattle.std.proofs.lemmas.Iterator.{YieldsList-from_slice}
use Rattle.std.proofs.lemmas.Iterator.Search.{any_from_yields_List}
use Rattle.link_base.specs.Words.{and_then}
use Rattle.link_base.specs.declared.fault.Fault.{Fault}
use Rattle.sample_counts.specs.Sample.{with_both}
use Rattle.sample_counts.specs.declared.reviewed.Reviewed.{Reviewed}
use Rattle.sample_counts.proofs.reviewed.sample_in.Goals as goal

pub returns-then-not-any-clause-answer : goal.returns-then-not-any-clause-answer
returns-then-not-any-clause-answer c =
    let matched : c.any.result ≡ list_any (λ (r : Reviewed). r.matched) c.in-Ok.sample.items =
    any_from_yields_List (λ (r : Reviewed). r.matched) _ _ c.any.result c.any.ensures.ran (YieldsList-from_slice c.in-Ok.sample.items cc) (λ x b q k. search (rules, tests)) in
    let none : list_any (λ (r : Reviewed). r.matched) c.in-Ok.sample.items ≡ false = sym matched ∙ c.if-not-any.true in
    ap (λ (r : Result (List Reviewed) Fault). and_then r with_both) c.in-Ok.ensures.answer ∙ rw none refl

pub returns-then-not-any-2-clause-answer : goal.returns-then-not-any-2-clause-answer
returns-then-not-any-2-clause-answer c =
    let matched : c.any.result ≡ list_any (λ (r : Reviewed). r.matched) c.in-Ok.sample.items =
    any_from_yields_List (λ (r : Reviewed). r.matched) _ _ c.any.result c.any.ensures.ran (YieldsList-from_slice c.in-Ok.sample.items cc) (λ x b q k. search (rules, tests)) in
    let unmatched : c.any-2.result ≡ list_any (λ (r : Reviewed). not r.matched) c.in-Ok.sample.items =
    any_from_yields_List (λ (r : Reviewed). not r.matched) _ _ c.any-2.result c.any-2.ensures.ran (YieldsList-from_slice c.in-Ok.sample.items cc) (λ x b q k. search (rules, tests)) in
    let some : list_any (λ (r : Reviewed). r.matched) c.in-Ok.sample.items ≡ true = sym matched ∙ c.if-not-any.false in
    let none : list_any (λ (r : Reviewed). not r.matched) c.in-Ok.sample.items ≡ false = sym unmatched ∙ c.if-not-any-2.true in
    ap (λ (r : Result (List Reviewed) Fault). and_then r with_both) c.in-Ok.ensures.answer ∙ rw (some, none) refl
