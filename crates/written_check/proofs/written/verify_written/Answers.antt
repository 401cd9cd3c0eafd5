use Rattle.std.proofs.Common.{◌∙◌, ◌<◌, List, ap, arith, length, rules, subst, sym, ℕ, All, AllPairs}
use Rattle.std.proofs.lemmas.List.Elements.{All-contains}
use Rattle.price_check.specs.Assignment.{IsBefore, IsWithin}
use Rattle.link_base.specs.declared.rule.Candidate.{Candidate}
use Rattle.written_check.specs.Certified.{AreTaken}
use Rattle.link_base.specs.Words.{refuses-then}
use Rattle.written_check.specs.LinkRows.{is_want}
use Rattle.written_check.proofs.StepLemmas.{after_apart, after_links, after_prices, after_rule, refuses_whole}
use Rattle.written_check.proofs.FormLemmas.{links_are}
use Rattle.written_check.proofs.RowFacts.{prices_are}
use Rattle.written_check.proofs.written.verify_written.Goals as goal

-- links within the records of B
within_b : (rows_a rows_b : ℕ) (cs links : List Candidate) → All (IsWithin rows_a rows_b) cs → AreTaken cs links → All (λ (l : Candidate). l.b < rows_b) links
within_b rows_a rows_b cs links within taken k d lt = (All-contains (IsWithin rows_a rows_b) cs _ within (taken.among k d lt)).1

pub verify_apart-requires : goal.verify_apart-requires
verify_apart-requires c =
    let links = links_are c.args.candidates.now c.args.a.now c.args.b.now c.bytes-2.result.now c.in-Ok-verify_links.links.items c.in-Ok-verify_links.ensures.answer in
    let within = within_b (length c.args.a.now) (length c.args.b.now) c.args.candidates.now c.in-Ok-verify_links.links.items c.requires.within links.taken in
    record {
      few = omega (arith, links.few, ap (λ (l : List Candidate). length l) c.deref.ensures.value, ap (λ (t : List ℕ). length t) c.bytes-2.ensures, c.requires.links);
      rising = subst (λ (l : List Candidate). AllPairs IsBefore l) (sym c.deref.ensures.value) links.taken.rising;
      within = subst (λ (l : List Candidate). All (λ (x : Candidate). x.b < c.rows.result) l) (sym c.deref.ensures.value)
          (subst (λ n. All (λ (x : Candidate). x.b < n) c.in-Ok-verify_links.links.items) (sym c.rows.ensures) within);
    }

pub verify_sums-requires : goal.verify_sums-requires
verify_sums-requires c =
    let links = links_are c.args.candidates.now c.args.a.now c.args.b.now c.bytes-2.result.now c.in-Ok-verify_links.links.items c.in-Ok-verify_links.ensures.answer in
    let prices = prices_are c.args.a.now c.args.b.now c.bytes-3.result.now _ c.in-Ok-verify_prices.ensures.answer in
    record {
      count = search rules;
      within = search rules;
      allowed = search rules;
      taken = subst (λ (l : List Candidate). AreTaken c.args.candidates.now l) (sym c.deref-2.ensures.value) links.taken;
      few = omega (arith, links.few, ap (λ (l : List Candidate). length l) c.deref-2.ensures.value, ap (λ (t : List ℕ). length t) c.bytes-2.ensures, c.requires.links);
      rows_a = omega (arith, prices.rows_a, c.rows-2.ensures);
      rows_b = omega (arith, prices.rows_b, c.rows-3.ensures);
      small_a = prices.small_a;
      small_b = prices.small_b;
    }

pub returns-in-Err-clause-answer : goal.returns-in-Err-clause-answer
returns-in-Err-clause-answer c = refuses-then is_want _ _ c.in-Err.refutation (rw c.bytes.ensures at c.in-Err.ensures.answer)

pub returns-in-Err-verify_links-clause-answer : goal.returns-in-Err-verify_links-clause-answer
returns-in-Err-verify_links-clause-answer c =
    let rule = rw c.bytes.ensures at c.in-Ok.ensures.answer in
    refuses_whole _ _ c.in-Err-verify_links.refutation (after_rule _ _ _ _ _ _ _ rule)
    (refuses-then is_want _ _ c.in-Err-verify_links.refutation (rw c.bytes-2.ensures at c.in-Err-verify_links.ensures.answer))

pub returns-in-Err-verify_apart-clause-answer : goal.returns-in-Err-verify_apart-clause-answer
returns-in-Err-verify_apart-clause-answer c =
    let rule = rw c.bytes.ensures at c.in-Ok.ensures.answer in
    let links = rw c.bytes-2.ensures at c.in-Ok-verify_links.ensures.answer in
    refuses_whole _ _ c.in-Err-verify_apart.refutation (after_links _ _ _ _ _ _ _ _ rule links)
    (refuses-then is_want _ _ c.in-Err-verify_apart.refutation (rw c.deref.ensures.value at c.in-Err-verify_apart.ensures.answer))

pub returns-in-Err-verify_prices-clause-answer : goal.returns-in-Err-verify_prices-clause-answer
returns-in-Err-verify_prices-clause-answer c =
    let rule = rw c.bytes.ensures at c.in-Ok.ensures.answer in
    let links = rw c.bytes-2.ensures at c.in-Ok-verify_links.ensures.answer in
    let apart = rw c.deref.ensures.value at c.in-Ok-verify_apart.ensures.answer in
    refuses_whole _ _ c.in-Err-verify_prices.refutation (after_apart _ _ _ _ _ _ _ _ _ rule links apart)
    (refuses-then is_want _ _ c.in-Err-verify_prices.refutation (rw c.bytes-3.ensures at c.in-Err-verify_prices.ensures.answer))

pub returns-in-Err-verify_sums-clause-answer : goal.returns-in-Err-verify_sums-clause-answer
returns-in-Err-verify_sums-clause-answer c =
    let rule = rw c.bytes.ensures at c.in-Ok.ensures.answer in
    let links = rw c.bytes-2.ensures at c.in-Ok-verify_links.ensures.answer in
    let apart = rw c.deref.ensures.value at c.in-Ok-verify_apart.ensures.answer in
    let prices = rw c.bytes-3.ensures at c.in-Ok-verify_prices.ensures.answer in
    refuses_whole _ _ c.in-Err-verify_sums.refutation (after_prices _ _ _ _ _ _ _ _ _ _ rule links apart prices)
    (rw c.deref-2.ensures.value at c.in-Err-verify_sums.ensures.answer)

pub returns-in-Ok-verify_sums-clause-answer : goal.returns-in-Ok-verify_sums-clause-answer
returns-in-Ok-verify_sums-clause-answer c =
    let rule = rw c.bytes.ensures at c.in-Ok.ensures.answer in
    let links = rw c.bytes-2.ensures at c.in-Ok-verify_links.ensures.answer in
    let apart = rw c.deref.ensures.value at c.in-Ok-verify_apart.ensures.answer in
    let prices = rw c.bytes-3.ensures at c.in-Ok-verify_prices.ensures.answer in
    after_prices _ _ _ _ _ _ _ _ _ _ rule links apart prices ∙ (rw c.deref-2.ensures.value at c.in-Ok-verify_sums.ensures.answer)

pub returns-in-Ok-verify_sums-clause-greatest : goal.returns-in-Ok-verify_sums-clause-greatest
returns-in-Ok-verify_sums-clause-greatest c =
    let rule = rw c.bytes.ensures at c.in-Ok.ensures.answer in
    let links = rw c.bytes-2.ensures at c.in-Ok-verify_links.ensures.answer in
    let apart = rw c.deref.ensures.value at c.in-Ok-verify_apart.ensures.answer in
    let prices = rw c.bytes-3.ensures at c.in-Ok-verify_prices.ensures.answer in
    let verified_so = after_prices _ _ _ _ _ _ _ _ _ _ rule links apart prices ∙ (rw c.deref-2.ensures.value at c.in-Ok-verify_sums.ensures.answer) in
    (c.verified_is_greatest.ensures _ _ _ _ _ _ c.in-Ok-verify_links.links.items verified_so).greatest
