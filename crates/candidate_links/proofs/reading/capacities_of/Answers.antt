use Rattle.std.proofs.Common.{◌≡◌, ◌<◌, ◌≤◌, ◌+◌, ◌∙◌, ℕ, List, [], All, length, map, set, take, get_or, replicate, Result, subst, sym, ap, arith, refl}
use Rattle.std.proofs.lemmas.List.{length-map, length-set}
use Rattle.std.proofs.lemmas.List.Elements.{All-replicate, All-set}
use Rattle.link_base.specs.Words.{Refuses}
use Rattle.link_base.specs.declared.fault.Fault.{Fault}
use Rattle.file_reader.specs.Words.{no_row}
use Rattle.link_limits.specs.declared.TheConstants.{MOST_CAPACITY}
use Rattle.candidate_links.specs.Capacities.{listed_capacity}
use Rattle.candidate_links.proofs.ListedLemmas.{listed_more, unlisted, capacity_is, row_refused, row_told}
use Rattle.candidate_links.proofs.reading.capacities_of.Goals as goal

pub loop-at-init : goal.loop-at-init
loop-at-init c =
    let b = c.args.b.now in
    let ones : c.in_ok-each.each.items ≡ replicate (length b) 1 = c.in_ok-each.ensures.items_if_clones_equal (λ y is. is) ∙ ap (λ n. replicate n 1) c.rows.ensures in
    record {
      told = refl;
      listed = ones ∙ unlisted b;
      for_each = ap length (ones ∙ unlisted b) ∙ length-map b (listed_capacity []);
      allowed = subst (All (λ n. n ≤ MOST_CAPACITY)) (sym ones) (All-replicate (λ n. n ≤ MOST_CAPACITY) (length b) 1 (omega arith));
    }

pub returns-in-Err-clause-answer : goal.returns-in-Err-clause-answer
returns-in-Err-clause-answer c =
    let b = c.args.b.now in
    let rows = c.args.table.now in
    let within : c.loop-at.at < length rows = omega arith in
    subst (λ (r : Result (List ℕ) Fault). Refuses r c.in-Err.fault) (sym c.loop-at.invariant.told)
    (row_refused b (map (listed_capacity rows) b) rows c.loop-at.at within c.in-Err.fault c.in-Err.ensures.answer)

pub loop-at-preserved : goal.loop-at-preserved
loop-at-preserved c =
    let b = c.args.b.now in
    let rows = c.args.table.now in
    let at = c.loop-at.at in
    let row = get_or rows at no_row in
    let within : at < length rows = omega arith in
    let listed = c.in-Ok.listed in
    let so_far = map (listed_capacity (take at rows)) b in
    let given : listed.capacity ≡ _ = capacity_is b (at + 1) row listed.capacity c.in-Ok.ensures.answer in
    record {
      told = c.loop-at.invariant.told ∙ row_told b (map (listed_capacity rows) b) rows at within listed.capacity c.in-Ok.ensures.answer;
      listed =
          ap (λ ns. set ns listed.at listed.capacity) c.loop-at.invariant.listed
          ∙ ap (set so_far listed.at) given
          ∙ listed_more b rows at listed.at within c.distinct_ids.ensures (c.requires.distinct refl) c.in-Ok.ensures.listed.named;
      for_each = length-set c.loop-at.each.items listed.at listed.capacity ∙ c.loop-at.invariant.for_each;
      allowed = All-set (λ n. n ≤ MOST_CAPACITY) c.loop-at.each.items listed.at listed.capacity c.in-Ok.ensures.listed.allowed c.loop-at.invariant.allowed;
    }
