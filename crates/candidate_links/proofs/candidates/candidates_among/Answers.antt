use Rattle.std.proofs.Common.{◌≡◌, ◌∙◌, ◌++◌, List, arith, length, subst, sym, All, ◌≤ℤ◌}
use Rattle.std.proofs.lemmas.Int.{ints}
use Rattle.std.proofs.lemmas.List.Elements.{All-drop, All-push}
use Rattle.link_base.specs.declared.rule.Candidate.{Candidate}
use Rattle.link_base.specs.declared.rule.PairAt.{PairAt}
use Rattle.pair_decisions.specs.Words.{side_rule, IsInside}
use Rattle.candidate_links.specs.CandidateLaws.{are_candidates, all_kept, all_told, link_told, possible_told}
use Rattle.candidate_links.specs.Candidates.{most_value, of_link, of_possible}
use Rattle.candidate_links.specs.Merging.{merged, next_of}
use Rattle.candidate_links.specs.declared.merging.Next.TheVariants as next
use Rattle.candidate_links.proofs.candidates.candidates_among.Goals as goal

pub returns-in-End-clause-candidates : goal.returns-in-End-clause-candidates
returns-in-End-clause-candidates c =
    let rows_a = c.args.sides_a.now.rows in
    let rows_b = c.args.sides_b.now.rows in
    let entries = c.args.journal.now in
    let award = c.args.award in
    let d = c.args.decided.now in
    let rule = side_rule c.rule-rule.result.now rows_a rows_b in
    let told = all_told (of_link rule) (of_possible rule entries award) c.pairs.candidates.items _ c.pairs.links.now c.pairs.possible.now (sym c.next_of.ensures ∙ c.in-End.is) c.pairs.invariant.merged in
    let same : merged (of_link rule) (of_possible rule entries award) c.links-links.result.now c.possible-possible.result.now
    ≡ merged (of_link (side_rule d.rule rows_a rows_b)) (of_possible (side_rule d.rule rows_a rows_b) entries award) d.links d.possible
    = λ i. merged (of_link (side_rule (c.rule-rule.ensures i) rows_a rows_b)) (of_possible (side_rule (c.rule-rule.ensures i) rows_a rows_b) entries award) (c.links-links.ensures i) (c.possible-possible.ensures i) in
    are_candidates rows_a rows_b entries award d c.pairs.candidates.items c.requires.award (told ∙ same) c.pairs.invariant.most

pub pairs-preserved-in-Link : goal.pairs-preserved-in-Link
pairs-preserved-in-Link c =
    let f = of_link (side_rule c.rule-rule.result.now c.args.sides_a.now.rows c.args.sides_b.now.rows) in
    let g = of_possible (side_rule c.rule-rule.result.now c.args.sides_a.now.rows c.args.sides_b.now.rows) c.args.journal.now c.args.award in
    let inside = IsInside (length c.args.sides_a.now.rows) (length c.args.sides_b.now.rows) in
    let small : Candidate → Type 0 = λ x. x.value ≤ℤ most_value c.args.award in
    let is : next_of c.pairs.links.now c.pairs.possible.now ≡ next.Link c.in-Link.at = sym c.next_of.ensures ∙ c.in-Link.is in
    let pushed = c.in_ok-push-in-Link.ensures.items in
    let told = link_told f g c.pairs.candidates.items c.push.new.self.items c.pairs.links.now c.pairs.possible.now c.in-Link.at c.of_link.result is c.of_link.ensures.candidate pushed in
    record {
      merged = subst (λ (ls : List PairAt). c.push.new.self.items ++ merged f g ls c.pairs.possible.now ≡ merged f g c.links-links.result.now c.possible-possible.result.now) (sym c.after_first-links.ensures) (told ∙ c.pairs.invariant.merged);
      most = subst (λ (cs : List Candidate). All small cs) (sym pushed) (All-push small c.pairs.candidates.items c.of_link.result c.pairs.invariant.most (omega (arith, ints, c.of_link.ensures.most)));
      links = subst (λ (ls : List PairAt). All inside ls) (sym c.after_first-links.ensures) (All-drop inside 1 c.pairs.links.now c.pairs.invariant.links);
      possible = c.pairs.invariant.possible;
    }

pub pairs-preserved : goal.pairs-preserved
pairs-preserved c =
    let f = of_link (side_rule c.rule-rule.result.now c.args.sides_a.now.rows c.args.sides_b.now.rows) in
    let g = of_possible (side_rule c.rule-rule.result.now c.args.sides_a.now.rows c.args.sides_b.now.rows) c.args.journal.now c.args.award in
    let inside = IsInside (length c.args.sides_a.now.rows) (length c.args.sides_b.now.rows) in
    let small : Candidate → Type 0 = λ x. x.value ≤ℤ most_value c.args.award in
    let is : next_of c.pairs.links.now c.pairs.possible.now ≡ next.Possible c.in-Possible.at = sym c.next_of.ensures ∙ c.in-Possible.is in
    let kept = c.in_ok-keep-in-Possible.ensures in
    let told = possible_told f g c.pairs.candidates.items c.keep.new.candidates.items c.pairs.links.now c.pairs.possible.now c.in-Possible.at c.of_possible-candidate.result is c.of_possible-candidate.ensures.candidate kept in
    record {
      merged = subst (λ (ps : List PairAt). c.keep.new.candidates.items ++ merged f g c.pairs.links.now ps ≡ merged f g c.links-links.result.now c.possible-possible.result.now) (sym c.after_first-possible.ensures) (told ∙ c.pairs.invariant.merged);
      most = subst (λ (cs : List Candidate). All small cs) (sym kept) (all_kept small c.pairs.candidates.items c.of_possible-candidate.result c.pairs.invariant.most c.of_possible-candidate.ensures.most);
      links = c.pairs.invariant.links;
      possible = subst (λ (ps : List PairAt). All inside ps) (sym c.after_first-possible.ensures) (All-drop inside 1 c.pairs.possible.now c.pairs.invariant.possible);
    }
