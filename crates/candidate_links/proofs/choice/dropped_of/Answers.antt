use Rattle.std.proofs.Common.{◌≡◌, ◌∙◌, ◌++◌, ◌∷◌, [], ◌+◌, List, true, false, sym, ap, arith, drop, map, get_or}
use Rattle.price_check.specs.Assignment.{no_candidate}
use Rattle.link_base.specs.declared.rule.Candidate.{Candidate}
use Rattle.candidate_links.specs.PassLaws.{all_passed, link_passed, one_dropped}
use Rattle.candidate_links.specs.Candidates.{dropped}
use Rattle.link_report.specs.declared.report.Dropped.{Dropped}
use Rattle.candidate_links.specs.Merging.{is_next, unlinked}
use Rattle.candidate_links.proofs.choice.dropped_of.Goals as goal

pub loop-candidate-preserved-then-is_next : goal.loop-candidate-preserved-then-is_next
loop-candidate-preserved-then-is_next c =
    let cs = c.args.candidates.now in
    let i = c.loop-candidate.candidate-index in
    let rest = c.loop-candidate.rest.now in
    let is : is_next rest (get_or cs i no_candidate) ≡ true = sym c.is_next.ensures ∙ c.if-is_next.true in
    let step = link_passed cs rest i no_candidate c.loop-candidate-test.true c.loop-candidate.all.items is in
    ap (λ (ls : List Candidate). c.loop-candidate.all.items ++ map dropped (unlinked (drop (i + 1) cs) ls)) c.after_first-rest.ensures ∙ sym step ∙ c.loop-candidate.invariant

pub loop-candidate-preserved : goal.loop-candidate-preserved
loop-candidate-preserved c =
    let cs = c.args.candidates.now in
    let i = c.loop-candidate.candidate-index in
    let rest = c.loop-candidate.rest.now in
    let is : is_next rest (get_or cs i no_candidate) ≡ false = sym c.is_next.ensures ∙ c.if-is_next.false in
    let pushed : c.push.new.self.items ≡ c.loop-candidate.all.items ++ dropped (get_or cs i no_candidate) ∷ [] = c.in_ok-push.ensures.items ∙ ap (λ (d : Dropped). c.loop-candidate.all.items ++ d ∷ []) c.dropped.ensures in
    sym (one_dropped cs rest i no_candidate c.loop-candidate-test.true c.loop-candidate.all.items c.push.new.self.items is pushed) ∙ c.loop-candidate.invariant

pub returns : goal.returns
returns c =
    all_passed c.args.candidates.now c.args.links.now c.loop-candidate.rest.now c.loop-candidate.candidate-index c.loop-candidate.all.items (omega arith)
    (record { rising = c.requires.rising; links_rise = c.requires.links_rise; among = c.requires.among }) c.loop-candidate.invariant
