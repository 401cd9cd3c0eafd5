use Rattle.std.proofs.Common.{◌≡◌, ◌∙◌, ◌∷◌, ◌++◌, [], List, Some, ap, arith, get_or, length, length-append, rules, subst, sym, ℕ, AllPairs}
use Rattle.price_check.specs.Assignment.{IsBefore, no_candidate}
use Rattle.csv.specs.Records.{fields_of}
use Rattle.link_base.specs.declared.rule.Candidate.{Candidate}
use Rattle.written_check.specs.LinkRows.{after_all, candidate_in, links_in}
use Rattle.written_check.proofs.LinkLemmas.{link_taken, taken_rising}
use Rattle.written_check.proofs.links.links_of_rows.Goals as goal

pub rows-preserved : goal.rows-preserved
rows-preserved c =
    let cs = c.args.candidates.now in
    let a = c.args.a.now in
    let b = c.args.b.now in
    let taken = c.rows.links.items in
    let row = fields_of c.next.new.row in
    let took : c.rows.rows ≡ row ∷ c.next.new.self = search rules in
    let link = get_or cs c.in-Some.place no_candidate in
    let pushed : c.push.new.self.items ≡ taken ++ link ∷ [] = c.in_ok-push.ensures.items in
    let next : Some link ≡ after_all taken (candidate_in cs a b row) = c.in-Some.ensures.candidate ∙ ap (λ (l : List Candidate). after_all l (candidate_in cs a b row)) c.deref.ensures.value in
    record {
      short = omega (arith, ap (λ (r : List (List (List ℕ))). length r) took, ap (λ (l : List Candidate). length l) pushed, length-append taken (link ∷ []), c.rows.invariant.short);
      rising = subst (λ (l : List Candidate). AllPairs IsBefore l) (sym pushed) (taken_rising taken (candidate_in cs a b row) link c.rows.invariant.rising next);
      told =
          c.rows.invariant.told ∙ ap (links_in cs a b taken) took ∙ link_taken taken cs a b row c.next.new.self link next
          ∙ ap (λ (l : List Candidate). links_in cs a b l c.next.new.self) (sym pushed);
    }

pub next_link-requires : goal.next_link-requires
next_link-requires c = record {
  taken = subst (λ (l : List Candidate). AllPairs IsBefore l) (sym c.deref.ensures.value) c.rows.invariant.rising;
  rising = c.requires.rising;
  within = c.requires.within;
}

pub returns : goal.returns
returns c =
    let ended : c.rows.rows ≡ [] = search rules in
    record {
      kind = _;
      answer = c.rows.invariant.told ∙ ap (links_in c.args.candidates.now c.args.a.now c.args.b.now c.rows.links.items) ended;
    }
