use Rattle.std.proofs.Common.{◌<◌, ◌∙◌, List, ap, length, rules, All, Contains}
use Rattle.std.proofs.lemmas.List.Elements.{All-contains, All-weaker}
use Rattle.price_check.specs.Assignment.{IsWithin, CertifiesWithin, IsGreatestWithin}
use Rattle.link_base.specs.declared.rule.Candidate.{Candidate}
use Rattle.candidate_links.proofs.choice_within.choose_within.Goals as goal

-- what holds of each candidate holds of each of the links
of_links : (P : Candidate → Type 0) (candidates links : List Candidate) → All P candidates → All (Contains candidates) links → All P links
of_links P candidates links all among = All-weaker (Contains candidates) P (λ c h. All-contains P candidates c all h) links among

pub returns : goal.returns
returns c =
    let cs = c.args.candidates.now in
    let ns = c.args.capacities.now in
    let made = c.in_ok-assigner.ensures in
    let s = c.solve-solved.ensures in
    let solved = c.solve-solved.result in
    let greatest : IsGreatestWithin cs ns solved.links = rw (made.candidates, made.capacities) at s.greatest in
    let certified : CertifiesWithin cs ns solved.links solved.prices_a solved.prices_b = rw (made.candidates, made.capacities) at s.certified in
    let a_within : All (λ (l : Candidate). l.a < c.args.rows_a) cs = All-weaker (IsWithin c.args.rows_a c.args.rows_b) (λ l. l.a < c.args.rows_a) (λ l h. h.0) cs c.requires.within in
    let b_within : All (λ (l : Candidate). l.b < c.args.rows_b) cs = All-weaker (IsWithin c.args.rows_a c.args.rows_b) (λ l. l.b < c.args.rows_b) (λ l h. h.1) cs c.requires.within in
    let found = c.in_ok-links.ensures.items ∙ c.links.ensures in
    let rows_a = s.rows_a ∙ made.rows_a in
    let rows_b = s.rows_b ∙ ap length made.capacities ∙ c.requires.for_each in
    let of_a = c.in_ok-prices_a.ensures solved.prices_a rows_a (λ at p lt post. search rules) in
    let of_b = c.in_ok-prices_b.ensures solved.prices_b rows_b (λ at p lt post. search rules) in
    record {
      chosen = record {
        greatest = rw found greatest;
        certified = rw (found, of_a, of_b) certified;
        priced_a = ap length of_a ∙ rows_a;
        priced_b = ap length of_b ∙ rows_b;
        in_a = rw found (of_links (λ l. l.a < c.args.rows_a) cs solved.links a_within greatest.within.among);
        in_b = rw found (of_links (λ l. l.b < c.args.rows_b) cs solved.links b_within greatest.within.among);
      };
    }
