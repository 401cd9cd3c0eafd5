use Rattle.std.proofs.Common.{◌∙◌, ℕ, List, ℤ, subst, ap, arith, length, pos, rules, sym, w64, All, Contains, FitsSigned, ◌≤ℤ◌}
use Rattle.std.proofs.lemmas.Int.{to_z-of_z}
use Rattle.std.proofs.lemmas.List.{get_or_default}
use Rattle.price_check.specs.Assignment.{Certifies, IsGreatest, greatest_value, price_of, worth}
use Rattle.link_base.specs.declared.rule.Candidate.{Candidate}
use Rattle.candidate_links.specs.PassLaws.{not_more}
use Rattle.candidate_links.specs.Candidates.{dropped_of}
use Rattle.candidate_links.proofs.choice.choose_links.Goals as goal

-- no price is above the greatest value of the candidates
priced : (prices : List ℤ) (most : ℤ) → ((position : ℕ) → price_of prices position ≤ℤ most) → All (λ price. price ≤ℤ most) prices
priced prices most bound k d lt = subst (λ (price : ℤ). price ≤ℤ most) (get_or_default prices k (pos 0) d lt) (bound k)

pub dropped_of-requires : goal.dropped_of-requires
dropped_of-requires c =
    let one = c.solve-solved.ensures.greatest.one_to_one in
    let among : All (Contains c.args.candidates.now) c.solve-solved.result.links = subst (λ (all : List Candidate). All (Contains all) c.solve-solved.result.links) c.in_ok-assigner.ensures.candidates one.among in
    record { rising = c.requires.rising; links_rise = rw c.links-found.ensures one.rising; among = rw c.links-found.ensures among }

pub worth-total-requires : goal.worth-total-requires
worth-total-requires c =
    let one = c.solve-solved.ensures.greatest.one_to_one in
    let among : All (Contains c.args.candidates.now) c.solve-solved.result.links = subst (λ (all : List Candidate). All (Contains all) c.solve-solved.result.links) c.in_ok-assigner.ensures.candidates one.among in
    let few = not_more c.args.candidates.now c.solve-solved.result.links (record { rising = c.requires.rising; links_rise = one.rising; among = among }) in
    omega (arith, few, ap length c.links-found.ensures, c.requires.count)

pub returns : goal.returns
returns c =
    let cs = c.args.candidates.now in
    let made = c.in_ok-assigner.ensures in
    let s = c.solve-solved.ensures in
    let solved = c.solve-solved.result in
    let greatest : IsGreatest cs solved.links = subst (λ (all : List Candidate). IsGreatest all solved.links) made.candidates s.greatest in
    let certified : Certifies cs solved.links solved.prices_a solved.prices_b = subst (λ (all : List Candidate). Certifies all solved.links solved.prices_a solved.prices_b) made.candidates s.certified in
    let bound = c.prices_are_bounded.ensures.by_candidates cs solved.links solved.prices_a solved.prices_b greatest.one_to_one certified in
    let copied = c.in_ok-links.ensures.items in
    let found = copied ∙ c.links-found.ensures in
    let of_a = c.in_ok-prices_a.ensures solved.prices_a (s.rows_a ∙ made.rows_a) (λ at p lt post. search rules) in
    let of_b = c.in_ok-prices_b.ensures solved.prices_b (s.rows_b ∙ made.rows_b) (λ at p lt post. search rules) in
    let fits : FitsSigned w64 c.worth-total.result = search rules in
    record {
      chosen = record {
        greatest = rw found greatest;
        certified = rw (found, of_a, of_b) certified;
        priced_a = ap length of_a ∙ s.rows_a ∙ made.rows_a;
        priced_b = ap length of_b ∙ s.rows_b ∙ made.rows_b;
        most_a = rw of_a (priced solved.prices_a (greatest_value cs) (λ position. (bound position).0));
        most_b = rw of_b (priced solved.prices_b (greatest_value cs) (λ position. (bound position).1));
        dropped = c.in_ok-dropped.ensures ∙ ap (dropped_of cs) (sym copied);
        total = to_z-of_z w64 c.worth-total.result fits ∙ c.worth-total.ensures ∙ ap worth (sym copied);
      };
    }
