use Rattle.std.proofs.Common.{◌∙◌, List, ap, ℕ}
use Rattle.csv.specs.Records.{fields_of}
use Rattle.link_base.specs.Words.{position_of_id}
use Rattle.written_check.proofs.LinkLemmas.{near_is, place_is}
use Rattle.written_check.proofs.links.place_of.Goals as goal

pub returns : goal.returns
returns c =
    place_is c.args.candidates.now c.args.a.now c.args.b.now (fields_of c.args.row.now) c.requires.within c.requires.rising c.distinct_ids.ensures c.distinct_ids-2.ensures
    c.in_ok-of_a.of_a c.in_ok-of_b.of_b c.candidate_at.result (c.in_ok-of_a.ensures.position ∙ ap (λ (t : List ℕ). position_of_id t c.args.a.now) c.field_of.ensures)
    (c.in_ok-of_b.ensures.position ∙ ap (λ (t : List ℕ). position_of_id t c.args.b.now) c.field_of-2.ensures) c.candidate_at.ensures

pub returns-in-Some : goal.returns-in-Some
returns-in-Some c =
    near_is c.args.candidates.now c.args.a.now c.args.b.now (fields_of c.args.row.now) c.requires.within c.requires.rising c.distinct_ids.ensures c.distinct_ids-2.ensures
    c.in-Some.place c.in-Some.ensures
