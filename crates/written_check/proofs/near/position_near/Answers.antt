use Rattle.std.proofs.Common.{◌≡◌, ◌∙◌, List, ap, arith, sym, ℕ}
use Rattle.std.proofs.lemmas.Slice.Eq.{bytes_eq-Decides}
use Rattle.link_base.specs.Words.{id_at, position_of_id}
use Rattle.written_check.proofs.LinkLemmas.{known_again}
use Rattle.written_check.proofs.near.position_near.Goals as goal

pub returns-then-eq-clause-position : goal.returns-then-eq-clause-position
returns-then-eq-clause-position c =
    let file = c.args.file.now in
    let same : id_at file c.loop-place.place ≡ c.args.id.now = sym c.id.ensures ∙ (bytes_eq-Decides c.id.result.now c.args.id.now).0 (sym c.eq.ensures ∙ c.if-eq.true) in
    sym (known_again file c.loop-place.place c.distinct_ids.ensures (omega (arith, c.loop-place-test.true, c.end_of_near-place-end.ensures.within, c.rows.ensures)))
    ∙ ap (λ (t : List ℕ). position_of_id t file) same
