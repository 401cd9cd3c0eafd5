use Rattle.written_check.proofs.RowFacts.{verified_rows}
use Rattle.written_check.proofs.laws.verified_is_greatest.Goals as goal

pub returns : goal.returns
returns c = λ rares cells candidates a b texts links e.
    let h = verified_rows rares cells candidates a b texts links e in
    record { rows = h.rows.of_links; greatest = c.certified_is_greatest.ensures candidates links h.prices_a h.prices_b h.one_to_one h.certified }
