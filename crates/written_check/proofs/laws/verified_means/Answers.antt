use Rattle.written_check.proofs.WrittenLemmas.{DecimalsRead}
use Rattle.written_check.proofs.RowFacts.{rows_verified, verified_rows}
use Rattle.written_check.proofs.laws.verified_means.Goals as goal

pub returns-clause-rows : goal.returns-clause-rows
returns-clause-rows c = verified_rows

pub returns-clause-verified : goal.returns-clause-verified
returns-clause-verified c =
    let decimals : DecimalsRead = record { digits = c.decimals_are_read.ensures.digits; value = c.decimals_are_read.ensures.value } in
    rows_verified decimals c.prices_are_bounded.ensures.by_candidates c.greatest_value_is_least.ensures
