use Rattle.review_journal.proofs.AgainLemmas.{journal_again}
use Rattle.review_journal.proofs.file_laws.read_again.Goals as goal

pub returns : goal.returns
returns c =
    journal_again (record { same = c.day_read_again.ensures.same; ascii = c.day_read_again.ensures.ascii; long = c.day_read_again.ensures.long })
    c.rows_read_again.ensures
