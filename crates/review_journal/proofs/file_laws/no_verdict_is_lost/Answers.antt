use Rattle.review_journal.proofs.KeptFacts.{added_keeps, added_over}
use Rattle.review_journal.proofs.ListLemmas.{batch_names, journal_over}
use Rattle.review_journal.proofs.file_laws.no_verdict_is_lost.Goals as goal

pub returns : goal.returns
returns c = record {
  reviewed = λ a b bytes old verdicts batch double day name possible new ids_a ids_b is_day is_name read given told.
      let over = added_over double day name is_day is_name a b possible old new batch told (batch_names a b verdicts batch given) (journal_over a b bytes old read) in
      (c.read_again.ensures a b new ids_a ids_b over.journal over.within, added_keeps double day name possible old new batch told);
  migrated = λ a b bytes entries ids_a ids_b read.
      let over = journal_over a b bytes entries read in
      c.read_again.ensures a b entries ids_a ids_b over.journal over.within;
}
