use Rattle.link_report.proofs.HeaderLemmas.{links_again, prices_again, rule_again}
use Rattle.link_report.proofs.reading.texts_read_again.Goals as goal

pub returns : goal.returns
returns c = let read = c.rows_read_again.ensures in record { rule = rule_again read; links = links_again read; prices = prices_again read }
