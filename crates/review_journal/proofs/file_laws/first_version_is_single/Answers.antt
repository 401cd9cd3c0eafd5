use Rattle.review_journal.proofs.ListLemmas.{all_single}
use Rattle.review_journal.proofs.file_laws.first_version_is_single.Goals as goal

pub returns : goal.returns
returns c = record {
  single = all_single;
  last = λ a b bytes entries first told x y. c.single_verdicts_stand.ensures entries x y (all_single a b bytes entries first told);
}
