use Rattle.std.proofs.Common.{arith, rules}
use Rattle.workload.proofs.Lemmas.{of_words}
use Rattle.workload.proofs.words.word_of_four.Goals as goal

pub returns : goal.returns
returns c =
    of_words c.args.number c.word_of_two.result c.word_of_two-2.result (grind arith) (search rules) (search rules) c.word_of_two.ensures c.word_of_two-2.ensures
