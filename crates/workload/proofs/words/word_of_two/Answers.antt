use Rattle.std.proofs.Common.{arith, rules}
use Rattle.workload.proofs.Lemmas.{of_syllables}
use Rattle.workload.proofs.words.word_of_two.Goals as goal

pub returns : goal.returns
returns c =
    of_syllables c.args.number c.syllable_of.result c.syllable_of-2.result (grind arith) (search rules) (search rules) c.syllable_of.ensures c.syllable_of-2.ensures
