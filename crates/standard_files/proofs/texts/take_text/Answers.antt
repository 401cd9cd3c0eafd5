use Rattle.standard_files.proofs.TakingLemmas.{takes-interned}
use Rattle.standard_files.proofs.texts.take_text.Goals as goal

pub returns : goal.returns
returns c =
    takes-interned c.args.pool.now c.intern.new.self c.args.text.now c.intern.result c.are_distinct.ensures.used c.intern.ensures.limit c.intern.ensures.found c.intern.ensures.taken c.intern.ensures.full
