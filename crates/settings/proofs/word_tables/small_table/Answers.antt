use Rattle.std.proofs.Common.{◌∙◌}
use Rattle.std.proofs.lemmas.Bool.{lt-leb, le-leb}
use Rattle.settings_readers.specs.KeptLaws.{refused_as}
use Rattle.link_plan.specs.declared.limits.TheConstants.{MOST_WORD_PAIRS}
use Rattle.settings.proofs.WordTables.{small_table_is}
use Rattle.settings.proofs.word_tables.small_table.Goals as goal

pub returns-then-len-gt-MOST_WORD_PAIRS-clause-gives : goal.returns-then-len-gt-MOST_WORD_PAIRS-clause-gives
returns-then-len-gt-MOST_WORD_PAIRS-clause-gives c =
    let is = small_table_is c.len.result c.args.place.now _ c.in-Some.table.now.entries c.in-Some.ensures c.len.ensures.len in
    refused_as _ _ _ c.out_of_range.result (is ∙ rw (lt-leb c.len.result MOST_WORD_PAIRS c.if-len-gt-MOST_WORD_PAIRS.true)) c.out_of_range.ensures

pub returns-else-len-gt-MOST_WORD_PAIRS-clause-gives : goal.returns-else-len-gt-MOST_WORD_PAIRS-clause-gives
returns-else-len-gt-MOST_WORD_PAIRS-clause-gives c =
    small_table_is c.len.result c.args.place.now _ c.in-Some.table.now.entries c.in-Some.ensures c.len.ensures.len ∙ rw (le-leb c.len.result MOST_WORD_PAIRS c.if-len-gt-MOST_WORD_PAIRS.false)
