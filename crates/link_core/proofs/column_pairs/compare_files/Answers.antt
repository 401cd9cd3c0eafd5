use Rattle.std.proofs.Common.{List, Result, subst, sym}
use Rattle.link_base.specs.Words.{Gives}
use Rattle.link_base.specs.declared.fault.Fault.{Fault}
use Rattle.link_base.specs.declared.rule.PairAt.{PairAt}
use Rattle.link_core.specs.Pairs.{compared_columns, items_of}
use Rattle.link_core.proofs.ResultLemmas.{columns_matched, columns_refused}
use Rattle.link_core.proofs.column_pairs.compare_files.Goals as goal

pub returns-in-Ok : goal.returns-in-Ok
returns-in-Ok c =
    let columns = compared_columns c.args.column.now c.args.a c.args.b in
    record {
      answer = subst (λ (r : Result (List PairAt) Fault). Gives items_of r c.list_pairs.result) (sym (columns_matched columns c.in-Ok.rows c.in-Ok.ensures.answer)) c.list_pairs.ensures.answer;
    }

pub returns-in-Err : goal.returns-in-Err
returns-in-Err c =
    record { answer = columns_refused (compared_columns c.args.column.now c.args.a c.args.b) c.in-Err.fault c.in-Err.ensures.answer }
