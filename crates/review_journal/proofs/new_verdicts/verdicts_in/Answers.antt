use Rattle.std.proofs.Common.{◌<◌, ◌∙◌, length, arith, subst, sym, List, Result}
use Rattle.std.proofs.lemmas.Grind.{common_steps}
use Rattle.file_reader.specs.Words.{row_refused, row_taken, no_row, TableRow}
use Rattle.link_base.specs.Words.{Refuses}
use Rattle.link_base.specs.declared.fault.Fault.{Fault}
use Rattle.review_journal.specs.declared.batch.NewVerdict.{NewVerdict}
use Rattle.review_journal.specs.Batch.{NamesRecords, verdict_in}
use Rattle.review_journal.proofs.ListLemmas.{all_more}
use Rattle.review_journal.proofs.new_verdicts.verdicts_in.Goals as goal

pub returns-in-Err-clause-answer : goal.returns-in-Err-clause-answer
returns-in-Err-clause-answer c =
    let within : c.loop-at.at < length c.args.table.now = omega arith in
    subst (λ (r : Result (List NewVerdict) Fault). Refuses r c.in-Err.fault) (sym c.loop-at.invariant.told)
    (row_refused (λ done number (row : TableRow). verdict_in c.args.a.now c.args.b.now number row.fields) c.args.table.now no_row c.loop-at.rows.items c.loop-at.at c.in-Err.fault within c.loop-at.invariant.count c.in-Err.ensures.answer)

pub loop-at-preserved : goal.loop-at-preserved
loop-at-preserved c =
    let within : c.loop-at.at < length c.args.table.now = omega arith in
    record {
      told = c.loop-at.invariant.told ∙ row_taken (λ done number (row : TableRow). verdict_in c.args.a.now c.args.b.now number row.fields) c.args.table.now no_row c.loop-at.rows.items c.push.new.self.items c.loop-at.at c.in-Ok.verdict within c.loop-at.invariant.count c.in-Ok.ensures.answer c.in_ok-push-in-Ok.ensures.items;
      count = grind (arith, common_steps);
      placed = all_more (NamesRecords (length c.args.a.now) (length c.args.b.now)) c.loop-at.rows.items c.push.new.self.items c.in-Ok.verdict c.loop-at.invariant.placed c.in-Ok.ensures.placed c.in_ok-push-in-Ok.ensures.items;
    }
