use Rattle.std.proofs.Common.{◌<◌, ◌+◌, ◌∙◌, ap, sym, length, arith, subst, List, Result}
use Rattle.std.proofs.lemmas.Grind.{common_steps}
use Rattle.file_reader.specs.Words.{row_refused, row_taken, no_row, TableRow}
use Rattle.link_base.specs.Words.{Refuses}
use Rattle.link_base.specs.declared.fault.Fault.{Fault}
use Rattle.review_journal.specs.declared.entry.Entry.{Entry}
use Rattle.review_journal.specs.Verdict.{IsWithinFiles}
use Rattle.review_journal.specs.Reading.{entry_in}
use Rattle.review_journal.specs.Rows.{written_in, Written}
use Rattle.review_journal.proofs.ListLemmas.{all_more}
use Rattle.review_journal.proofs.reading.entries_in.Goals as goal

pub returns-in-Err-clause-answer : goal.returns-in-Err-clause-answer
returns-in-Err-clause-answer c =
    let within : c.loop-at.at < length c.args.table.now = omega arith in
    subst (λ (r : Result (List Entry) Fault). Refuses r c.in-Err.fault) (sym c.loop-at.invariant.told)
    (row_refused (λ done number (row : TableRow). entry_in c.args.a.now c.args.b.now done number (written_in c.args.second row.fields)) c.args.table.now no_row c.loop-at.journal c.loop-at.at c.in-Err.fault within c.loop-at.invariant.count (subst (λ (w : Written). Refuses (entry_in c.args.a.now c.args.b.now c.loop-at.journal (c.loop-at.at + 1) w) c.in-Err.fault) c.row_at-row.ensures c.in-Err.ensures.answer))

pub loop-at-preserved : goal.loop-at-preserved
loop-at-preserved c =
    let within : c.loop-at.at < length c.args.table.now = omega arith in
    record {
      told =
          c.loop-at.invariant.told
          ∙ row_taken (λ done number (row : TableRow). entry_in c.args.a.now c.args.b.now done number (written_in c.args.second row.fields)) c.args.table.now no_row c.loop-at.journal c.push.new.self c.loop-at.at c.in-Ok.entry within c.loop-at.invariant.count
          (ap (entry_in c.args.a.now c.args.b.now c.loop-at.journal (c.loop-at.at + 1)) (sym c.row_at-row.ensures) ∙ c.in-Ok.ensures.answer) c.in_ok-push-in-Ok.ensures.added;
      count = grind (arith, common_steps);
      within = all_more (IsWithinFiles (length c.args.a.now) (length c.args.b.now)) c.loop-at.journal c.push.new.self c.in-Ok.entry c.loop-at.invariant.within c.in-Ok.ensures.within c.in_ok-push-in-Ok.ensures.added;
    }
