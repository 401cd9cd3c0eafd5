use Rattle.std.proofs.Common.{◌<◌, ◌∙◌, List, Result, arith, length, subst, sym}
use Rattle.std.proofs.lemmas.Grind.{common_steps}
use Rattle.std.proofs.lemmas.List.Elements.{All-push}
use Rattle.file_reader.specs.Words.{row_refused, row_taken, no_row, TableRow}
use Rattle.link_base.specs.Words.{Refuses}
use Rattle.link_base.specs.declared.fault.Fault.{Fault}
use Rattle.sample_counts.specs.Sample.{IsInFiles, sample_row}
use Rattle.sample_counts.specs.declared.reviewed.Reviewed.{Reviewed}
use Rattle.sample_counts.proofs.reviewed.reviewed_in.Goals as goal

pub returns-in-Err-clause-answer : goal.returns-in-Err-clause-answer
returns-in-Err-clause-answer c =
    let within : c.loop-at.at < length c.args.table.now = omega arith in
    let row = rw c.deref.ensures.value at c.in-Err.ensures.answer in
    subst (λ (r : Result (List Reviewed) Fault). Refuses r c.in-Err.fault) (sym c.loop-at.invariant.told)
    (row_refused (λ done number (row : TableRow). sample_row c.args.a.now c.args.b.now done number row.fields) c.args.table.now no_row c.loop-at.done.items c.loop-at.at c.in-Err.fault within c.loop-at.invariant.count row)

pub loop-at-preserved : goal.loop-at-preserved
loop-at-preserved c =
    let within : c.loop-at.at < length c.args.table.now = omega arith in
    let row = rw c.deref.ensures.value at c.in-Ok.ensures.answer in
    let places = rw c.deref.ensures.value at c.in-Ok.ensures.places in
    let new = c.in_ok-push-in-Ok.ensures.items in
    record {
      told = c.loop-at.invariant.told ∙ row_taken (λ done number (row : TableRow). sample_row c.args.a.now c.args.b.now done number row.fields) c.args.table.now no_row c.loop-at.done.items c.push.new.self.items c.loop-at.at c.in-Ok.pair within c.loop-at.invariant.count row new;
      places = rw new places;
      count = grind (arith, common_steps);
      in_files = rw new (All-push (IsInFiles (length c.args.a.now) (length c.args.b.now)) c.loop-at.done.items c.in-Ok.pair c.loop-at.invariant.in_files c.in-Ok.ensures.in_files);
    }
