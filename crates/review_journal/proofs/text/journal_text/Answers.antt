use Rattle.std.proofs.Common.{◌∙◌, ◌++◌, ap, arith}
use Rattle.review_journal.specs.declared.entry.Entry.{Entry}
use Rattle.review_journal.specs.Reading.{entry_line, text_of_journal}
use Rattle.review_journal.proofs.ListLemmas.{line_more, lines_all}
use Rattle.review_journal.proofs.text.journal_text.Goals as goal

pub loop-at-preserved : goal.loop-at-preserved
loop-at-preserved c =
    let line = entry_line c.args.a.now c.args.b.now in
    let text = c.loop-at.text.items in
    let here = c.index-entries-at.result in
    let more = c.in_ok-push_entry.ensures ∙ ap (λ (e : Entry). text ++ line (c.loop-at.at, e)) c.index-entries-at.is in
    line_more line c.entries-entries.result.now c.loop-at.at here text c.push_entry.new.text.items _ (omega arith) c.loop-at.invariant more

pub returns : goal.returns
returns c =
    c.of.ensures ∙ lines_all (entry_line c.args.a.now c.args.b.now) c.entries-entries.result.now c.loop-at.at c.loop-at.text.items _ (omega arith) c.loop-at.invariant
    ∙ ap (text_of_journal c.args.a.now c.args.b.now) c.entries-entries.ensures.all
