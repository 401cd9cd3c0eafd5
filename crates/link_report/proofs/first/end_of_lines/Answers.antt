use Rattle.std.proofs.Common.{◌≡◌, ◌-◌, ◌==◌, ℕ, arith, get_or, if◌then◌else◌}
use Rattle.link_report.proofs.HeaderLemmas.{after_feed, after_other, byte_more, text_read}
use Rattle.link_report.proofs.first.end_of_lines.Goals as goal
use Rattle.link_report.proofs.first.end_of_lines.Goals.{then-text-at-eq10, else-text-at-eq10}

pub loop-at-preserved : goal.loop-at-preserved
loop-at-preserved c =
    let byte : ℕ = get_or c.args.text.now c.loop-at.at 0 in
    let left : c.if-text-at-eq10.left ≡ (if byte == 10 then c.loop-at.left - 1 else c.loop-at.left) =
    elim c.if-text-at-eq10.branch [
      | then-text-at-eq10 w ↦ after_feed byte c.loop-at.left c.if-text-at-eq10.left w.if-text-at-eq10.true w.left-is
      | else-text-at-eq10 w ↦ after_other byte c.loop-at.left c.if-text-at-eq10.left w.if-text-at-eq10.false w.left-is
    ] in
    byte_more c.args.text.now c.loop-at.at 0 c.loop-at.left c.if-text-at-eq10.left _ c.loop-at-test.true (omega (arith, c.if-left-eq0.false)) left c.loop-at.invariant

pub returns-clause-front : goal.returns-clause-front
returns-clause-front c = text_read c.args.text.now c.loop-at.at c.loop-at.left _ c.loop-at-test.false c.loop-at.invariant
