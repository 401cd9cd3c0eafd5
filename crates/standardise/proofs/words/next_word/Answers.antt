use Rattle.std.proofs.Common.{◌+◌, ap, arith, length, length-drop, subst, sym, IsUtf8}
use Rattle.standardise.proofs.StepLemmas.{past_space}
use Rattle.standardise.proofs.words.next_word.Goals as goal

pub loop-at-preserved : goal.loop-at-preserved
loop-at-preserved c =
    let left = c.loop-at.left.now in
    let inv = c.loop-at.invariant in
    let back = c.parted.ensures.back in
    let split = rw (← c.parted.ensures.front, ← back) at c.in-Some.ensures.words in
    record {
      words = past_space left c.parted.result.1.now c.parted.result.0.now c.args.text.now c.is_empty.result split c.is_empty.ensures c.if-not-is_empty.false inv.words;
      shorter = omega (arith, ap length back, length-drop (c.in-Some.at + 1) left, inv.shorter);
      utf8 = λ utf8. subst IsUtf8 (sym back) (c.in-Some.ensures.utf8 (inv.utf8 utf8)).1;
    }
