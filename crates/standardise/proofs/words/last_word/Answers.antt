use Rattle.std.proofs.Common.{ap, arith, length, length-take, subst, sym, IsUtf8}
use Rattle.standardise.proofs.StepLemmas.{before_space}
use Rattle.standardise.proofs.words.last_word.Goals as goal

pub loop-at-preserved : goal.loop-at-preserved
loop-at-preserved c =
    let left = c.loop-at.left.now in
    let inv = c.loop-at.invariant in
    let front = c.parted.ensures.front in
    let split = rw (← front, ← c.parted.ensures.back) at c.in-Some.ensures.words in
    record {
      words = before_space left c.parted.result.0.now c.parted.result.1.now c.args.text.now c.is_empty.result split c.is_empty.ensures c.if-not-is_empty.false inv.words;
      shorter = omega (arith, ap length front, length-take c.in-Some.at left, inv.shorter);
      utf8 = λ utf8. subst IsUtf8 (sym front) (c.in-Some.ensures.utf8 (inv.utf8 utf8)).0;
    }
