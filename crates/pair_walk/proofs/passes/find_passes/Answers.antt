use Rattle.std.proofs.Common.{rules}
use Rattle.pair_walk.proofs.JoinLemmas.{found-again, found-more}
use Rattle.pair_walk.proofs.passes.find_passes.Goals as goal
use Rattle.pair_walk.proofs.passes.find_passes.Goals.{then-not-is_repeated+in_ok-pass_rows+in_ok-push, else-not-is_repeated}

pub pass_rows-requires-clause-at : goal.pass_rows-requires-clause-at
pass_rows-requires-clause-at c = rw c.passes-at-end.ensures at c.loop-at-test.true

pub loop-at-preserved : goal.loop-at-preserved
loop-at-preserved c =
    let passes = c.args.passes.now in
    let a = c.args.a.now in
    let b = c.args.b.now in
    let at = c.loop-at.at in
    let found = c.loop-at.found.items in
    let within = rw c.passes-at-end.ensures at c.loop-at-test.true in
    elim c.if-not-is_repeated.branch [
      | then-not-is_repeated+in_ok-pass_rows+in_ok-push w ↦
          rw (w.found-is, w.in_ok-push.ensures.items) (found-more passes at a b found w.in_ok-pass_rows.field-0 c.loop-at.invariant within w.in_ok-pass_rows.ensures)
      | else-not-is_repeated w ↦
          let h = rw c.passes.ensures at (w.if-not-is_repeated.ensures (search rules)) in
          rw w.found-is (found-again passes at h.0 a b found c.loop-at.invariant h.1 h.2)
    ]
