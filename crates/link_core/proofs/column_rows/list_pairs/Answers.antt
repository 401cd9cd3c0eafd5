use Rattle.std.proofs.Common.{◌<◌, ap, arith, length, map}
use Rattle.std.proofs.lemmas.List.{length-append, length-map}
use Rattle.pair_walk.specs.Rows.{pair}
use Rattle.link_core.proofs.ResultLemmas.{all_told, row_told, too_many_told}
use Rattle.link_core.proofs.column_rows.list_pairs.Goals as goal

pub loop-at-preserved : goal.loop-at-preserved
loop-at-preserved c =
    let rows = c.args.rows.now in
    let at = c.loop-at.at in
    let bs = c.rows-bs.result.now in
    let kept = c.in_ok-push_pairs.ensures in
    let within : at < length rows = omega (arith, c.loop-at-test.true, c.len-at-end.ensures) in
    record {
      told = row_told rows at bs c.loop-at.pairs.items c.push_pairs.new.pairs.items within c.rows-bs.ensures kept c.loop-at.invariant.told;
      few = omega (arith, ap length kept, length-append c.loop-at.pairs.items (map (pair at) bs), length-map bs (pair at), c.len.ensures, c.if-len-bs-gt-MOST_PAIRS.false);
    }

pub returns-then-len-bs-gt-MOST_PAIRS : goal.returns-then-len-bs-gt-MOST_PAIRS
returns-then-len-bs-gt-MOST_PAIRS c =
    let within : c.loop-at.at < length c.args.rows.now = omega (arith, c.loop-at-test.true, c.len-at-end.ensures) in
    record { answer = too_many_told c.args.rows.now c.loop-at.at c.rows-bs.result.now c.loop-at.pairs.items within c.rows-bs.ensures (omega (arith, c.len.ensures, c.if-len-bs-gt-MOST_PAIRS.true)) c.loop-at.invariant.told }

pub returns : goal.returns
returns c =
    let rows = c.args.rows.now in
    record { answer = all_told rows c.loop-at.at c.loop-at.pairs.items (omega (arith, c.loop-at-test.false, c.len-at-end.ensures)) c.loop-at.invariant.few c.loop-at.invariant.told }
