use Rattle.std.proofs.Common.{◌∙◌, arith}
use Rattle.dedup_groups.proofs.TextLemmas.{few_printed, members_within, number_next, rows_next}
use Rattle.dedup_groups.proofs.writing.push_groups.Goals as goal

pub push_next-requires-clause-within : goal.push_next-requires-clause-within
push_next-requires-clause-within c =
    let leader = c.loop-leader.leader in
    let is = c.rows.ensures ∙ c.requires.by_leader.1 leader (omega (arith, c.loop-leader-test.true, c.rows-leader-end.ensures)) in
    rw (is, ← c.requires.rows) (members_within c.args.groups.now.leaders leader)

pub push_next-requires-clause-fits : goal.push_next-requires-clause-fits
push_next-requires-clause-fits c = omega (arith, few_printed c.args.groups.now.leaders c.loop-leader.leader, c.loop-leader.invariant.number)

pub loop-leader-preserved : goal.loop-leader-preserved
loop-leader-preserved c =
    let lists = c.args.groups.now in
    let leader = c.loop-leader.leader in
    let is = c.rows.ensures ∙ c.requires.by_leader.1 leader (omega (arith, c.loop-leader-test.true, c.rows-leader-end.ensures)) in
    record {
      number = number_next lists.leaders leader c.loop-leader.number c.in_ok-number.number c.rows.result.now is c.loop-leader.invariant.number c.in_ok-number.ensures.number;
      told = rows_next lists.leaders lists.vias c.args.file.now leader c.loop-leader.number c.rows.result.now c.args.text.now.items c.loop-leader.text.items c.push_next.new.text.items is c.loop-leader.invariant.number c.loop-leader.invariant.told c.in_ok-number.ensures.text;
    }
