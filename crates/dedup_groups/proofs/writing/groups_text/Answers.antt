use Rattle.dedup_groups.proofs.writing.groups_text.Goals as goal

pub push_groups-requires-clause-by_leader : goal.push_groups-requires-clause-by_leader
push_groups-requires-clause-by_leader c = rw (c.leaders.ensures.value, c.rows.ensures) at c.in_ok-by_leader.ensures
