use Rattle.dedup_groups.specs.Groups.{group_lists}
use Rattle.dedup_groups.proofs.ForestLemmas.{forest_from, rooted_near}
use Rattle.dedup_groups.proofs.checking.check_groups.Goals as goal

pub returns : goal.returns
returns c =
    let lists = group_lists c.args.leader.now c.args.via.now c.args.depth.now in
    let near = c.in_ok-near.near in
    let linked = c.in_ok-near.ensures in (
      λ yes. forest_from c.args.rows c.args.links.now near lists linked c.requires.rows (c.have_one_leader.ensures.0 c.if-not-have_one_leader.false) (c.are_rooted.ensures.0 yes),
      λ forest. c.are_rooted.ensures.1 (rooted_near c.args.rows c.args.links.now near lists linked forest),
    )
