use Rattle.std.proofs.Common.{◌+◌}
use Rattle.dedup_groups.specs.GroupsText.{group_row}
use Rattle.dedup_groups.proofs.SearchLemmas.{text_more}
use Rattle.dedup_groups.proofs.writing.push_next.Goals as goal

pub loop-at-preserved : goal.loop-at-preserved
loop-at-preserved c =
    let grown = rw (c.as_bytes.ensures.value, c.in_ok-digits.ensures, c.from.ensures, c.id.ensures, c.id_of_via-via.ensures, c.via.ensures.value) at c.in_ok-push_row.ensures in
    text_more (group_row c.args.groups.now.vias c.args.file.now (c.args.number + 1)) c.args.text.now.items c.loop-at.text.items c.push_row.new.text.items c.args.group.now c.loop-at.at-index 0 c.loop-at-test.true c.loop-at.invariant grown
