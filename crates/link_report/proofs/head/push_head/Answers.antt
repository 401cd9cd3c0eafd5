use Rattle.std.proofs.Common.{◌++◌}
use Rattle.link_report.proofs.HeaderLemmas.{four_lines, lists_then, seven_lines, two_lines}
use Rattle.link_report.specs.ReportText.{file_lines, level_lines, link_lines, pair_lines}
use Rattle.link_report.proofs.head.push_head.Goals as goal

pub returns : goal.returns
returns c =
    let report = c.args.report.now in
    let text = c.args.text.now.items in
    let of_files = c.push_counts-2.new.text.items in
    let of_pairs = c.push_count-7.new.text.items in
    lists_then text of_files _ (file_lines c.args.a.now c.args.b.now report) (pair_lines report ++ level_lines report.levels ++ link_lines report)
    (rw (← c.rows.ensures, ← c.rows-2.ensures) (two_lines text _ _ _ _ c.in_ok-push_counts.ensures c.in_ok-push_counts-2.ensures))
    (lists_then of_files of_pairs _ (pair_lines report) (level_lines report.levels ++ link_lines report)
    (seven_lines of_files _ _ _ _ _ _ _ _ _ _ _ _ _ _ c.in_ok-push_count.ensures c.in_ok-push_count-2.ensures c.in_ok-push_count-3.ensures c.in_ok-push_count-4.ensures
    c.in_ok-push_count-5.ensures c.in_ok-push_count-6.ensures c.in_ok-push_count-7.ensures)
    (lists_then of_pairs c.push_level-4.new.text.items _ (level_lines report.levels) (link_lines report)
    (four_lines of_pairs _ _ _ _ _ _ _ _ c.in_ok-push_level.ensures c.in_ok-push_level-2.ensures c.in_ok-push_level-3.ensures c.in_ok-push_level-4.ensures) c.in_ok-push_links.ensures))
