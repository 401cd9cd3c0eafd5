use Rattle.std.proofs.Common.{ap, codes, ◌++◌, ◌∙◌, ◌-◌, map, min, sym}
use Rattle.std.specs.List.{range_with_len}
use Rattle.workload.specs.declared.samples.TheConstants.{MOST_OF_STATUS}
use Rattle.workload.specs.Made.{paired_row, rows_text, sample_header}
use Rattle.workload.proofs.Lemmas.{sample_header_text, in_turn}
use Rattle.workload.proofs.samples.sample_text.Goals as goal

pub returns : goal.returns
returns c =
    let matched = paired_row 0 (codes "matched") in
    let unmatched = paired_row 1 (codes "unmatched") in
    let headed = c.in_ok-extend_from_slice.ensures.items ∙ ap (λ xs. xs ++ codes "id_a,id_b,status\n") c.new-text.ensures.items ∙ sym sample_header_text in
    let first = c.in_ok-push_pairs.ensures ∙ ap (λ n. c.extend_from_slice.new.self.items ++ rows_text (map matched (range_with_len 0 n))) c.min.ensures in
    let last = c.in_ok-push_pairs-2.ensures ∙ ap (λ n. c.push_pairs.new.text.items ++ rows_text (map unmatched (range_with_len 0 n))) c.min-2.ensures in
    c.of.ensures
    ∙ in_turn sample_header (map matched (range_with_len 0 (min c.args.rows MOST_OF_STATUS))) (map unmatched (range_with_len 0 (min (c.args.rows - 1) MOST_OF_STATUS))) c.extend_from_slice.new.self.items c.push_pairs.new.text.items
    c.push_pairs-2.new.text.items headed first last
