use Rattle.std.specs.Prelude.{All}
use Rattle.std.proofs.lemmas.List.Elements.{All-weaker}
use Rattle.candidate_links.specs.Candidates.{HasBounds}
use Rattle.link_base.specs.Words.{IsWithinRanges}
use Rattle.pair_decisions.specs.Words.{rares_of}
use Rattle.written_check.specs.Laws.{IsSmallCell}
use Rattle.link_core.specs.RunLaws.{read_files, candidates_are, small_cells, weights_are}
use Rattle.link_core.specs.Results.{candidates_in, compared_in}
use Rattle.settings.proofs.Ranges.{read_plan}
use Rattle.link_core.proofs.verify.run_is_verified.Goals as goal

pub returns : goal.returns
returns c = λ plan files shares rule entries links ps qs of one certified long_a long_b.
    let read = read_plan of.bytes plan of.of_settings in
    let whole = read_files plan of.limit of.bytes_a of.bytes_b files of.of_files in
    let cells = small_cells plan shares rule.cells of.few_shares read.few_fields of.of_shares in
    let candidates = candidates_in plan files rule entries in
    let ranges : All IsWithinRanges rule.cells = All-weaker IsSmallCell IsWithinRanges (λ x h. h.ranges) rule.cells cells.each in
    let bounds : All (HasBounds plan.terms.award) candidates =
    c.candidates_are_bounded.ensures rule entries plan.terms.award (compared_in plan files) ranges in
    let are = candidates_are plan files rule entries whole read.terms.award bounds in
    record {
      proved = c.written_is_verified.ensures (rares_of plan.fields) rule.cells candidates links ps qs files.a.records files.b.records are one certified long_a long_b;
      short = c.written_is_short.ensures (rares_of plan.fields) rule.cells candidates links ps qs files.a.records files.b.records cells are
          (weights_are plan files rule entries bounds) whole.of_a.small whole.of_b.small one certified;
    }
