use Rattle.std.proofs.Common.{ap, map, ◌∙◌}
use Rattle.block_passes.specs.NumberingLaws.{group-read}
use Rattle.block_passes.proofs.index.PassRows.of_numbers.Goals as goal

pub returns : goal.returns
returns c =
    c.of.ensures
    ∙ ap (λ rows. map rows c.args.numbers_a.items) (λ i n. group-read c.args.numbers_b.now c.in_ok-groups.groups c.args.count n c.in_ok-groups.ensures i)
