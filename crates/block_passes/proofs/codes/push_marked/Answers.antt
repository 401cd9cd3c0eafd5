use Rattle.std.proofs.Common.{◌++◌, refl}
use Rattle.block_passes.specs.Numbering.{coded_text, marked}
use Rattle.block_passes.proofs.StepLemmas.{joined_more}
use Rattle.block_passes.proofs.codes.push_marked.Goals as goal

pub loop-byte-preserved : goal.loop-byte-preserved
loop-byte-preserved c =
    let text = c.args.text.now in
    joined_more marked coded_text (λ b bs. refl) text c.loop-byte.byte-index _ c.loop-byte.code.items c.push_byte.new.code.items (c.args.code.now.items ++ coded_text text) c.loop-byte-test.true c.loop-byte.invariant c.in_ok-push_byte.ensures
