use Rattle.std.proofs.Common.{◌∙◌, sym}
use Rattle.settings_readers.proofs.Lemmas.{named_more}
use Rattle.settings_readers.proofs.values.named_in.Goals as goal

pub loop-word-preserved : goal.loop-word-preserved
loop-word-preserved g c =
    named_more (λ e. (e.0.now, e.1)) c.args.choices.now c.loop-word.word-index c.loop-word-item.result c.args.text.now _ c.loop-word-test.true c.loop-word-item.is (sym c.eq.ensures ∙ c.if-eq.false) c.loop-word.invariant
