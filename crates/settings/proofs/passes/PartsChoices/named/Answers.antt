use Rattle.std.proofs.Common.{◌+◌, ◌∙◌, ap, sym, bytes_eq}
use Rattle.settings.proofs.Ranges.{named_more}
use Rattle.settings.proofs.passes.PartsChoices.named.Goals as goal

pub loop-field-preserved : goal.loop-field-preserved
loop-field-preserved c =
    let other = ap (λ name. bytes_eq name c.field-item.result.name) (sym c.as_bytes.ensures.value) ∙ sym c.is_named.ensures ∙ c.if-is_named.false in (
      ap (λ n. n + 1) c.loop-field.invariant.0,
      named_more c.fields-field-items.result.now c.loop-field.field-index c.loop-field.number c.field-item.result c.args.text.now _ c.loop-field-test.true c.field-item.is other c.loop-field.invariant.1,
    )
