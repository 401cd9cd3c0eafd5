use Rattle.std.proofs.Common.{◌≡◌, drop}
use Rattle.settings.specs.Pass.{field_named}
use Rattle.settings.proofs.passes.PartsChoices.named.Given as goal

abbrev pub invariant-loop-field : goal.invariant-loop-field
invariant-loop-field l = (l.number ≡ l.field-index) × (field_named (drop l.field-index l.field-items) l.number l.text ≡ field_named l.self.fields.now 0 l.text)
