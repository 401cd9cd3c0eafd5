use Rattle.std.proofs.Common.{zero-add, arith}
use Rattle.std.proofs.lemmas.List.FromFn.{map-range_with_len_more}
use Rattle.link_report.specs.LinksText.{outcome_letter}
use Rattle.patterns.specs.Patterns.{outcome_at, rare_of}
use Rattle.link_report.proofs.rule.letters_of.Goals as goal

pub loop-field-preserved : goal.loop-field-preserved
loop-field-preserved c =
    let more = map-range_with_len_more (λ field. outcome_letter (outcome_at (rare_of c.args.shape.now) c.args.pattern field)) 0 c.loop-field.field c.loop-field.field (zero-add c.loop-field.field) in
    grind (arith, more)
