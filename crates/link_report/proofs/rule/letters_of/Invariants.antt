use Rattle.std.proofs.Common.{◌≡◌, map}
use Rattle.std.specs.List.{range_with_len}
use Rattle.link_report.specs.LinksText.{outcome_letter}
use Rattle.patterns.specs.Patterns.{outcome_at, rare_of}
use Rattle.link_report.proofs.rule.letters_of.Given as goal

abbrev pub invariant-loop-field : goal.invariant-loop-field
invariant-loop-field l =
    l.letters.items ≡ map (λ field. outcome_letter (outcome_at (rare_of l.shape) l.pattern field)) (range_with_len 0 l.field)
