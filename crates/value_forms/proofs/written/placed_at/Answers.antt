use Rattle.std.proofs.Common.{◌+◌, ◌∙◌, ap, arith, length, length-drop, sym}
use Rattle.value_forms.specs.Written.{in_form}
use Rattle.value_forms.proofs.ReadableLemmas.{if_some, placed}
use Rattle.value_forms.proofs.written.placed_at.Goals as goal

pub returns-clause-value : goal.returns-clause-value
returns-clause-value c =
    let t = c.args.text.now in
    let n = c.args.n in
    let first = c.cut_at.result.0.now in
    let rest = c.cut_at.result.1.now in
    let second = c.cut_at-2.result.0.now in
    let third = c.cut_at-2.result.1.now in
    if_some c.arranged.result (in_form c.args.form first second third) c.arranged.ensures.value (λ number is.
    placed c.args.form t first rest second third n number c.requires.first (omega (arith, c.requires.few, c.requires.whole)) (omega (arith, c.requires.few, c.requires.whole, ap length c.cut_at.ensures.back, length-drop (n + 1) t))
    c.cut_at.ensures.front c.cut_at.ensures.back c.cut_at-2.ensures.front c.cut_at-2.ensures.back (sym c.is_sign.ensures ∙ c.if-not-is_sign.false) c.if-rest-text.false is)
