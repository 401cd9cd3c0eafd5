use Rattle.std.proofs.Common.{◌∙◌}
use Rattle.value_forms.proofs.ReadableLemmas.{signed_at}
use Rattle.value_forms.proofs.written.signed.Goals as goal

pub returns-clause-value : goal.returns-clause-value
returns-clause-value c = c.arranged.ensures.value ∙ signed_at c.args.form c.args.text.now c.cut_at.result.0.now c.cut_at.result.1.now c.cut_at-2.result.0.now c.cut_at-2.result.1.now c.in_ok-i.i c.in_ok-j.j c.in_ok-i.ensures.value c.cut_at.ensures.front c.cut_at.ensures.back c.in_ok-j.ensures.value c.cut_at-2.ensures.front c.cut_at-2.ensures.back
