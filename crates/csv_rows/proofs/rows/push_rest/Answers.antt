use Rattle.csv_rows.proofs.Lemmas.{at_end, rest_more}
use Rattle.csv_rows.proofs.rows.push_rest.Goals as goal

pub loop-field-preserved : goal.loop-field-preserved
loop-field-preserved c =
    rest_more c.args.fields.now c.loop-field.field-index _ c.loop-field.text.items c.push.new.self.items c.push_field.new.line.items _ c.loop-field-test.true c.in_ok-push_field.ensures c.in_ok-push.ensures.items c.loop-field.invariant

pub returns : goal.returns
returns c =
    at_end c.args.fields.now c.loop-field.field-index c.loop-field.text.items _ c.loop-field-test.false c.loop-field.invariant
