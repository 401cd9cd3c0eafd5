use Rattle.csv_rows.proofs.Lemmas.{row_written}
use Rattle.csv_rows.proofs.rows.push_row.Goals as goal

pub returns : goal.returns
returns c =
    row_written c.args.fields.now _ c.args.text.now.items c.push_field.new.line.items c.push_rest.new.text.items c.push.new.self.items c.requires c.in_ok-push_field.ensures c.in_ok-push_rest.ensures c.in_ok-push.ensures.items
