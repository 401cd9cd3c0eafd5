use Rattle.std.proofs.Common.{codes}
use Rattle.toml.specs.View.{table_view}
use Rattle.settings_readers.specs.KeptLaws.{kept, needed_keeps}
use Rattle.settings_readers.specs.Values.{needed}
use Rattle.settings.specs.Field.{shares}
use Rattle.settings.proofs.TextRanges.{shares_keep}
use Rattle.settings.proofs.fields.field_shares.Goals as goal

pub invariant_of-result : goal.invariant_of-result
invariant_of-result c =
    let rare = c.args.rare in
    let t = table_view c.args.keys.now.table.now in
    let above = c.args.keys.now.above.now in
    record {
      of_matched = kept _ (needed (shares rare) t above (codes "m")) _ (needed_keeps _ (shares rare) t above (codes "m") (shares_keep rare)) c.in_ok-m.ensures;
      of_unmatched = kept _ (needed (shares rare) t above (codes "u")) _ (needed_keeps _ (shares rare) t above (codes "u") (shares_keep rare)) c.in_ok-u.ensures;
    }
