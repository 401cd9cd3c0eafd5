use Rattle.std.proofs.Common.{◌∙◌, sym, ap, length}
use Rattle.std.proofs.lemmas.List.FromFn.{length-map-range_with_len}
use Rattle.block_passes.proofs.pass_ids.PassIdsCodedRows.rows.Goals as goal

pub returns : goal.returns
returns c = sym (length-map-range_with_len _ 0 c.self.inside.rows) ∙ ap length c.self.view_is
