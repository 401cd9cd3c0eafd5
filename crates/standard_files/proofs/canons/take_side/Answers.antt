use Rattle.std.proofs.Common.{◌≡◌, Some, false, get_or, refl, sym, ◌∙◌}
use Rattle.value_forms.specs.Canons.{compares_days, exact}
use Rattle.standard_files.specs.Taking.{canon_at}
use Rattle.standard_files.proofs.KnownLemmas.{id-sides, id-taken}
use Rattle.standard_files.proofs.canons.take_side.Goals as goal

pub returns-in-Some : goal.returns-in-Some
returns-in-Some c =
    let pool = c.args.pool.now in
    let kinds = c.args.kinds.now in
    let canon = canon_at kinds c.args.row.now c.args.field in
    let by_canon : compares_days (get_or kinds c.args.field exact) ≡ false = sym c.compares_days.ensures ∙ c.if-compares_days.false in
    let stands = c.in-Some.ensures pool.texts kinds refl c.requires.text c.requires.all in
    record {
      limit = refl;
      taken = id-taken pool.limit pool.texts canon (Some c.in-Some.canon) stands;
      holds = (λ final e. rw by_canon (id-sides pool.texts final canon (Some c.in-Some.canon) e stands), c.requires.all);
    }

pub returns : goal.returns
returns c =
    let kinds = c.args.kinds.now in
    let taken = c.in_ok-canon.ensures in
    let by_canon : compares_days (get_or kinds c.args.field exact) ≡ false = sym c.compares_days.ensures ∙ c.if-compares_days.false in
    record {
      limit = taken.limit;
      taken = taken.taken;
      holds = (λ final e. rw (by_canon, c.side_by_id.ensures) (id-sides c.take_new.new.pool.texts final (canon_at kinds c.args.row.now c.args.field) c.in_ok-canon.canon e taken.holds.0), taken.holds.1);
    }
