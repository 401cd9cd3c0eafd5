use Rattle.std.proofs.Common.{Some, get_or, refl, rules, sym, subst}
use Rattle.value_forms.specs.Canons.{exact, canon_of}
use Rattle.link_base.specs.Words.{value_seen}
use Rattle.standard_files.specs.Taking.{IsIdOf}
use Rattle.standard_files.specs.Sides.{standard_text}
use Rattle.standard_files.proofs.KnownLemmas.{id-kept, known-kept}
use Rattle.standard_files.proofs.TakingLemmas.{kept}
use Rattle.standard_files.proofs.canons.take_new.Goals as goal

pub returns : goal.returns
returns c =
    let pool = c.args.pool.now in
    let new = c.take_canon.new.pool in
    let kinds = c.args.kinds.now in
    let kind = get_or kinds c.args.field exact in
    let v = value_seen c.value-value.result in
    let taken = c.in_ok-canon.ensures in
    let of_text : IsIdOf pool.texts (standard_text v) c.args.text = subst (λ w. IsIdOf pool.texts (standard_text w) c.args.text) (sym c.value-value.ensures) c.requires.text in
    let of_canon : IsIdOf new.texts (canon_of kind v) (Some c.in-Some.canon) = rw c.in-Some.is at taken.holds in
    record {
      limit = taken.limit;
      taken = search rules;
      holds = (
        search rules,
        c.keep.ensures new.texts kinds refl (id-kept pool.texts new.texts (kept taken) (standard_text v) c.args.text of_text) of_canon (known-kept pool.texts new.texts (kept taken) kinds c.args.known.now c.requires.all),
      );
    }
