use Rattle.std.proofs.Common.{◌≡◌, [], Result, Ok, Err, IfOk}
use Rattle.link_base.specs.declared.tables.Tables.{Tables}
use Rattle.link_base.specs.Words.{missing_marks, name_suffixes, name_titles}
use Rattle.settings.specs.Settings.{standard_tables}
use Rattle.settings.proofs.top.standard_tables.Goals as goal

as_standard : {E : Type 0} (r : Result Tables E) → IfOk r (λ (t : Tables). t.missing ≡ missing_marks) → IfOk r (λ (t : Tables). t.titles ≡ name_titles) → IfOk r (λ (t : Tables). t.suffixes ≡ name_suffixes)
    → IfOk r (λ (t : Tables). t.names ≡ []) → IfOk r (λ (t : Tables). t.places ≡ []) → IfOk r (λ (t : Tables). t ≡ standard_tables)
as_standard (Ok t) missing titles suffixes names places = λ i. record { missing = missing i; titles = titles i; suffixes = suffixes i; names = names i; places = places i }
as_standard (Err e) missing titles suffixes names places = tt

pub returns : goal.returns
returns c = as_standard c.standard.result c.standard.ensures.missing c.standard.ensures.titles c.standard.ensures.suffixes c.standard.ensures.names c.standard.ensures.places
