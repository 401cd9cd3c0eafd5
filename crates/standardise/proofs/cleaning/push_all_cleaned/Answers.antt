use Rattle.std.proofs.Common.{◌++◌, encode_utf8_all, take, append_assoc, ap, sym, ◌∙◌, flat_map, string_bytes}
use Rattle.standardise.specs.Cleaning.{cleaned_char}
use Rattle.standardise.proofs.WordLemmas.{cleaned_more}
use Rattle.standardise.proofs.cleaning.push_all_cleaned.Goals as goal

pub loop-c-preserved : goal.loop-c-preserved
loop-c-preserved c =
    let before = string_bytes c.args.out.now in
    let so_far = encode_utf8_all (flat_map cleaned_char (take c.loop-c.c-index c.args.cs.now)) in
    let here = encode_utf8_all (cleaned_char c.c-item.result) in
    c.in_ok-push_cleaned.ensures
    ∙ ap (λ bs. bs ++ here) c.loop-c.invariant
    ∙ append_assoc before so_far here
    ∙ ap (λ bs. before ++ bs) (sym (cleaned_more c.args.cs.now c.loop-c.c-index c.c-item.result c.loop-c-test.true c.c-item.is))
