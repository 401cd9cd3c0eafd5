use Rattle.std.proofs.Common.{◌≡◌, List, ℕ, arith, subst, sym, ◌∙◌, flat_map, option_to_list, IsUtf8, string_bytes}
use Rattle.std.proofs.lemmas.Grind.{common_steps}
use Rattle.std.proofs.lemmas.Str.{IsUtf8-from_ascii, IsUtf8-string_bytes}
use Rattle.standardise.specs.Cleaning.{ascii_cleaned}
use Rattle.standardise.proofs.WordLemmas.{ascii_stays, ascii_text}
use Rattle.standardise.proofs.cleaning.clean.Goals as goal

pub returns-in-Some-clause-text : goal.returns-in-Some-clause-text
returns-in-Some-clause-text c =
    let bytes = c.as_bytes.result.now in
    let plain = rw c.in-Some.is at c.in_ok-is_word.ensures.ascii in
    let is = rw c.in-Some.is at c.in_ok-is_word.ensures.text in
    rw (← c.as_bytes.ensures.value) (is ∙ ascii_text bytes plain)

pub returns-in-Some-clause-utf8 : goal.returns-in-Some-clause-utf8
returns-in-Some-clause-utf8 c =
    let bytes = c.as_bytes.result.now in
    let plain = rw c.in-Some.is at c.in_ok-is_word.ensures.ascii in
    let is = rw c.in-Some.is at c.in_ok-is_word.ensures.text in
    subst (λ (v : List ℕ). IsUtf8 v) (sym is) (IsUtf8-from_ascii (flat_map (λ b. option_to_list (ascii_cleaned b)) bytes) (ascii_stays bytes plain))

pub returns-clause-utf8 : goal.returns-clause-utf8
returns-clause-utf8 c =
    let bytes : c.extend_from_slice.new.self.items ≡ string_bytes c.in_ok-cleaned.cleaned = grind (arith, common_steps) in
    subst (λ (v : List ℕ). IsUtf8 v) (sym bytes) (IsUtf8-string_bytes c.in_ok-cleaned.cleaned)
