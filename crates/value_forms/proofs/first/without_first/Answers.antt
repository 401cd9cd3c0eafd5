use Rattle.std.proofs.Common.{◌≡◌, ◌++◌, chars, ap, sym, ◌∙◌, arith}
use Rattle.std.proofs.lemmas.Str.{encodes-chars}
use Rattle.value_forms.specs.Initials.{first_characters, later_characters}
use Rattle.value_forms.proofs.TextLemmas.{first_and_later, one_later}
use Rattle.value_forms.proofs.first.without_first.Goals as goal

pub loop-init : goal.loop-init
loop-init c = c.chars-chars.ensures.rest ∙ sym (encodes-chars c.args.text.now c.utf8.text)

pub loop-preserved : goal.loop-preserved
loop-preserved c = one_later (chars c.args.text.now) c.loop.counter c.next-first.result c.loop.chars c.next-first.new.self c.loop.invariant c.next-first.ensures.steps

pub returns-clause-whole : goal.returns-clause-whole
returns-clause-whole c =
    let all : c.loop.counter ≡ c.args.n = omega arith in
    let later : c.as_str.result.now ≡ later_characters c.args.n c.args.text.now = c.as_str.ensures ∙ c.loop.invariant ∙ ap (λ n. later_characters n c.args.text.now) all in
    first_and_later c.args.text.now c.args.n c.utf8.text ∙ ap (λ rest. first_characters c.args.n c.args.text.now ++ rest) (sym later)
