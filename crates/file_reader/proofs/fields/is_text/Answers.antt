use Rattle.std.proofs.Common.{sym, inl, inr}
use Rattle.std.proofs.lemmas.Bool.{cases_Bool}
use Rattle.std.proofs.lemmas.Str.{is_utf8-from_IsUtf8, IsUtf8-from_ascii, IsUtf8-from_is_utf8}
use Rattle.std.specs.Str.{is_utf8}
use Rattle.file_reader.proofs.fields.is_text.Goals as goal

pub returns-then-is_plain : goal.returns-then-is_plain
returns-then-is_plain c = sym (is_utf8-from_IsUtf8 c.args.field.now (IsUtf8-from_ascii c.args.field.now (c.is_plain.ensures.0 c.if-is_plain.true)))

pub returns-in-Ok : goal.returns-in-Ok
returns-in-Ok c = sym (is_utf8-from_IsUtf8 c.args.field.now c.in-Ok.ensures.cases.1)

pub returns-in-Err : goal.returns-in-Err
returns-in-Err c =
    elim (cases_Bool (is_utf8 c.args.field.now)) [
      | inl is_text ↦ absurd (c.in-Err.ensures.cases.0 (IsUtf8-from_is_utf8 c.args.field.now is_text))
      | inr none ↦ sym none
    ]
