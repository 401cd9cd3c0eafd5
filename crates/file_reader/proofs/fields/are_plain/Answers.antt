use Rattle.std.proofs.Common.{◌≡◌, ◌<◌, ◌/◌, ◌*◌, ◌∙◌, [], ap, arith, drop, length, get_or, sym, take}
use Rattle.std.proofs.lemmas.List.{take-append-drop}
use Rattle.std.proofs.lemmas.Str.{IsAscii-append, IsAscii-drop}
use Rattle.std.specs.Int.{from_le_bytes, w64}
use Rattle.std.specs.Int.Bits.{bit_and}
use Rattle.file_reader.proofs.ReadFacts.{word_of_plain, words_more}
use Rattle.file_reader.proofs.fields.are_plain.Goals as goal

pub loop-word-preserved : goal.loop-word-preserved
loop-word-preserved c =
    let none =
    ap (λ words. bit_and (from_le_bytes w64 (get_or words c.loop-word.word-index [])) 0x8080_8080_8080_8080) (sym c.as_chunks.ensures.front)
    ∙ ap (λ word. bit_and word 0x8080_8080_8080_8080) (sym c.from_le_bytes.ensures) ∙ c.if-from_le_bytes-ne0.false in
    words_more (length c.args.bytes.now / 8) c.loop-word.word-index c.args.bytes.now (omega (arith, c.loop-word-test.true, c.as_chunks.ensures.front_len)) (λ k. (c.type_inv.bytes k).fits) none c.loop-word.invariant

pub returns-then-from_le_bytes-ne0 : goal.returns-then-from_le_bytes-ne0
returns-then-from_le_bytes-ne0 c =
    let within : c.loop-word.word-index < length c.args.bytes.now / 8 = omega (arith, c.loop-word-test.true, c.as_chunks.ensures.front_len) in
    let is =
    ap (λ word. bit_and word 0x8080_8080_8080_8080) c.from_le_bytes.ensures
    ∙ ap (λ words. bit_and (from_le_bytes w64 (get_or words c.loop-word.word-index [])) 0x8080_8080_8080_8080) c.as_chunks.ensures.front in
    (λ told. absurd (cc), λ plain. absurd (c.if-from_le_bytes-ne0.true (is ∙ word_of_plain (length c.args.bytes.now / 8) c.loop-word.word-index c.args.bytes.now within plain)))

pub returns : goal.returns
returns c =
    let last : c.loop-word.word-index ≡ length c.args.bytes.now / 8 = omega (arith, c.loop-word-test.false, c.loop-word.auto.word-index-end, c.as_chunks.ensures.front_len) in
    let at = length c.args.bytes.now / 8 * 8 in (
      λ told. rw (← take-append-drop at c.args.bytes.now) (IsAscii-append (take at c.args.bytes.now) (drop at c.args.bytes.now) (rw last at c.loop-word.invariant) (rw c.as_chunks.ensures.back at (c.is_plain.ensures.0 told))),
      λ plain. c.is_plain.ensures.1 (rw c.as_chunks.ensures.back (IsAscii-drop c.args.bytes.now at plain)),
    )
