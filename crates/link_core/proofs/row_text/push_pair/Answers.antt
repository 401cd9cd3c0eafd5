use Rattle.std.proofs.Common.{◌≡◌, ◌≤◌, ◌<◌, ◌+◌, ◌-◌, ◌^◌, ◌++◌, ◌∷◌, ◌∙◌, ℕ, List, ap, append_assoc, arith, decimal, drop, length, length-append, length-drop, replicate, rules, slice_set, sym, take}
use Rattle.std.proofs.lemmas.Fmt.{length-decimal-le}
use Rattle.std.proofs.lemmas.List.{drop_more, drop-set-lt, get_or-set_same, length-set, take-take}
use Rattle.std.proofs.Math.Seq.{take-append-add, take-append_seam}
use Rattle.link_core.specs.Pairs.{pair_line}
use Rattle.link_core.proofs.row_text.push_pair.Goals as goal

-- the number of a row has at most ten digits
few_digits : (row : ℕ) → row < 2 ^ 32 → length (decimal (row + 1)) ≤ 10
few_digits row small = length-decimal-le 10 (row + 1) (omega arith) (omega (arith, small)) (omega (arith, small))

-- a byte before the rest
byte_before : (bytes : List ℕ) (at byte : ℕ) → at < length bytes → drop at (slice_set bytes at byte) ≡ byte ∷ drop (at + 1) bytes
byte_before bytes at byte lt =
    drop_more (slice_set bytes at byte) at byte (omega (arith, lt, length-set bytes at byte))
    ∙ (λ i. get_or-set_same bytes at byte byte lt i ∷ drop-set-lt (at + 1) bytes at byte (omega arith) i)

pub write_digits-comma-requires : goal.write_digits-comma-requires
write_digits-comma-requires c =
    let small : c.from.result < 2 ^ 32 = search rules in
    (omega (arith, few_digits c.from.result small), omega arith)

pub overflow_sub-comma : goal.overflow_sub-comma
overflow_sub-comma c =
    let small : c.from.result < 2 ^ 32 = search rules in
    omega (arith, few_digits c.from.result small, c.write_digits-comma.ensures.start)

pub write_digits-start-requires : goal.write_digits-start-requires
write_digits-start-requires c =
    let small_a : c.from-2.result < 2 ^ 32 = search rules in
    let small_b : c.from.result < 2 ^ 32 = search rules in
    let written = c.write_digits-comma in
    let size : length written.new.buf ≡ 44 = search rules in (
      omega (arith, few_digits c.from-2.result small_a, few_digits c.from.result small_b, written.ensures.start),
      omega (arith, written.ensures.start, size, length-set written.new.buf (written.result - 1) 44),
    )

-- of a line that is copied with what stands behind it, the line
line_alone : (text line more copied : List ℕ) (len start : ℕ) → len ≡ length text → copied ≡ text ++ take 22 (line ++ more) → length line ≡ 22 - start
    → take (len + (22 - start)) copied ≡ text ++ line
line_alone text line more copied len start long is size =
    (λ i. take (long i + (22 - start)) (is i)) ∙ take-append-add text (take 22 (line ++ more)) (22 - start)
    ∙ ap (λ bytes. text ++ bytes) (take-take (22 - start) 22 (line ++ more) (omega arith) ∙ ap (λ n. take n (line ++ more)) (sym size) ∙ take-append_seam line more)

pub returns : goal.returns
returns c =
    let small_a : c.from-2.result < 2 ^ 32 = search rules in
    let small_b : c.from.result < 2 ^ 32 = search rules in
    let b = c.write_digits-comma in
    let a = c.write_digits-start in
    let size : length b.new.buf ≡ 44 = search rules in
    let within : b.result - 1 < length b.new.buf = omega (arith, few_digits c.from.result small_b, b.ensures.start, size) in
    let next : b.result - 1 + 1 ≡ b.result = omega (arith, few_digits c.from.result small_b, b.ensures.start) in
    let more : List ℕ = replicate 22 10 in
    let behind : drop (b.result - 1) (slice_set b.new.buf (b.result - 1) 44) ≡ 44 ∷ (decimal (c.args.pair.b + 1) ++ 10 ∷ more) =
    byte_before b.new.buf (b.result - 1) 44 within
    ∙ ap (λ n. 44 ∷ drop n b.new.buf) next ∙ ap (λ rest. 44 ∷ rest) b.ensures.written
    ∙ ap (λ row. 44 ∷ (decimal (row + 1) ++ 10 ∷ more)) c.from.ensures in
    let written : drop a.result a.new.buf ≡ decimal (c.args.pair.a + 1) ++ 44 ∷ (decimal (c.args.pair.b + 1) ++ 10 ∷ more) =
    a.ensures.written ∙ (λ i. decimal (c.from-2.ensures i + 1) ++ behind i) in
    let is : decimal (c.args.pair.a + 1) ++ 44 ∷ (decimal (c.args.pair.b + 1) ++ 10 ∷ more) ≡ pair_line c.args.pair ++ more = simp append_assoc in
    let all = written ∙ is in
    let start : a.result ≤ 22 = omega (arith, a.ensures.start) in
    let whole : length a.new.buf ≡ 44 = search rules in
    let long : length (pair_line c.args.pair) ≡ 22 - a.result =
    omega (arith, ap length all, length-append (pair_line c.args.pair) more, length-drop a.result a.new.buf, whole, start) in
    let width : a.result + 22 - a.result ≡ 22 = omega arith in
    let copied = c.in_ok-extend_from_slice.ensures.items ∙ ap (λ bytes. c.args.text.now.items ++ bytes) ((λ i. take (width i) (all i))) in
    c.truncate.ensures.items ∙ line_alone c.args.text.now.items (pair_line c.args.pair) more c.extend_from_slice.new.self.items c.len.result a.result (search (rules, c.len.ensures)) copied long
