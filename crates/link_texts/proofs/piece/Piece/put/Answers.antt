use Rattle.std.proofs.Common.{◌≡◌, ◌≤◌, ◌+◌, ◌-◌, ◌++◌, ◌∙◌, ℕ, List, ap, arith, length, length-take-le, sym, take}
use Rattle.std.proofs.lemmas.List.{take-take}
use Rattle.std.proofs.lemmas.Slice.{take-put_mid}
use Rattle.std.proofs.Math.Seq.{take-append-add}
use borrow.Rule.Slice.PartMut.{put_mid}
use Rattle.link_texts.proofs.piece.Piece.put.Goals as goal

-- of the bytes that are put into a room, those that are wanted
put_of : (room bytes put : List ℕ) (at len most : ℕ) → at + most ≤ length room → len ≤ most → most ≤ length bytes → put ≡ take most bytes
    → take (at + len) (put_mid at (at + most - at) room put) ≡ take at room ++ take len bytes
put_of room bytes put at len most fits few there is =
    let within : at ≤ length room = omega (arith, fits) in
    let end : at + most ≡ at + length put = omega (arith, ap length is, length-take-le most bytes there) in
    sym (take-take (at + len) (at + most) (put_mid at (at + most - at) room put) (omega (arith, few)))
    ∙ ap (take (at + len)) (take-put_mid at (at + most - at) room put (at + most) end within)
    ∙ ap (λ n. take (n + len) (take at room ++ put)) (sym (length-take-le at room within)) ∙ take-append-add (take at room) put len
    ∙ ap (λ bs. take at room ++ bs) (ap (take len) is ∙ take-take len most bytes few)

pub returns-clause-text : goal.returns-clause-text
returns-clause-text g c =
    put_of c.args.room.now c.self.inside.bytes.now c.copy_from_slice.new.self c.args.at c.self.inside.len g.row.MOST c.requires c.if-self.false c.if-self-2.false
    c.copy_from_slice.ensures.after
    ∙ ap (λ bs. take c.args.at c.args.room.now ++ bs) c.self.view_is
