use Rattle.std.proofs.Common.{◌≡◌, ◌<◌, ◌+◌, ◌++◌, ◌∷◌, ◌∙◌, [], ap, arith, length, slice_set, take}
use Rattle.std.proofs.lemmas.List.{take_more_set}
use Rattle.std.proofs.lemmas.Option.{IfSome_then}
use Rattle.link_report.proofs.lines.put_line.Goals as goal

pub returns-clause-line : goal.returns-clause-line
returns-clause-line c =
    let first = c.in_ok-comma.ensures in
    let room : c.in_ok-comma.comma < length c.put.new.room = omega (arith, first.within, first.room, c.told-room) in
    let comma : take (c.in_ok-comma.comma + 1) (slice_set c.put.new.room c.in_ok-comma.comma 44) ≡ c.args.first.now ++ 44 ∷ [] =
    take_more_set c.put.new.room c.in_ok-comma.comma 44 room ∙ ap (λ bytes. bytes ++ 44 ∷ []) first.text in
    let two = c.in_ok-behind.ensures.text ∙ ap (λ bytes. bytes ++ c.args.second.now) comma in
    IfSome_then c.put-3.result c.put-3.ensures.text (λ end put. put ∙ ap (λ bytes. bytes ++ c.args.end.now) two)
