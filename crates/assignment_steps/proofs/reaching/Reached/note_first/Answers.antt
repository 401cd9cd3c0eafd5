use Rattle.std.proofs.Common.{◌<◌, ◌≡◌, ◌∙◌, length, sym, arith}
use Rattle.std.proofs.lemmas.List.{get_or_read}
use Rattle.assignment_steps.specs.Words.{distance, far, unreached-set}
use Rattle.assignment_steps.proofs.reaching.Reached.note_first.Goals as goal

pub push_reserved-requires : goal.push_reserved-requires
push_reserved-requires c =
    let t = c.args.self.now in
    let lt : c.args.b < length t.dist_b.items = omega (arith, c.requires.within, t.dist_b.ok.0) in
    let new : distance t.dist_b.items c.args.b ≡ far = sym (get_or_read t.dist_b.items c.args.b c.index.result.now lt c.index.ensures far) ∙ c.if-index-ne-FARTHEST.false in
    omega (arith, unreached-set t.dist_b.items c.args.b 0 lt (omega arith) new, c.requires.room.touched, c.requires.room.touched_room)
