use Rattle.std.proofs.Common.{◌≡◌, ◌<◌, length, sym, ◌∙◌, arith}
use Rattle.std.proofs.lemmas.List.{get_or_read}
use Rattle.assignment_steps.specs.Words.{far}
use Rattle.capacity_assign.proofs.Growing.{copies_through}
use Rattle.capacity_assign.proofs.grow.has_twin.Goals as goal

pub returns : goal.returns
returns c same =
    let f = c.args.ground in
    let t = c.args.tree.now in
    let twin = c.index-twin.result.now in
    let rows : length f.like.now ≡ length f.field.price_a.now = c.requires.ready.alike.records in
    let there : twin < length f.field.price_a.now = omega (arith, c.if-twin-ground.false, rows) in
    let one = get_or_read t.reached.dist_a.items twin c.index.result.now (omega (arith, there, c.requires.room.of_a, t.reached.dist_a.ok.0)) c.index.ensures far in
    let other = get_or_read t.reached.dist_a.items c.args.position c.index-2.result.now (omega (arith, c.requires.inside, c.requires.room.of_a, t.reached.dist_a.ok.0)) c.index-2.ensures far in (
      twin,
      record {
        apart = c.if-twin-position.false;
        near = sym one ∙ c.if-index.false ∙ other;
        price = grind (arith, same);
        copies = copies_through f.field.edges.now (length f.field.price_a.now) c.args.position twin f.like.now c.requires.ready.alike c.requires.inside there c.if-ground-twin.false;
      },
    )
