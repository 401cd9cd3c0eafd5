use Rattle.std.proofs.Common.{◌≡◌, ◌<◌, ◌∙◌, Some, length, sym, rules}
use Rattle.assignment_steps.specs.Words.{edge, link}
use Rattle.assignment.proofs.round.relink.Goals as goal

pub bounds-edges-j : goal.bounds-edges-j
bounds-edges-j c =
    let linked : link c.args.link_a.now (edge c.args.edges.now c.args.k).a ≡ Some c.in-Some.j = sym c.link_of-old.ensures ∙ c.in-Some.is in
    (c.requires.matched.of_a (edge c.args.edges.now c.args.k).a c.in-Some.j linked).0

pub offset_bounds-edges-j : goal.offset_bounds-edges-j
offset_bounds-edges-j c =
    let linked : link c.args.link_a.now (edge c.args.edges.now c.args.k).a ≡ Some c.in-Some.j = sym c.link_of-old.ensures ∙ c.in-Some.is in
    let within : c.in-Some.j < length c.args.edges.now = (c.requires.matched.of_a (edge c.args.edges.now c.args.k).a c.in-Some.j linked).0 in
    search rules
