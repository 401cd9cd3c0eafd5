use Rattle.std.proofs.Common.{◌≡◌, ◌<◌, ◌+◌, ◌-◌, ◌*◌, sym, ap, ◌∙◌, [], get_or, arith}
use Rattle.std.proofs.lemmas.List.FromFn.{get_or-map-range_with_len, length-map-range_with_len}
use Rattle.block_passes.proofs.pass_ids.PassIds.row.Goals as goal

pub overflow_mul-start : goal.overflow_mul-start
overflow_mul-start c =
    let within : c.args.at < c.self.inside.rows = rw (← c.self.view_is, length-map-range_with_len _ 0 c.self.inside.rows) at c.requires in
    let fits = c.self.invariant c.args.at within in
    omega (arith, c.self.told)

pub overflow_add-start : goal.overflow_add-start
overflow_add-start c =
    let within : c.args.at < c.self.inside.rows = rw (← c.self.view_is, length-map-range_with_len _ 0 c.self.inside.rows) at c.requires in
    let fits = c.self.invariant c.args.at within in
    omega (arith, c.self.told)

pub overflow_add-result : goal.overflow_add-result
overflow_add-result c =
    let within : c.args.at < c.self.inside.rows = rw (← c.self.view_is, length-map-range_with_len _ 0 c.self.inside.rows) at c.requires in
    let fits = c.self.invariant c.args.at within in
    omega (arith, c.self.told)

pub offset_bounds-self-inside-start : goal.offset_bounds-self-inside-start
offset_bounds-self-inside-start c =
    let within : c.args.at < c.self.inside.rows = rw (← c.self.view_is, length-map-range_with_len _ 0 c.self.inside.rows) at c.requires in
    let fits = c.self.invariant c.args.at within in
    omega (arith, c.self.told)

pub slice_bounds-result-end : goal.slice_bounds-result-end
slice_bounds-result-end c =
    let within : c.args.at < c.self.inside.rows = rw (← c.self.view_is, length-map-range_with_len _ 0 c.self.inside.rows) at c.requires in
    let fits = c.self.invariant c.args.at within in
    omega (arith, c.self.told)

pub returns : goal.returns
returns c =
    let within : c.args.at < c.self.inside.rows = rw (← c.self.view_is, length-map-range_with_len _ 0 c.self.inside.rows) at c.requires in
    let p = c.self.inside in
    let many : c.args.at * p.width + p.start + p.parts - (c.args.at * p.width + p.start) ≡ p.parts = omega arith in
    rw many (sym (get_or-map-range_with_len _ 0 p.rows c.args.at c.args.at [] within (omega arith)) ∙ ap (λ rows. get_or rows c.args.at []) c.self.view_is)
