use Rattle.std.proofs.Common.{◌≡◌, ◌++◌, ◌∷◌, ◌∙◌, [], ap, arith, length, length-append, rules}
use Rattle.link_base.proofs.RegionFacts.{pushed}
use Rattle.link_base.proofs.region.TextRegion.push.Goals as goal

pub invariant_of-self-2 : goal.invariant_of-self-2
invariant_of-self-2 c =
    let bytes : c.extend_from_slice.new.self.items ≡ c.self.inside.bytes.items ++ c.args.text.now = search rules in
    let ends : c.push_reserved.new.self.items ≡ c.self.inside.ends.items ++ c.in_ok-end.end ∷ [] = search rules in
    let long : c.len.result ≡ length c.self.inside.bytes.items = search (rules, c.len.ensures) in
    let last : c.in_ok-end.end ≡ length c.extend_from_slice.new.self.items = omega (arith, c.in_ok-end.ensures, long, ap length bytes ∙ length-append c.self.inside.bytes.items c.args.text.now) in
    (pushed c.self.inside.bytes.items c.args.text.now c.self.inside.ends.items _ _ c.in_ok-end.end c.self.invariant bytes ends last).rising

pub returns-clause-ok : goal.returns-clause-ok
returns-clause-ok c =
    let bytes : c.extend_from_slice.new.self.items ≡ c.self.inside.bytes.items ++ c.args.text.now = search rules in
    let ends : c.push_reserved.new.self.items ≡ c.self.inside.ends.items ++ c.in_ok-end.end ∷ [] = search rules in
    let long : c.len.result ≡ length c.self.inside.bytes.items = search (rules, c.len.ensures) in
    let last : c.in_ok-end.end ≡ length c.extend_from_slice.new.self.items = omega (arith, c.in_ok-end.ensures, long, ap length bytes ∙ length-append c.self.inside.bytes.items c.args.text.now) in
    rw (← c.self.view_is) (pushed c.self.inside.bytes.items c.args.text.now c.self.inside.ends.items _ _ c.in_ok-end.end c.self.invariant bytes ends last).pieces
