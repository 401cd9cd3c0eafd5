use Rattle.std.proofs.Common.{◌≡◌, ℕ, None, Some, set, ap, sym, ◌∙◌, get_or-set_same, is_some}
use Rattle.std.proofs.lemmas.Bool.{false≢true}
use Rattle.assignment_steps.specs.Words.{link, edge, IsMatched, matched_joined, none_before, not_linked}
use Rattle.assignment_steps.proofs.other_links.join.Goals as goal

pub returns : goal.returns
returns c =
    let es = c.args.edges.now in
    let k = c.args.k in
    let la = c.args.link_a.now in
    let lb = c.args.link_b.now in
    let ra = c.requires.in_range.record_a k c.requires.place in
    let rb = c.requires.in_range.record_b k c.requires.place in
    let free_a : link la (edge es k).a ≡ None = not_linked (link la (edge es k).a) (sym c.has_link.ensures ∙ c.if-has_link.false) in
    let free_b : link lb (edge es k).b ≡ None = not_linked (link lb (edge es k).b) (sym c.has_link-2.ensures ∙ c.if-has_link-2.false) in
    let matched : IsMatched es (set la (edge es k).a c.at.result) (set lb (edge es k).b c.at-2.result) = rw (c.at.ensures, c.at-2.ensures) (matched_joined es la lb k c.requires.matched c.requires.place ra rb free_a free_b) in
    let free_before_a : (a : ℕ) → link (set la (edge es k).a c.at.result) a ≡ None → link la a ≡ None = rw c.at.ensures (λ a none. none_before la (edge es k).a a k ra none) in
    let free_before_b : (b : ℕ) → link (set lb (edge es k).b c.at-2.result) b ≡ None → link lb b ≡ None = rw c.at-2.ensures (λ b none. none_before lb (edge es k).b b k rb none) in
    let taken : link (set la (edge es k).a c.at.result) (edge es k).a ≡ Some k = rw c.at.ensures (get_or-set_same la (edge es k).a (Some k) None ra) in
    record {
      keeps = record { matched = matched; kept_a = free_before_a; kept_b = free_before_b };
      joined = λ none _. (let clash : Some k ≡ None = sym taken ∙ none in cc);
    }

pub returns-then-has_link-clause-joined : goal.returns-then-has_link-clause-joined
returns-then-has_link-clause-joined c none = absurd (false≢true (sym (ap is_some none) ∙ (sym c.has_link.ensures ∙ c.if-has_link.true)))

pub returns-then-has_link-2-clause-joined : goal.returns-then-has_link-2-clause-joined
returns-then-has_link-2-clause-joined c _ none = false≢true (sym (ap is_some none) ∙ (sym c.has_link-2.ensures ∙ c.if-has_link-2.true))
