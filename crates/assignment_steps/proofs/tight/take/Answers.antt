use Rattle.std.proofs.Common.{◌≡◌, ℕ, None, Some, set, ap, sym, ◌∙◌, length, ◌<◌, arith, get_or-set_same, is_some}
use Rattle.std.proofs.lemmas.Bool.{false≢true}
use Rattle.assignment_steps.specs.Words.{link, edge, IsTight, IsBetween, between_joined, none_before, not_linked}
use Rattle.assignment_steps.proofs.tight.take.Goals as goal

pub returns : goal.returns
returns c =
    let es = c.args.net.edges.now in
    let k = c.args.k in
    let la = c.args.link_a.now in
    let lb = c.args.link_b.now in
    let between = c.requires.between in
    let free_a : link la (edge es k).a ≡ None = not_linked (link la (edge es k).a) (sym c.has_link.ensures ∙ c.if-has_link.false) in
    let free_b : link lb (edge es k).b ≡ None = not_linked (link lb (edge es k).b) (sym c.has_link-2.ensures ∙ c.if-has_link-2.false) in
    let tight : IsTight es c.args.net.price_a.now c.args.net.price_b.now k = c.if-net-a.false in
    let ra : (edge es k).a < length la = omega (arith, between.priced.in_range.record_a k c.requires.place, between.priced.rows_a) in
    let rb : (edge es k).b < length lb = omega (arith, between.priced.in_range.record_b k c.requires.place, between.rows_b) in
    let joined : IsBetween es c.args.net.price_a.now c.args.net.price_b.now (set la (edge es k).a c.at.result) (set lb (edge es k).b c.at-2.result) 0 = rw (c.at.ensures, c.at-2.ensures) (between_joined es _ _ la lb k between c.requires.place free_a free_b tight) in
    let taken : link (set la (edge es k).a c.at.result) (edge es k).a ≡ Some k = rw c.at.ensures (get_or-set_same la (edge es k).a (Some k) None ra) in
    let free_before_a : (a : ℕ) → link (set la (edge es k).a c.at.result) a ≡ None → link la a ≡ None = rw c.at.ensures (λ a none. none_before la (edge es k).a a k ra none) in
    let free_before_b : (b : ℕ) → link (set lb (edge es k).b c.at-2.result) b ≡ None → link lb b ≡ None = rw c.at-2.ensures (λ b none. none_before lb (edge es k).b b k rb none) in
    record { between = joined; settled = λ _ none. absurd (let clash : Some k ≡ None = sym taken ∙ none in cc); kept_a = free_before_a; kept_b = free_before_b }

pub returns-then-has_link : goal.returns-then-has_link
returns-then-has_link c = record { between = c.requires.between; settled = λ _ none. absurd (false≢true (sym (ap is_some none) ∙ (sym c.has_link.ensures ∙ c.if-has_link.true))); kept_a = λ a none. none; kept_b = λ b none. none }

pub returns-then-has_link-2 : goal.returns-then-has_link-2
returns-then-has_link-2 c = record { between = c.requires.between; settled = λ _ _ none. false≢true (sym (ap is_some none) ∙ (sym c.has_link-2.ensures ∙ c.if-has_link-2.true)); kept_a = λ a none. none; kept_b = λ b none. none }

pub returns-then-net-a : goal.returns-then-net-a
returns-then-net-a c = record { between = c.requires.between; settled = λ tight. absurd (c.if-net-a.true tight); kept_a = λ a none. none; kept_b = λ b none. none }
