use Rattle.std.proofs.Common.{◌≡◌, ◌∙◌, ◌∷◌, [], arith, length, sum, filter}
use Rattle.link_limits.specs.declared.TheConstants.{MOST_ROWS}
use Rattle.patterns.specs.Patterns.{rare_of}
use Rattle.sample_counts.specs.Counts.{has_status}
use Rattle.sample_counts.proofs.Lemmas.{filter-le, some-of, total-of}
use Rattle.sample_counts.specs.CountLaws.{none-rare}
use Rattle.sample_counts.proofs.counts.Counts.of.Goals as goal

total : (c : goal.After-tally_of-counts) → sum (c.tally_of-counts.result.agree ∷ c.tally_of-counts.result.disagree ∷ c.tally_of-counts.result.missing ∷ c.tally_of-counts.result.rare ∷ []) ≡ length (filter (has_status c.args.matched) c.self.inside.rows.items)
total c =
    total-of (rare_of c.self.inside.shape) c.args.field c.args.matched c.self.inside.rows.items _ _ _ _ (rw c.deref.ensures.value at c.tally_of-counts.ensures)

pub returns-clause-counts : goal.returns-clause-counts
returns-clause-counts c = rw (← c.self.view_is) (rw c.deref.ensures.value at c.tally_of-counts.ensures)

pub returns-clause-some : goal.returns-clause-some
returns-clause-some c = omega (arith, total c, some-of (rare_of c.self.inside.shape) c.self.inside.rows.items c.args.matched c.self.invariant)

pub returns-clause-few : goal.returns-clause-few
returns-clause-few c = omega (arith, total c, filter-le (has_status c.args.matched) c.self.inside.rows.items MOST_ROWS c.self.invariant.few)

pub returns-clause-rare : goal.returns-clause-rare
returns-clause-rare c =
    let told = rw c.deref.ensures.value at c.tally_of-counts.ensures in
    let within = rw (← c.self.view_is) at c.requires in
    rw (← c.self.view_is) (λ e. told 3 (omega arith) ∙ none-rare (rare_of c.self.inside.shape) c.args.field c.args.matched c.self.inside.rows.items c.self.invariant.in_shape within e)
