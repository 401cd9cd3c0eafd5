use Rattle.std.proofs.Common.{◌≡◌, ◌<◌, ◌++◌, ◌∷◌, [], Bool, ap, sym, ◌∙◌, filter, get_or, length, map, take}
use Rattle.std.proofs.lemmas.List.{map_push}
use Rattle.std.proofs.lemmas.List.Elements.{All-push}
use Rattle.link_base.specs.declared.rule.PairAt.{PairAt}
use Rattle.link_report.specs.declared.open.PairRow.{PairRow}
use Rattle.link_core.specs.Rules.{decisions_of}
use Rattle.link_core.specs.Review.{is_open, open_row_of}
use Rattle.review_journal.specs.Verdict.{verdict_on}
use Rattle.link_core.proofs.StepLemmas.{kept_more, left_more}
use Rattle.link_core.proofs.review.open_rows.Goals as goal
use Rattle.link_core.proofs.review.open_rows.Goals.{then-awaits+in_ok-push, else-awaits}

abbrev no_pair : PairAt
no_pair = record { a = 0; b = 0 }

pub loop-at-preserved : goal.loop-at-preserved
loop-at-preserved c =
    let xs = c.possible-at-items.result.now in
    let i = c.loop-at.at-index in
    let x = get_or xs i no_pair in
    let before = c.loop-at.invariant in
    let t : PairAt → Bool = λ at. is_open (verdict_on c.args.journal.now at.a at.b) in
    let f : PairAt → PairRow = open_row_of (decisions_of c.args.prepared.now c.args.decided.now) c.args.journal.now in
    let in_a : PairRow → Type 0 = λ r. r.at.a < length c.args.prepared.now.files.a.records in
    let in_b : PairRow → Type 0 = λ r. r.at.b < length c.args.prepared.now.files.b.records in
    let told : t x ≡ c.awaits.result = sym (ap is_open c.verdict.ensures) ∙ sym c.awaits.ensures in
    elim c.if-awaits.branch [
      | then-awaits+in_ok-push w ↦
          (let more = kept_more t xs i no_pair c.loop-at-test.true (told ∙ w.if-awaits.true) in
          let row : w.row_of.result ≡ f x = w.row_of.ensures in
          let inside = (rw (← c.possible-at-items.ensures) at c.requires.decided.possible) i no_pair c.loop-at-test.true in
          rw w.rows-is (
            w.in_ok-push.ensures.items ∙ (ap (λ r. c.loop-at.rows.items ++ r ∷ []) row ∙ (ap (λ ys. ys ++ f x ∷ []) before.0 ∙ (sym (map_push f (filter t (take i xs)) x) ∙ ap (map f) (sym more)))),
            rw w.in_ok-push.ensures.items (All-push in_a c.loop-at.rows.items w.row_of.result before.1 (rw row inside.0)),
            rw w.in_ok-push.ensures.items (All-push in_b c.loop-at.rows.items w.row_of.result before.2 (rw row inside.1)),
          ))
      | else-awaits w ↦
          rw w.rows-is (before.0 ∙ ap (map f) (sym (left_more t xs i no_pair c.loop-at-test.true (told ∙ w.if-awaits.false))), before.1, before.2)
    ]
