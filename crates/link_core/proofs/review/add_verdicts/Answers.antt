use Rattle.std.proofs.Common.{◌≡◌, ◌∙◌, All, List, Result, Ok, ap, sym, subst, length, w32, ℤ, to_z, of_z, AllPairs, FitsSigned, rules}
use Rattle.std.proofs.lemmas.Int.{to_z-of_z}
use Rattle.link_base.specs.Words.{refuses_then, Refuses, IsPairBefore, Record}
use Rattle.link_base.specs.declared.fault.Fault.{Fault}
use Rattle.review_journal.specs.declared.entry.Entry.{Entry}
use Rattle.link_base.specs.declared.rule.PairAt.{PairAt}
use Rattle.review_journal.specs.Batch.{added, NamesRecords, verdicts_of}
use Rattle.link_core.specs.Review.{journal_lines_of}
use Rattle.link_core.proofs.ResultLemmas.{added_within, answer_next, refuses_next}
use Rattle.link_core.proofs.review.add_verdicts.Goals as goal

-- a batch of the records that are seen
of_records : {T : Type 0} (f : List Record → List Record → T) (a b c d : List Record) (r : T) → c ≡ a → d ≡ b → f c d ≡ r → f a b ≡ r
of_records f a b c d r of_a of_b h = sym (ap (λ x. f x d) of_a ∙ ap (λ y. f a y) of_b) ∙ h

-- the batch as it is added: with the day and the possible links that are handed in
as_handed : {T : Type 0} (f : ℤ → List PairAt → T) (P : T → Type 0) (date date2 : ℤ) (possible possible2 : List PairAt) → date2 ≡ date → possible2 ≡ possible → P (f date2 possible2) → P (f date possible)
as_handed f P date date2 possible possible2 of_date of_pairs h = subst (λ ps. P (f date ps)) of_pairs (subst (λ z. P (f z possible2)) of_date h)

pub journal_lines-requires : goal.journal_lines-requires
journal_lines-requires c =
    let p = c.args.prepared.now in
    let n = length p.files.a.records in let m = length p.files.b.records in
    let P : List Record → List Record → Type 0 = λ a b. All (NamesRecords (length a) (length b)) c.in-Ok.batch in
    let in_a : P p.files.a.records c.b.result.now = subst (λ a. P a c.b.result.now) c.a.ensures c.in-Ok.ensures.placed in
    let placed : P p.files.a.records p.files.b.records = subst (λ b. P p.files.a.records b) c.b.ensures in_a in
    record {
      of_files =
          added_within c.args.double (to_z w32 (of_z w32 c.args.date)) c.args.reviewer.now c.possible.result.now n m c.args.journal.now c.add.new.self c.in-Ok.batch
          c.in-Ok-add.ensures.answer c.requires.of_files placed;
    }

pub returns-in-Ok-add : goal.returns-in-Ok-add
returns-in-Ok-add c =
    let p = c.args.prepared.now in
    let read = of_records (λ a b. verdicts_of a b c.args.verdicts.now) p.files.a.records p.files.b.records c.a.result.now c.b.result.now (Ok c.in-Ok.batch) c.a.ensures c.b.ensures c.in-Ok.ensures.answer in
    let all : ℤ → List PairAt → Result (List Entry) Fault = λ date possible. added c.args.double date c.args.reviewer.now possible c.args.journal.now c.in-Ok.batch in
    let fits : FitsSigned w32 c.args.date = search rules in
    let new = as_handed all (λ r. r ≡ Ok c.add.new.self) c.args.date _ c.args.decided.now.possible c.possible.result.now (to_z-of_z w32 c.args.date fits) c.possible.ensures c.in-Ok-add.ensures.answer in
    record {
      answer = answer_next (verdicts_of p.files.a.records p.files.b.records c.args.verdicts.now) _ c.in-Ok.batch c.journal_lines.result read
          (answer_next (all c.args.date c.args.decided.now.possible) (λ es. journal_lines_of p.files es) c.add.new.self c.journal_lines.result new c.journal_lines.ensures.answer);
    }

pub returns : goal.returns
returns c =
    let p = c.args.prepared.now in
    let f = c.in-Err-add.fault in
    let read = of_records (λ a b. verdicts_of a b c.args.verdicts.now) p.files.a.records p.files.b.records c.a.result.now c.b.result.now (Ok c.in-Ok.batch) c.a.ensures c.b.ensures c.in-Ok.ensures.answer in
    let all : ℤ → List PairAt → Result (List Entry) Fault = λ date possible. added c.args.double date c.args.reviewer.now possible c.args.journal.now c.in-Ok.batch in
    let fits : FitsSigned w32 c.args.date = search rules in
    let refused = as_handed all (λ r. Refuses r f) c.args.date _ c.args.decided.now.possible c.possible.result.now (to_z-of_z w32 c.args.date fits) c.possible.ensures c.in-Err-add.ensures.answer.0 in
    record {
      answer = refuses_next (verdicts_of p.files.a.records p.files.b.records c.args.verdicts.now) _ c.in-Ok.batch f read
          (refuses_then (all c.args.date c.args.decided.now.possible) (λ es. journal_lines_of p.files es) f refused);
    }

pub add-requires-clause-rising : goal.add-requires-clause-rising
add-requires-clause-rising c = subst (λ (ps : List PairAt). AllPairs IsPairBefore ps) (sym c.possible.ensures) c.requires.decided.rising
