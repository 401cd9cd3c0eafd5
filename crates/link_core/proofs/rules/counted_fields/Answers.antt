use Rattle.std.proofs.Common.{◌≡◌, ◌∙◌, ℕ, Result, ap, List, subst, sym, length}
use Rattle.comparators.specs.declared.ids.IdValue.{IdValue}
use Rattle.standard_files.specs.Ready.{AreFileSides}
use Rattle.link_core.proofs.ResultLemmas.{sides_of_plan, patterns_are}
use Rattle.link_base.specs.Words.{Gives, Record}
use Rattle.link_base.specs.declared.fault.Fault.{Fault}
use Rattle.link_base.specs.declared.rule.PairAt.{PairAt}
use Rattle.link_plan.specs.Plan.{FieldKeys, PlainShares}
use Rattle.link_core.specs.Prepared.{kinds_of}
use Rattle.pair_decisions.specs.Words.{counted_in}
use Rattle.link_core.proofs.rules.counted_fields.Goals as goal

pub counted_shares-requires-clause-sides_a : goal.counted_shares-requires-clause-sides_a
counted_shares-requires-clause-sides_a c =
    let p = c.args.prepared.now in
    let Q : List (List IdValue) → Type 0 = λ rows. AreFileSides p.values.texts (kinds_of c.args.plan.now) p.files.a.records rows in
    let sides : Q c.sides.result.now.rows = subst Q (sym (ap (λ t. t.rows) c.sides.ensures)) c.requires.files.pooled.a.sides in
    sides_of_plan p.values.texts c.len-texts.result c.args.plan.now.fields p.files.a.records c.sides.result.now.rows (c.len-texts.ensures ∙ ap length c.pool-2.ensures.texts) sides

pub counted_shares-requires-clause-sides_b : goal.counted_shares-requires-clause-sides_b
counted_shares-requires-clause-sides_b c =
    let p = c.args.prepared.now in
    let Q : List (List IdValue) → Type 0 = λ rows. AreFileSides p.values.texts (kinds_of c.args.plan.now) p.files.b.records rows in
    let sides : Q c.sides-2.result.now.rows = subst Q (sym (ap (λ t. t.rows) c.sides-2.ensures)) c.requires.files.pooled.b.sides in
    sides_of_plan p.values.texts c.len-texts.result c.args.plan.now.fields p.files.b.records c.sides-2.result.now.rows (c.len-texts.ensures ∙ ap length c.pool-2.ensures.texts) sides

-- the shares by the patterns of ids are those by the patterns of records
by_records : {X : Type 0} (view : X → List PlainShares) (fields : List FieldKeys) (f g : PairAt → ℕ) (a b c d : List Record) (bytes : List ℕ) (r : Result X Fault) → f ≡ g → c ≡ a → d ≡ b
    → Gives view (counted_in fields f c d bytes) r → Gives view (counted_in fields g a b bytes) r
by_records view fields f g a b c d bytes r same of_a of_b h =
    subst (λ (e : Result (List PlainShares) Fault). Gives view e r) (λ i. counted_in fields (same i) (of_a i) (of_b i) bytes) h

pub returns-clause-answer : goal.returns-clause-answer
returns-clause-answer c =
    let plan = c.args.plan.now in
    let p = c.args.prepared.now in
    let rows_a = c.sides.result.now.rows in
    let rows_b = c.sides-2.result.now.rows in
    let patterns =
    patterns_are plan p c.pool.result.now.texts c.len-texts.result rows_a rows_b c.requires.ranges c.requires.files c.same_patterns.ensures
    c.pool.ensures.texts (c.len-texts.ensures ∙ ap length c.pool-2.ensures.texts) (ap (λ t. t.rows) c.sides.ensures) (ap (λ t. t.rows) c.sides-2.ensures) in
    by_records _ plan.fields _ _ p.files.a.records p.files.b.records c.a.result.now c.b.result.now c.args.sample.now c.counted_shares.result patterns c.a.ensures c.b.ensures c.counted_shares.ensures.answer
