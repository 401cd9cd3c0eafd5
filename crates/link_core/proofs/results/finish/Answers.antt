use Rattle.std.proofs.Common.{◌≡◌, ◌∙◌, List, ap, length, refl, subst, sym}
use Rattle.link_base.specs.Words.{Record}
use Rattle.pair_decisions.specs.Words.{AreRowsIn}
use Rattle.link_core.specs.Rules.{rule_in}
use Rattle.link_core.specs.Results.{AreRunTexts, AreTextsBy, candidates_in, five_texts}
use Rattle.link_core.proofs.ResultLemmas.{length_alone, as_they_are, handed, if_ok, run_texts}
use Rattle.link_core.proofs.results.finish.Goals as goal

pub texts_by_ids-made-requires : goal.texts_by_ids-made-requires
texts_by_ids-made-requires c =
    let p = c.args.prepared in
    let d = c.args.decided in
    let ids = c.in_ok-ids.ids in
    let found = c.in_ok-found.found in
    let wanted = candidates_in c.args.plan.now p.files (rule_in p d) c.args.journal.now in
    let of_a : length ids.a ≡ length p.files.a.records = ap (λ (file : List Record). length file) c.in_ok-ids.ensures.a ∙ length_alone p.files.a.records in
    let of_b : length ids.b ≡ length p.files.b.records = ap (λ (file : List Record). length file) c.in_ok-ids.ensures.b ∙ length_alone p.files.b.records in
    record {
      ranges = c.requires.ranges;
      cells = c.requires.of_plan.cells;
      rows = subst (λ n. AreRowsIn n (length ids.b) (length d.rule.cells) d.rows) (sym of_a)
          (subst (λ n. AreRowsIn (length p.files.a.records) n (length d.rule.cells) d.rows) (sym of_b) c.requires.of_files.rows);
      found = as_they_are (length ids.a) (length ids.b) wanted found.items
          (handed (length p.files.a.records) (length p.files.b.records) (length ids.a) (length ids.b) wanted found.items found.items of_a of_b refl c.in_ok-found.ensures);
      bounded = c.begun_report-begun.ensures.bounded;
    }

pub returns : goal.returns
returns c =
    let plan = c.args.plan.now in
    let p = c.args.prepared in
    let d = c.args.decided in
    let entries = c.args.journal.now in
    let ids = c.in_ok-ids.ids in
    let found = c.in_ok-found.found in
    let begun = c.begun_report-begun.result in
    if_ok (λ r. AreTextsBy plan ids.a ids.b found.items d entries begun (five_texts r)) (λ r. AreRunTexts plan p.files (rule_in p d) entries (five_texts r)) c.texts_by_ids-made.result
    (λ r told. run_texts plan p d entries ids.a ids.b found.items begun (five_texts r) c.in_ok-ids.ensures.a c.in_ok-ids.ensures.b c.in_ok-found.ensures.same c.begun_report-begun.ensures.numbers c.requires.rows told)
    c.texts_by_ids-made.ensures
