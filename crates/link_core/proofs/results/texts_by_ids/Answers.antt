use Rattle.std.proofs.Common.{◌≡◌, ◌<◌, ◌∙◌, length, refl, subst, All}
use Rattle.candidate_links.specs.Candidates.{IsChoice}
use Rattle.link_report.specs.LinksText.{text_of_links, text_of_prices}
use Rattle.link_report.specs.PairsText.{text_of_pairs}
use Rattle.link_report.specs.ReportText.{text_of_report}
use Rattle.link_report.specs.declared.report.Dropped.{Dropped}
use Rattle.pair_decisions.specs.Words.{rares_of, shown_rows}
use Rattle.link_core.specs.Results.{with_links}
use Rattle.link_core.proofs.ResultLemmas.{handed}
use Rattle.link_core.proofs.results.texts_by_ids.Goals as goal

pub decided_texts-requires : goal.decided_texts-requires
decided_texts-requires c = record {
  ranges = c.requires.ranges;
  cells = c.requires.cells;
  rows = rw (c.in_ok-a.ensures, c.in_ok-b.ensures) c.requires.rows;
}

pub links_of-requires : goal.links_of-requires
links_of-requires c =
    let cs = c.args.found.items in
    handed (length c.args.ids.now.a) (length c.args.ids.now.b) c.rows.result c.rows-2.result cs cs cs c.rows.ensures c.rows-2.ensures refl c.requires.found

pub link_texts-requires : goal.link_texts-requires
link_texts-requires c =
    let chosen = c.in_ok-chosen.ensures.chosen in
    let placed = c.in_ok-chosen.ensures.placed in
    record {
      in_a = rw (c.deref.ensures.value, c.in_ok-a.ensures, ← c.rows.ensures) placed.in_a;
      in_b = rw (c.deref.ensures.value, c.in_ok-b.ensures, ← c.rows-2.ensures) placed.in_b;
      priced_a = rw (c.deref-2.ensures.value, c.in_ok-a.ensures) (chosen.priced_a ∙ c.rows.ensures);
      priced_b = rw (c.deref-3.ensures.value, c.in_ok-b.ensures) (chosen.priced_b ∙ c.rows-2.ensures);
    }

pub with_links-made-requires : goal.with_links-made-requires
with_links-made-requires c = c.in_ok-chosen.ensures.placed.few

pub report_text-requires : goal.report_text-requires
report_text-requires c =
    let placed = c.in_ok-chosen.ensures.placed in
    let made = c.with_links-made.ensures in
    let in_a = subst (λ n. All (λ (d : Dropped). d.at.a < n) c.in_ok-chosen.chosen.dropped.items) c.rows.ensures placed.left_a in
    let in_b = subst (λ n. All (λ (d : Dropped). d.at.b < n) c.in_ok-chosen.chosen.dropped.items) c.rows-2.ensures placed.left_b in
    rw made (record { levels = c.requires.bounded; in_a = in_a; in_b = in_b })

pub returns : goal.returns
returns c =
    let a = c.args.ids.now.a in
    let b = c.args.ids.now.b in
    let chosen = c.in_ok-chosen.chosen in
    let rares = rares_of c.args.plan.now.fields in
    let rows = shown_rows c.args.decided.rule.cells c.args.journal.now c.args.decided.rows in
    let of_a = c.in_ok-a.ensures in
    let of_b = c.in_ok-b.ensures in
    record {
      chosen = chosen;
      choice = subst (λ n. IsChoice n (length b) c.args.found.items chosen) c.rows.ensures (subst (λ n. IsChoice c.rows.result n c.args.found.items chosen) c.rows-2.ensures c.in_ok-chosen.ensures.chosen);
      pairs_text = c.in_ok-pairs.ensures.pairs ∙ (λ i. text_of_pairs rares (of_a i) (of_b i) rows);
      rule_text = c.in_ok-pairs.ensures.rule;
      links_text = c.in_ok-links.ensures.links ∙ (λ i. text_of_links (of_a i) (of_b i) (c.deref.ensures.value i));
      prices_text = c.in_ok-links.ensures.prices ∙ (λ i. text_of_prices (c.deref-2.ensures.value i) (c.deref-3.ensures.value i) (of_a i) (of_b i));
      report_text = c.in_ok-report.ensures ∙ (λ i. text_of_report a b (c.with_links-made.ensures i));
    }
