use Rattle.std.proofs.Common.{◌<◌, ◌≡◌, ◌++◌, ◌∙◌, ℕ, List, ap, length, subst, sym, All}
use Rattle.price_check.specs.Assignment.{CertifiesWithin, IsGreatestWithin}
use Rattle.capacity_assign.specs.Solution.{IsAllowedCapacity}
use Rattle.link_base.specs.Words.{Record}
use Rattle.link_base.specs.declared.rule.Candidate.{Candidate}
use Rattle.link_report.specs.LinksText.{text_of_links, text_of_prices}
use Rattle.link_core.specs.Rules.{rule_in}
use Rattle.link_core.specs.Many.{IsManyText}
use Rattle.link_core.specs.Results.{candidates_in}
use Rattle.link_core.proofs.ResultLemmas.{handed, if_ok}
use Rattle.link_core.proofs.many.many_lines.Goals as goal

pub choose_within-chosen-requires : goal.choose_within-chosen-requires
choose_within-chosen-requires c =
    let p = c.args.prepared.now in
    let wanted = candidates_in c.args.plan.now p.files (rule_in p c.args.decided.now) c.args.journal.now in
    let rows_a : c.rows.result ≡ length p.files.a.records = c.rows.ensures ∙ ap (λ (file : List Record). length file) c.a.ensures in
    let rows_b : c.rows-2.result ≡ length p.files.b.records = c.rows-2.ensures ∙ ap (λ (file : List Record). length file) c.b.ensures in
    let found = handed (length p.files.a.records) (length p.files.b.records) c.rows.result c.rows-2.result wanted c.in_ok-found.found.items c.deref.result.now rows_a rows_b c.deref.ensures.value c.in_ok-found.ensures in
    record {
      for_each = ap (λ (ns : List ℕ). length ns) c.each.ensures ∙ c.requires.capacities.for_each ∙ sym rows_b;
      allowed = subst (λ (ns : List ℕ). All IsAllowedCapacity ns) (sym c.each.ensures) c.requires.capacities.allowed;
      count = found.few;
      rising = found.rising;
      within = found.within;
      small = found.small;
    }

pub many_text-requires : goal.many_text-requires
many_text-requires c =
    let p = c.args.prepared.now in
    let links = c.in_ok-chosen.chosen.links.items in
    let rows_a : c.rows.result ≡ length p.files.a.records = c.rows.ensures ∙ ap (λ (file : List Record). length file) c.a.ensures in
    let rows_b : c.rows-2.result ≡ length p.files.b.records = c.rows-2.ensures ∙ ap (λ (file : List Record). length file) c.b.ensures in
    record {
      in_a = subst (λ n. All (λ (l : Candidate). l.a < n) links) rows_a c.in_ok-chosen.ensures.chosen.in_a;
      in_b = subst (λ n. All (λ (l : Candidate). l.b < n) links) rows_b c.in_ok-chosen.ensures.chosen.in_b;
      priced_a = c.in_ok-chosen.ensures.chosen.priced_a ∙ rows_a;
      priced_b = c.in_ok-chosen.ensures.chosen.priced_b ∙ rows_b;
    }

pub returns : goal.returns
returns c =
    let plan = c.args.plan.now in
    let p = c.args.prepared.now in
    let rule = rule_in p c.args.decided.now in
    let wanted = candidates_in plan p.files rule c.args.journal.now in
    let chosen = c.in_ok-chosen.chosen in
    let facts = c.in_ok-chosen.ensures.chosen in
    let rows_a : c.rows.result ≡ length p.files.a.records = c.rows.ensures ∙ ap (λ (file : List Record). length file) c.a.ensures in
    let rows_b : c.rows-2.result ≡ length p.files.b.records = c.rows-2.ensures ∙ ap (λ (file : List Record). length file) c.b.ensures in
    let same : c.deref.result.now ≡ wanted = c.deref.ensures.value ∙ c.in_ok-found.ensures.same in
    let greatest = subst (λ caps. IsGreatestWithin wanted caps chosen.links.items) c.each.ensures (subst (λ cs. IsGreatestWithin cs c.each.result.now chosen.links.items) same facts.greatest) in
    let certified = subst (λ caps. CertifiesWithin wanted caps chosen.links.items chosen.prices_a.items chosen.prices_b.items) c.each.ensures
    (subst (λ cs. CertifiesWithin cs c.each.result.now chosen.links.items chosen.prices_a.items chosen.prices_b.items) same facts.certified) in
    if_ok (λ text. text ≡ text_of_links p.files.a.records p.files.b.records chosen.links.items ++ text_of_prices chosen.prices_a.items chosen.prices_b.items p.files.a.records p.files.b.records)
    (IsManyText plan p.files rule c.args.journal.now c.args.capacities.now) c.many_text.result
    (λ text told. record {
      links = chosen.links.items;
      prices_a = chosen.prices_a.items;
      prices_b = chosen.prices_b.items;
      greatest = greatest;
      certified = certified;
      priced_a = facts.priced_a ∙ rows_a;
      priced_b = facts.priced_b ∙ rows_b;
      lines = told;
    }) c.many_text.ensures
