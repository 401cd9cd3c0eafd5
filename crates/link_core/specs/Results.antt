-- What a run comes to: the pairs, the rule, links and prices, and the report, each as its text (`finish`, its lone clause), and the
-- candidates (`candidates`). Links and prices are a relation: any greatest one-to-one list serves, with any prices that certify it.
use Rattle.std.specs.Prelude.{◌≡◌, ◌<◌, ◌≤◌, All, ℕ, ℤ, List, length}
use Rattle.link_limits.specs.declared.TheConstants.{MOST_PAIRS}
use Rattle.price_check.specs.Assignment.{Certifies, IsGreatest, worth}
use Rattle.candidate_links.specs.Candidates.{candidates_of, dropped_of, IsChoice}
use Rattle.candidate_links.specs.declared.choice.ChosenLinks.{ChosenLinks}
use Rattle.decision_rule.specs.Rule.{AreLevelsOf}
use Rattle.link_base.specs.Words.{Record}
use Rattle.link_base.specs.declared.rule.Candidate.{Candidate}
use Rattle.link_base.specs.declared.rule.Decision.{Decision}
use Rattle.link_base.specs.declared.rule.Decision.TheVariants.{Link, NonLink, Possible}
use Rattle.link_base.specs.declared.rule.PairAt.{PairAt}
use Rattle.link_report.specs.LinksText.{text_of_links, text_of_prices, text_of_rule}
use Rattle.link_report.specs.PairsText.{text_of_pairs}
use Rattle.link_report.specs.ReportText.{text_of_report}
use Rattle.link_report.specs.declared.open.PairRow.{PairRow}
use Rattle.link_report.specs.declared.report.Dropped.{Dropped}
use Rattle.link_report.specs.declared.report.Report.{Report}
use Rattle.pair_decisions.specs.Words.{AreDecisionsOn, count_with, DecidedView, pairs_with, AreCellsOf, FileRule, decided_rows, pair_rows_of, shown_rows, rares_of}
use Rattle.pair_walk.specs.Rows.{compared_pairs}
use Rattle.patterns.specs.Patterns.{pattern_count_by}
use Rattle.review_journal.specs.Batch.{idle_count}
use Rattle.review_journal.specs.declared.entry.Entry.{Entry}
use Rattle.link_plan.specs.declared.plan.Plan.{Plan}
use Rattle.standard_files.specs.Files.{StandardPair}
use Rattle.link_core.specs.Rules.{rule_in}
use Rattle.link_core.specs.Prepared.{PreparedView}
use Rattle.link_core.specs.Review.{open_pairs}
use Rattle.link_core.specs.declared.results.RunResult.{RunResult}

-- the pairs that share a key in some blocking pass of a plan
abbrev pub compared_in : Plan → StandardPair → List PairAt
compared_in plan files = compared_pairs files.a.records files.b.records plan.passes

-- those of them with a decision
abbrev pub decided_in : Decision → Plan → StandardPair → FileRule → List PairAt
decided_in kind plan files rule = pairs_with kind rule (compared_in plan files)

-- each of them with its pattern, its weight, its decision and its verdict
abbrev pub pair_rows_in : Plan → StandardPair → FileRule → List Entry → List PairRow
pair_rows_in plan files rule entries = pair_rows_of rule entries (compared_in plan files)

-- the candidates for links: links by the rule, and possible links that review says are links, which have the award of the plan
abbrev pub candidates_in : Plan → StandardPair → FileRule → List Entry → List Candidate
candidates_in plan files rule entries = candidates_of rule entries plan.terms.award (compared_in plan files)

-- machinery: decisions are those of a plan's rule on the compared pairs of its files: they are not too many, and each pattern has a cell
pub record IsDecidedFor (plan : Plan) (p : PreparedView) (d : DecidedView) : Type 0 where
  pub decisions : AreDecisionsOn p.values.a.rows p.values.b.rows (compared_in plan p.files) d
  pub counts : (kind : Decision) → count_with d kind ≡ length (decided_in kind plan p.files (rule_in p d))
  pub cells : AreCellsOf (pattern_count_by (rares_of plan.fields)) d.rule.cells

-- machinery: decisions keep the row of each compared pair, for those who write them
abbrev pub KeepsRows : Plan → PreparedView → DecidedView → Type 0
KeepsRows plan p d = d.rows ≡ decided_rows (rule_in p d) (compared_in plan p.files)

-- machinery: links are not too many, and they and the dropped candidates stand in files of so many records
pub record IsPlaced (rows_a rows_b : ℕ) (c : ChosenLinks) : Type 0 where
  pub few : length c.links.items ≤ MOST_PAIRS
  pub in_a : All (λ (l : Candidate). l.a < rows_a) c.links.items
  pub in_b : All (λ (l : Candidate). l.b < rows_b) c.links.items
  pub left_a : All (λ (d : Dropped). d.at.a < rows_a) c.dropped.items
  pub left_b : All (λ (d : Dropped). d.at.b < rows_b) c.dropped.items

-- machinery: the numbers of a report that are there before links are chosen
pub record IsBegun (plan : Plan) (files : StandardPair) (rule : FileRule) (entries : List Entry) (r : Report) : Type 0 where
  pub unreadable_a : r.unreadable_a ≡ files.a.unreadable
  pub unreadable_b : r.unreadable_b ≡ files.b.unreadable
  pub pairs : r.pairs ≡ length (compared_in plan files)
  pub link : r.link ≡ length (decided_in Link plan files rule)
  pub possible : r.possible ≡ length (decided_in Possible plan files rule)
  pub nonlink : r.nonlink ≡ length (decided_in NonLink plan files rule)
  pub undecided : r.undecided ≡ length (open_pairs entries (decided_in Possible plan files rule))
  pub entries_ : r.entries ≡ length entries
  pub idle : r.idle ≡ idle_count (decided_in Possible plan files rule) entries
  pub levels : AreLevelsOf (length plan.fields) rule.cells r.levels

-- machinery: a report with chosen links
abbrev pub with_links : Report → ChosenLinks → Report
with_links r c = record r { links = length c.links.items; total = c.total; dropped = c.dropped }

-- the numbers of a report, and the candidates that are not among the links
pub record IsReportOf (plan : Plan) (files : StandardPair) (rule : FileRule) (entries : List Entry) (links : List Candidate) (r : Report) : Type 0 where
  pub unreadable_a : r.unreadable_a ≡ files.a.unreadable
  pub unreadable_b : r.unreadable_b ≡ files.b.unreadable
  pub pairs : r.pairs ≡ length (compared_in plan files)
  pub link : r.link ≡ length (decided_in Link plan files rule)
  pub possible : r.possible ≡ length (decided_in Possible plan files rule)
  pub nonlink : r.nonlink ≡ length (decided_in NonLink plan files rule)
  pub undecided : r.undecided ≡ length (open_pairs entries (decided_in Possible plan files rule))
  pub entries_ : r.entries ≡ length entries
  pub idle : r.idle ≡ idle_count (decided_in Possible plan files rule) entries
  pub levels : AreLevelsOf (length plan.fields) rule.cells r.levels
  pub links_ : r.links ≡ length links
  pub total : r.total ≡ worth links
  pub dropped : r.dropped.items ≡ dropped_of (candidates_in plan files rule entries) links

-- the five texts
pub record RunTexts : Type 0 where
  pub pairs : List ℕ
  pub rule : List ℕ
  pub links : List ℕ
  pub prices : List ℕ
  pub report : List ℕ

abbrev pub five_texts : RunResult → RunTexts
five_texts r = record { pairs = r.pairs; rule = r.rule; links = r.links; prices = r.prices; report = r.report }

-- texts are those of a run: of the compared pairs, of the rule, of a greatest one-to-one list of the candidates, of prices that
-- certify it, one for each record, and of their report
pub record AreRunTexts (plan : Plan) (files : StandardPair) (rule : FileRule) (entries : List Entry) (texts : RunTexts) : Type 0 where
  pub links : List Candidate
  pub prices_a : List ℤ
  pub prices_b : List ℤ
  pub report : Report
  pub greatest : IsGreatest (candidates_in plan files rule entries) links
  pub certified : Certifies (candidates_in plan files rule entries) links prices_a prices_b
  pub priced_a : length prices_a ≡ length files.a.records
  pub priced_b : length prices_b ≡ length files.b.records
  pub reported : IsReportOf plan files rule entries links report
  pub pairs_text : texts.pairs ≡ text_of_pairs (rares_of plan.fields) files.a.records files.b.records (pair_rows_in plan files rule entries)
  pub rule_text : texts.rule ≡ text_of_rule (rares_of plan.fields) rule.cells
  pub links_text : texts.links ≡ text_of_links files.a.records files.b.records links
  pub prices_text : texts.prices ≡ text_of_prices prices_a prices_b files.a.records files.b.records
  pub report_text : texts.report ≡ text_of_report files.a.records files.b.records report

-- machinery: texts are those of decisions and of links that are chosen among these candidates, over records of which the ids are left
pub record AreTextsBy (plan : Plan) (a b : List Record) (found : List Candidate) (d : DecidedView) (entries : List Entry) (begun : Report) (texts : RunTexts) : Type 0 where
  pub chosen : ChosenLinks
  pub choice : IsChoice (length a) (length b) found chosen
  pub pairs_text : texts.pairs ≡ text_of_pairs (rares_of plan.fields) a b (shown_rows d.rule.cells entries d.rows)
  pub rule_text : texts.rule ≡ text_of_rule (rares_of plan.fields) d.rule.cells
  pub links_text : texts.links ≡ text_of_links a b chosen.links.items
  pub prices_text : texts.prices ≡ text_of_prices chosen.prices_a.items chosen.prices_b.items a b
  pub report_text : texts.report ≡ text_of_report a b (with_links begun chosen)
