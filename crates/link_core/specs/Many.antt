-- Links within capacities: the capacities that a file lists for the records of B (`capacities_in_file`, clause `answer`), and the text
-- of links of greatest worth within them and of prices that certify it (`many_lines`, its lone clause). Which greatest list is printed
-- is not said.
use Rattle.std.specs.Prelude.{◌≡◌, ◌++◌, ℕ, ℤ, List, length, Result}
use Rattle.price_check.specs.Assignment.{CertifiesWithin, IsGreatestWithin}
use Rattle.candidate_links.specs.Capacities.{AreCapacities, capacities_in}
use Rattle.link_base.specs.declared.fault.Fault.{Fault}
use Rattle.link_base.specs.declared.rule.Candidate.{Candidate}
use Rattle.link_report.specs.LinksText.{text_of_links, text_of_prices}
use Rattle.pair_decisions.specs.Words.{FileRule}
use Rattle.review_journal.specs.declared.entry.Entry.{Entry}
use Rattle.link_plan.specs.declared.plan.Plan.{Plan}
use Rattle.standard_files.specs.Files.{StandardPair}
use Rattle.link_core.specs.Results.{candidates_in}

-- the capacities of the records of B in these bytes, over prepared files
abbrev pub capacities_in_file : StandardPair → List ℕ → Result (List ℕ) Fault
capacities_in_file files bytes = capacities_in files.b.records bytes

-- there is a capacity for each record of B, and none is too great
abbrev pub AreCapacitiesOf : StandardPair → List ℕ → Type 0
AreCapacitiesOf files capacities = AreCapacities files.b.records capacities

-- the text of a greatest list of the candidates within capacities, and after it that of prices that certify it, one for each record
pub record IsManyText (plan : Plan) (files : StandardPair) (rule : FileRule) (entries : List Entry) (capacities text : List ℕ) : Type 0 where
  pub links : List Candidate
  pub prices_a : List ℤ
  pub prices_b : List ℤ
  pub greatest : IsGreatestWithin (candidates_in plan files rule entries) capacities links
  pub certified : CertifiesWithin (candidates_in plan files rule entries) capacities links prices_a prices_b
  pub priced_a : length prices_a ≡ length files.a.records
  pub priced_b : length prices_b ≡ length files.b.records
  pub lines : text ≡ text_of_links files.a.records files.b.records links ++ text_of_prices prices_a prices_b files.a.records files.b.records
