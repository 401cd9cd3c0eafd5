-- What an auditor is told of written files: that they prove their links, or the first reason that refutes them (`verify_files`, its lone
-- clause). The law `run_is_verified` says that what a run writes proves its links.
use Rattle.std.specs.Prelude.{◌≡◌, ◌≤◌, ◌++◌, ℕ, ℤ, Bool, true, false, List, [], codes, decimal, length, Result, Ok, Err}
use Rattle.std.specs.Fmt.{signed_decimal}
use Rattle.price_check.specs.Assignment.{Certifies, IsOneToOne}
use Rattle.link_base.specs.Words.{id_at, Record}
use Rattle.link_base.specs.declared.rule.Candidate.{Candidate}
use Rattle.link_limits.specs.declared.TheConstants.{MOST_FIELDS}
use Rattle.pair_decisions.specs.Words.{FileRule, rares_of, IsRuleOf}
use Rattle.review_journal.specs.declared.entry.Entry.{Entry}
use Rattle.link_plan.specs.Plan.{PlainShares}
use Rattle.settings.specs.Settings.{settings}
use Rattle.link_plan.specs.declared.plan.Plan.{Plan}
use Rattle.written_check.specs.Laws.{written_texts, AreShort}
use Rattle.written_check.specs.Verified.{verified, WrittenTexts}
use Rattle.written_check.specs.declared.refutation.Refutation.{Refutation}
use Rattle.written_check.specs.declared.refutation.Refutation.TheVariants as refutation
use Rattle.standard_files.specs.Files.{StandardPair}
use Rattle.link_core.specs.Prepared.{prepared}
use Rattle.link_core.specs.Results.{candidates_in}
use Rattle.link_core.specs.declared.verify.Verification.{Verification}

-- the links that written files prove for a plan's rule and candidates, or the first reason that refutes them
abbrev pub verified_in : Plan → StandardPair → FileRule → List Entry → WrittenTexts → Result (List Candidate) Refutation
verified_in plan files rule entries texts = verified (rares_of plan.fields) rule.cells (candidates_in plan files rule entries) files.a.records files.b.records texts

-- a reason: the row at fault, the ids of the candidate that is not covered, or the two sums
abbrev pub reason_text : List Record → List Record → Refutation → List ℕ
reason_text a b (refutation.Rule row) = codes "rule " ++ decimal row
reason_text a b (refutation.Link row) = codes "link " ++ decimal row
reason_text a b (refutation.Reused row) = codes "reused " ++ decimal row
reason_text a b (refutation.Price row) = codes "price " ++ decimal row
reason_text a b (refutation.Uncovered at) = codes "uncovered " ++ (id_at a at.a ++ (codes " " ++ id_at b at.b))
reason_text a b (refutation.Sum links prices) = codes "sum " ++ (signed_decimal links ++ (codes " " ++ signed_decimal prices))
reason_text a b refutation.NoMemory = []

-- the line that is printed
abbrev pub line_of : StandardPair → Result (List Candidate) Refutation → List ℕ
line_of files (Ok links) = codes "yes\n"
line_of files (Err r) = codes "no: " ++ (reason_text files.a.records files.b.records r ++ codes "\n")

abbrev pub is_proved : Result (List Candidate) Refutation → Bool
is_proved (Ok links) = true
is_proved (Err r) = false

-- whether written files prove their links, and the line that says so
pub record TellsVerdict (files : StandardPair) (told : Result (List Candidate) Refutation) (v : Verification) : Type 0 where
  pub proved : v.proved ≡ is_proved told
  pub line : v.line ≡ line_of files told

-- what a run goes by: the plan of a settings file, its two files as they are prepared, and the rule of its fields' shares
pub record IsRunOf (plan : Plan) (files : StandardPair) (shares : List PlainShares) (rule : FileRule) : Type 0 where
  pub bytes : List ℕ
  pub bytes_a : List ℕ
  pub bytes_b : List ℕ
  pub limit : ℕ
  pub of_settings : settings bytes ≡ Ok plan
  pub of_files : prepared plan limit bytes_a bytes_b ≡ Ok files
  pub few_shares : length shares ≤ MOST_FIELDS
  pub of_shares : IsRuleOf plan shares rule.cells

-- texts prove these links, and each may be verified
pub record AreProof (told : Result (List Candidate) Refutation) (links : List Candidate) (texts : WrittenTexts) : Type 0 where
  pub proved : told ≡ Ok links
  pub short : AreShort texts

-- the texts of a rule, of links and of prices, over prepared files
abbrev pub run_texts : Plan → StandardPair → FileRule → List Candidate → List ℤ → List ℤ → WrittenTexts
run_texts plan files rule links prices_a prices_b =
    written_texts (rares_of plan.fields) rule.cells links prices_a prices_b files.a.records files.b.records

-- what a run writes proves its links: `run_is_verified`
abbrev pub RunIsVerified : Type 0
RunIsVerified =
    (plan : Plan) (files : StandardPair) (shares : List PlainShares) (rule : FileRule) (entries : List Entry) (links : List Candidate) (prices_a prices_b : List ℤ)
    → IsRunOf plan files shares rule → IsOneToOne (candidates_in plan files rule entries) links
    → Certifies (candidates_in plan files rule entries) links prices_a prices_b
    → length prices_a ≡ length files.a.records → length prices_b ≡ length files.b.records
    → AreProof (verified_in plan files rule entries (run_texts plan files rule links prices_a prices_b)) links (run_texts plan files rule links prices_a prices_b)
