-- What written files come to: the links that they prove, or the first reason that refutes them, in the order rule, link, reused, price,
-- uncovered, sum (`verify_written`, clause `answer`). The laws `written_is_verified` and `verified_is_greatest` say that it is the right
-- question.
use Rattle.std.specs.Prelude.{ℕ, Bool, List, Result}
use Rattle.link_base.specs.Words.{and_then, Record}
use Rattle.link_base.specs.declared.rule.Candidate.{Candidate}
use Rattle.link_base.specs.declared.rule.RuleCell.{RuleCell}
use Rattle.written_check.specs.Certified.{sums_verified, prices_verified}
use Rattle.written_check.specs.LinkRows.{apart_verified, links_verified, rule_verified}
use Rattle.written_check.specs.declared.refutation.Refutation.{Refutation}
use Rattle.written_check.specs.declared.written.Written.{Written}

-- the three texts
pub record WrittenTexts : Type 0 where
  pub rule : List ℕ
  pub links : List ℕ
  pub prices : List ℕ

abbrev pub texts_in : Written → WrittenTexts
texts_in w = record { rule = w.rule; links = w.links; prices = w.prices }

-- the links of written files that are as they must be for a rule's cells, for candidates and for the records of both files
abbrev pub verified : List Bool → List RuleCell → List Candidate → List Record → List Record → WrittenTexts → Result (List Candidate) Refutation
verified rares cells candidates a b texts =
    and_then (rule_verified rares cells texts.rule) (λ _.
    and_then (links_verified candidates a b texts.links) (λ links.
    and_then (apart_verified links) (λ _.
    and_then (prices_verified a b texts.prices) (λ prices.
    sums_verified candidates links prices))))
