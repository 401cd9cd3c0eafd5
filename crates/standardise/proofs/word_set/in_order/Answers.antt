use Rattle.std.proofs.Common.{rules, is_lt}
use Rattle.std.proofs.lemmas.Cmp.{nat_list_cmp_total}
use Rattle.std.proofs.lemmas.List.Sorted.{ranks_by}
use Rattle.std.proofs.lemmas.Fn.{always_returns_same}
use Rattle.standardise.specs.Names.{text_cmp}
use Rattle.standardise.proofs.StepLemmas.{sorted_rises}
use Rattle.standardise.proofs.word_set.in_order.Goals as goal

pub returns : goal.returns
returns c = record {
  same = c.sort_unstable_by.ensures.permutation;
  rising = λ text. sorted_rises c.sort_unstable_by.new.self.items text
      (c.sort_unstable_by.ensures.sorted (λ x y. is_lt (text_cmp x y)) (ranks_by nat_list_cmp_total (λ t. t)) (always_returns_same _ _ _ (λ a r g called. (search rules, search rules))));
}
