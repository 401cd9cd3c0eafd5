-- No public clause names this module: it hands on the words of this crate that the crates above share, types, constants and
-- definitions, each by the name that it has where it is declared, so that a proof or a definition imports all of them by one line.
pub use Rattle.pair_decisions.specs.Comparators.{AreSidesOf, IsOfTexts, SideComparator, StandForFile, StandInField, answers_of, comparator_at, comparator_by, comparators_of, count_of_id, has_id, id_counts, is_id, is_same_id, rares_of}
pub use Rattle.pair_decisions.specs.Decisions.{AreDecisionsOn, DecidedView, IsInside, count_with, decision_at, is_same, pairs_with, pairs_within}
pub use Rattle.pair_decisions.specs.Found.{IsFoundOf}
pub use Rattle.pair_decisions.specs.PairLaws.{cells_below, cells_many, cells_of_rule, cells_stand, compared_inside, compared_rise, few_patterns, past_limit, shape_rares, sides_of_fields, within_limit}
pub use Rattle.pair_decisions.specs.PairRows.{AreRowsIn, IsDecidedOn, decided_row, decided_rows, kept_rows, pair_rows_of, shown_row, shown_rows}
pub use Rattle.pair_decisions.specs.PairRule.{AreCellsOf, AreSidesFor, FileRule, IsRuleOver, PairRuleView, cell_of, field_comparator, field_comparator_at, field_comparators, has_pattern, holders_of, is_canon, is_rare_canon, pattern_by, pattern_of_pair, pattern_over, rares_in, records_with, rule_of_plan, side_rule, values_of}
pub use Rattle.pair_decisions.specs.Places.{place_of}
pub use Rattle.pair_decisions.specs.PlanShares.{HaveValidShares, IsRuleOf, counted_in, counts_by_pattern, given_in, outcome_counts, plain_all, shares_at, shares_in, status_shares}
pub use Rattle.pair_decisions.specs.TheRule.{cell_of_pattern, cells_of_patterns, give, plain_chance, plain_count, plain_weight, ranked, ranked_with, room_for, the_rule, with_links, with_nonlinks}
