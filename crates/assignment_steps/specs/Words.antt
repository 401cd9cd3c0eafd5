-- No public clause names this module: it hands on the words of this crate that the crates above share, types, constants and
-- definitions, each by the name that it has where it is declared, so that a proof or a definition imports all of them by one line.
pub use Rattle.assignment_steps.specs.Between.{AreJoined, AreJoinedAs, AreJoinedWith, AreSettled, HasLink, HasNoLink, IsBetween, IsDone, IsPriced, IsSettled, ReachAll}
pub use Rattle.assignment_steps.specs.Candidates.{AreTurned, edges_of, is_linked, prices_of, turned_edge}
pub use Rattle.assignment_steps.specs.CandidatesLaws.{IsLinkedBy, absent_a, all_among, all_covered, all_tight, apart_a, few_edges, floored, link_member, links_rising, member_link, price_of-prices, range_edges, rising_edges, small_edges, turned_in_range, turned_small}
pub use Rattle.assignment_steps.specs.Kept.{AreChains, AreTurnedBelow, IsNext, edges_below, edges_with, ranked_of, waiting_of}
pub use Rattle.assignment_steps.specs.LinkLaws.{all_zero, between_joined, distance-set, ends_at, goes_on, leads_below, leads_parted, link-set, link_cases, link_there, linked_joined, matched_joined, matched_parted, none_before, none_linked, none_matched, not_linked, number-set, one_more_done, one_more_settled, priced_done, priced_joined, reached_by, tight_joined, unreached-set}
pub use Rattle.assignment_steps.specs.Market.{AreLinked, AreListed, AreSmall, AreStarts, AreTight, IsInRange, IsMatched, IsRising, IsStart, IsTight, distance, edge, far, link, no_edge, number}
pub use Rattle.assignment_steps.specs.Queue.{Queue}
pub use Rattle.assignment_steps.specs.Reached.{FitsQueue, HasRoomForRecords, IsAtRest, work}
pub use Rattle.assignment_steps.specs.ReachedLaws.{Contains-cons_cases, cons_first, done_kept, falls_within, left_any, left_few, left_joined, left_later, left_relaxed, noted_count, noted_in, priced_after, room_at, room_kept, room_own, root_done, searchable, stop_free, stop_within, tight_kept, ways_after}
pub use Rattle.assignment_steps.specs.Spread.{EndsAt, HasStopped, IsNearer, IsNearest, IsRelaxed, IsSearchable, IsSpread, Shortens, Spread, edge_of, spread, waits_for}
pub use Rattle.assignment_steps.specs.SpreadLaws.{joins_here, joins_keeps, nearest_taken, spread_any, spread_ended, spread_joined, spread_passed, spread_passed_to, spread_planted, spread_shortened, spread_skip, spread_waiting}
pub use Rattle.assignment_steps.specs.Ways.{AreTurnedFrom, IsHop, Leads, LeadsBy, above, left}
