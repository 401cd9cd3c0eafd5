-- The shares of counted outcomes by largest remainders (the method of Hamilton): `shares` and `shares4` carry them by
-- their clause `value`.
use Rattle.std.specs.Prelude.{ℕ, ◌+◌, ◌-◌, ◌*◌, ◌/◌, ◌%◌, Bool, ◌==◌, ◌||◌, ◌&&◌, nat_lt, if◌then◌else◌, List, length, slice_index, sum, sum_by, count_by}
use Rattle.std.specs.List.{range_with_len}
use Rattle.link_limits.specs.declared.TheConstants.{WHOLE_FIELD}

-- what is shared out in proportion: the whole, 1,024, less 1 for each outcome
abbrev pub spread_of : List ℕ → ℕ
spread_of counts = WHOLE_FIELD - length counts

-- the whole part of an outcome's proportion, and the remainder
abbrev pub quota_of : List ℕ → ℕ → ℕ
quota_of counts count = spread_of counts * count / sum counts

abbrev pub rest_of : List ℕ → ℕ → ℕ
rest_of counts count = spread_of counts * count % sum counts

-- what the whole parts leave
abbrev pub left_of : List ℕ → ℕ
left_of counts = spread_of counts - sum_by (quota_of counts) counts

-- the outcome at k has a greater remainder than the one at i, or an equal one and an earlier place
abbrev pub is_ahead : List ℕ → ℕ → ℕ → Bool
is_ahead counts i k =
    nat_lt (rest_of counts (slice_index counts i)) (rest_of counts (slice_index counts k))
    || (rest_of counts (slice_index counts k) == rest_of counts (slice_index counts i) && nat_lt k i)

-- how many outcomes are ahead
abbrev pub ahead_of : List ℕ → ℕ → ℕ
ahead_of counts i = count_by (is_ahead counts i) (range_with_len 0 (length counts))

-- the share of the outcome at i, in 1,024ths
abbrev pub share_of : List ℕ → ℕ → ℕ
share_of counts i = 1 + quota_of counts (slice_index counts i) + (if nat_lt (ahead_of counts i) (left_of counts) then 1 else 0)
