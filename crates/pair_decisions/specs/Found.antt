-- Machinery of `decide_pairs`: what a walk over pairs finds. No public clause names it.
use Rattle.std.specs.Prelude.{◌≡◌, ◌≤◌, ◌++◌, ◌∷◌, [], Bool, List, if◌then◌else◌, length}
use Rattle.link_limits.specs.declared.TheConstants.{MOST_PAIRS}
use Rattle.link_base.specs.declared.rule.Decision.TheVariants.{Link, Possible}
use Rattle.link_base.specs.declared.rule.PairAt.{PairAt}
use Rattle.pair_decisions.specs.Decisions.{is_same, pairs_with}
use Rattle.pair_decisions.specs.PairRows.{decided_rows, kept_rows}
use Rattle.pair_decisions.specs.PairRule.{FileRule}
use Rattle.pair_decisions.specs.declared.rows.DecidedRow.{DecidedRow}
use Rattle.pair_decisions.specs.declared.walking.Found.{Found}

-- what a row adds to what was found
pub record AddsRow (with_rows : Bool) (row : DecidedRow) (old new : Found) : Type 0 where
  pub rows : new.rows.items ≡ old.rows.items ++ kept_rows with_rows (row ∷ [])
  pub links : new.links.items ≡ old.links.items ++ (if is_same Link row.decision then row.at ∷ [] else [])
  pub possible : new.possible.items ≡ old.possible.items ++ (if is_same Possible row.decision then row.at ∷ [] else [])
  pub compared : new.compared ≡ old.compared

-- what the decisions of a rule on these pairs add to what was found
pub record AddsDecisions (rule : FileRule) (with_rows : Bool) (pairs : List PairAt) (old new : Found) : Type 0 where
  pub rows : new.rows.items ≡ old.rows.items ++ kept_rows with_rows (decided_rows rule pairs)
  pub links : new.links.items ≡ old.links.items ++ pairs_with Link rule pairs
  pub possible : new.possible.items ≡ old.possible.items ++ pairs_with Possible rule pairs

-- what is found of these pairs, which are not too many
pub record IsFoundOf (rule : FileRule) (with_rows : Bool) (pairs : List PairAt) (found : Found) : Type 0 where
  pub rows : found.rows.items ≡ kept_rows with_rows (decided_rows rule pairs)
  pub links : found.links.items ≡ pairs_with Link rule pairs
  pub possible : found.possible.items ≡ pairs_with Possible rule pairs
  pub compared : found.compared ≡ length pairs
  pub few : length pairs ≤ MOST_PAIRS
