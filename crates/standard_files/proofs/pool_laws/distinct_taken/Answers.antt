use Rattle.standard_files.proofs.SideLemmas.{among, full, once, taken}
use Rattle.standard_files.proofs.pool_laws.distinct_taken.Goals as goal

pub returns-clause-among : goal.returns-clause-among
returns-clause-among c = among

pub returns-clause-once : goal.returns-clause-once
returns-clause-once c = once

pub returns-clause-taken : goal.returns-clause-taken
returns-clause-taken c = taken

pub returns-clause-full : goal.returns-clause-full
returns-clause-full c = full
