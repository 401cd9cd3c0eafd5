use Rattle.patterns.specs.PatternLaws.{m_of_pos, u_of_pos, m_whole, u_whole}
use Rattle.patterns.proofs.laws.chances.Goals as goal

pub returns-clause-matched_some : goal.returns-clause-matched_some
returns-clause-matched_some c = m_of_pos

pub returns-clause-unmatched_some : goal.returns-clause-unmatched_some
returns-clause-unmatched_some c = u_of_pos

pub returns-clause-matched_whole : goal.returns-clause-matched_whole
returns-clause-matched_whole c = m_whole

pub returns-clause-unmatched_whole : goal.returns-clause-unmatched_whole
returns-clause-unmatched_whole c = u_whole
