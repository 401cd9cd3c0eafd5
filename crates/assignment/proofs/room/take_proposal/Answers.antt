use Rattle.assignment.proofs.room.take_proposal.Goals as goal

pub adopt_proposal-requires : goal.adopt_proposal-requires
adopt_proposal-requires c = record { between = c.requires.between }

pub returns-clause-between : goal.returns-clause-between
returns-clause-between c = c.adopt_proposal.ensures.between
