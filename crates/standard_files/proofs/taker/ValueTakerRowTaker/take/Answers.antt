use Rattle.std.proofs.Common.{◌∙◌}
use Rattle.standard_files.proofs.taker.ValueTakerRowTaker.take.Goals as goal

pub take-requires-clause-room : goal.take-requires-clause-room
take-requires-clause-room c = let room = c.requires.room in (room.1.0, room.1.1.values, room.1.2)

pub returns-clause-one_more : goal.returns-clause-one_more
returns-clause-one_more c before rows h =
    record { by_tables = h.by_tables; of_sorts = c.in_ok-take.ensures.sorts ∙ h.of_sorts; values = c.in_ok-take.ensures.kept rows h.values }
