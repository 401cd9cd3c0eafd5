use Rattle.std.proofs.Common.{refl, rules}
use Rattle.capacity_assign.proofs.start.no_seats.Goals as goal

pub returns : goal.returns
returns c = record {
  seats = search rules;
  sitters = search rules;
  owners = search rules;
  earliers = search rules;
  lasts = search rules;
  left = search rules;
  count = refl;
}
