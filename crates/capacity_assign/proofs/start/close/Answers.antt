use Rattle.std.proofs.Common.{◌≡◌, ap, arith}
use Rattle.price_check.specs.Assignment.{capacity_of}
use Rattle.capacity_assign.proofs.start.close.Goals as goal

pub returns : goal.returns
returns c =
    let e = c.raise_to.ensures in
    let ns = c.args.capacity.now in
    record {
      here = λ none. e.here;
      kept = e.kept;
      vacant = λ r some. e.others r (λ same. (let here : capacity_of ns r ≡ capacity_of ns c.args.edge.b = ap (capacity_of ns) same in absurd (omega (arith, here, some))));
      small = e.small;
    }
