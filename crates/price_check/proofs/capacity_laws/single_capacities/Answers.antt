use Rattle.price_check.proofs.Tops.{certifies_single, one_to_one_within, within_one_to_one}
use Rattle.price_check.proofs.capacity_laws.single_capacities.Goals as goal

pub returns-clause-lists : goal.returns-clause-lists
returns-clause-lists c = λ candidates capacities links s. (
  one_to_one_within candidates capacities links s.single s.within,
  within_one_to_one candidates capacities links s.single s.within,
)

pub returns-clause-greatest : goal.returns-clause-greatest
returns-clause-greatest c = λ candidates capacities links s. (
  λ g. record {
    one_to_one = one_to_one_within candidates capacities links s.single s.within g.within;
    most = λ others h. g.most others (within_one_to_one candidates capacities others s.single s.within h);
  },
  λ g. record {
    within = within_one_to_one candidates capacities links s.single s.within g.one_to_one;
    most = λ others h. g.most others (one_to_one_within candidates capacities others s.single s.within h);
  },
)

pub returns-clause-certificates : goal.returns-clause-certificates
returns-clause-certificates c = λ candidates capacities links ps qs s. certifies_single candidates capacities links s.single s.within ps qs
