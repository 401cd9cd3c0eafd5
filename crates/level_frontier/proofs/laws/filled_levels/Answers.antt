use Rattle.level_frontier.proofs.Lemmas.{possible_falls, near}
use Rattle.level_frontier.proofs.laws.filled_levels.Goals as goal

pub returns : goal.returns
returns c = record {
  matched = λ shares mu_ppm lambda_ppm cells filled d r h. (near shares mu_ppm lambda_ppm cells filled d r h).0;
  unmatched = λ shares mu_ppm lambda_ppm cells filled d r h. (near shares mu_ppm lambda_ppm cells filled d r h).1;
  falling = possible_falls;
}
