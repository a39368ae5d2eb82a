use Rattle.lp_laws.proofs.Uniqueness.{one_point}
use Rattle.lp_laws.proofs.Statuses.{IsBasis-opening, basics_of-opening, IsBasis-replaced, basics_of-replaced, IsBasis-flipped, basics_of-flipped}
use Rattle.lp_laws.proofs.Points.{IsPointOf-combination, IsPointOf-replaced, IsPointOf-flipped}
use Rattle.lp_laws.proofs.basis_laws.Goals as goal

pub returns : goal.returns
returns c = record {
  opening = IsBasis-opening;
  opening_basics = basics_of-opening;
  replaced = IsBasis-replaced;
  replaced_basics = basics_of-replaced;
  flipped = IsBasis-flipped;
  flipped_basics = basics_of-flipped;
  point = IsPointOf-combination;
  one_point = λ p s z w basis. one_point p s z w basis.counted;
  replaced_point = IsPointOf-replaced;
  flipped_point = IsPointOf-flipped;
}
