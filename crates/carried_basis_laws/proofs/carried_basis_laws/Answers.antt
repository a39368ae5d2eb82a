use Rattle.carried_basis_laws.proofs.Carried.{stands, comes_back}
use Rattle.carried_basis_laws.proofs.carried_basis_laws.Goals as goal

pub returns : goal.returns
returns c = record {
  stands = stands;
  comes_back = comes_back;
}
