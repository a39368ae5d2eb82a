use Rattle.basis_deck_laws.proofs.Dependencies.{one_dependency, dependency_singular}
use Rattle.basis_deck_laws.proofs.dependency_laws.Goals as goal

pub returns : goal.returns
returns c = record {
  one = one_dependency;
  singular = dependency_singular;
}
