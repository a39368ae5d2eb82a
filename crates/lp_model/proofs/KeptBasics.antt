-- A call that leaves the state of an inverse as it was.
use Rattle.std.proofs.Common.{refl, inl}
use Rattle.std.proofs.lemmas.List.Elements.{Contains-get_or}
use Rattle.lp_model.specs.RatesState.{RatesState, KeepsBasics}

pub keeps_itself : (s : RatesState) → KeepsBasics s s
keeps_itself s = record {
  same_matrix = refl;
  same_basics = refl;
  waypoints = record { each = λ k d below. inl (Contains-get_or s.waypoints k d below) };
}
