-- The laws put together.
use Rattle.check_definitions.proofs.Holding.{checked_hold}
use Rattle.certificate_laws.specs.Laws.{CheckedLaws}
use Rattle.certificate_laws.proofs.Meaning.{optimal_if_held, crossed_if_held, infeasible_ray_if_held, unbounded_if_held, keeps_if_held, feasible_if_held}
use Rattle.certificate_laws.proofs.Meaning.{reduced_if_held, vanishes_if_held, meets_if_held, free_if_held}

pub all_laws : CheckedLaws
all_laws = record {
  checked = checked_hold;
  optimal = optimal_if_held;
  crossed = crossed_if_held;
  infeasible = infeasible_ray_if_held;
  unbounded = unbounded_if_held;
  keeps = keeps_if_held;
  feasible = feasible_if_held;
  reduced = reduced_if_held;
  vanishes = vanishes_if_held;
  meets = meets_if_held;
  free = free_if_held;
}
