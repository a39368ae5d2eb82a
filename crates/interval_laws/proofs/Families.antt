-- The two families: theta times a row is added to the objective, or theta times its shift to the limits of each row.
use Rattle.std.proofs.Common.{◌≡◌, ℕ, List, pos, refl, sym, ap}
use Rattle.std.specs.Prelude.{Option, Some, None}
use Rattle.exact_values.specs.Rational.{ℚ, zero_ℚ, ◌+ℚ◌, ◌*ℚ◌}
use Rattle.exact_values.proofs.Ring.{by_ring2, number, ◌⊕◌, ◌⊗◌, ◌≐◌}
use Rattle.lp_definitions.specs.LinearProgram.{LinearProgram, value_at, IsRow, HasNoLimits, IsLinearProgram, entry, cost, lower_of, upper_of}
use Rattle.simplex_definitions.specs.ObjectiveRun.{objective_family}
use Rattle.simplex_definitions.specs.RhsRun.{shift_of, shifted, rhs_family}
use Rattle.sensitivity_laws.proofs.MovedLimits.{moved, lower_is, upper_is}
use Rattle.parametric_laws.proofs.OneObjective.{lawful_objective}
use Rattle.parametric_laws.proofs.OneRhs.{lawful_rhs}
use Rattle.interval_laws.specs.Laws.{HoldsBetween, BetweenLaws}
use Rattle.interval_laws.proofs.Between.{IsLinearIn, solved_between}

-- what doesn't move with theta
still : (c theta : ℚ) → c +ℚ theta *ℚ zero_ℚ ≡ c
still c theta = by_ring2 c theta (λ c x. c ⊕ x ⊗ number (pos 0) ≐ c) refl

still_limit : (theta : ℚ) (limit : Option ℚ) → moved theta zero_ℚ limit ≡ limit
still_limit theta None = refl
still_limit theta (Some l) = ap Some (still l theta)

objective_linear : (p : LinearProgram) (h : ℕ) → IsLinearIn p (objective_family p h) (λ k. zero_ℚ) (λ j. entry p.matrix p.objective j) (λ j. entry p.matrix h j)
objective_linear p h = record {
  low = λ theta k is. sym (still_limit theta (lower_of p k));
  high = λ theta k is. sym (still_limit theta (upper_of p k));
  costs = λ theta j. refl;
}

rhs_linear : (p : LinearProgram) (shift : List ℚ) → IsLinearIn p (rhs_family p shift) (shift_of p.matrix shift) (cost p) (λ j. zero_ℚ)
rhs_linear p shift = record {
  low = λ theta k is. lower_is p shift theta k is;
  high = λ theta k is. upper_is p shift theta k is;
  costs = λ theta j. sym (still (cost p j) theta);
}

objective_between : (p : LinearProgram) (h : ℕ) → IsLinearProgram p → IsRow p.matrix h → HasNoLimits p h → HoldsBetween (objective_family p h)
objective_between p h lawful row free max part within ends = record {
  forward = ends.forward;
  within = within;
  solved = λ theta after before.
      solved_between p (λ _. p.lower) (λ _. p.upper) (λ theta. Some (record { row = h; theta = theta })) (λ k. zero_ℚ) (λ j. entry p.matrix p.objective j)
      (λ j. entry p.matrix h j)
      (objective_linear p h) (value_at part.value) (value_at part.value_rate) (value_at part.price)
      (value_at part.price_rate) part.from theta part.to after before
      ends.first ends.last ends.first_prices ends.last_prices (lawful_objective p h lawful row free theta);
}

rhs_between : (p : LinearProgram) (shift : List ℚ) → IsLinearProgram p → HoldsBetween (rhs_family p shift)
rhs_between p shift lawful max part within ends = record {
  forward = ends.forward;
  within = within;
  solved = λ theta after before.
      solved_between p (λ theta. shifted p.matrix shift theta (lower_of p)) (λ theta. shifted p.matrix shift theta (upper_of p)) (λ _. p.change)
      (shift_of p.matrix shift) (cost p) (λ j. zero_ℚ)
      (rhs_linear p shift) (value_at part.value) (value_at part.value_rate) (value_at part.price)
      (value_at part.price_rate) part.from theta part.to after before
      ends.first ends.last ends.first_prices ends.last_prices (lawful_rhs p shift lawful theta);
}

pub between_laws : BetweenLaws
between_laws = record { objective = objective_between; rhs = rhs_between }
