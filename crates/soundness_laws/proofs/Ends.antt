-- What the ends of paths prove of the linear program, and of the point and the prices that are shown.
use Rattle.std.proofs.Common.{◌≡◌, ℕ, List, refl, sym, subst, ◌∙◌}
use Rattle.exact_values.specs.Rational.{ℚ}
use Rattle.lp_definitions.specs.LinearProgram.{LinearProgram, Vector, value_at, objective_value, IsLinearProgram}
use Rattle.lp_definitions.specs.Solutions.{IsBest, IsDualCertificate, by_crossed, by_ray}
use Rattle.lp_definitions.specs.Basis.{basics_of, Tableau, IsTableau, IsOptimalBasis, price_at}
use Rattle.lp_laws.proofs.Uniqueness.{one_point, one_table}
use Rattle.lp_laws.proofs.Optimal.{prices_prove_optimal, best_by_basis}
use Rattle.lp_laws.proofs.Duality.{infeasible_by_proof, unbounded_by_direction}
use Rattle.simplex_definitions.specs.Path.{PathEnding, Ends, EndsOptimal, EndsCrossed, EndsInfeasible, EndsUnbounded, EndsAt, PathEnds, turn, last_of}
use Rattle.simplex_laws.specs.Laws.{IsNonsingularBasis}
use Rattle.simplex_laws.proofs.Turns.{IsOptimalTurn, rule_of, optimal_turn}
use Rattle.simplex_laws.proofs.Ends.{feasible, rates_right, optimal_end}
use Rattle.simplex_laws.proofs.UnboundedEnds.{crossed_end, unbounded_end}
use Rattle.simplex_laws.proofs.Rays.{infeasible_end}
use Rattle.simplex_laws.proofs.OneTurn.{SameTableau, turn_same}
use Rattle.simplex_laws.proofs.OnePath.{path_leads}
use Rattle.listing_definitions.specs.Report.{PathVerdict}
use Rattle.question_definitions.specs.Answers.{Basis, Sheet}
use Rattle.answer_definitions.specs.Verdicts.{verdict_of}
use Rattle.soundness_laws.specs.Truth.{IsTrueOf}

-- the point is feasible and no feasible one is better, and the prices prove that
pub record IsProvedBest (p : LinearProgram) (s : Basis) (t : Tableau) : Type 0 where
  pub best : IsBest p t.point
  pub certificate : IsDualCertificate p t.point (price_at p (basics_of s) t.rate)

ends_optimal : (p : LinearProgram) (s : Basis) (t : Tableau) (z y : List ℚ) → turn p s t ≡ Ends (EndsOptimal z y) → IsOptimalTurn p s t (Ends (EndsOptimal z y))
ends_optimal p s t z y turns = optimal_turn p s t z y (rule_of p s t (Ends (EndsOptimal z y)) turns)

abbrev optimal_basis : (p : LinearProgram) (s : Basis) (t : Tableau) (z y : List ℚ) → IsNonsingularBasis p s → IsTableau p s t →
    turn p s t ≡ Ends (EndsOptimal z y) → IsOptimalBasis p s
optimal_basis p s t z y at tab turns = record {
  is_basis = at.is_basis;
  nonsingular = at.nonsingular;
  tableau = t;
  is_tableau = tab;
  feasible = feasible p s t at.is_basis tab (ends_optimal p s t z y turns).phase;
  right = rates_right p s t at.is_basis tab (ends_optimal p s t z y turns).moves;
}

-- a tableau at which the path ends optimal makes the basis optimal
optimal_at : (p : LinearProgram) (s : Basis) (t : Tableau) (z y : List ℚ) → IsNonsingularBasis p s → IsTableau p s t → turn p s t ≡ Ends (EndsOptimal z y) →
    IsLinearProgram p → IsProvedBest p s t
optimal_at p s t z y at tab turns lawful =
    record {
      best = best_by_basis p lawful s (optimal_basis p s t z y at tab turns);
      certificate = prices_prove_optimal p lawful s
          (optimal_basis p s t z y at tab turns);
    }

same_tableau : (p : LinearProgram) (s : Basis) (t u : Tableau) → IsNonsingularBasis p s → IsTableau p s t → IsTableau p s u → SameTableau p s t u
same_tableau p s t u at first second = record {
  points = one_point p s t.point u.point at.is_basis.counted at.nonsingular first.is_point second.is_point;
  rates = one_table p.matrix (basics_of s) t.rate u.rate at.nonsingular first.are_rates second.are_rates;
}

-- where the path ends optimal, every tableau of the basis shows what is best
pub reported_is_best : (p : LinearProgram) (s : Basis) (t : Tableau) (z y : List ℚ) → IsTableau p s t → EndsAt p s (EndsOptimal z y) → IsNonsingularBasis p s →
    IsLinearProgram p → IsProvedBest p s t
reported_is_best p s t z y tab ends at lawful =
    let same = turn_same p s t ends.tableau lawful at.is_basis (same_tableau p s t ends.tableau at tab ends.is_tableau) in
    optimal_at p s t z y at tab (same ∙ ends.turns) lawful

-- where the objective is that of the objective row alone
abbrev pub HasNoChange : LinearProgram → Type 0
HasNoChange p = (z : Vector) → z p.objective ≡ objective_value p z

-- what the verdict of an end says is true
module _ (sheet : Sheet) (s : Basis) (steps : ℕ) (lawful : IsLinearProgram sheet.lp) (plain : HasNoChange sheet.lp) (at : IsNonsingularBasis sheet.lp s) where
  pub end_is_true : (ending : PathEnding) → EndsAt sheet.lp s ending → IsTrueOf sheet (verdict_of sheet steps ending)
  end_is_true (EndsOptimal z y) ends =
      let proved = optimal_end sheet.lp s z y lawful at ends in
      record { point = z; prices = y; best = proved.best; certificate = proved.certificate; is_objective = plain (value_at z) }
  end_is_true (EndsCrossed k) ends = let crossed = crossed_end sheet.lp s k ends in (crossed, infeasible_by_proof sheet.lp (by_crossed k crossed))
  end_is_true (EndsInfeasible w) ends =
      let ray = infeasible_end sheet.lp s w at.is_basis at.nonsingular ends in
      (record { ray = w; is_ray = ray; are_lines = refl }, infeasible_by_proof sheet.lp (by_ray _ ray))
  end_is_true (EndsUnbounded z d) ends =
      let proves = unbounded_end sheet.lp s z d lawful at.is_basis ends in
      (record { point = z; direction = d; proves = proves; is_objective = plain (value_at z); are_lines = refl }, unbounded_by_direction sheet.lp _ _ proves)

-- and so is the verdict of a path
pub path_is_true : (sheet : Sheet) (s : Basis) (bases : List Basis) (ending : PathEnding) (steps : ℕ) (verdict : PathVerdict) → IsLinearProgram sheet.lp →
    HasNoChange sheet.lp → IsNonsingularBasis sheet.lp s →
    PathEnds sheet.lp s bases ending → verdict ≡ verdict_of sheet steps ending → IsTrueOf sheet verdict
path_is_true sheet s bases ending steps verdict lawful plain at path is =
    subst (IsTrueOf sheet) (sym is) (end_is_true sheet (last_of s bases) steps lawful plain (path_leads sheet.lp s bases at path.is_path) ending path.ends)
