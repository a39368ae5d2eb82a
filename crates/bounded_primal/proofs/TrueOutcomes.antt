-- What an outcome of the path says of the linear program is true.
use Rattle.std.proofs.Common.{◌≡◌, ℕ, List, length, refl, sym, ◌∙◌, ap, subst, arith}
use Rattle.std.proofs.lemmas.List.{length-map}
use Rattle.std.specs.Prelude.{Some, Result, Ok, Err, IfOk}
use Rattle.lp_definitions.specs.LinearProgram.{Matrix, LinearProgram, Vector, size, variables, value_at, IsLinearProgram}
use Rattle.lp_definitions.specs.Basis.{Basics, basics_of, price_at}
use Rattle.lp_definitions.specs.declared.Status.{Status}
use Rattle.exact_values.specs.Rational.{ℚ}
use Rattle.lp_laws.proofs.Opening.{length-numbers_from}
use Rattle.lp_laws.proofs.Duality.{infeasible_by_crossed, infeasible_by_ray, unbounded_by_direction}
use Rattle.lp_model.specs.declared.reports.Outcome.{Outcome}
use Rattle.lp_model.specs.declared.reports.Outcome.TheVariants.{Crossed}
use Rattle.simplex_definitions.specs.Moves.{least, is_crossed, is_below}
use Rattle.simplex_definitions.specs.Path.{turn, PathEnding, EndsOptimal, EndsCrossed, EndsInfeasible, EndsUnbounded, Ends, EndsAt, listed, ray_of, last_of}
use Rattle.simplex_laws.specs.Laws.{IsNonsingularBasis}
use Rattle.simplex_laws.proofs.Turns.{improving, rule_of, optimal_turn, infeasible_turn, unbounded_turn}
use Rattle.simplex_laws.proofs.Ends.{optimal_end}
use Rattle.simplex_laws.proofs.UnboundedEnds.{crossed_end, unbounded_end}
use Rattle.simplex_laws.proofs.Rays.{infeasible_end}
use Rattle.simplex_laws.proofs.OnePath.{path_leads}
use Rattle.simplex_definitions.specs.Counts.{counted_steps}
use Rattle.basis_values.specs.Calls.{HasRates}
use Rattle.bounded_primal.specs.Calls.{CallEnds, outcome_of}
use Rattle.bounded_primal.specs.Outcomes.{IsTrueOutcome}
use Rattle.bounded_primal.specs.Turns.{EndsHere}
use Rattle.bounded_primal.proofs.PathWalk.{begins, ends_there}
use Rattle.bounded_primal.proofs.TurnChoices.{crossed_ends}

-- a vector's list has a place for each variable
has_places : (a : Matrix) (f : Vector) (xs : List ℚ) → xs ≡ listed a f → length xs ≡ size a
has_places a f xs e = ap length e ∙ length-map (variables a) f ∙ length-numbers_from 1 (size a)

-- the lists of an end
module _ (p : LinearProgram) (s : List Status) where
  optimal_places : (z y : List ℚ) → EndsAt p s (EndsOptimal z y) → (length z ≡ size p.matrix) × (length y ≡ size p.matrix)
  optimal_places z y h =
      let t = h.tableau in
      let gives = (optimal_turn p s t z y (rule_of p s t (Ends (EndsOptimal z y)) h.turns)).gives in
      let first : z ≡ listed p.matrix t.point = cc in
      let second : y ≡ listed p.matrix (price_at p (basics_of s) t.rate) = cc in
      (has_places p.matrix t.point z first, has_places p.matrix (price_at p (basics_of s) t.rate) y second)

  ray_places : (w : List ℚ) → EndsAt p s (EndsInfeasible w) → length w ≡ size p.matrix
  ray_places w h =
      let t = h.tableau in
      let infeasible_ending = infeasible_turn p s t w (rule_of p s t (Ends (EndsInfeasible w)) h.turns) in
      let gives = infeasible_ending.1.gives in
      let first : w ≡ listed p.matrix (ray_of (basics_of s) t.rate infeasible_ending.0 (is_below p t.point infeasible_ending.0)) = cc in
      has_places p.matrix (ray_of (basics_of s) t.rate infeasible_ending.0 (is_below p t.point infeasible_ending.0)) w first

  unbounded_places : (z d : List ℚ) → EndsAt p s (EndsUnbounded z d) → (length z ≡ size p.matrix) × (length d ≡ size p.matrix)
  unbounded_places z d h =
      let t = h.tableau in
      let unbounded_ending = unbounded_turn p s t z d (rule_of p s t (Ends (EndsUnbounded z d)) h.turns) in
      let gives = unbounded_ending.1.gives in
      let first : z ≡ listed p.matrix t.point = cc in
      let second : d ≡ listed p.matrix (improving p s t unbounded_ending.0) = cc in
      (has_places p.matrix t.point z first, has_places p.matrix (improving p s t unbounded_ending.0) d second)

module _ (p : LinearProgram) (lawful : IsLinearProgram p) where
  pub true_end : (s : List Status) → IsNonsingularBasis p s → (steps : ℕ) (ending : PathEnding) → EndsAt p s ending → IsTrueOutcome p (outcome_of steps ending)
  true_end s at steps (EndsOptimal z y) ends =
      let proved = optimal_end p s z y lawful at ends in
      let places = optimal_places p s z y ends in
      record { point_places = places.0; price_places = places.1; best = proved.best; certificate = proved.certificate }
  true_end s at steps (EndsCrossed k) ends =
      let crossed = crossed_end p s k ends in record { crossed = crossed; infeasible = infeasible_by_crossed p k crossed }
  true_end s at steps (EndsInfeasible w) ends =
      let ray = infeasible_end p s w at.is_basis at.nonsingular ends in
      record { ray_places = ray_places p s w ends; certificate = ray; infeasible = infeasible_by_ray p (value_at w) ray }
  true_end s at steps (EndsUnbounded z d) ends =
      let certificate = unbounded_end p s z d lawful at.is_basis ends in
      let places = unbounded_places p s z d ends in
      record {
        point_places = places.0;
        direction_places = places.1;
        certificate = certificate;
        unbounded = unbounded_by_direction p (value_at z)
            (value_at d) certificate;
      }

  module _ (matrix : Matrix) (basics : Basics) (s : List Status) (has : HasRates matrix basics p s) where
    begun : IsNonsingularBasis p s
    begun = record { is_basis = has.is_basis; nonsingular = has.nonsingular }

    pub true_outcome : (now : List Status) (limit : ℕ) (outcome : Outcome) → CallEnds p s now limit outcome → IsTrueOutcome p outcome
    true_outcome now limit outcome h =
        subst (IsTrueOutcome p) (sym h.is_outcome)
        (true_end (last_of s h.bases) (path_leads p s h.bases begun h.ends.is_path) (counted_steps (length h.bases)) h.ending h.ends.ends)

    -- of a call that may have stopped
    pub true_result : {E : Type 0} (now : List Status) (limit : ℕ) (result : Result Outcome E) → IfOk result (CallEnds p s now limit) →
        IfOk result (IsTrueOutcome p)
    true_result now limit (Ok outcome) h = true_outcome now limit outcome h
    true_result now limit (Err stop) h = tt

-- the call that finds a crossed variable
module _ (p : LinearProgram) (matrix : Matrix) (basics : Basics) (s : List Status) (k : ℕ) (has : HasRates matrix basics p s)
    (found : Some k ≡ least p (is_crossed p)) where
  ended : EndsHere p s 0 (Crossed k)
  ended = crossed_ends p s k 0 has.is_basis has.nonsingular found

  pub crossed_call : (limit : ℕ) (before : List Basics) → CallEnds p s s limit (Crossed k)
  crossed_call limit before = ends_there turn p s before s before 0 (begins turn p s before) limit 0 (Crossed k) (omega arith) refl ended
