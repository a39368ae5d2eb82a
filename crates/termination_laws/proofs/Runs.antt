-- The length of a step of the second phase, and where it leads.
use Rattle.std.proofs.Common.{◌≡◌, ◌≢◌, ℕ, ◌⊎◌, inl, inr, Bool, true, false, List, pos, refl, sym, ap, subst, ◌∙◌}
use Rattle.std.specs.Prelude.{Some, if◌then◌else◌}
use Rattle.exact_values.specs.Rational.{ℚ, zero_ℚ, one_ℚ, ◌≤ℚ◌, ◌<ℚ◌}
use Rattle.exact_values.specs.Tests.{lt_ℚ}
use Rattle.exact_values.proofs.Ring.{by_ring3, ◌⊕◌, ◌⊖◌, ◌⊗◌, ◌≐◌, number}
use Rattle.exact_values.proofs.Order.{le_of_lt, le_by_product, lt_not_le, lt_from_le, lt_by_product, same_or_not, zero_below_one}
use Rattle.exact_values.proofs.TestsLaws.{lt_from_test, le_from_lt_fails}
use Rattle.exact_values.proofs.Signs.{neg_below}
use Rattle.lp_definitions.specs.LinearProgram.{LinearProgram, Vector, IsVariable, lower_of, upper_of, for_min, objective_value, size}
use Rattle.lp_definitions.specs.Solutions.{IsFeasible}
use Rattle.lp_definitions.specs.Basis.{IsPointOf, IsBasic, Tableau, IsTableau, is_in, is_basic, basics_of, status_of}
use Rattle.lp_definitions.specs.declared.Status.{Status}
use Rattle.lp_definitions.specs.declared.Status.TheVariants.{Bs, Ll, Ul}
use Rattle.lp_laws.specs.Vectors.{along}
use Rattle.lp_laws.proofs.Values.{clash}
use Rattle.lp_laws.proofs.Duality.{for_min-along}
use Rattle.lp_laws.proofs.Statuses.{status_of_basic, status_of_nonbasic}
use Rattle.simplex_definitions.specs.Moves.{is_fixed, lowers, signed, goes_up, step_length, reached}
use Rattle.simplex_definitions.specs.Path.{Move, Moves, after, stopped_by, worth_rate}
use Rattle.simplex_laws.specs.Laws.{IsNonsingularBasis}
use Rattle.simplex_laws.proofs.Numbered.{find_some}
use Rattle.simplex_laws.proofs.Motions.{ComesTo, stopped_is, length_of, comes, moved_point}
use Rattle.simplex_laws.proofs.Turns.{IsStoppedTurn, improving}
use Rattle.simplex_laws.proofs.Ends.{feasible}
use Rattle.simplex_laws.proofs.UnboundedEnds.{IsEntering, enters, improving_improves}
use Rattle.simplex_laws.proofs.Steps.{rate_apart, signed_zero}
use Rattle.termination_laws.proofs.Numbers.{Against}
use Rattle.termination_laws.proofs.Resting.{moving, blocked}

-- ---- the run of a stopped variable

-- what a stopped move does, by its length
pub record IsRun (p : LinearProgram) (s : List Status) (t : Tableau) (q k : ℕ) (next : List Status) : Type 0 where
  pub length : ℚ
  pub is_step_length : step_length p t.point (improving p s t q) k ≡ Some length
  pub forward : zero_ℚ ≤ℚ length
  pub moves : improving p s t q k ≢ zero_ℚ
  pub point : IsPointOf p next (along t.point length (improving p s t q))

module _ (p : LinearProgram) (s : List Status) (t : Tableau) (at : IsNonsingularBasis p s) (tab : IsTableau p s t) (m : Move) (q k : ℕ)
    (turn : IsStoppedTurn p s t (Moves m) q k) where
  pub move_is : m ≡ stopped_by q (improving p s t q) k
  move_is = let e = turn.gives in cc

  pub entered : IsEntering p s (worth_rate p s t) q
  entered = enters p s (worth_rate p s t) q at.is_basis turn.moves

  pub k_is : IsVariable p.matrix k
  k_is = stopped_is p t q k (goes_up (worth_rate p s t) q) turn.stops

  abbrev length_found : (x : ℚ) × (step_length p t.point (improving p s t q) k ≡ Some x)
  length_found = length_of p t q k (goes_up (worth_rate p s t) q) turn.stops

  within : IsFeasible p t.point
  within = feasible p s t at.is_basis tab turn.phase

  reaches : ComesTo (lower_of p k) (upper_of p k) (t.point k) (improving p s t q k) length_found.0
  reaches = comes p t q k (goes_up (worth_rate p s t) q) turn.stops within

  pub run_of : IsRun p s t q k (after s m)
  run_of = record {
    length = length_found.0;
    is_step_length = length_found.1;
    forward = reaches.forward;
    moves = reaches.moves;
    point = subst (λ n. IsPointOf p (after s n) (along t.point length_found.0 (improving p s t q))) (sym move_is)
        (moved_point p t q k (goes_up (worth_rate p s t) q) turn.stops within s at tab entered.nonbasic);
  }

  -- the objective is never made worse, and a step that leaves it as it is has no length
  pub run_no_worse : (x : ℚ) → zero_ℚ ≤ℚ x →
      for_min p.sense (objective_value p (along t.point x (improving p s t q))) ≤ℚ for_min p.sense (objective_value p t.point)
  run_no_worse x forward =
      subst (λ y. y ≤ℚ for_min p.sense (objective_value p t.point)) (sym (for_min-along p t.point x (improving p s t q)))
      (le_by_product forward (le_of_lt (improving_improves p s t at.is_basis tab q entered))
      (by_ring3 (for_min p.sense (objective_value p t.point)) x (for_min p.sense (objective_value p (improving p s t q)))
      (λ z x d. z ≐ (z ⊕ x ⊗ d) ⊕ (x ⊖ number (pos 0)) ⊗ (number (pos 0) ⊖ d)) refl))

  pub no_length : (x : ℚ) → zero_ℚ ≤ℚ x →
      for_min p.sense (objective_value p t.point) ≤ℚ for_min p.sense (objective_value p (along t.point x (improving p s t q))) → x ≡ zero_ℚ
  no_length x forward as_good = by_length (same_or_not x zero_ℚ)
    where
      improve : zero_ℚ <ℚ x → for_min p.sense (objective_value p (along t.point x (improving p s t q))) <ℚ for_min p.sense (objective_value p t.point)
      improve ahead =
          subst (λ y. y <ℚ for_min p.sense (objective_value p t.point)) (sym (for_min-along p t.point x (improving p s t q)))
          (lt_by_product ahead (improving_improves p s t at.is_basis tab q entered)
          (by_ring3 (for_min p.sense (objective_value p t.point)) x (for_min p.sense (objective_value p (improving p s t q)))
          (λ z x d. z ≐ (z ⊕ x ⊗ d) ⊕ (x ⊖ number (pos 0)) ⊗ (number (pos 0) ⊖ d)) refl))

      by_length : ((x ≡ zero_ℚ) ⊎ (x ≢ zero_ℚ)) → x ≡ zero_ℚ
      by_length (inl none) = none
      by_length (inr apart) = absurd (lt_not_le (improve (lt_from_le forward (λ e. apart (sym e)))) as_good)

  -- ---- a step without length is an exchange

  module _ (at_once : step_length p t.point (improving p s t q) k ≡ Some zero_ℚ) where
    -- what may move is not itself stopped at once
    no_flip : k ≢ q
    no_flip same =
        by_way (goes_up (worth_rate p s t) q) refl
        (subst (λ d. Against (worth_rate p s t q) d) (ap (signed (goes_up (worth_rate p s t) q)) (tab.are_rates q entered.nonbasic).own)
        (blocked (status_of s q) (lower_of p q) (upper_of p q) (t.point q) (worth_rate p s t q) (improving p s t q q)
        (at.is_basis.allowed q entered.is_variable) (tab.is_point.placed q entered.is_variable)
        (moving (status_of s q) (is_fixed p q) (worth_rate p s t q) (find_some (lowers p s (worth_rate p s t)) (size p.matrix) 1 q turn.moves).passes)
        (subst (λ i. step_length p t.point (improving p s t q) i ≡ Some zero_ℚ) same at_once)))
      where
        by_way : (up : Bool) → goes_up (worth_rate p s t) q ≡ up → Against (worth_rate p s t q) (signed up one_ℚ) → ⊥
        by_way true is h = lt_not_le zero_below_one (h.rising (lt_from_test (worth_rate p s t q) zero_ℚ is))
        by_way false is h =
            lt_not_le (neg_below one_ℚ zero_below_one)
            (h.falling (lt_from_le (le_from_lt_fails (worth_rate p s t q) zero_ℚ is) (λ e. rate_apart p s (worth_rate p s t) q entered (sym e))))

    stopped_basic : IsBasic p.matrix (basics_of s) k
    stopped_basic = (k_is, by_mark (is_in (basics_of s) k) refl)
      where
        by_mark : (mark : Bool) → is_in (basics_of s) k ≡ mark → mark ≡ true
        by_mark true is = refl
        by_mark false is =
            absurd (reaches.moves
            (ap (signed (goes_up (worth_rate p s t) q)) ((tab.are_rates q entered.nonbasic).others k (k_is, is) no_flip)
            ∙ signed_zero (goes_up (worth_rate p s t) q)))

    pub stopped_leaves : status_of s k ≡ Bs
    stopped_leaves = status_of_basic p s at.is_basis k stopped_basic

    pub entering_variable_enters : status_of s q ≢ Bs
    entering_variable_enters e = clash (sym (ap is_basic e) ∙ status_of_nonbasic p s at.is_basis q entered.nonbasic)

pub reached_apart : (v : Vector) (k : ℕ) → reached v k ≢ Bs
reached_apart v k = by_test (lt_ℚ zero_ℚ (v k))
  where
    by_test : (up : Bool) → (if up then Ul else Ll) ≢ Bs
    by_test true e = cc
    by_test false e = cc
