-- A step, variable by variable.
--     step_formula f p q i         formula 8 or 9 of the variable i, where q moves until p stops it
--     IsMoved t d z n w            the first n variables of w are those of z, each with t times its rate
--     IsMovedAtLimits p t d z n w  the same of those that have a limit
--     MovedRefused                 the product at i is refused, or the sum with it
--     ReturnRefused                the distance of k to the limit of the status to is refused, or that over the rate of k
use Rattle.std.specs.Prelude.{◌≡◌, ◌≢◌, ℕ, Bool, ◌≤◌, ◌||◌, Some, IsTrue}
use Rattle.exact_values.specs.Rational.{ℚ, zero_ℚ, one_ℚ, ◌+ℚ◌, ◌-ℚ◌, ◌*ℚ◌}
use Rattle.frac128.specs.declared.Op.TheVariants.{Add, Sub, Mul, Div}
use Rattle.lp_definitions.specs.LinearProgram.{LinearProgram, Vector, IsVariable}
use Rattle.lp_definitions.specs.declared.Evidence.{Evidence}
use Rattle.lp_definitions.specs.declared.Status.{Status}
use Rattle.simplex_definitions.specs.Formulas.{limit_numbered, number_of_limit}
use Rattle.basis_values.specs.Formulas.{IsRefusal}
use Rattle.basis_values.specs.Reach.{reach_formula}
use Rattle.basis_values.specs.declared.formula.Formula.{Formula}
use Rattle.bounded_primal.specs.KeptPoints.{has_limit}
use Rattle.bounded_primal.specs.declared.moves.BlockingVariable.{BlockingVariable}

abbrev pub step_formula : ℕ → ℕ → ℕ → ℕ → Formula
step_formula number p q i = record { number = number; p = p; q = q; i = i; j = 0; term = 0; theta = zero_ℚ }

abbrev pub IsMoved : ℚ → Vector → Vector → ℕ → Vector → Type 0
IsMoved t d z n w = (k : ℕ) → 1 ≤ k → k ≤ n → w k ≡ z k +ℚ t *ℚ d k

abbrev pub IsMovedAtLimits : LinearProgram → ℚ → Vector → Vector → ℕ → Vector → Type 0
IsMovedAtLimits p t d z n w = (k : ℕ) → 1 ≤ k → k ≤ n → IsTrue (has_limit p k) → w k ≡ z k +ℚ t *ℚ d k

pub data MovedRefused (t rate value : ℚ) (p q i : ℕ) (e : Evidence) : Type 0 where
  of_product : IsRefusal (step_formula 8 p q i) Mul t rate e → MovedRefused t rate value p q i e
  of_sum : IsRefusal (step_formula 9 p q i) Add value (t *ℚ rate) e → MovedRefused t rate value p q i e

-- that of some variable, whose rate is not 0 and whose value is needed: that of each is, where all are, and else of those with a limit
pub record SomeMovedRefused (p : LinearProgram) (all : Bool) (by : BlockingVariable) (d z : Vector) (q : ℕ) (e : Evidence) : Type 0 where
  pub i : ℕ
  pub is : IsVariable p.matrix i
  pub needed : IsTrue (all || has_limit p i)
  pub moves : d i ≢ zero_ℚ
  pub refused : MovedRefused by.step (d i) (z i) by.p q i e

pub data ReturnRefused (p : LinearProgram) (z d : Vector) (q k : ℕ) (to : Status) (e : Evidence) : Type 0 where
  of_distance : (l : ℚ) → limit_numbered p k (number_of_limit to) ≡ Some l → IsRefusal (reach_formula 6 0 k (number_of_limit to)) Sub l (z k) e →
      ReturnRefused p z d q k to e
  of_quotient : (l : ℚ) → limit_numbered p k (number_of_limit to) ≡ Some l → d k ≢ one_ℚ →
      IsRefusal (reach_formula 7 q k (number_of_limit to)) Div (l -ℚ z k) (d k) e → ReturnRefused p z d q k to e
