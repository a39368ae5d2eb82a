-- The formulas by which a solving statement may stop, beside those of an inverse. Each names its numbers in the evidence, and
-- the operation with its two operands that was refused; a number that a formula does not use is 0.
--     limit_numbered p i which     a limit of i: 1 is the lower one, 2 the upper one
--     PointFormula                 6, 7 and 10: the distance to a limit, that over a rate, and the sum of a point
--     SlackFormula                 6 with the number 3: a right-hand side, less the row's activity
--     MoveFormula to               8 and 9: a step by which p goes to the limit of the status to
--     RatioFormula                 14: the objective's rate over the rate of a basic
--     RangeFormula                 15: an end of an interval
--     ObjectiveFormula h           16 and 17: combined rates, where h is the change row
--     SlopeFormula shift           18: how fast a basic moves with the parameter, and when it reaches a limit
--     ShiftFormula shift           13: a limit at the parameter's value
use Rattle.std.specs.Prelude.{◌≡◌, ◌≢◌, ℕ, ◌-◌, ◌<◌, not, List, map, filter, take, Option, Some, None, slice_get, nat_eq, if◌then◌else◌, length}
use Rattle.exact_values.specs.Rational.{ℚ, zero_ℚ, ◌-ℚ◌, ◌*ℚ◌, ◌/ℚ◌}
use Rattle.frac128.specs.declared.Op.TheVariants.{Add, Sub, Mul, Div}
use Rattle.lp_definitions.specs.LinearProgram.{Matrix, LinearProgram, Vector, IsRow, IsVariable, variables, lower_of, upper_of, cost, value_at, HasNoLimits}
use Rattle.lp_definitions.specs.Basis.{Basics, is_in, basics_of, status_of, IsBasic, IsNonbasic, Tableau}
use Rattle.lp_definitions.specs.RatesEvidence.{Names, Refuses, sum_from}
use Rattle.lp_definitions.specs.declared.Evidence.{Evidence}
use Rattle.lp_definitions.specs.declared.Status.{Status}
use Rattle.lp_definitions.specs.declared.Status.TheVariants.{Bs, Ll, Ul, Fr}

abbrev pub limit_numbered : LinearProgram → ℕ → ℕ → Option ℚ
limit_numbered p i which = if nat_eq which 1 then lower_of p i else (if nat_eq which 2 then upper_of p i else None)

-- the number of the limit of a status
abbrev pub number_of_limit : Status → ℕ
number_of_limit Bs = 0
number_of_limit Ll = 1
number_of_limit Ul = 2
number_of_limit Fr = 0

abbrev pub nonbasics : Matrix → Basics → List ℕ
nonbasics a b = filter (λ k. not (is_in b k)) (variables a)

-- the program, a basis, and its point and rates
module _ (p : LinearProgram) (s : List Status) (t : Tableau) where
  abbrev pub IsIn : ℕ → Type 0
  IsIn k = IsBasic p.matrix (basics_of s) k

  abbrev pub IsOut : ℕ → Type 0
  IsOut k = IsNonbasic p.matrix (basics_of s) k

  -- j is the nonbasic before which so many others stand, in ascending order
  abbrev pub IsNonbasicAfter : ℕ → ℕ → Type 0
  IsNonbasicAfter term j = slice_get (nonbasics p.matrix (basics_of s)) term ≡ Some j

  -- the sum over the first so many nonbasics of the rates of i times f
  abbrev pub nonbasic_sum : Vector → ℕ → ℕ → ℚ
  nonbasic_sum f i term = sum_from zero_ℚ (map (λ j. t.rate i j *ℚ f j) (take term (nonbasics p.matrix (basics_of s))))

  pub data PointFormula (e : Evidence) : Type 0 where
    f6 : (i which : ℕ) (l : ℚ) → Names e 6 0 0 i 0 which → IsVariable p.matrix i → limit_numbered p i which ≡ Some l →
        Refuses e Sub l (t.point i) → PointFormula e
    f7 : (q i which : ℕ) (l : ℚ) → Names e 7 0 q i 0 which → IsIn i → IsOut q → limit_numbered p i which ≡ Some l → t.rate i q ≢ zero_ℚ →
        Refuses e Div (l -ℚ t.point i) (t.rate i q) → PointFormula e
    f10_product : (i j term : ℕ) → Names e 10 0 0 i j term → IsIn i → IsNonbasicAfter term j →
        Refuses e Mul (t.rate i j) (t.point j) → PointFormula e
    f10_sum : (i j term : ℕ) → Names e 10 0 0 i j term → IsIn i → IsNonbasicAfter term j →
        Refuses e Add (nonbasic_sum t.point i term) (t.rate i j *ℚ t.point j) → PointFormula e

  pub data SlackFormula (e : Evidence) : Type 0 where
    f6_slack : (i : ℕ) → Names e 6 0 0 i 0 3 → IsRow p.matrix i → Refuses e Sub (value_at p.rhs i) (t.point i) → SlackFormula e

  -- the change of q that brings r to the limit of the status to; where r is q itself, its rate is 1
  pub record IsStepTo (r q : ℕ) (to : Status) (step : ℚ) : Type 0 where
    pub limit : ℚ
    pub is_limit : limit_numbered p r (number_of_limit to) ≡ Some limit
    pub is_variable : IsVariable p.matrix r
    pub is_nonbasic : IsOut q
    pub moves : t.rate r q ≢ zero_ℚ
    pub is_step : step ≡ (limit -ℚ t.point r) /ℚ t.rate r q

  pub data MoveFormula (to : Status) (e : Evidence) : Type 0 where
    f8 : (r q i : ℕ) (step : ℚ) → Names e 8 r q i 0 0 → IsStepTo r q to step → IsVariable p.matrix i →
        Refuses e Mul step (t.rate i q) → MoveFormula to e
    f9 : (r q i : ℕ) (step : ℚ) → Names e 9 r q i 0 0 → IsStepTo r q to step → IsVariable p.matrix i →
        Refuses e Add (t.point i) (step *ℚ t.rate i q) → MoveFormula to e

  pub data RatioFormula (e : Evidence) : Type 0 where
    f14 : (i j : ℕ) → Names e 14 0 0 i j 0 → IsIn i → IsOut j → t.rate i j ≢ zero_ℚ →
        Refuses e Div (t.rate p.objective j) (t.rate i j) → RatioFormula e

  -- the limit of j at which the basic i reaches a limit; the cost of a nonbasic or of a basic column at which a rate becomes 0
  pub data RangeFormula (e : Evidence) : Type 0 where
    f15_limit : (i j which : ℕ) (stands l : ℚ) → Names e 15 0 0 i j which → IsIn i → IsOut j →
        limit_numbered p j (number_of_limit (status_of s j)) ≡ Some stands → limit_numbered p i which ≡ Some l → t.rate i j ≢ zero_ℚ →
        Refuses e Add stands ((l -ℚ t.point i) /ℚ t.rate i j) → RangeFormula e
    f15_nonbasic : (j : ℕ) → Names e 15 0 0 0 j 0 → IsOut j → p.rows < j →
        Refuses e Sub (cost p (j - p.rows)) (t.rate p.objective j) → RangeFormula e
    f15_basic : (i j : ℕ) → Names e 15 0 0 i j 0 → IsIn i → p.rows < i → IsOut j → t.rate i j ≢ zero_ℚ →
        Refuses e Sub (cost p (i - p.rows)) (t.rate p.objective j /ℚ t.rate i j) → RangeFormula e

  pub data ObjectiveFormula (h : ℕ) (e : Evidence) : Type 0 where
    f16 : (j : ℕ) → Names e 16 0 0 0 j 0 → IsOut j → t.rate h j ≢ zero_ℚ →
        Refuses e Div (t.rate p.objective j) (t.rate h j) → ObjectiveFormula h e
    f17_product : (j : ℕ) → Names e 17 0 0 0 j 0 → IsOut j → Refuses e Mul e.theta (t.rate h j) → ObjectiveFormula h e
    f17_sum : (j : ℕ) → Names e 17 0 0 0 j 0 → IsOut j →
        Refuses e Add (t.rate p.objective j) (e.theta *ℚ t.rate h j) → ObjectiveFormula h e

  -- how fast the basic i moves with the parameter, less how fast its limits do
  abbrev pub closing : Vector → ℕ → ℚ
  closing shift i = nonbasic_sum shift i (length (nonbasics p.matrix (basics_of s))) -ℚ shift i

  -- the program and the basis's point are those at the value 0 of the parameter
  pub data SlopeFormula (shift : Vector) (e : Evidence) : Type 0 where
    f18_product : (i j term : ℕ) → Names e 18 0 0 i j term → IsIn i → IsNonbasicAfter term j →
        Refuses e Mul (t.rate i j) (shift j) → SlopeFormula shift e
    f18_sum : (i j term : ℕ) → Names e 18 0 0 i j term → IsIn i → IsNonbasicAfter term j →
        Refuses e Add (nonbasic_sum shift i term) (t.rate i j *ℚ shift j) → SlopeFormula shift e
    f18_difference : (i : ℕ) → Names e 18 0 0 i 0 0 → IsIn i →
        Refuses e Sub (nonbasic_sum shift i (length (nonbasics p.matrix (basics_of s)))) (shift i) → SlopeFormula shift e
    f18_quotient : (i which : ℕ) (l : ℚ) → Names e 18 0 0 i 0 which → IsIn i → limit_numbered p i which ≡ Some l → closing shift i ≢ zero_ℚ →
        Refuses e Div (l -ℚ t.point i) (closing shift i) → SlopeFormula shift e

-- a limit of a row with its shift; p is the program at the value 0 of the parameter
pub data ShiftFormula (p : LinearProgram) (shift : Vector) (e : Evidence) : Type 0 where
  f13_product : (i : ℕ) → Names e 13 0 0 i 0 0 → IsRow p.matrix i → ¬ HasNoLimits p i → Refuses e Mul e.theta (shift i) → ShiftFormula p shift e
  f13_limit : (i which : ℕ) (l : ℚ) → Names e 13 0 0 i 0 which → IsRow p.matrix i → limit_numbered p i which ≡ Some l →
      Refuses e Add l (e.theta *ℚ shift i) → ShiftFormula p shift e
