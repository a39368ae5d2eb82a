-- A step: the limit to which its blocking variable goes, and the basis to which it leads.
use Rattle.std.proofs.Common.{◌≡◌, ◌≢◌, ℕ, ◌-◌, List, Bool, true, false, ◌⊎◌, inl, inr, refl, sym, ap, ◌∙◌, subst}
use Rattle.std.specs.Prelude.{Option, Some, None, option_map, unwrap_or, eqb, if◌then◌else◌}
use Rattle.std.proofs.lemmas.Bool.Decides.{eqb_tells}
use Rattle.std.proofs.lemmas.List.{set-set}
use Rattle.exact_values.specs.Rational.{ℚ, zero_ℚ, inverse_ℚ, ◌+ℚ◌, ◌-ℚ◌, ◌*ℚ◌, ◌/ℚ◌}
use Rattle.exact_values.specs.Tests.{lt_ℚ}
use Rattle.exact_values.proofs.Inverse.{mul-inverse}
use Rattle.exact_values.proofs.Ring.{by_ring1, by_ring3, by_ring4, ◌⊕◌, ◌⊖◌, ◌⊗◌, ◌≐◌, opposite}
use Rattle.exact_values.proofs.RingLaws.{mul-one}
use Rattle.lp_definitions.specs.LinearProgram.{Matrix, LinearProgram, Vector, size, IsVariable, lower_of, upper_of}
use Rattle.lp_definitions.specs.Basis.{Basics, basics_of, is_in, is_basic, status_of, with_status, exchanged, IsBasis, IsBasic, IsNonbasic, IsNonsingular}
use Rattle.lp_definitions.specs.Basis.{IsDirectionOf, IsPointOf, IsAllowed, StandsAt}
use Rattle.lp_definitions.specs.declared.Status.{Status}
use Rattle.lp_definitions.specs.declared.Status.TheVariants.{Bs, Ll, Ul, Fr}
use Rattle.lp_laws.specs.Vectors.{along}
use Rattle.lp_laws.proofs.Values.{clash}
use Rattle.lp_laws.proofs.Equations.{KeepsEquations-same}
use Rattle.lp_laws.proofs.Exchange.{IsNonsingular-exchanged}
use Rattle.lp_laws.proofs.Statuses.{basics_of-replaced, basics_of-flipped, status_of_basic, status_of_nonbasic, IsBasis-replaced, IsBasis-flipped}
use Rattle.lp_laws.proofs.Uniqueness.{one_point}
use Rattle.lp_laws.proofs.Points.{IsPointOf-replaced, IsPointOf-flipped}
use Rattle.simplex_definitions.specs.Moves.{signed, limit_ahead, step_length, blocking_variable}
use Rattle.simplex_laws.proofs.BlockingVariables.{blocking_variable_some, reaches_limit}
use Rattle.simplex_laws.proofs.Steps.{ahead_some}
use Rattle.simplex_definitions.specs.Formulas.{limit_numbered, number_of_limit}
use Rattle.basis_values.specs.Calls.{HasRates}
use Rattle.basis_values.specs.Motions.{motion}
use Rattle.bounded_primal.specs.KeptPoints.{AgreesWithPoint}
use Rattle.bounded_primal.specs.Steps.{IsMoved, IsMovedAtLimits}
use Rattle.bounded_primal.specs.Moves.{stop_at, IsStepBy, is_blocking_variable, brings}
use Rattle.bounded_primal.specs.declared.moves.BlockingVariable.{BlockingVariable}
use Rattle.basis_values.proofs.Lengths.{signed_over}
use Rattle.bounded_primal.proofs.Agreement.{agrees_moved}

-- the blocking variable goes to a limit that it has, and the step brings it there
pub record ReachesLimit (p : LinearProgram) (z d : Vector) (by : BlockingVariable) : Type 0 where
  pub is_variable : IsVariable p.matrix by.p
  pub limit : ℚ
  pub is_limit : limit_numbered p by.p (number_of_limit by.to) ≡ Some limit
  pub is_step : by.step ≡ (limit -ℚ z by.p) /ℚ d by.p

ahead_numbered : (p : LinearProgram) (k : ℕ) (l : ℚ) (up down : Bool) → (if up then upper_of p k else (if down then lower_of p k else None)) ≡ Some l →
    limit_numbered p k (number_of_limit (if up then Ul else Ll)) ≡ Some l
ahead_numbered p k l true down e = e
ahead_numbered p k l false true e = e
ahead_numbered p k l false false e = cc

signed_twice : (up : Bool) (x : ℚ) → signed up (signed up x) ≡ x
signed_twice true x = refl
signed_twice false x = by_ring1 x (λ x. opposite (opposite x) ≐ x) refl

stop_reaches : (p : LinearProgram) (z d : Vector) (up : Bool) (k : ℕ) → blocking_variable p z (motion d up) ≡ Some k → d k ≢ zero_ℚ →
    ReachesLimit p z d (stop_at p z d up k)
stop_reaches p z d up k found moves =
    let first = blocking_variable_some p z (motion d up) k found in
    let reach = reaches_limit (step_length p z (motion d up) k) (step_length p z (motion d up) k) (first.1 k first.0) in
    let there = ahead_some (limit_ahead p (motion d up) k) (z k) (motion d up k) reach.0 reach.1 in
    record {
      is_variable = first.0;
      limit = there.0;
      is_limit = ahead_numbered p k there.0 (lt_ℚ zero_ℚ (motion d up k)) (lt_ℚ (motion d up k) zero_ℚ) there.1;
      is_step = ap (λ o. signed up (unwrap_or (option_map (λ l. (l -ℚ z k) /ℚ motion d up k) o) zero_ℚ)) there.1
          ∙ ap (signed up) (sym (signed_over up (there.0 -ℚ z k) (d k) moves)) ∙ signed_twice up ((there.0 -ℚ z k) /ℚ d k);
    }

stops_reaches : (p : LinearProgram) (z d : Vector) (up : Bool) (by : BlockingVariable) (o : Option ℕ) → blocking_variable p z (motion d up) ≡ o →
    option_map (stop_at p z d up) o ≡ Some by → d by.p ≢ zero_ℚ → ReachesLimit p z d by
stops_reaches p z d up by None found e moves = cc
stops_reaches p z d up by (Some k) found e moves =
    let same : stop_at p z d up k ≡ by = cc in
    subst (ReachesLimit p z d) same (stop_reaches p z d up k found (subst (λ (b : BlockingVariable). d b.p ≢ zero_ℚ) (sym same) moves))

pub step_reaches : (p : LinearProgram) (s : List Status) (z d : Vector) (q : ℕ) (by : BlockingVariable) → IsStepBy p s z d q by → d by.p ≢ zero_ℚ →
    ReachesLimit p z d by
step_reaches p s z d q by (is_blocking_variable up feasible may found) moves = stops_reaches p z d up by (blocking_variable p z (motion d up)) refl found moves
step_reaches p s z d q by (brings l basic limit step) moves = record { is_variable = basic.0; limit = l; is_limit = limit; is_step = step }

-- ---- where it stands after the step

pub limit_apart : (p : LinearProgram) (k : ℕ) (to : Status) (l : ℚ) → limit_numbered p k (number_of_limit to) ≡ Some l → (to ≢ Bs) × (to ≢ Fr)
limit_apart p k Bs l e = cc
limit_apart p k Ll l e = ((λ same. cc), (λ same. cc))
limit_apart p k Ul l e = ((λ same. cc), (λ same. cc))
limit_apart p k Fr l e = cc

limit_allowed : (p : LinearProgram) (k : ℕ) (to : Status) (l : ℚ) → limit_numbered p k (number_of_limit to) ≡ Some l →
    IsAllowed to (lower_of p k) (upper_of p k)
limit_allowed p k Bs l e = tt
limit_allowed p k Ll l e = rw e refl
limit_allowed p k Ul l e = rw e refl
limit_allowed p k Fr l e = cc

limit_stands : (p : LinearProgram) (k : ℕ) (to : Status) (l : ℚ) → limit_numbered p k (number_of_limit to) ≡ Some l →
    StandsAt to (lower_of p k) (upper_of p k) l
limit_stands p k Bs l e = tt
limit_stands p k Ll l e = e
limit_stands p k Ul l e = e
limit_stands p k Fr l e = cc

-- a vector with the point's values at the variables is the point
pub point_same : (p : LinearProgram) (s : List Status) (z w : Vector) → ((k : ℕ) → IsVariable p.matrix k → w k ≡ z k) → IsPointOf p s z → IsPointOf p s w
point_same p s z w same point = record {
  keeps = KeepsEquations-same p.matrix z w (λ k is. sym (same k is)) point.keeps;
  placed = λ k is. subst (StandsAt (status_of s k) (lower_of p k) (upper_of p k)) (sym (same k is)) (point.placed k is);
}

-- a length over a rate, times the rate
pub comes_to : (z l d : ℚ) → d ≢ zero_ℚ → z +ℚ ((l -ℚ z) /ℚ d) *ℚ d ≡ l
comes_to z l d some =
    by_ring4 z l d (inverse_ℚ d) (λ z l d i. z ⊕ (l ⊖ z) ⊗ i ⊗ d ≐ z ⊕ (l ⊖ z) ⊗ (d ⊗ i)) refl
    ∙ ap (λ x. z +ℚ (l -ℚ z) *ℚ x) (mul-inverse d some) ∙ ap (λ x. z +ℚ x) (mul-one (l -ℚ z)) ∙ back z l
  where
    back : (z l : ℚ) → z +ℚ (l -ℚ z) ≡ l
    back z l = by_ring3 z l z (λ z l u. z ⊕ (l ⊖ z) ≐ l) refl

module _ (p : LinearProgram) (s : List Status) (z d : Vector) (q : ℕ) (by : BlockingVariable) (basis : IsBasis p s) (nonsingular : IsNonsingular p.matrix
    (basics_of s))
    (out : IsNonbasic p.matrix (basics_of s) q)
    (direction : IsDirectionOf p.matrix (basics_of s) q d) (moves : d by.p ≢ zero_ℚ) (step : IsStepBy p s z d q by) where
  pub reaches : ReachesLimit p z d by
  reaches = step_reaches p s z d q by step moves

  pub to_limit : (by.to ≢ Bs) × (by.to ≢ Fr)
  to_limit = limit_apart p by.p by.to reaches.limit reaches.is_limit

  allowed : IsAllowed by.to (lower_of p by.p) (upper_of p by.p)
  allowed = limit_allowed p by.p by.to reaches.limit reaches.is_limit

  pub not_basic : status_of s q ≢ Bs
  not_basic e = clash (sym (ap is_basic e) ∙ status_of_nonbasic p s basis q out)

  -- a blocking variable other than q is basic
  pub leaver_basic : by.p ≢ q → IsBasic p.matrix (basics_of s) by.p
  leaver_basic other = (reaches.is_variable, at (is_in (basics_of s) by.p) refl)
    where
      at : (m : Bool) → is_in (basics_of s) by.p ≡ m → is_in (basics_of s) by.p ≡ true
      at true e = e
      at false e = absurd (moves (direction.others by.p (reaches.is_variable, e) other))

  pub leaver_status : by.p ≢ q → status_of s by.p ≡ Bs
  leaver_status other = status_of_basic p s basis by.p (leaver_basic other)

  stands : StandsAt by.to (lower_of p by.p) (upper_of p by.p) (along z by.step d by.p)
  stands =
      subst (StandsAt by.to (lower_of p by.p) (upper_of p by.p))
      (sym (ap (λ x. z by.p +ℚ x *ℚ d by.p) reaches.is_step ∙ comes_to (z by.p) reaches.limit (d by.p) moves))
      (limit_stands p by.p by.to reaches.limit reaches.is_limit)

  -- q takes the place of another
  pub basics_replaced : basics_of (with_status (with_status s q Bs) by.p by.to) ≡ exchanged (basics_of s) by.p q
  basics_replaced = basics_of-replaced s by.p q by.to to_limit.0

  pub has_replaced : (a : Matrix) (b : Basics) → by.p ≢ q → a ≡ p.matrix → b ≡ exchanged (basics_of s) by.p q →
      HasRates a b p (with_status (with_status s q Bs) by.p by.to)
  has_replaced a b other same_matrix same_basics = record {
    is_basis = IsBasis-replaced p s basis by.p q by.to reaches.is_variable out.0 (leaver_status other) not_basic to_limit.0 to_limit.1 allowed;
    nonsingular =
        subst (IsNonsingular p.matrix) (sym basics_replaced)
        (IsNonsingular-exchanged p.matrix (basics_of s) by.p q d nonsingular (leaver_basic other) out direction moves);
    same_matrix = same_matrix;
    same_basics = same_basics ∙ sym basics_replaced;
  }

  pub point_replaced : IsPointOf p s z → IsPointOf p (with_status (with_status s q Bs) by.p by.to) (along z by.step d)
  point_replaced point = IsPointOf-replaced p s basis z point q out.0 d direction by.step by.p by.to reaches.is_variable stands

  -- q comes to its other limit
  pub flip_is : by.p ≡ q → with_status s q by.to ≡ with_status (with_status s q Bs) by.p by.to
  flip_is same = sym (set-set s (q - 1) Bs by.to) ∙ ap (λ k. with_status (with_status s q Bs) k by.to) (sym same)

  pub basics_flipped : basics_of (with_status s q by.to) ≡ basics_of s
  basics_flipped = basics_of-flipped s q by.to not_basic to_limit.0

  pub has_flipped : (a : Matrix) (b : Basics) → by.p ≡ q → a ≡ p.matrix → b ≡ basics_of s → HasRates a b p (with_status s q by.to)
  has_flipped a b same same_matrix same_basics = record {
    is_basis =
        IsBasis-flipped p s basis q by.to out.0 not_basic to_limit.0 to_limit.1 (subst (λ k. IsAllowed by.to (lower_of p k) (upper_of p k)) same allowed);
    nonsingular = subst (IsNonsingular p.matrix) (sym basics_flipped) nonsingular;
    same_matrix = same_matrix;
    same_basics = same_basics ∙ sym basics_flipped;
  }

  pub point_flipped : by.p ≡ q → IsPointOf p s z → IsPointOf p (with_status s q by.to) (along z by.step d)
  point_flipped same point =
      IsPointOf-flipped p s basis z point q out.0 d direction by.step by.to
      (subst (λ k. StandsAt by.to (lower_of p k) (upper_of p k) (along z by.step d k)) same stands)

  -- ---- the values of a vector x, which are those of y after the step

  module _ (point : IsPointOf p s z) (x y : Vector) where
    comes : IsPointOf p s x → IsMoved by.step d x (size p.matrix) y → (k : ℕ) → IsVariable p.matrix k → y k ≡ along z by.step d k
    comes exact moved k is = moved k is.0 is.1 ∙ ap (λ v. v +ℚ by.step *ℚ d k) (one_point p s x z basis.counted nonsingular exact point k is)

    module _ (other : by.p ≢ q) where
      replaced : HasRates p.matrix (exchanged (basics_of s) by.p q) p (with_status (with_status s q Bs) by.p by.to)
      replaced = has_replaced p.matrix (exchanged (basics_of s) by.p q) other refl refl

      replaced_agrees : AgreesWithPoint p s x → IsMovedAtLimits p by.step d x (size p.matrix) y →
          AgreesWithPoint p (with_status (with_status s q Bs) by.p by.to) y
      replaced_agrees agrees =
          agrees_moved p (with_status (with_status s q Bs) by.p by.to) replaced.is_basis replaced.nonsingular z d by.step (point_replaced point) x y
          (agrees z point)

      replaced_exact : IsPointOf p s x → IsMoved by.step d x (size p.matrix) y → IsPointOf p (with_status (with_status s q Bs) by.p by.to) y
      replaced_exact exact moved = point_same p (with_status (with_status s q Bs) by.p by.to) (along z by.step d) y (comes exact moved) (point_replaced point)

    module _ (own : by.p ≡ q) where
      flipped : HasRates p.matrix (basics_of s) p (with_status s q by.to)
      flipped = has_flipped p.matrix (basics_of s) own refl refl

      flipped_agrees : AgreesWithPoint p s x → IsMovedAtLimits p by.step d x (size p.matrix) y → AgreesWithPoint p (with_status s q by.to) y
      flipped_agrees agrees =
          agrees_moved p (with_status s q by.to) flipped.is_basis flipped.nonsingular z d by.step (point_flipped own point) x y (agrees z point)

      flipped_exact : IsPointOf p s x → IsMoved by.step d x (size p.matrix) y → IsPointOf p (with_status s q by.to) y
      flipped_exact exact moved = point_same p (with_status s q by.to) (along z by.step d) y (comes exact moved) (point_flipped own point)

    -- either way the basis goes over to this one
    pub after_agrees : AgreesWithPoint p s x → IsMovedAtLimits p by.step d x (size p.matrix) y →
        AgreesWithPoint p (with_status (with_status s q Bs) by.p by.to) y
    after_agrees agrees moved = at (eqb_tells by.p q)
      where
        at : (((eqb by.p q ≡ true) × (by.p ≡ q)) ⊎ ((eqb by.p q ≡ false) × (by.p ≢ q))) → AgreesWithPoint p (with_status (with_status s q Bs) by.p by.to) y
        at (inl own) = subst (λ (next : List Status). AgreesWithPoint p next y) (flip_is own.1) (flipped_agrees own.1 agrees moved)
        at (inr other) = replaced_agrees other.1 agrees moved

    pub after_exact : IsPointOf p s x → IsMoved by.step d x (size p.matrix) y → IsPointOf p (with_status (with_status s q Bs) by.p by.to) y
    after_exact exact moved = at (eqb_tells by.p q)
      where
        at : (((eqb by.p q ≡ true) × (by.p ≡ q)) ⊎ ((eqb by.p q ≡ false) × (by.p ≢ q))) → IsPointOf p (with_status (with_status s q Bs) by.p by.to) y
        at (inl own) = subst (λ (next : List Status). IsPointOf p next y) (flip_is own.1) (flipped_exact own.1 exact moved)
        at (inr other) = replaced_exact other.1 exact moved
