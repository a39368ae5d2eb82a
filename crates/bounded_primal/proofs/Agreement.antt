-- Vectors that agree at the variables with limits: the path finds the same with each of them.
use Rattle.std.proofs.Common.{◌≡◌, ℕ, List, Bool, true, false, refl, sym, ap, ap₂, ◌∙◌, subst, arith}
use Rattle.std.specs.Prelude.{Option, Some, None, IsSome, IfSome, IsTrue, is_some, nat_eq, ◌||◌, ◌&&◌, option_map, unwrap_or, if◌then◌else◌}
use Rattle.std.proofs.lemmas.Bool.{or_left, or_right}
use Rattle.exact_values.specs.Rational.{ℚ, zero_ℚ, ◌+ℚ◌, ◌-ℚ◌, ◌*ℚ◌, ◌/ℚ◌, ◌≤ℚ◌}
use Rattle.exact_values.specs.Tests.{lt_ℚ}
use Rattle.lp_definitions.specs.LinearProgram.{LinearProgram, Vector, size, IsVariable, lower_of, upper_of}
use Rattle.lp_definitions.specs.Solutions.{IsWithinLimits}
use Rattle.lp_definitions.specs.Basis.{basics_of, is_in, IsBasis, IsNonsingular, IsPointOf}
use Rattle.lp_definitions.specs.declared.Evidence.{Evidence}
use Rattle.lp_definitions.specs.declared.Status.{Status}
use Rattle.lp_laws.specs.Vectors.{along}
use Rattle.lp_laws.proofs.Uniqueness.{one_point}
use Rattle.frac128.specs.declared.Op.TheVariants.{Sub, Div}
use Rattle.simplex_definitions.specs.Moves.{on_limit, is_below, is_above, is_outside, limit_ahead, step_length, blocking_variable, is_no_later, reaches_first}
use Rattle.simplex_definitions.specs.Moves.{signed, reached}
use Rattle.simplex_laws.proofs.Numbered.{find_same, list_all_same}
use Rattle.simplex_laws.proofs.BlockingVariables.{blocking_variable_some}
use Rattle.simplex_definitions.specs.Formulas.{limit_numbered, number_of_limit}
use Rattle.basis_values.specs.Formulas.{IsRefusal}
use Rattle.basis_values.specs.Motions.{motion}
use Rattle.basis_values.specs.Reach.{reach_formula, StepLengthRefused, SomeStepLengthRefused}
use Rattle.basis_values.specs.Reach as reach
use Rattle.basis_values.proofs.Existence.{rates_exist}
use Rattle.basis_values.proofs.RatesStops.{tableau_of, IsTableau-of}
use Rattle.bounded_primal.specs.KeptPoints.{all_kept, all_needed, has_limit, AgreesAtLimits, AgreesWithPoint}
use Rattle.bounded_primal.specs.declared.kept.Kept.{Kept}
use Rattle.bounded_primal.specs.declared.kept.Kept.TheVariants.{All, AllSoFar, Limited}
use Rattle.bounded_primal.specs.Moves.{stop_at, blocking_variable_of, return_by}
use Rattle.bounded_primal.specs.Steps.{IsMovedAtLimits, ReturnRefused, of_distance, of_quotient}
use Rattle.bounded_primal.specs.Turns.{least_outside}

-- a basis has a point
pub basis_point : (p : LinearProgram) (s : List Status) → IsBasis p s → IsNonsingular p.matrix (basics_of s) → (z : Vector) × IsPointOf p s z
basis_point p s basis nonsingular =
    let rates = rates_exist p.matrix (basics_of s) nonsingular in
    ((tableau_of p s basis nonsingular rates.0).point, (IsTableau-of p s basis nonsingular rates.0 rates.1).is_point)

-- the point agrees with itself
pub point_agrees : (p : LinearProgram) (s : List Status) → IsBasis p s → IsNonsingular p.matrix (basics_of s) → (z : Vector) → IsPointOf p s z →
    AgreesWithPoint p s z
point_agrees p s basis nonsingular z point w other k is limited = one_point p s z w basis.counted nonsingular point other k is

-- what is needed is kept
pub needed_kept : (kept : Kept) → IsTrue (all_needed kept) → IsTrue (all_kept kept)
needed_kept All h = h
needed_kept AllSoFar h = refl
needed_kept Limited h = h

-- the values that a step needs are those of the point, where x is it if all are needed
pub needed_same : (p : LinearProgram) (s : List Status) → IsBasis p s → IsNonsingular p.matrix (basics_of s) → (z : Vector) → IsPointOf p s z →
    (x : Vector) (all : Bool) → AgreesWithPoint p s x → (IsTrue all → IsPointOf p s x) →
    (k : ℕ) → IsVariable p.matrix k → IsTrue (all || has_limit p k) → x k ≡ z k
needed_same p s basis nonsingular z point x true agrees is_point k is needed = one_point p s x z basis.counted nonsingular (is_point refl) point k is
needed_same p s basis nonsingular z point x false agrees is_point k is needed = agrees z point k is needed

-- what a step moves agrees with the point to which it brings the point z, where what it moves agrees with z

pub agrees_moved : (p : LinearProgram) (next : List Status) → IsBasis p next → IsNonsingular p.matrix (basics_of next) → (z d : Vector) (t : ℚ) →
    IsPointOf p next (along z t d) → (x y : Vector) → AgreesAtLimits p x z →
    IsMovedAtLimits p t d x (size p.matrix) y → AgreesWithPoint p next y
agrees_moved p next basis nonsingular z d t point x y agrees moved w other k is limited =
    moved k is.0 is.1 limited ∙ ap (λ v. v +ℚ t *ℚ d k) (agrees k is limited) ∙ one_point p next (along z t d) w basis.counted nonsingular point other k is

-- ---- which variables have a limit

module _ (p : LinearProgram) (k : ℕ) where
  lower_counts : IsSome (lower_of p k) → IsTrue (has_limit p k)
  lower_counts some = or_left (is_some (lower_of p k)) (is_some (upper_of p k)) some

  upper_counts : IsSome (upper_of p k) → IsTrue (has_limit p k)
  upper_counts some = or_right (is_some (lower_of p k)) (is_some (upper_of p k)) some

  ahead_counts : (up down : Bool) → IsSome (if up then upper_of p k else (if down then lower_of p k else None)) → IsTrue (has_limit p k)
  ahead_counts true down some = upper_counts some
  ahead_counts false true some = lower_counts some
  ahead_counts false false some = cc

  numbered_counts : (first second : Bool) → IsSome (if first then lower_of p k else (if second then upper_of p k else None)) → IsTrue (has_limit p k)
  numbered_counts true second some = lower_counts some
  numbered_counts false true some = upper_counts some
  numbered_counts false false some = cc

test_same : (test : ℚ → ℚ → Bool) (o : Option ℚ) (x y : ℚ) → (IsSome o → x ≡ y) → on_limit (test x) o ≡ on_limit (test y) o
test_same test None x y h = refl
test_same test (Some l) x y h = ap (λ z. test z l) (h refl)

length_same : (o : Option ℚ) (x y v : ℚ) → (IsSome o → x ≡ y) → option_map (λ l. (l -ℚ x) /ℚ v) o ≡ option_map (λ l. (l -ℚ y) /ℚ v) o
length_same None x y v h = refl
length_same (Some l) x y v h = ap (λ z. Some ((l -ℚ z) /ℚ v)) (h refl)

under_same : (o : Option ℚ) (x y : ℚ) → (IsSome o → x ≡ y) → IfSome o (λ l. l ≤ℚ y) → IfSome o (λ l. l ≤ℚ x)
under_same None x y h within = within
under_same (Some l) x y h within = subst (λ z. l ≤ℚ z) (sym (h refl)) within

over_same : (o : Option ℚ) (x y : ℚ) → (IsSome o → x ≡ y) → IfSome o (λ u. y ≤ℚ u) → IfSome o (λ u. x ≤ℚ u)
over_same None x y h within = within
over_same (Some u) x y h within = subst (λ z. z ≤ℚ u) (sym (h refl)) within

some_is : {o : Option ℚ} {l : ℚ} → o ≡ Some l → IsSome o
some_is {o} {l} e = subst (λ (x : Option ℚ). IsSome x) (sym e) refl

module _ (p : LinearProgram) (z w : Vector) (agrees : AgreesAtLimits p z w) where
  pub below_same : (k : ℕ) → IsVariable p.matrix k → is_below p z k ≡ is_below p w k
  below_same k is = test_same (λ x l. lt_ℚ x l) (lower_of p k) (z k) (w k) (λ some. agrees k is (lower_counts p k some))

  above_same : (k : ℕ) → IsVariable p.matrix k → is_above p z k ≡ is_above p w k
  above_same k is = test_same (λ x u. lt_ℚ u x) (upper_of p k) (z k) (w k) (λ some. agrees k is (upper_counts p k some))

  pub outside_same : (s : List Status) → least_outside p s z ≡ least_outside p s w
  outside_same s =
      find_same (λ k. is_in (basics_of s) k && is_outside p z k) (λ k. is_in (basics_of s) k && is_outside p w k) (size p.matrix) 1
      (λ k low high. ap₂ (λ a b. is_in (basics_of s) k && (a || b)) (below_same k (low, omega (arith, high))) (above_same k (low, omega (arith, high))))

  pub within_same : IsWithinLimits p w → IsWithinLimits p z
  within_same within k is = (
    under_same (lower_of p k) (z k) (w k) (λ some. agrees k is (lower_counts p k some)) (within k is).0,
    over_same (upper_of p k) (z k) (w k)
        (λ some. agrees k is (upper_counts p k some)) (within k is).1,
  )

  numbered_same : (k term : ℕ) (l : ℚ) → IsVariable p.matrix k → limit_numbered p k term ≡ Some l → z k ≡ w k
  numbered_same k term l is limit = agrees k is (numbered_counts p k (nat_eq term 1) (nat_eq term 2) (some_is limit))

  -- ---- what stops a motion

  step_length_agrees : (v : Vector) (k : ℕ) → IsVariable p.matrix k → step_length p z v k ≡ step_length p w v k
  step_length_agrees v k is =
      length_same (limit_ahead p v k) (z k) (w k) (v k) (λ some. agrees k is (ahead_counts p k (lt_ℚ zero_ℚ (v k)) (lt_ℚ (v k) zero_ℚ) some))

  blocking_variable_agrees : (v : Vector) → blocking_variable p z v ≡ blocking_variable p w v
  blocking_variable_agrees v =
      find_same (reaches_first p z v) (reaches_first p w v) (size p.matrix) 1 (λ k low high.
      list_all_same (λ i. is_no_later (step_length p z v k) (step_length p z v i)) (λ i. is_no_later (step_length p w v k) (step_length p w v i))
      (size p.matrix) 1 (λ i from to.
      ap₂ is_no_later (step_length_agrees v k (low, omega (arith, high))) (step_length_agrees v i (from, omega (arith, to)))))

  module _ (d : Vector) (up : Bool) where
    stop_same : (o : Option ℕ) → blocking_variable p w (motion d up) ≡ o → option_map (stop_at p z d up) o ≡ option_map (stop_at p w d up) o
    stop_same None found = refl
    stop_same (Some k) found =
        ap (λ (r : Option ℚ). Some (record { p = k; step = signed up (unwrap_or r zero_ℚ); to = reached (motion d up) k }))
        (step_length_agrees (motion d up) k (blocking_variable_some p w (motion d up) k found).0)

    pub blocking_variable_of_same : blocking_variable_of p z d up ≡ blocking_variable_of p w d up
    blocking_variable_of_same = ap (option_map (stop_at p z d up)) (blocking_variable_agrees (motion d up)) ∙ stop_same (blocking_variable p w (motion d up))
        refl

    pub step_length_refused : (q : ℕ) (e : Evidence) → SomeStepLengthRefused p z d up q e → SomeStepLengthRefused p w d up q e
    step_length_refused q e h = (h.0, h.1, at h.0 h.1 h.2)
      where
        at : (k : ℕ) → IsVariable p.matrix k → StepLengthRefused p z d up q k e → StepLengthRefused p w d up q k e
        at k is (reach.of_distance term l low ahead limit f) =
            reach.of_distance term l low ahead limit (subst (λ (x : ℚ). IsRefusal (reach_formula 6 0 k term) Sub l x e) (numbered_same k term l is limit) f)
        at k is (reach.of_quotient term l ahead limit moves other f) =
            reach.of_quotient term l ahead limit moves other
            (subst (λ (x : ℚ). IsRefusal (reach_formula 7 q k term) Div (l -ℚ x) (d k) e) (numbered_same k term l is limit) f)

  -- ---- what brings a variable back

  pub return_same : (d : Vector) (k : ℕ) (to : Status) → IsVariable p.matrix k → IsSome (limit_numbered p k (number_of_limit to)) →
      return_by p z d k to ≡ return_by p w d k to
  return_same d k to is some =
      ap (λ (x : ℚ). record { p = k; step = (unwrap_or (limit_numbered p k (number_of_limit to)) zero_ℚ -ℚ x) /ℚ d k; to = to })
      (agrees k is (numbered_counts p k (nat_eq (number_of_limit to) 1) (nat_eq (number_of_limit to) 2) some))

  pub return_refused : (d : Vector) (q k : ℕ) (to : Status) (e : Evidence) → IsVariable p.matrix k → ReturnRefused p z d q k to e → ReturnRefused p w d q k to e
  return_refused d q k to e is (of_distance l limit f) =
      of_distance l limit
      (subst (λ (x : ℚ). IsRefusal (reach_formula 6 0 k (number_of_limit to)) Sub l x e) (numbered_same k (number_of_limit to) l is limit) f)
  return_refused d q k to e is (of_quotient l limit other f) =
      of_quotient l limit other
      (subst (λ (x : ℚ). IsRefusal (reach_formula 7 q k (number_of_limit to)) Div (l -ℚ x) (d k) e) (numbered_same k (number_of_limit to) l is limit) f)
