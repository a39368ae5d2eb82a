-- What is done at a basis depends on the point and the rates of the basis alone, at the variables.
use Rattle.std.proofs.Common.{◌≡◌, ℕ, Bool, true, false, List, refl, sym, ap, ap₂, ◌∙◌, arith}
use Rattle.std.specs.Prelude.{Option, Some, None, not, ◌&&◌, ◌||◌, option_map, if◌then◌else◌, nat_eq}
use Rattle.exact_values.specs.Rational.{ℚ, zero_ℚ, one_ℚ, neg_ℚ, ◌-ℚ◌, ◌/ℚ◌}
use Rattle.exact_values.specs.Tests.{lt_ℚ}
use Rattle.lp_definitions.specs.LinearProgram.{Matrix, LinearProgram, Vector, size, IsVariable, IsLinearProgram, lower_of, upper_of, for_min}
use Rattle.lp_definitions.specs.Basis.{is_in, basics_of, status_of, is_basic, IsBasis, IsNonbasic, Tableau, price_at, objective_rate}
use Rattle.lp_definitions.specs.declared.Status.{Status}
use Rattle.lp_definitions.specs.declared.Status.TheVariants.{Bs, Ll, Ul, Fr}
use Rattle.lp_laws.proofs.Uniqueness.{is_in-basics_of}
use Rattle.simplex_definitions.specs.Moves.{is_below, is_outside, is_fixed, rises_from, falls_from, lowers, entering, signed, goes_up, step_length, is_no_later}
use Rattle.simplex_definitions.specs.Moves.{reaches_first, blocking_variable, on_limit}
use Rattle.simplex_definitions.specs.Path.{Moves, Ends, EndsOptimal, EndsInfeasible, EndsUnbounded, listed, ray_of, excess_rate, speeds, crossed, outside}
use Rattle.simplex_definitions.specs.Path.{worth_rate, entering_variable, restore_feasibility, run_until, improve, turn_for, turn}
use Rattle.simplex_laws.proofs.Numbered.{find_same, find_some, list_all_same, map_same}
use Rattle.simplex_laws.proofs.UnboundedEnds.{enters, objective_value-same}

-- two tableaus have the same values at the variables, and the same rates at the nonbasics
pub record SameTableau (p : LinearProgram) (s : List Status) (t u : Tableau) : Type 0 where
  pub points : (k : ℕ) → IsVariable p.matrix k → t.point k ≡ u.point k
  pub rates : (i j : ℕ) → IsVariable p.matrix i → IsNonbasic p.matrix (basics_of s) j → t.rate i j ≡ u.rate i j

-- a basic variable lowers nothing
pub idle : (a b c : Bool) → ((a && (false && c)) || (b && (false && c))) ≡ false
idle true true c = refl
idle true false c = refl
idle false true c = refl
idle false false c = refl

pub idle_basic : (st : Status) (a b c : Bool) → is_basic st ≡ true → ((a && (rises_from st && c)) || (b && (falls_from st && c))) ≡ false
idle_basic Bs a b c e = idle a b c
idle_basic Ll a b c e = cc
idle_basic Ul a b c e = cc
idle_basic Fr a b c e = cc

module _ (p : LinearProgram) (s : List Status) (basis : IsBasis p s) where
  pub lowers_idle : (f : Vector) (k : ℕ) → IsVariable p.matrix k → is_in (basics_of s) k ≡ true → lowers p s f k ≡ false
  lowers_idle f k is mark =
      idle_basic (status_of s k) (lt_ℚ (f k) zero_ℚ) (lt_ℚ zero_ℚ (f k)) (not (is_fixed p k))
      (sym (is_in-basics_of s k is.0 (omega (arith, is.1, basis.counted))) ∙ mark)

  -- quantities with the same rate at k, if it is nonbasic
  pub lowers_same : (f g : Vector) (k : ℕ) → IsVariable p.matrix k → (IsNonbasic p.matrix (basics_of s) k → f k ≡ g k) → lowers p s f k ≡ lowers p s g k
  lowers_same f g k is same = by_mark (is_in (basics_of s) k) refl
    where
      by_mark : (mark : Bool) → is_in (basics_of s) k ≡ mark → lowers p s f k ≡ lowers p s g k
      by_mark true mark = lowers_idle f k is mark ∙ sym (lowers_idle g k is mark)
      by_mark false mark =
          ap (λ v. (lt_ℚ v zero_ℚ && (rises_from (status_of s k) && not (is_fixed p k))) ||
          (lt_ℚ zero_ℚ v && (falls_from (status_of s k) && not (is_fixed p k)))) (same (is, mark))

  -- quantities with the same rates at the nonbasics are lowered by the same variable
  pub entering_same : (f g : Vector) → ((k : ℕ) → IsNonbasic p.matrix (basics_of s) k → f k ≡ g k) → entering p s f ≡ entering p s g
  entering_same f g same = find_same (lowers p s f) (lowers p s g) (size p.matrix) 1 (λ k low high. lowers_same f g k (low, omega (arith, high)) (same k))

pub listed_same : (a : Matrix) (v w : Vector) → ((k : ℕ) → IsVariable a k → v k ≡ w k) → listed a v ≡ listed a w
listed_same a v w h = map_same v w (size a) 1 (λ k low high. h k (low, omega (arith, high)))

-- the variable that stops a motion, from the values and the speeds at the variables
step_length_at : LinearProgram → ℕ → ℚ → ℚ → Option ℚ
step_length_at p k z v = option_map (λ l. (l -ℚ z) /ℚ v) (if lt_ℚ zero_ℚ v then upper_of p k else (if lt_ℚ v zero_ℚ then lower_of p k else None))

step_length_same : (p : LinearProgram) (z y v w : Vector) (k : ℕ) → z k ≡ y k → v k ≡ w k → step_length p z v k ≡ step_length p y w k
unfolding step_length_at
step_length_same p z y v w k first second = ap₂ (step_length_at p k) first second

pub blocking_variable_same : (p : LinearProgram) (z y v w : Vector) → ((k : ℕ) → IsVariable p.matrix k → z k ≡ y k) → ((k : ℕ) → IsVariable p.matrix k → v k
    ≡ w k) →
    blocking_variable p z v ≡ blocking_variable p y w
blocking_variable_same p z y v w first second =
    find_same (reaches_first p z v) (reaches_first p y w) (size p.matrix) 1 (λ k low high.
    list_all_same (λ i. is_no_later (step_length p z v k) (step_length p z v i)) (λ i. is_no_later (step_length p y w k) (step_length p y w i))
    (size p.matrix) 1 (λ i from to.
    ap₂ is_no_later (step_lengths k (low, omega (arith, high))) (step_lengths i (from, omega (arith, to)))))
  where
    step_lengths : (k : ℕ) → IsVariable p.matrix k → step_length p z v k ≡ step_length p y w k
    step_lengths k is = step_length_same p z y v w k (first k is) (second k is)

module _ (p : LinearProgram) (s : List Status) (t u : Tableau) (lawful : IsLinearProgram p) (basis : IsBasis p s) (same : SameTableau p s t u) where
  pub outside_same : outside p s t ≡ outside p s u
  outside_same =
      find_same (λ k. is_in (basics_of s) k && is_outside p t.point k) (λ k. is_in (basics_of s) k && is_outside p u.point k) (size p.matrix) 1 (λ k low high.
      ap (λ v. is_in (basics_of s) k && (on_limit (λ l. lt_ℚ v l) (lower_of p k) || on_limit (λ h. lt_ℚ h v) (upper_of p k)))
      (same.points k (low, omega (arith, high))))

  pub below_same : (r : ℕ) → IsVariable p.matrix r → is_below p t.point r ≡ is_below p u.point r
  below_same r is = ap (λ v. on_limit (λ l. lt_ℚ v l) (lower_of p r)) (same.points r is)

  pub worth_same : (q : ℕ) → IsNonbasic p.matrix (basics_of s) q → worth_rate p s t q ≡ worth_rate p s u q
  worth_same q out = ap (for_min p.sense) (objective_value-same p (λ i. t.rate i q) (λ i. u.rate i q) lawful (λ i is. same.rates i q is out))

  prices_same : (k : ℕ) → IsVariable p.matrix k → price_at p (basics_of s) t.rate k ≡ price_at p (basics_of s) u.rate k
  prices_same k is = at (is_in (basics_of s) k) refl
    where
      at : (mark : Bool) → is_in (basics_of s) k ≡ mark →
          (if mark then zero_ℚ else objective_rate p t.rate k) ≡ (if mark then zero_ℚ else objective_rate p u.rate k)
      at true mark = refl
      at false mark = objective_value-same p (λ i. t.rate i k) (λ i. u.rate i k) lawful (λ i out. same.rates i k out (is, mark))

  pub ray_same : (r : ℕ) → IsVariable p.matrix r → (below : Bool) → (k : ℕ) → IsVariable p.matrix k →
      ray_of (basics_of s) t.rate r below k ≡ ray_of (basics_of s) u.rate r below k
  ray_same r found below k is = at (nat_eq k r) (is_in (basics_of s) k) refl
    where
      at : (own mark : Bool) → is_in (basics_of s) k ≡ mark →
          (if own then signed below (neg_ℚ one_ℚ) else (if mark then zero_ℚ else signed below (t.rate r k))) ≡
          (if own then signed below (neg_ℚ one_ℚ) else (if mark then zero_ℚ else signed below (u.rate r k)))
      at true mark e = refl
      at false true e = refl
      at false false e = ap (signed below) (same.rates r k found (is, e))

  pub back_same : (r : ℕ) → IsVariable p.matrix r → (o : Option ℕ) → restore_feasibility p s t r o ≡ restore_feasibility p s u r o
  back_same r is (Some q) = ap (λ b. Moves (record { enters = q; leaves = r; to = if b then Ll else Ul })) (below_same r is)
  back_same r is None =
      ap (λ b. Ends (EndsInfeasible (listed p.matrix (ray_of (basics_of s) t.rate r b)))) (below_same r is)
      ∙ ap (λ xs. Ends (EndsInfeasible xs)) (listed_same p.matrix _ _ (ray_same r is (is_below p u.point r)))

  run_same : (q : ℕ) (v w : Vector) → ((k : ℕ) → IsVariable p.matrix k → v k ≡ w k) → (o : Option ℕ) → ((k : ℕ) → o ≡ Some k → IsVariable p.matrix k) →
      run_until p s t q v o ≡ run_until p s u q w o
  run_same q v w h (Some k) found = ap (λ x. Moves (record { enters = q; leaves = k; to = if lt_ℚ zero_ℚ x then Ul else Ll })) (h k (found k refl))
  run_same q v w h None found = ap₂ (λ xs ys. Ends (EndsUnbounded xs ys)) (listed_same p.matrix t.point u.point same.points) (listed_same p.matrix v w h)

  speeds_same : (q : ℕ) → IsNonbasic p.matrix (basics_of s) q → (k : ℕ) → IsVariable p.matrix k →
      speeds t.rate (goes_up (worth_rate p s t) q) q k ≡ speeds u.rate (goes_up (worth_rate p s u) q) q k
  speeds_same q out k is = ap₂ (λ r v. signed (lt_ℚ r zero_ℚ) v) (worth_same q out) (same.rates k q is out)

  pub improve_same : (o : Option ℕ) → ((q : ℕ) → o ≡ Some q → IsNonbasic p.matrix (basics_of s) q) → improve p s t o ≡ improve p s u o
  improve_same (Some q) out =
      let h = speeds_same q (out q refl) in
      ap (run_until p s t q (speeds t.rate (goes_up (worth_rate p s t) q) q)) (blocking_variable_same p t.point u.point _ _ same.points h)
      ∙ run_same q _ _ h (blocking_variable p u.point (speeds u.rate (goes_up (worth_rate p s u) q) q))
      (λ k e. let f = find_some _ (size p.matrix) 1 k e in (f.low, omega (arith, f.high)))
  improve_same None out = ap₂ (λ xs ys. Ends (EndsOptimal xs ys)) (listed_same p.matrix t.point u.point same.points) (listed_same p.matrix _ _ prices_same)

  pub excess_same : (r : ℕ) → IsVariable p.matrix r → (q : ℕ) → IsNonbasic p.matrix (basics_of s) q →
      excess_rate t.rate r (is_below p t.point r) q ≡ excess_rate u.rate r (is_below p u.point r) q
  excess_same r is q out = ap₂ (λ b v. signed (not b) v) (below_same r is) (same.rates r q is out)

  turns_same : (c o : Option ℕ) → ((r : ℕ) → o ≡ Some r → IsVariable p.matrix r) → turn_for p s t c o ≡ turn_for p s u c o
  turns_same (Some k) o found = refl
  turns_same None (Some r) found =
      back_same r (found r refl) (entering_variable p s t (Some r))
      ∙ ap (restore_feasibility p s u r) (entering_same p s basis _ _ (excess_same r (found r refl)))
  turns_same None None found =
      improve_same (entering_variable p s t None) (λ q e. (enters p s (worth_rate p s t) q basis e).nonbasic)
      ∙ ap (improve p s u) (entering_same p s basis _ _ worth_same)

  pub turn_same : turn p s t ≡ turn p s u
  unfolding turn
  turn_same =
      turns_same (crossed p s t) (outside p s t) (λ r e. let f = find_some _ (size p.matrix) 1 r e in (f.low, omega (arith, f.high)))
      ∙ ap (turn_for p s u (crossed p s u)) outside_same
