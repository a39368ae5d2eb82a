-- How long a motion lasts until a variable reaches the limit ahead of it.
use Rattle.std.proofs.Common.{◌≡◌, ◌≢◌, ℕ, ◌+◌, ◌≤◌, Bool, true, false, refl, sym, ◌∙◌, ap, ap₂, subst, arith, add-one, ℤ, pos, ◌<◌, ◌*◌, ◌^◌, ◌+ℤ◌, ◌*ℤ◌, ◌<ℤ◌}
use Rattle.std.proofs.Common.{◌≤ℤ◌, to_z, of_z, FitsSigned}
use Rattle.std.specs.Int.{w8}
use Rattle.frac128.proofs.Parts.{zero-minus, read, read_fitting}
use Rattle.frac128.specs.Terms.{Fits}
use Rattle.std.specs.Prelude.{Option, Some, None, option_map, int_lt, neg_ℤ, ◌-ℤ◌, unsigned_abs}
use Rattle.std.specs.declared.cmp.Ordering.{Ordering}
use Rattle.std.specs.declared.cmp.Ordering.TheVariants.{Less, Equal, Greater}
use Rattle.std.proofs.lemmas.Int.{ints, to_z-of_z}
use Rattle.exact_values.specs.Rational.{ℚ, zero_ℚ, one_ℚ, neg_ℚ, inverse_ℚ, fraction, ◌+ℚ◌, ◌-ℚ◌, ◌*ℚ◌, ◌/ℚ◌, ◌<ℚ◌, compare_ℚ, sign_of, sign_ℚ}
use Rattle.exact_values.specs.Tests.{lt_ℚ}
use Rattle.exact_values.proofs.Fractions.{add_fractions, neg_fraction, parts_make}
use Rattle.exact_values.proofs.RingLaws.{zero-add}
use Rattle.exact_values.proofs.Inverse.{inverse-neg}
use Rattle.exact_values.proofs.Order.{lt_irrefl, le_of_lt}
use Rattle.exact_values.proofs.Ring.{by_ring1, by_ring2, number, ◌⊗◌, ◌≐◌, opposite}
use Rattle.exact_values.proofs.TestsLaws.{lt_from_test, test_from_lt, lt_fails_from_le, above_from_positive, below_from_negative, sign_from_above}
use Rattle.exact_values.proofs.TestsLaws.{sign_from_below, sign_from_zero, zero_from_sign}
use Rattle.exact_values.proofs.Compare.{lt_from_compare, same_from_compare, gt_from_compare}
use Rattle.exact_values.proofs.Signs.{neg_above, neg_below}
use Rattle.lp_definitions.specs.LinearProgram.{LinearProgram, Vector, lower_of, upper_of}
use Rattle.simplex_definitions.specs.Moves.{limit_ahead, step_length, signed}
use Rattle.basis_values.specs.Motions.{motion}
use Rattle.frac128.specs.declared.Op.TheVariants.{Sub, Div}
use Rattle.lp_definitions.specs.declared.Evidence.{Evidence}
use Rattle.basis_values.specs.Formulas.{IsRefusal}
use Rattle.basis_values.specs.declared.formula.Formula.{Formula}
use Rattle.basis_values.specs.Reach.{IsAhead, IsNearest, sooner, reach_formula, StepLengthRefused, of_distance, of_quotient}
use Rattle.basis_values.specs.declared.reach.Ahead.{Ahead}
use Rattle.basis_values.specs.declared.reach.Reach.{Reach}
use Rattle.basis_values.proofs.Nearest.{next_nearest}

-- what rests has no limit ahead
pub none_ahead : (p : LinearProgram) (k : ℕ) (v : ℚ) → v ≡ zero_ℚ → IsAhead p (λ _. v) k None
none_ahead p k v e = subst (λ (x : ℚ). limit_ahead p (λ _. x) k ≡ None) (sym e) (rw at_rest refl)
  where
    by_test : (b : Bool) → lt_ℚ zero_ℚ zero_ℚ ≡ b → lt_ℚ zero_ℚ zero_ℚ ≡ false
    by_test true is = absurd (lt_irrefl (lt_from_test zero_ℚ zero_ℚ is))
    by_test false is = is

    at_rest : lt_ℚ zero_ℚ zero_ℚ ≡ false
    at_rest = by_test (lt_ℚ zero_ℚ zero_ℚ) refl

ahead_up : (p : LinearProgram) (k : ℕ) (v l : ℚ) → lt_ℚ zero_ℚ v ≡ true → upper_of p k ≡ Some l →
    IsAhead p (λ _. v) k (Some (record { term = 2; limit = l }))
ahead_up p k v l up is = (rw up is, is, omega arith, λ e. lt_irrefl (lt_from_test zero_ℚ zero_ℚ (subst (λ (x : ℚ). lt_ℚ zero_ℚ x ≡ true) e up)))

ahead_down : (p : LinearProgram) (k : ℕ) (v l : ℚ) → lt_ℚ zero_ℚ v ≡ false → lt_ℚ v zero_ℚ ≡ true → lower_of p k ≡ Some l →
    IsAhead p (λ _. v) k (Some (record { term = 1; limit = l }))
ahead_down p k v l not_up down is =
    (rw (not_up, down) is, is, omega arith, λ e. lt_irrefl (lt_from_test zero_ℚ zero_ℚ (subst (λ (x : ℚ). lt_ℚ x zero_ℚ ≡ true) e down)))

none_below : (p : LinearProgram) (k : ℕ) (v : ℚ) → lt_ℚ zero_ℚ v ≡ false → lt_ℚ v zero_ℚ ≡ true → lower_of p k ≡ None → IsAhead p (λ _. v) k None
none_below p k v not_up down is = rw (not_up, down) is

-- by the sign of the speed
module _ (p : LinearProgram) (k : ℕ) (v : ℚ) (sign : ℤ) (is : sign ≡ sign_ℚ v) where
  rises : int_lt (pos 0) sign ≡ true → lt_ℚ zero_ℚ v ≡ true
  rises up = test_from_lt zero_ℚ v (above_from_positive v (subst (λ (s : ℤ). pos 0 <ℤ s) is (omega (arith, ints, up))))

  falls : int_lt sign (pos 0) ≡ true → v <ℚ zero_ℚ
  falls down = below_from_negative v (subst (λ (s : ℤ). s <ℤ pos 0) is (omega (arith, ints, down)))

  not_rising : int_lt sign (pos 0) ≡ true → lt_ℚ zero_ℚ v ≡ false
  not_rising down = lt_fails_from_le zero_ℚ v (le_of_lt (falls down))

  pub ahead_of_rising : (l : ℚ) → int_lt (pos 0) sign ≡ true → upper_of p k ≡ Some l → IsAhead p (λ _. v) k (Some (record { term = 2; limit = l }))
  ahead_of_rising l up limit = ahead_up p k v l (rises up) limit

  pub ahead_of_falling : (l : ℚ) → int_lt sign (pos 0) ≡ true → lower_of p k ≡ Some l → IsAhead p (λ _. v) k (Some (record { term = 1; limit = l }))
  ahead_of_falling l down limit = ahead_down p k v l (not_rising down) (test_from_lt v zero_ℚ (falls down)) limit

  pub none_ahead_of_falling : int_lt sign (pos 0) ≡ true → lower_of p k ≡ None → IsAhead p (λ _. v) k None
  none_ahead_of_falling down limit = none_below p k v (not_rising down) (test_from_lt v zero_ℚ (falls down)) limit

  pub none_ahead_at_rest : int_lt (pos 0) sign ≡ false → int_lt sign (pos 0) ≡ false → IsAhead p (λ _. v) k None
  none_ahead_at_rest not_up not_down = none_ahead p k v (zero_from_sign v (sym is ∙ omega (arith, ints, not_up, not_down)))

pub ahead_at : (p : LinearProgram) (v : Vector) (k : ℕ) (speed : ℚ) (o : Option Ahead) → speed ≡ v k → IsAhead p (λ _. speed) k o → IsAhead p v k o
ahead_at p v k speed None e h = subst (λ (x : ℚ). limit_ahead p (λ _. x) k ≡ None) e h
ahead_at p v k speed (Some a) e h = (subst (λ (x : ℚ). limit_ahead p (λ _. x) k ≡ Some a.limit) e h.0, h.1, h.2, λ vanishes. h.3 (e ∙ vanishes))

-- over the opposite of a rate
over_opposite : (x d : ℚ) → d ≢ zero_ℚ → neg_ℚ (x /ℚ d) ≡ x /ℚ neg_ℚ d
over_opposite x d some = by_ring2 x (inverse_ℚ d) (λ x i. opposite (x ⊗ i) ≐ x ⊗ opposite i) refl ∙ ap (λ i. x *ℚ i) (sym (inverse-neg d some))

neg_nothing : neg_ℚ zero_ℚ ≡ zero_ℚ
neg_nothing = by_ring1 zero_ℚ (λ x. opposite (number (pos 0)) ≐ number (pos 0)) refl

pub signed_apart : (up : Bool) (d : ℚ) → signed up d ≢ zero_ℚ → d ≢ zero_ℚ
signed_apart true d some = some
signed_apart false d some = λ vanishes. some (ap neg_ℚ vanishes ∙ neg_nothing)

-- the sign of the opposite
pub sign_turned : (x : ℚ) → neg_ℤ (sign_ℚ x) ≡ sign_ℚ (neg_ℚ x)
sign_turned x = by_order (compare_ℚ x zero_ℚ) refl
  where
    by_order : (o : Ordering) → compare_ℚ x zero_ℚ ≡ o → neg_ℤ (sign_of o) ≡ sign_ℚ (neg_ℚ x)
    by_order Less e = sym (sign_from_above (neg_ℚ x) (neg_above x (lt_from_compare e)))
    by_order Equal e = sym (sign_from_zero (neg_ℚ x) (ap neg_ℚ (same_from_compare e) ∙ neg_nothing))
    by_order Greater e = sym (sign_from_below (neg_ℚ x) (neg_below x (gt_from_compare e)))

pub sign_is_small : (x : ℚ) → unsigned_abs (sign_ℚ x) ≤ 1
sign_is_small x = by_order (compare_ℚ x zero_ℚ)
  where
    by_order : (o : Ordering) → unsigned_abs (sign_of o) ≤ 1
    by_order Less = omega arith
    by_order Equal = omega arith
    by_order Greater = omega arith

pub signed_over : (up : Bool) (x d : ℚ) → d ≢ zero_ℚ → signed up (x /ℚ d) ≡ x /ℚ signed up d
signed_over true x d some = refl
signed_over false x d some = over_opposite x d some

-- the opposite of a sign, as the code makes it
pub turned_sign : (x : ℚ) (s : ℤ) → s ≡ sign_ℚ x → to_z w8 (of_z w8 (pos 0 -ℤ to_z w8 (of_z w8 s))) ≡ sign_ℚ (neg_ℚ x)
turned_sign x s is =
    let small : unsigned_abs s ≤ 1 = subst (λ (t : ℤ). unsigned_abs t ≤ 1) (sym is) (sign_is_small x) in
    let fits : FitsSigned w8 s = omega (arith, ints, small) in
    let turned_fits : FitsSigned w8 (pos 0 -ℤ s) = omega (arith, ints, small) in
    ap (λ t. to_z w8 (of_z w8 (pos 0 -ℤ t))) (to_z-of_z w8 s fits) ∙ to_z-of_z w8 (pos 0 -ℤ s) turned_fits ∙ zero-minus s ∙ ap neg_ℤ is ∙ sign_turned x

pub length_found : (p : LinearProgram) (z d : Vector) (up : Bool) (k : ℕ) (l change : ℚ) → limit_ahead p (motion d up) k ≡ Some l → d k ≢ zero_ℚ →
    change ≡ (l -ℚ z k) /ℚ d k → Some (signed up change) ≡ step_length p z (motion d up) k
length_found p z d up k l change ahead moves is =
    ap (λ x. Some (signed up x)) is ∙ ap Some (signed_over up (l -ℚ z k) (d k) moves) ∙ sym (ap (option_map (λ l. (l -ℚ z k) /ℚ motion d up k)) ahead)

pub no_length : (p : LinearProgram) (z v : Vector) (k : ℕ) → limit_ahead p v k ≡ None → None ≡ step_length p z v k
no_length p z v k e = sym (ap (option_map (λ l. (l -ℚ z k) /ℚ v k)) e)

-- ---- a limit less a value

-- a whole limit, and a value by its terms
pub whole_less : (limit value : ℚ) (n d left : ℤ) → limit.denominator ≡ 1 → pos 1 ≤ℤ d → fraction n (unsigned_abs d) ≡ value →
    left ≡ limit.numerator *ℤ d +ℤ neg_ℤ n → fraction left (unsigned_abs d) ≡ limit -ℚ value
whole_less limit value n d left one some is left_is =
    let e : ℕ = unsigned_abs d in
    let below : 0 < e = omega (arith, ints, some) in
    let under : pos e ≡ d = omega (arith, ints, some) in
    let first : fraction limit.numerator 1 ≡ limit = ap (fraction limit.numerator) (sym one) ∙ parts_make limit in
    let whole_sum : fraction limit.numerator 1 +ℚ fraction (neg_ℤ n) e ≡ fraction (limit.numerator *ℤ pos e +ℤ neg_ℤ n *ℤ pos 1) (1 * e) =
    add_fractions limit.numerator (neg_ℤ n) 1 e (omega arith) below in
    let top : left ≡ limit.numerator *ℤ pos e +ℤ neg_ℤ n *ℤ pos 1 =
    left_is ∙ ap₂ (λ x y. limit.numerator *ℤ x +ℤ y) (sym under) (times_one (neg_ℤ n)) in
    ap₂ fraction top (times_one_left e) ∙ sym whole_sum ∙ ap₂ (λ x y. x +ℚ y) first (sym (neg_fraction n e below) ∙ ap neg_ℚ is)
  where
    times_one : (z : ℤ) → z ≡ z *ℤ pos 1
    times_one z = omega (arith, ints)

    times_one_left : (m : ℕ) → m ≡ 1 * m
    times_one_left m = omega arith

-- the same, as the code makes the terms
pub whole_less_made : (limit value : ℚ) (n d top scaled left : ℤ) → limit.denominator ≡ 1 → pos 1 ≤ℤ d → fraction n (unsigned_abs d) ≡ value → Fits n →
    Fits d → Fits top → top ≡ limit.numerator → Fits (read top *ℤ read d) × (scaled ≡ read top *ℤ read d) →
    Fits (read scaled +ℤ read (pos 0 -ℤ read n)) × (left ≡ read scaled +ℤ read (pos 0 -ℤ read n)) →
    fraction (read left) (unsigned_abs (read d)) ≡ limit -ℚ value
whole_less_made limit value n d top scaled left one some is n_fits d_fits top_fits top_is scaled_made left_made =
    let small : unsigned_abs n < 2 ^ 127 = n_fits in
    let opposite_fits : Fits (pos 0 -ℤ n) = omega (arith, ints, small) in
    let scaled_is : read scaled ≡ limit.numerator *ℤ d =
    ap read scaled_made.1 ∙ read_fitting (read top *ℤ read d) scaled_made.0 ∙ ap₂ (λ x y. x *ℤ y) (read_fitting top top_fits ∙ top_is)
    (read_fitting d d_fits) in
    let turned : read (pos 0 -ℤ read n) ≡ neg_ℤ n =
    ap (λ m. read (pos 0 -ℤ m)) (read_fitting n n_fits) ∙ read_fitting (pos 0 -ℤ n) opposite_fits ∙ zero-minus n in
    let left_is : read left ≡ limit.numerator *ℤ d +ℤ neg_ℤ n =
    ap read left_made.1 ∙ read_fitting (read scaled +ℤ read (pos 0 -ℤ read n)) left_made.0 ∙ ap₂ (λ x y. x +ℤ y) scaled_is turned in
    ap (λ m. fraction (read left) (unsigned_abs m)) (read_fitting d d_fits) ∙ whole_less limit value n d (read left) one some is left_is

pub nothing_less : (limit value distance : ℚ) → limit ≡ zero_ℚ → distance ≡ neg_ℚ value → distance ≡ limit -ℚ value
nothing_less limit value distance none is = is ∙ sym (zero-add (neg_ℚ value)) ∙ ap (λ x. x +ℚ neg_ℚ value) (sym none)

-- ---- what is refused

module _ (p : LinearProgram) (z d : Vector) (up : Bool) (q k : ℕ) (a : Ahead) (rate value : ℚ) (rate_is : rate ≡ d k)
    (ahead : IsAhead p (λ _. signed up rate) k (Some a)) (value_is : value ≡ z k) where
  there : IsAhead p (motion d up) k (Some a)
  there = ahead_at p (motion d up) k (signed up rate) (Some a) (ap (signed up) rate_is) ahead

  pub moves : rate ≢ zero_ℚ
  moves = signed_apart up rate ahead.3

  pub distance_refused : (f : Formula) (e : Evidence) → f ≡ reach_formula 6 0 k a.term → IsRefusal f Sub a.limit value e → StepLengthRefused p z d up q k e
  distance_refused f e is h =
      of_distance a.term a.limit there.2 there.0 there.1
      (subst (λ (x : ℚ). IsRefusal (reach_formula 6 0 k a.term) Sub a.limit x e) value_is (subst (λ (g : Formula). IsRefusal g Sub a.limit value e) is h))

  pub change_refused : (f : Formula) (e : Evidence) (distance : ℚ) → distance ≡ a.limit -ℚ value → f ≡ reach_formula 7 q k a.term →
      IsRefusal f Div distance rate e → rate ≢ one_ℚ → StepLengthRefused p z d up q k e
  change_refused f e distance far is h other =
      of_quotient a.term a.limit there.0 there.1 (λ vanishes. moves (rate_is ∙ vanishes)) (λ own. other (rate_is ∙ own))
      (subst (λ (x : ℚ). IsRefusal (reach_formula 7 q k a.term) Div (a.limit -ℚ z k) x e) rate_is
      (subst (λ (x : ℚ). IsRefusal (reach_formula 7 q k a.term) Div x rate e) (far ∙ ap (λ v. a.limit -ℚ v) value_is)
      (subst (λ (g : Formula). IsRefusal g Div distance rate e) is h)))

  pub length_is : (distance change length : ℚ) → distance ≡ a.limit -ℚ value → change ≡ distance /ℚ rate → length ≡ signed up change →
      Some length ≡ step_length p z (motion d up) k
  length_is distance change length far is counted =
      ap Some counted
      ∙ length_found p z d up k a.limit change there.0 (λ vanishes. moves (rate_is ∙ vanishes))
      (is ∙ ap₂ (λ x y. x /ℚ y) (far ∙ ap (λ v. a.limit -ℚ v) value_is) rate_is)

-- ---- the search goes on

pub nearest_more : (f : ℕ → Option ℚ) (n : ℕ) (nearest next : Option Reach) (length : Option ℚ) → IsNearest f n nearest → length ≡ f (n + 1) →
    next ≡ sooner nearest length (n + 1) → IsNearest f (n + 1) next
nearest_more f n nearest next length h is found =
    subst (λ (r : Option Reach). IsNearest f (n + 1) r) (sym (found ∙ ap (λ o. sooner nearest o (n + 1)) is))
    (subst (λ (m : ℕ). IsNearest f m (sooner nearest (f m) m)) (sym (add-one n)) (next_nearest f n nearest h))
