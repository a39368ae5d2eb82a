-- Multipliers and the limits that they meet.
use Rattle.std.proofs.Common.{◌≡◌, ◌⊎◌, inl, inr, ℕ, zero, suc, ◌+◌, ◌<◌, ◌≤◌, ◌∷◌, Bool, true, false, not, cond, refl, sym, ap, ◌∙◌, pos, arith, add-one}
use Rattle.std.proofs.Common.{Option, Some, None}
use Rattle.std.specs.Prelude.{ℤ, ◌*ℤ◌, ◌||◌, is_some, option_map, unwrap_or}
use Rattle.std.specs.declared.cmp.Ordering.{Ordering}
use Rattle.std.specs.declared.cmp.Ordering.TheVariants.{Less, Equal, Greater}
use Rattle.exact_values.specs.Rational.{ℚ, whole, zero_ℚ, compare_ℚ, ◌+ℚ◌, ◌*ℚ◌, ◌<ℚ◌, ◌≤ℚ◌}
use Rattle.exact_values.specs.Sums.{sum_to, sum_up_to}
use Rattle.exact_values.specs.Tests.{eq_ℚ, lt_ℚ, is_less}
use Rattle.exact_values.proofs.Order.{lt_or_le, lt_from_le}
use Rattle.exact_values.proofs.Ring.{by_ring3, by_ring4, by_ring5, ◌⊕◌, ◌⊗◌, ◌≐◌, number}
use Rattle.exact_values.proofs.RingLaws.{whole-mul, zero-mul}
use Rattle.exact_values.proofs.TestsLaws.{same_from_test, apart_from_eq_fails}
use Rattle.lp_definitions.specs.LinearProgram.{LinearProgram, Vector, IsVariable, size, numbers_from, lower_of, upper_of}
use Rattle.lp_definitions.specs.Solutions.{limit_against}
use Rattle.lp_laws.proofs.Rays.{limit_of_positive, limit_of_negative}
use Rattle.check_definitions.specs.Steps.{AllHold, product_of}
use Rattle.check_definitions.specs.Checks.{multiplied_among, limit_product, ray_limits}
use Rattle.certificate_laws.proofs.Meaning.{meets_if_held, sum_of_met}
use Rattle.long_vectors.specs.declared.values.Value.{Value}
use Rattle.long_vectors.specs.Vectors.{IsValue}
use Rattle.long_programs.specs.declared.programs.ChangeAt.{ChangeAt}
use Rattle.long_programs.specs.Programs.{program_of, shift_at}
use Rattle.long_programs.proofs.Moves.{lower_at, upper_at}
use Rattle.long_points.specs.Tests.{UpTo}
use Rattle.long_points.proofs.Holds.{none_yet, one_more}
use Rattle.long_points.proofs.Orders.{turned, compare_turned}
use Rattle.long_points.proofs.AtTheta.{sign_over}
use Rattle.long_rays.specs.Tests.{limit_by, meets_test, met_product, IsMet, SumsTo}

-- a multiplier times a limit at theta, added in two parts
pub limit_added : (old mid new l s x y d : ℚ) (top scaled shifted : ℤ) (theta : Value) → IsValue x theta → whole top ≡ y *ℚ d → scaled ≡ top *ℤ theta.bottom →
    shifted ≡ top *ℤ theta.top →
    mid ≡ old +ℚ l *ℚ whole scaled → new ≡ mid +ℚ s *ℚ whole shifted → new ≡ old +ℚ y *ℚ (l +ℚ x *ℚ s) *ℚ (d *ℚ whole theta.bottom)
limit_added old mid new l s x y d top scaled shifted theta is_theta is_top is_scaled is_shifted first second =
    let t : ℚ = whole theta.bottom in
    let scaled_is : whole scaled ≡ y *ℚ d *ℚ t = ap whole is_scaled ∙ whole-mul top theta.bottom ∙ ap (λ q. q *ℚ t) is_top in
    let shifted_is : whole shifted ≡ y *ℚ d *ℚ (x *ℚ t) = ap whole is_shifted ∙ whole-mul top theta.top ∙ (λ i. is_top i *ℚ is_theta.is i) in
    second ∙ (λ i. first i +ℚ s *ℚ shifted_is i)
    ∙ ap (λ q. old +ℚ l *ℚ q +ℚ s *ℚ (y *ℚ d *ℚ (x *ℚ t))) scaled_is
    ∙ ap (λ q. old +ℚ l *ℚ (y *ℚ d *ℚ t) +ℚ s *ℚ q) (by_ring4 x y d t (λ x y d t. y ⊗ d ⊗ (x ⊗ t) ≐ x ⊗ (y ⊗ d ⊗ t)) refl)
    ∙ by_ring5 old l s x (y *ℚ d *ℚ t) (λ o l s x a. o ⊕ l ⊗ a ⊕ s ⊗ (x ⊗ a) ≐ o ⊕ (l ⊕ x ⊗ s) ⊗ a) refl
    ∙ ap (λ q. old +ℚ q) (by_ring4 (l +ℚ x *ℚ s) y d t (λ m y d t. m ⊗ (y ⊗ d ⊗ t) ≐ y ⊗ m ⊗ (d ⊗ t)) refl)

-- the limit that a multiplier of this sign meets
limit_below : (o : Ordering) (low high : Option ℚ) → limit_by o low high ≡ cond (is_less (turned o)) high low
limit_below Less low high = refl
limit_below Equal low high = refl
limit_below Greater low high = refl

pub against_by : (p : LinearProgram) (w : Vector) (k : ℕ) (sign : Ordering) → sign ≡ compare_ℚ (w k) zero_ℚ →
    limit_by sign (lower_of p k) (upper_of p k) ≡ limit_against p w k
against_by p w k sign is =
    limit_below sign (lower_of p k) (upper_of p k)
    ∙ ap (λ (o : Ordering). cond (is_less o) (upper_of p k) (lower_of p k)) (ap turned is ∙ sym (compare_turned (w k) zero_ℚ))

some_mapped : (f : ℚ → ℚ) (o : Option ℚ) → is_some (option_map f o) ≡ is_some o
some_mapped f None = refl
some_mapped f (Some l) = refl

or_right : (a b : Bool) → (a || b) ≡ true → not a ≡ true → b ≡ true
or_right true b e h = cc
or_right false b e h = e

left_false : (a b : Bool) → (a || b) ≡ false → a ≡ false
left_false true b e = cc
left_false false b e = refl

right_false : (a b : Bool) → (a || b) ≡ false → b ≡ false
right_false true b e = cc
right_false false b e = e

module _ (p : LinearProgram) (change : ChangeAt) (x : ℚ) (w : Vector) (k : ℕ) where
  against_at : IsVariable p.matrix k → limit_against (program_of p change x) w k ≡ option_map (λ l. l +ℚ x *ℚ shift_at p change k) (limit_against p w k)
  against_at is = at (lt_ℚ zero_ℚ (w k))
    where
      at : (b : Bool) →
          cond b (upper_of (program_of p change x) k) (lower_of (program_of p change x) k) ≡ option_map (λ l. l +ℚ x *ℚ shift_at p change k)
          (cond b (upper_of p k) (lower_of p k))
      at true = upper_at p change x k is
      at false = lower_at p change x k is

  pub met_none : (old d : ℚ) → eq_ℚ (w k) zero_ℚ ≡ true → IsMet (program_of p change x) w k true old old d
  met_none old d none = record {
    is = sym (ap (λ b. b || is_some (limit_against (program_of p change x) w k)) none);
    adds = λ _. let m : ℚ = unwrap_or (limit_against (program_of p change x) w k) zero_ℚ in
        by_ring3 old m d (λ o m d. o ≐ o ⊕ number (pos 0) ⊗ m ⊗ d) refl ∙ ap (λ v. old +ℚ v *ℚ m *ℚ d) (sym (same_from_test (w k) zero_ℚ none));
  }

  pub met_some : IsVariable p.matrix k → (met : Bool) (limit : Option ℚ) (shift old new d : ℚ) → eq_ℚ (w k) zero_ℚ ≡ false → limit ≡ limit_against p w k →
      shift ≡ shift_at p change k →
      met ≡ is_some limit → (met ≡ true → new ≡ old +ℚ w k *ℚ unwrap_or (option_map (λ l. l +ℚ x *ℚ shift) limit) zero_ℚ *ℚ d) →
      IsMet (program_of p change x) w k met old new d
  met_some is met limit shift old new d apart is_limit is_shift is_met adds =
      let moved : option_map (λ l. l +ℚ x *ℚ shift) limit ≡ limit_against (program_of p change x) w k =
      (λ i. option_map (λ l. l +ℚ x *ℚ is_shift i) (is_limit i)) ∙ sym (against_at is) in
      record {
        is =
            is_met ∙ sym (some_mapped (λ l. l +ℚ x *ℚ shift) limit) ∙ ap is_some moved
            ∙ sym (ap (λ b. b || is_some (limit_against (program_of p change x) w k)) apart);
        adds = λ m. adds m ∙ ap (λ o. old +ℚ w k *ℚ unwrap_or o zero_ℚ *ℚ d) moved;
      }

-- ---- all of them

-- the multipliers so far meet limits, and their products are added up
pub record IsSoFar (q : LinearProgram) (w : Vector) (i : ℕ) (sum d : ℚ) : Type 0 where
  pub passed : UpTo (meets_test q w) i
  pub is : sum ≡ sum_up_to i (met_product q w) *ℚ d

module _ (q : LinearProgram) (w : Vector) where
  pub met_begins : (sum d : ℚ) → sum ≡ zero_ℚ → IsSoFar q w 0 sum d
  unfolding sum_to
  met_begins sum d none = record { passed = none_yet (meets_test q w); is = none ∙ sym (zero-mul d) }

  pub met_goes_on : (i : ℕ) (met : Bool) (sum new d : ℚ) → IsSoFar q w i sum d → met ≡ true → IsMet q w (i + 1) met sum new d → IsSoFar q w (i + 1) new d
  unfolding sum_to
  met_goes_on i met sum new d so_far passed here = record {
    passed = one_more (meets_test q w) i so_far.passed (sym here.is ∙ passed);
    is = here.adds passed ∙ ap (λ s. s +ℚ met_product q w (i + 1) *ℚ d) so_far.is
        ∙ by_ring3 (sum_up_to i (met_product q w)) (met_product q w (i + 1)) d (λ s t d. s ⊗ d ⊕ t ⊗ d ≐ (s ⊕ t) ⊗ d) refl
        ∙ ap (λ k. (sum_up_to i (met_product q w) +ℚ met_product q w k) *ℚ d) (add-one i)
        ∙ ap (λ k. sum_up_to k (met_product q w) *ℚ d) (sym (add-one i));
  }

  all_met : (first n : ℕ) (sum : ℚ) → ((k : ℕ) → first ≤ k → k < first + n → meets_test q w k ≡ true) →
      AllHold (ray_limits q w sum (multiplied_among w (numbers_from first n)))
  all_met first zero sum h = tt
  all_met first (suc n) sum h =
      by_test (not (eq_ℚ (w first) zero_ℚ)) refl (λ next. all_met (suc first) n next (λ k low high. h k (omega (arith, low)) (omega (arith, high))))
    where
      by_test : (b : Bool) → not (eq_ℚ (w first) zero_ℚ) ≡ b → ((next : ℚ) → AllHold (ray_limits q w next (multiplied_among w (numbers_from (suc first) n))))
          → AllHold (ray_limits q w sum (cond b (first ∷ multiplied_among w (numbers_from (suc first) n)) (multiplied_among w (numbers_from (suc first) n))))
      by_test true is later = (or_right (eq_ℚ (w first) zero_ℚ) _ (h first (omega arith) (omega arith)) is, later (sum +ℚ product_of (limit_product q w first)))
      by_test false is later = later sum

  pub all_sum : (i : ℕ) (sum d : ℚ) (order : Ordering) → i ≡ size q.matrix → zero_ℚ <ℚ d → IsSoFar q w i sum d → order ≡ compare_ℚ sum zero_ℚ →
      SumsTo q w (Some order)
  all_sum i sum d order end positive so_far is = (
    all_met 1 (size q.matrix) zero_ℚ (λ k low high. so_far.passed k low (omega (arith, high, end))),
    is ∙ sign_over (sum_up_to i (met_product q w)) d sum positive so_far.is
        ∙ ap (λ s. compare_ℚ s zero_ℚ) (ap (λ n. sum_up_to n (met_product q w)) end ∙ sym (sum_of_met q w)),
  )

  pub one_unmet : (k : ℕ) (met : Bool) (old new d : ℚ) → IsVariable q.matrix k → met ≡ false → IsMet q w k met old new d → SumsTo q w None
  one_unmet k met old new d is failed here h = by (lt_or_le zero_ℚ (w k))
    where
      none : is_some (limit_against q w k) ≡ false
      none = right_false (eq_ℚ (w k) zero_ℚ) _ (sym here.is ∙ failed)

      apart : w k ≡ zero_ℚ → ⊥
      apart = apart_from_eq_fails (w k) zero_ℚ (left_false (eq_ℚ (w k) zero_ℚ) _ (sym here.is ∙ failed))

      by : (zero_ℚ <ℚ w k) ⊎ (w k ≤ℚ zero_ℚ) → ⊥
      by (inl above) = let both : false ≡ true = sym none ∙ ap is_some (limit_of_positive q w k above) ∙ (meets_if_held q w h).meets_upper k is above in cc
      by (inr le) =
          let below = lt_from_le le apart in let both : false ≡ true = sym none ∙ ap is_some (limit_of_negative q w k below)
          ∙ (meets_if_held q w h).meets_lower k is below in cc
