-- The sum of a ray's multipliers times the limits that they meet, variable by variable.
use Rattle.std.proofs.Common.{◌≡◌, ℕ, ◌+◌, ◌-◌, ◌<◌, ◌≢◌, List, [], ◌∷◌, ◌++◌, map, Bool, true, false, not, cond, refl, sym, ap, ◌∙◌, arith, subst, Ok, Err}
use Rattle.std.proofs.Common.{Less, Equal, Greater}
use Rattle.std.specs.Prelude.{Result, Option, is_some, unwrap_or}
use Rattle.std.specs.declared.cmp.Ordering.{Ordering}
use Rattle.exact_values.specs.Rational.{ℚ, zero_ℚ, ◌+ℚ◌, ◌*ℚ◌, compare_ℚ}
use Rattle.exact_values.specs.Tests.{eq_ℚ, is_equal}
use Rattle.exact_values.proofs.Compare.{compare_from_same, same_from_compare}
use Rattle.lp_definitions.specs.LinearProgram.{LinearProgram, Vector, size, numbers_from}
use Rattle.lp_definitions.specs.Solutions.{limit_against}
use Rattle.check_definitions.specs.Steps.{comparison, verdict_of, product_of, sum_steps, sum_of, followed_by}
use Rattle.check_definitions.specs.Checks.{ray_limits, multiplied, multiplied_among, limit_product}
use Rattle.check_definitions.proofs.Passing.{verdict-append, numbers-next, numbers-end}
use Rattle.certificate_check.specs.declared.stops.Stopped.{Stopped}
use Rattle.certificate_check.specs.declared.stops.Stopped.TheVariants.{Comparison, Operation}
use Rattle.certificate_check.specs.Results.{verdict_from, Leads}

-- ---- one variable

same_test : (x : ℚ) → x ≡ zero_ℚ → eq_ℚ x zero_ℚ ≡ true
same_test x e = ap is_equal (compare_from_same e)

other_test : (x : ℚ) → x ≢ zero_ℚ → eq_ℚ x zero_ℚ ≡ false
other_test x apart = at (compare_ℚ x zero_ℚ) (λ e. apart (same_from_compare e))
  where
    at : (o : Ordering) → (o ≡ Equal → ⊥) → is_equal o ≡ false
    at Less other = refl
    at Equal other = absurd (other refl)
    at Greater other = refl

pub none_among : (w : Vector) (k : ℕ) → w k ≡ zero_ℚ → multiplied_among w (k ∷ []) ≡ []
none_among w k e = ap (λ b. cond (not b) (k ∷ []) []) (same_test (w k) e)

pub one_among : (w : Vector) (k : ℕ) → w k ≢ zero_ℚ → multiplied_among w (k ∷ []) ≡ k ∷ []
one_among w k apart = ap (λ b. cond (not b) (k ∷ []) []) (other_test (w k) apart)

-- ---- lists of variables

among-cons : (w : Vector) (k : ℕ) (ks : List ℕ) → multiplied_among w (k ∷ ks) ≡ multiplied_among w (k ∷ []) ++ multiplied_among w ks
among-cons w k ks = at (not (eq_ℚ (w k) zero_ℚ))
  where
    at : (b : Bool) → cond b (k ∷ multiplied_among w ks) (multiplied_among w ks) ≡ cond b (k ∷ []) [] ++ multiplied_among w ks
    at true = refl
    at false = refl

module _ (p : LinearProgram) (w : Vector) where
  -- what the sum comes to over these variables
  abbrev total : ℚ → List ℕ → ℚ
  total sum ks = sum_of sum (map (limit_product p w) ks)

  total-append : (sum : ℚ) (ks js : List ℕ) → total sum (ks ++ js) ≡ total (total sum ks) js
  total-append sum [] js = refl
  total-append sum (k ∷ ks) js = total-append (sum +ℚ product_of (limit_product p w k)) ks js

  ray_limits-append : (sum : ℚ) (ks js : List ℕ) →
      verdict_of (ray_limits p w sum (ks ++ js)) ≡ followed_by (verdict_of (ray_limits p w sum ks)) (verdict_of (ray_limits p w (total sum ks) js))
  ray_limits-append sum ks js = ap verdict_of (steps sum ks) ∙ verdict-append (ray_limits p w sum ks) (ray_limits p w (total sum ks) js)
    where
      steps : (sum : ℚ) (ks : List ℕ) → ray_limits p w sum (ks ++ js) ≡ ray_limits p w sum ks ++ ray_limits p w (total sum ks) js
      steps sum [] = refl
      steps sum (k ∷ ks) =
          ap (λ rest. comparison 2 k (is_some (limit_against p w k)) ∷ sum_steps sum (limit_product p w k ∷ []) ++ rest)
          (steps (sum +ℚ product_of (limit_product p w k)) ks)

  -- ---- one variable more

  -- a multiplier of 0 adds nothing
  pub adds_none : (sum : ℚ) (k : ℕ) → w k ≡ zero_ℚ → Leads (Ok sum) (ray_limits p w sum (multiplied_among w (k ∷ []))) (total sum (multiplied_among w (k ∷ [])))
  adds_none sum k none = subst (λ (ks : List ℕ). Leads (Ok sum) (ray_limits p w sum ks) (total sum ks)) (sym (none_among w k none)) (refl, refl)

  -- any other adds its product with the limit that it meets
  pub adds_one : (result : Result ℚ Stopped) (sum : ℚ) (k : ℕ) (m : ℚ) (limit : Option ℚ) → m ≡ w k → limit ≡ limit_against p w k → w k ≢ zero_ℚ
      → Leads result (comparison 2 k (is_some limit) ∷ sum_steps sum (record { left = m; right = unwrap_or limit zero_ℚ } ∷ []))
      (sum +ℚ m *ℚ unwrap_or limit zero_ℚ)
      → Leads result (ray_limits p w sum (multiplied_among w (k ∷ []))) (total sum (multiplied_among w (k ∷ [])))
  adds_one result sum k m limit is_m is_limit apart h =
      let P : ℚ → Option ℚ → Type 0 =
      λ m limit. Leads result (comparison 2 k (is_some limit) ∷ sum_steps sum (record { left = m; right = unwrap_or limit zero_ℚ } ∷ []))
      (sum +ℚ m *ℚ unwrap_or limit zero_ℚ) in
      let at_k : P (w k) (limit_against p w k) = subst (λ (o : Option ℚ). P (w k) o) is_limit (subst (λ (x : ℚ). P x limit) is_m h) in
      subst (λ (ks : List ℕ). Leads result (ray_limits p w sum ks) (total sum ks)) (sym (one_among w k apart)) at_k

  -- ---- all variables

  -- the variables from k + 1 on
  abbrev left_from : ℕ → List ℕ
  left_from k = multiplied_among w (numbers_from (k + 1) (size p.matrix - k))

  -- after the first k variables the sum so far, and those that are left, stand for the whole
  pub record LimitsLeft (k : ℕ) (sum : ℚ) : Type 0 where
    pub steps : verdict_of (ray_limits p w zero_ℚ (multiplied p w)) ≡ verdict_of (ray_limits p w sum (left_from k))
    pub totals : total zero_ℚ (multiplied p w) ≡ total sum (left_from k)

  pub limits_left : LimitsLeft 0 zero_ℚ
  limits_left =
      let none : size p.matrix ≡ size p.matrix - 0 = omega arith in
      record {
        steps = ap (λ n. verdict_of (ray_limits p w zero_ℚ (multiplied_among w (numbers_from 1 n)))) none;
        totals = ap (λ n. total zero_ℚ (multiplied_among w (numbers_from 1 n))) none;
      }

  left-next : (k : ℕ) → k < size p.matrix → left_from k ≡ multiplied_among w ((k + 1) ∷ []) ++ left_from (k + 1)
  left-next k below = ap (multiplied_among w) (numbers-next k (size p.matrix) below) ∙ among-cons w (k + 1) (numbers_from (k + 1 + 1) (size p.matrix - (k + 1)))

  module _ (k : ℕ) (sum : ℚ) (h : LimitsLeft k sum) (below : k < size p.matrix) where
    steps_next : verdict_of (ray_limits p w zero_ℚ (multiplied p w))
        ≡ followed_by (verdict_of (ray_limits p w sum (multiplied_among w ((k + 1) ∷ []))))
        (verdict_of (ray_limits p w (total sum (multiplied_among w ((k + 1) ∷ []))) (left_from (k + 1))))
    steps_next =
        h.steps ∙ ap (λ ks. verdict_of (ray_limits p w sum ks)) (left-next k below)
        ∙ ray_limits-append sum (multiplied_among w ((k + 1) ∷ [])) (left_from (k + 1))

    pub limits_next : (next : ℚ) → Leads (Ok next) (ray_limits p w sum (multiplied_among w ((k + 1) ∷ []))) (total sum (multiplied_among w ((k + 1) ∷ []))) →
        LimitsLeft (k + 1) next
    limits_next next made = record {
      steps = steps_next
          ∙ ap (λ v. followed_by v (verdict_of (ray_limits p w (total sum (multiplied_among w ((k + 1) ∷ []))) (left_from (k + 1))))) made.0
          ∙ ap (λ s. verdict_of (ray_limits p w s (left_from (k + 1)))) (sym made.1);
      totals = h.totals ∙ ap (total sum) (left-next k below) ∙ total-append sum (multiplied_among w ((k + 1) ∷ [])) (left_from (k + 1))
          ∙ ap (λ s. total s (left_from (k + 1))) (sym made.1);
    }

    pub limits_stopped : (s : Stopped) → Leads (Err s) (ray_limits p w sum (multiplied_among w ((k + 1) ∷ []))) (total sum (multiplied_among w ((k + 1) ∷ [])))
        → Leads (Err s) (ray_limits p w zero_ℚ (multiplied p w)) (total zero_ℚ (multiplied p w))
    limits_stopped s stopped = at s stopped ∙ sym steps_next
      where
        at : (s : Stopped) → verdict_from (Err s) ≡ verdict_of (ray_limits p w sum (multiplied_among w ((k + 1) ∷ [])))
            → verdict_from (Err s) ≡ followed_by (verdict_of (ray_limits p w sum (multiplied_among w ((k + 1) ∷ []))))
            (verdict_of (ray_limits p w (total sum (multiplied_among w ((k + 1) ∷ []))) (left_from (k + 1))))
        at (Comparison part number) e =
            ap (λ v. followed_by v (verdict_of (ray_limits p w (total sum (multiplied_among w ((k + 1) ∷ []))) (left_from (k + 1))))) e
        at (Operation refused) e = ap (λ v. followed_by v (verdict_of (ray_limits p w (total sum (multiplied_among w ((k + 1) ∷ []))) (left_from (k + 1))))) e

  pub limits_done : (sum : ℚ) → LimitsLeft (size p.matrix) sum → Leads (Ok sum) (ray_limits p w zero_ℚ (multiplied p w)) (total zero_ℚ (multiplied p w))
  limits_done sum h =
      let none = ap (multiplied_among w) (numbers-end (size p.matrix)) in
      (h.steps ∙ ap (λ ks. verdict_of (ray_limits p w sum ks)) none, sym (h.totals ∙ ap (total sum) none))
