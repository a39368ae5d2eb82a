-- The sums that close a parametric run.
use Rattle.std.proofs.Common.{◌≡◌, ◌≢◌, ℕ, ◌+◌, ◌-◌, ◌<◌, List, [], ◌∷◌, map, Option, Result, Ok, Err, refl, sym, ap, ap₂, subst, ◌∙◌}
use Rattle.std.specs.Prelude.{is_some, unwrap_or}
use Rattle.exact_values.specs.Rational.{ℚ, zero_ℚ, ◌+ℚ◌, ◌*ℚ◌}
use Rattle.lp_definitions.specs.LinearProgram.{LinearProgram, Vector, size, value_at, numbers_from}
use Rattle.lp_definitions.specs.Solutions.{limit_against}
use Rattle.check_definitions.specs.declared.Verdict.{Verdict}
use Rattle.check_definitions.specs.declared.Verdict.TheVariants.{Checked, Failed, Unchecked}
use Rattle.check_definitions.specs.Steps.{Product, product_of, comparison, verdict_of, sum_steps, sum_of}
use Rattle.check_definitions.specs.Checks.{limit_product, ray_limits, multiplied, multiplied_among}
use Rattle.check_definitions.proofs.Passing.{verdict-append, numbers-next, numbers-end}
use Rattle.certificate_check.specs.declared.stops.Stopped.{Stopped}
use Rattle.certificate_check.specs.declared.stops.Stopped.TheVariants.{Comparison, Operation}
use Rattle.certificate_check.specs.Results.{verdict_from}
use Rattle.certificate_check.proofs.Limits.{LimitsLeft, limits_stopped, adds_one}
use Rattle.certificate_check.proofs.Left.{IsLeft, all_left, left_next}
use Rattle.listing_claims.specs.declared.claims.Stop.{Stop}
use Rattle.listing_claims.specs.declared.claims.Stop.TheVariants as stops
use Rattle.listing_claims.specs.Passing.{IsFailed, IsRefused, Stops}
use Rattle.checks_of_128_bits.specs.Making.{Makes}
use Rattle.listing_claims.proofs.Passing.{stops_first}

-- where each stop of the one verdict is that of the other
as_stopped : (stop : Stop) (v w : Verdict) → ((s : Stopped) → verdict_from (Err s) ≡ v → verdict_from (Err s) ≡ w) → Stops stop v → Stops stop w
as_stopped stops.Wrong (Failed part number) w same h = subst IsFailed (same (Comparison part number) refl) tt
as_stopped stops.Wrong Checked w same h = absurd h
as_stopped stops.Wrong (Unchecked refused) w same h = absurd h
as_stopped stops.Unchecked (Unchecked refused) w same h = subst IsRefused (same (Operation refused) refl) tt
as_stopped stops.Unchecked Checked w same h = absurd h
as_stopped stops.Unchecked (Failed part number) w same h = absurd h
as_stopped stops.NoMemory v w same h = tt

-- ---- limits that multipliers meet

module _ (p : LinearProgram) (w : Vector) (sum : ℚ) (k : ℕ) where
  pub adds_made : (m : ℚ) (limit : Option ℚ) → m ≡ w k → limit ≡ limit_against p w k → w k ≢ zero_ℚ → (result : Result ℚ Stop) →
      Makes (λ next. next ≡ sum +ℚ m *ℚ unwrap_or limit zero_ℚ)
      (verdict_of (comparison 2 k (is_some limit) ∷ sum_steps sum (record { left = m; right = unwrap_or limit zero_ℚ } ∷ []))) result →
      Makes (λ next. next ≡ sum_of sum (map (limit_product p w) (multiplied_among w (k ∷ []))))
      (verdict_of (ray_limits p w sum (multiplied_among w (k ∷ [])))) result
  adds_made m limit is_m is_limit apart (Ok x) h = adds_one p w (Ok x) sum k m limit is_m is_limit apart h
  adds_made m limit is_m is_limit apart (Err stop) h =
      as_stopped stop (verdict_of (comparison 2 k (is_some limit) ∷ sum_steps sum (record { left = m; right = unwrap_or limit zero_ℚ } ∷ [])))
      (verdict_of (ray_limits p w sum (multiplied_among w (k ∷ []))))
      (λ s e. adds_one p w (Err s) sum k m limit is_m is_limit apart e) h

pub limits_stop : (p : LinearProgram) (w : Vector) (k : ℕ) (sum : ℚ) → LimitsLeft p w k sum → k < size p.matrix → (stop : Stop) →
    Stops stop (verdict_of (ray_limits p w sum (multiplied_among w ((k + 1) ∷ [])))) →
    Stops stop (verdict_of (ray_limits p w zero_ℚ (multiplied p w)))
limits_stop p w k sum left below stop h =
    as_stopped stop (verdict_of (ray_limits p w sum (multiplied_among w ((k + 1) ∷ [])))) (verdict_of (ray_limits p w zero_ℚ (multiplied p w)))
    (λ s e. limits_stopped p w k sum left below s e) h

-- ---- shifts

abbrev pub shift_product : Vector → List ℚ → ℕ → Product
shift_product w shift i = record { left = w i; right = value_at shift i }

module _ (w : Vector) (shift : List ℚ) (n : ℕ) where
  abbrev pub products_from : ℕ → List Product
  products_from i = map (shift_product w shift) (numbers_from (i + 1) (n - i))

  abbrev pub all_products : List Product
  all_products = map (shift_product w shift) (numbers_from 1 n)

  pub ShiftsLeft : ℕ → ℚ → Type 0
  ShiftsLeft i sum = IsLeft zero_ℚ all_products sum (products_from i)

  pub shifts_begin : (sum : ℚ) → sum ≡ zero_ℚ → n - 0 ≡ n → ShiftsLeft 0 sum
  unfolding ShiftsLeft
  shifts_begin sum is whole =
      subst (λ (s : ℚ). IsLeft zero_ℚ all_products s (products_from 0)) (sym is)
      (subst (λ (m : ℕ). IsLeft zero_ℚ all_products zero_ℚ (map (shift_product w shift) (numbers_from 1 m))) (sym whole) (all_left zero_ℚ all_products))

  module _ (i : ℕ) (sum : ℚ) (left : ShiftsLeft i sum) (below : i < n) (x y : ℚ) (is_x : x ≡ w (i + 1)) (is_y : y ≡ value_at shift (i + 1)) where
    here : IsLeft zero_ℚ all_products sum (shift_product w shift (i + 1) ∷ products_from (i + 1))
    unfolding ShiftsLeft
    here = subst (λ (rest : List Product). IsLeft zero_ℚ all_products sum rest) (ap (map (shift_product w shift)) (numbers-next i n below)) left

    same : (record { left = x; right = y }) ≡ shift_product w shift (i + 1)
    same = λ j. record { left = is_x j; right = is_y j }

    pub shifts_go_on : (next : ℚ) → verdict_of (sum_steps sum (record { left = x; right = y } ∷ [])) ≡ Checked → next ≡ sum +ℚ x *ℚ y → ShiftsLeft (i + 1) next
    unfolding ShiftsLeft
    shifts_go_on next passed is =
        left_next zero_ℚ all_products sum next (shift_product w shift (i + 1)) (products_from (i + 1)) here
        (subst (λ (t : Product). verdict_of (sum_steps sum (t ∷ [])) ≡ Checked) same passed, is ∙ ap₂ (λ (a b : ℚ). sum +ℚ a *ℚ b) is_x is_y)

    pub shifts_stop : (stop : Stop) → Stops stop (verdict_of (sum_steps sum (record { left = x; right = y } ∷ []))) →
        Stops stop (verdict_of (sum_steps zero_ℚ all_products))
    shifts_stop stop h =
        let t = shift_product w shift (i + 1) in
        let next = sum +ℚ product_of t in
        subst (λ (v : Verdict). Stops stop v) (sym (here.steps ∙ verdict-append (sum_steps sum (t ∷ [])) (sum_steps next (products_from (i + 1)))))
        (stops_first stop (verdict_of (sum_steps sum (t ∷ []))) (verdict_of (sum_steps next (products_from (i + 1))))
        (subst (λ (t : Product). Stops stop (verdict_of (sum_steps sum (t ∷ [])))) same h))

  pub shifts_end : (i : ℕ) (sum : ℚ) → i ≡ n → ShiftsLeft i sum → (verdict_of (sum_steps zero_ℚ all_products) ≡ Checked) × (sum ≡ sum_of zero_ℚ all_products)
  unfolding ShiftsLeft
  shifts_end i sum all left =
      let at_end : IsLeft zero_ℚ all_products sum (products_from n) = subst (λ (j : ℕ). IsLeft zero_ℚ all_products sum (products_from j)) all left in
      let none = ap (map (shift_product w shift)) (numbers-end n) in
      (at_end.steps ∙ ap (λ ts. verdict_of (sum_steps sum ts)) none, sym (at_end.total ∙ ap (sum_of sum) none))
