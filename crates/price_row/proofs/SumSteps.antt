-- One product more.
use Rattle.std.proofs.Common.{◌≡◌, ◌≢◌, ℕ, zero, suc, ◌+◌, ◌<◌, List, [], ◌∷◌, length, take, get_or, refl, sym, ◌∙◌, ap, subst, true, false, cond, Bool, arith}
use Rattle.std.proofs.Common.{add-one}
use Rattle.std.specs.Prelude.{nat_eq}
use Rattle.std.proofs.lemmas.List.{get_or_default}
use Rattle.exact_values.specs.Rational.{ℚ, zero_ℚ, ◌+ℚ◌, ◌*ℚ◌}
use Rattle.exact_values.proofs.RingLaws.{zero-mul, add-zero}
use Rattle.lp_definitions.specs.LinearProgram.{value_at}
use Rattle.lp_definitions.specs.RatesEvidence.{sum_from}
use Rattle.lp_definitions.specs.declared.Entry.{Entry}
use Rattle.eta_file.specs.declared.eta.EtaEntry.{EtaEntry}
use Rattle.frac128.specs.declared.Refused.{Refused}
use Rattle.price_row.specs.Sums.{weighted, products, IsStepRefused, IsWeightedRefused, IsProductsRefused}

pub weighted-take : (p : ℕ) (xs : List ℚ) (es : List EtaEntry) (n : ℕ) (d : EtaEntry) (start : ℚ) → n < length es
    → sum_from start (weighted p xs (take (suc n) es)) ≡
    (λ (s : ℚ). cond (nat_eq (get_or es n d).i p) s (s +ℚ value_at xs (get_or es n d).i *ℚ (get_or es n d).rate))
    (sum_from start (weighted p xs (take n es)))
weighted-take p xs [] n d start below = absurd (omega arith)
weighted-take p xs (e ∷ es) zero d start below = at (nat_eq e.i p)
  where
    at : (same : Bool) → sum_from start (cond same [] ((value_at xs e.i *ℚ e.rate) ∷ [])) ≡ cond same start (start +ℚ value_at xs e.i *ℚ e.rate)
    at true = refl
    at false = refl
weighted-take p xs (e ∷ es) (suc n) d start below =
    at (nat_eq e.i p) (weighted-take p xs es n d start (omega arith)) (weighted-take p xs es n d (start +ℚ value_at xs e.i *ℚ e.rate) (omega arith))
  where
    at : (same : Bool)
        → sum_from start (weighted p xs (take (suc n) es)) ≡ cond (nat_eq (get_or es n d).i p) (sum_from start (weighted p xs (take n es)))
        (sum_from start (weighted p xs (take n es)) +ℚ value_at xs (get_or es n d).i *ℚ (get_or es n d).rate)
        → sum_from (start +ℚ value_at xs e.i *ℚ e.rate) (weighted p xs (take (suc n) es)) ≡ cond (nat_eq (get_or es n d).i p)
        (sum_from (start +ℚ value_at xs e.i *ℚ e.rate) (weighted p xs (take n es)))
        (sum_from (start +ℚ value_at xs e.i *ℚ e.rate) (weighted p xs (take n es)) +ℚ value_at xs (get_or es n d).i *ℚ (get_or es n d).rate)
        → sum_from start (cond same (weighted p xs (take (suc n) es)) ((value_at xs e.i *ℚ e.rate) ∷ weighted p xs (take (suc n) es)))
        ≡ cond (nat_eq (get_or es n d).i p) (sum_from start (cond same (weighted p xs (take n es)) ((value_at xs e.i *ℚ e.rate) ∷ weighted p xs (take n es))))
        (sum_from start (cond same (weighted p xs (take n es)) ((value_at xs e.i *ℚ e.rate) ∷ weighted p xs (take n es))) +ℚ value_at xs (get_or es n d).i *ℚ
        (get_or es n d).rate)
    at true skipped counted = skipped
    at false skipped counted = counted

module _ (p : ℕ) (xs : List ℚ) (es : List EtaEntry) (n : ℕ) (e : EtaEntry) (start : ℚ) (below : n < length es) (is : e ≡ get_or es n e) where
  next_step : sum_from start (weighted p xs (take (n + 1) es)) ≡ cond (nat_eq e.i p) (sum_from start (weighted p xs (take n es)))
      (sum_from start (weighted p xs (take n es)) +ℚ value_at xs e.i *ℚ e.rate)
  next_step =
      ap (λ k. sum_from start (weighted p xs (take k es))) (add-one n) ∙ weighted-take p xs es n e start below
      ∙ ap (λ (x : EtaEntry). cond (nat_eq x.i p) (sum_from start (weighted p xs (take n es)))
      (sum_from start (weighted p xs (take n es)) +ℚ value_at xs x.i *ℚ x.rate)) (sym is)

  pub weighted_same : e.i ≡ p → sum_from start (weighted p xs (take (n + 1) es)) ≡ sum_from start (weighted p xs (take n es))
  weighted_same same =
      let here : nat_eq e.i p ≡ true = grind (arith, same) in
      next_step ∙ ap (λ t. cond t (sum_from start (weighted p xs (take n es))) (sum_from start (weighted p xs (take n es)) +ℚ value_at xs e.i *ℚ e.rate)) here

  pub weighted_more : e.i ≢ p → sum_from start (weighted p xs (take (n + 1) es)) ≡ sum_from start (weighted p xs (take n es)) +ℚ value_at xs e.i *ℚ e.rate
  weighted_more other =
      let away : nat_eq e.i p ≡ false = grind (arith, other) in
      next_step ∙ ap (λ t. cond t (sum_from start (weighted p xs (take n es))) (sum_from start (weighted p xs (take n es)) +ℚ value_at xs e.i *ℚ e.rate)) away

  -- where p has 0, its entry adds nothing
  pub weighted_next : value_at xs p ≡ zero_ℚ →
      sum_from start (weighted p xs (take (n + 1) es)) ≡ sum_from start (weighted p xs (take n es)) +ℚ value_at xs e.i *ℚ e.rate
  weighted_next none = at (nat_eq e.i p) refl
    where
      at : (same : Bool) → nat_eq e.i p ≡ same →
          sum_from start (weighted p xs (take (n + 1) es)) ≡ sum_from start (weighted p xs (take n es)) +ℚ value_at xs e.i *ℚ e.rate
      at true here =
          let same : e.i ≡ p = grind (arith, here) in
          weighted_same same
          ∙ sym (ap (λ v. sum_from start (weighted p xs (take n es)) +ℚ v *ℚ e.rate) (ap (value_at xs) same ∙ none)
          ∙ ap (λ v. sum_from start (weighted p xs (take n es)) +ℚ v) (zero-mul e.rate) ∙ add-zero (sum_from start (weighted p xs (take n es))))
      at false away = let other : e.i ≢ p = grind (arith, away) in weighted_more other

  -- where both have 0, it adds nothing either
  pub weighted_idle : value_at xs p ≡ zero_ℚ → value_at xs e.i ≡ zero_ℚ →
      sum_from start (weighted p xs (take (n + 1) es)) ≡ sum_from start (weighted p xs (take n es))
  weighted_idle none idle =
      weighted_next none
      ∙ ap (λ v. sum_from start (weighted p xs (take n es)) +ℚ v *ℚ e.rate) idle
      ∙ ap (λ v. sum_from start (weighted p xs (take n es)) +ℚ v) (zero-mul e.rate) ∙ add-zero (sum_from start (weighted p xs (take n es)))

products-take : (xs : List ℚ) (c : List Entry) (n : ℕ) (d : Entry) (start : ℚ) → n < length c →
    sum_from start (products xs (take (suc n) c)) ≡ sum_from start (products xs (take n c)) +ℚ value_at xs (get_or c n d).row *ℚ (get_or c n d).value
products-take xs [] n d start below = absurd (omega arith)
products-take xs (e ∷ es) zero d start below = refl
products-take xs (e ∷ es) (suc n) d start below = products-take xs es n d (start +ℚ value_at xs e.row *ℚ e.value) (omega arith)

pub products_more : (xs : List ℚ) (c : List Entry) (n : ℕ) (e : Entry) (start : ℚ) → n < length c → e ≡ get_or c n e →
    sum_from start (products xs (take (n + 1) c)) ≡ sum_from start (products xs (take n c)) +ℚ value_at xs e.row *ℚ e.value
products_more xs c n e start below is =
    ap (λ k. sum_from start (products xs (take k c))) (add-one n) ∙ products-take xs c n e start below
    ∙ ap (λ (x : Entry). sum_from start (products xs (take n c)) +ℚ value_at xs x.row *ℚ x.value) (sym is)

pub element_at : {X : Type 0} (xs : List X) (n : ℕ) (e : X) → n < length xs → e ≡ get_or xs n e → (d : X) → get_or xs n d ≡ e
element_at xs n e below is d = get_or_default xs n d e below ∙ sym is

-- where one product more is refused
pub weighted_refused : (p : ℕ) (start : ℚ) (xs : List ℚ) (es : List EtaEntry) (n : ℕ) (e : EtaEntry) (sum v : ℚ) (r : Refused) → n < length es
    → e ≡ get_or es n e → e.i ≢ p
    → sum ≡ sum_from start (weighted p xs (take n es)) → v ≡ value_at xs e.i → IsStepRefused sum v e.rate r → IsWeightedRefused p start xs es r
weighted_refused p start xs es n e sum v r below is other is_sum is_v refused = record {
  place = n;
  entry = e;
  within = below;
  is_entry = element_at es n e below is;
  stays = other;
  refused = subst (λ s. IsStepRefused s (value_at xs e.i) e.rate r) is_sum (subst (λ x. IsStepRefused sum x e.rate r) is_v refused);
}

pub products_refused : (xs : List ℚ) (c : List Entry) (n : ℕ) (e : Entry) (sum v : ℚ) (r : Refused) → n < length c → e ≡ get_or c n e
    → sum ≡ sum_from zero_ℚ (products xs (take n c)) → v ≡ value_at xs e.row → IsStepRefused sum v e.value r → IsProductsRefused xs c r
products_refused xs c n e sum v r below is is_sum is_v refused = record {
  place = n;
  entry = e;
  within = below;
  is_entry = element_at c n e below is;
  refused = subst (λ s. IsStepRefused s (value_at xs e.row) e.value r) is_sum (subst (λ x. IsStepRefused sum x e.value r) is_v refused);
}
