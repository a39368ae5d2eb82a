-- Sums over the variables that pass a test, in ascending order, and a functional that vanishes carried back over an exchange.
use Rattle.std.proofs.Common.{◌≡◌, ◌≢◌, ℕ, zero, suc, ◌+◌, ◌∷◌, map, filter, refl, sym, ◌∙◌, ap, ap₂, Bool, true, false, cond, arith}
use Rattle.std.specs.Prelude.{nat_eq, not, ◌&&◌}
use native.Mathlib.Decide.{ℕ_discrete}
use Rattle.exact_values.specs.Rational.{ℚ, zero_ℚ, one_ℚ, ◌+ℚ◌, ◌-ℚ◌, ◌*ℚ◌, neg_ℚ}
use Rattle.exact_values.specs.Sums.{sum_to}
use Rattle.exact_values.proofs.Ring.{by_ring2, by_ring3, ◌⊕◌, ◌⊖◌, ◌⊗◌, ◌≐◌}
use Rattle.exact_values.proofs.RingLaws.{add_assoc, add-zero, zero-add, zero-mul, mul-one, mul-zero}
use Rattle.exact_values.proofs.Sums.{sum_to-same, sum_to-first, sum_to-add, sum_to-only}
use Rattle.lp_definitions.specs.LinearProgram.{Matrix, Vector, size, numbers_from, variables, IsVariable, KeepsEquations}
use Rattle.lp_definitions.specs.Basis.{Basics, is_in, IsBasic, IsNonbasic, AreRates}
use Rattle.lp_definitions.specs.RatesEvidence.{sum_from, other_basics}
use Rattle.lp_laws.specs.Vectors.{functional}
use Rattle.lp_laws.specs.Rates.{combination}
use Rattle.lp_laws.proofs.Values.{clash}

-- ---- sums over the variables that pass a test

numbers_sum : (test : ℕ → Bool) (f : ℕ → ℚ) (start : ℚ) (first n : ℕ)
    → sum_from start (map f (filter test (numbers_from first n))) ≡ start +ℚ sum_to n (λ k. cond (test (first + k)) (f (first + k)) zero_ℚ)
unfolding sum_to
numbers_sum test f start first zero = sym (add-zero start)
numbers_sum test f start first (suc n) =
    by_test (test first) (numbers_sum test f (start +ℚ f first) (suc first) n) (numbers_sum test f start (suc first) n) ∙ ap (λ s. start +ℚ s) (sym split)
  where
    split : sum_to (suc n) (λ k. cond (test (first + k)) (f (first + k)) zero_ℚ) ≡ cond (test first) (f first) zero_ℚ +ℚ sum_to n
        (λ k. cond (test (suc first + k)) (f (suc first + k)) zero_ℚ)
    split =
        sum_to-first n (λ k. cond (test (first + k)) (f (first + k)) zero_ℚ)
        ∙ ap₂ ◌+ℚ◌ (ap (λ i. cond (test i) (f i) zero_ℚ) (omega arith)) (sum_to-same n _ _ (λ k _. ap (λ i. cond (test i) (f i) zero_ℚ) (omega arith)))

    by_test : (passes : Bool)
        → sum_from (start +ℚ f first) (map f (filter test (numbers_from (suc first) n))) ≡ start +ℚ f first +ℚ sum_to n
        (λ k. cond (test (suc first + k)) (f (suc first + k)) zero_ℚ)
        → sum_from start (map f (filter test (numbers_from (suc first) n))) ≡ start +ℚ sum_to n (λ k. cond (test (suc first + k)) (f (suc first + k)) zero_ℚ)
        → sum_from start (map f (cond passes (first ∷ filter test (numbers_from (suc first) n)) (filter test (numbers_from (suc first) n)))) ≡ start +ℚ
        (cond passes (f first) zero_ℚ +ℚ sum_to n (λ k. cond (test (suc first + k)) (f (suc first + k)) zero_ℚ))
    by_test true with_it without_it = with_it ∙ add_assoc start (f first) (sum_to n (λ k. cond (test (suc first + k)) (f (suc first + k)) zero_ℚ))
    by_test false with_it without_it =
        without_it ∙ ap (λ s. start +ℚ s) (sym (zero-add (sum_to n (λ k. cond (test (suc first + k)) (f (suc first + k)) zero_ℚ))))

pub sum_of_tested : (a : Matrix) (test : ℕ → Bool) (f : ℕ → ℚ) (start : ℚ) →
    sum_from start (map f (filter test (variables a))) ≡ start +ℚ sum_to (size a) (λ k. cond (test (suc k)) (f (suc k)) zero_ℚ)
sum_of_tested a test f start =
    numbers_sum test f start 1 (size a)
    ∙ ap (λ s. start +ℚ s) (sum_to-same (size a) _ _ (λ k _. ap (λ i. cond (test i) (f i) zero_ℚ) (omega arith)))

-- and over the numbers from 1 on
pub sum_of_numbers : (f : ℕ → ℚ) (start : ℚ) (n : ℕ) → sum_from start (map f (numbers_from 1 n)) ≡ start +ℚ sum_to n (λ k. f (suc k))
unfolding sum_to
sum_of_numbers f start n = from f start 1 n ∙ ap (λ s. start +ℚ s) (sum_to-same n _ _ (λ k _. ap f (omega arith)))
  where
    from : (f : ℕ → ℚ) (start : ℚ) (first n : ℕ) → sum_from start (map f (numbers_from first n)) ≡ start +ℚ sum_to n (λ k. f (first + k))
    from f start first zero = sym (add-zero start)
    from f start first (suc n) =
        from f (start +ℚ f first) (suc first) n
        ∙ add_assoc start (f first) (sum_to n (λ k. f (suc first + k)))
        ∙ ap (λ s. start +ℚ s) (sym (sum_to-first n (λ k. f (first + k)) ∙ ap₂ ◌+ℚ◌ (ap f (omega arith)) (sum_to-same n _ _ (λ k _. ap f (omega arith)))))

-- the rates of i, each times the value of its nonbasic, added in ascending order
pub combination_in_order : (a : Matrix) (b : Basics) (rate : ℕ → ℕ → ℚ) (v : Vector) (i : ℕ) →
    sum_from zero_ℚ (map (λ j. rate i j *ℚ v j) (filter (λ k. not (is_in b k)) (variables a))) ≡ combination a b rate v i
combination_in_order a b rate v i =
    sum_of_tested a (λ k. not (is_in b k)) (λ j. rate i j *ℚ v j) zero_ℚ
    ∙ zero-add (sum_to (size a) (λ k. cond (not (is_in b (suc k))) (rate i (suc k) *ℚ v (suc k)) zero_ℚ))
    ∙ sum_to-same (size a) _ _ (λ k _. at (is_in b (suc k)) (rate i (suc k)) (v (suc k)))
  where
    at : (mark : Bool) (r x : ℚ) → cond (not mark) (r *ℚ x) zero_ℚ ≡ cond mark zero_ℚ x *ℚ r
    at true r x = sym (zero-mul r)
    at false r x = by_ring2 r x (λ r x. r ⊗ x ≐ x ⊗ r) refl

-- ---- an exchange, backwards

-- a functional that vanishes on the vectors that keep the equations vanishes on the direction of q: what it has at q and at the
-- basics other than p is the opposite of what it has at p
pub carried_back : (a : Matrix) (w : Basics) (rate : ℕ → ℕ → ℚ) (p q : ℕ) (y : Vector) → AreRates a w rate → IsBasic a w p → IsNonbasic a w q
    → ((x : Vector) → KeepsEquations a x → functional a y x ≡ zero_ℚ)
    → sum_from (y q) (map (λ i. y i *ℚ rate i q) (other_basics a w p)) ≡ neg_ℚ (y p *ℚ rate p q)
carried_back a w rate p q y are leaves enters vanishes =
    sum_of_tested a (λ k. is_in w k && not (nat_eq k p)) (λ i. y i *ℚ rate i q) (y q)
    ∙ opposite_of (y q) others (y p *ℚ rate p q) (sym parts ∙ vanishes (λ i. rate i q) (are q enters).keeps)
  where
    others : ℚ
    others = sum_to (size a) (λ k. cond (is_in w (suc k) && not (nat_eq (suc k) p)) (y (suc k) *ℚ rate (suc k) q) zero_ℚ)

    opposite_of : (u v x : ℚ) → u +ℚ x +ℚ v ≡ zero_ℚ → u +ℚ v ≡ neg_ℚ x
    opposite_of u v x e = by_ring3 u v x (λ u v x. u ⊕ v ≐ (u ⊕ x ⊕ v) ⊖ x) refl ∙ ap (λ s. s -ℚ x) e ∙ zero-add (neg_ℚ x)

    -- v at k alone
    sum_at_only : (k : ℕ) (v : ℚ) → IsVariable a k → sum_to (size a) (λ i. cond (nat_eq (suc i) k) v zero_ℚ) ≡ v
    sum_at_only zero v is = absurd (omega (arith, is.0))
    sum_at_only (suc k) v is =
        let own : nat_eq (suc k) (suc k) ≡ true = grind arith in
        sum_to-only (size a) k (λ i. cond (nat_eq (suc i) (suc k)) v zero_ℚ) (omega (arith, is.1))
        (λ i below other. let apart : nat_eq (suc i) (suc k) ≡ false = grind (arith, other) in ap (λ t. cond t v zero_ℚ) apart)
        ∙ ap (λ t. cond t v zero_ℚ) own

    apart : p ≢ q
    apart e = clash (sym leaves.1 ∙ ap (is_in w) e ∙ enters.1)

    term : (k : ℕ) → IsVariable a k → Dec (k ≡ q) → Dec (k ≡ p) → (mark : Bool) → is_in w k ≡ mark
        → y k *ℚ rate k q ≡ cond (nat_eq k q) (y q) zero_ℚ +ℚ cond (nat_eq k p) (y p *ℚ rate p q) zero_ℚ +ℚ cond (is_in w k && not (nat_eq k p))
        (y k *ℚ rate k q) zero_ℚ
    term k is (yes at_q) _ mark in_w =
        let here : nat_eq k q ≡ true = grind (arith, at_q) in
        let not_p : nat_eq k p ≡ false = grind (arith, at_q, apart) in
        let out : is_in w k ≡ false = ap (is_in w) at_q ∙ enters.1 in
        let one : rate k q ≡ one_ℚ = ap (λ i. rate i q) at_q ∙ (are q enters).own in
        rw (here, not_p, out, one) (ap (λ i. y i *ℚ one_ℚ) at_q ∙ mul-one (y q) ∙ sym (add-zero (y q +ℚ zero_ℚ) ∙ add-zero (y q)))
    term k is (no not_q) (yes at_p) mark in_w =
        let here : nat_eq k p ≡ true = grind (arith, at_p) in
        let away : nat_eq k q ≡ false = grind (arith, not_q) in
        let inside : is_in w k ≡ true = ap (is_in w) at_p ∙ leaves.1 in
        rw (here, away, inside) (ap (λ i. y i *ℚ rate i q) at_p ∙ sym (add-zero (zero_ℚ +ℚ y p *ℚ rate p q) ∙ zero-add (y p *ℚ rate p q)))
    term k is (no not_q) (no not_p) true in_w =
        let away : nat_eq k q ≡ false = grind (arith, not_q) in
        let off : nat_eq k p ≡ false = grind (arith, not_p) in
        rw (away, off, in_w) (sym (ap (λ s. s +ℚ y k *ℚ rate k q) (zero-add zero_ℚ) ∙ zero-add (y k *ℚ rate k q)))
    term k is (no not_q) (no not_p) false in_w =
        let away : nat_eq k q ≡ false = grind (arith, not_q) in
        let off : nat_eq k p ≡ false = grind (arith, not_p) in
        rw (away, off, in_w)
        (ap (λ x. y k *ℚ x) ((are q enters).others k (is, in_w) not_q) ∙ mul-zero (y k) ∙ sym (ap (λ s. s +ℚ zero_ℚ) (zero-add zero_ℚ) ∙ zero-add zero_ℚ))

    parts : functional a y (λ i. rate i q) ≡ y q +ℚ y p *ℚ rate p q +ℚ others
    parts =
        sum_to-same (size a) _ _
        (λ k below. term (suc k) (omega arith, omega (arith, below)) (ℕ_discrete (suc k) q) (ℕ_discrete (suc k) p) (is_in w (suc k)) refl)
        ∙ sum_to-add (size a) (λ k. cond (nat_eq (suc k) q) (y q) zero_ℚ +ℚ cond (nat_eq (suc k) p) (y p *ℚ rate p q) zero_ℚ)
        (λ k. cond (is_in w (suc k) && not (nat_eq (suc k) p)) (y (suc k) *ℚ rate (suc k) q) zero_ℚ)
        ∙ ap (λ s. s +ℚ others) (sum_to-add (size a) (λ k. cond (nat_eq (suc k) q) (y q) zero_ℚ) (λ k. cond (nat_eq (suc k) p) (y p *ℚ rate p q) zero_ℚ)
        ∙ ap₂ ◌+ℚ◌ (sum_at_only q (y q) enters.0) (sum_at_only p (y p *ℚ rate p q) leaves.0))
