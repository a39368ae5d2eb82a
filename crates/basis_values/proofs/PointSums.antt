-- The sums of a point, column by column.
use Rattle.std.proofs.Common.{◌≡◌, ℕ, zero, suc, ◌+◌, ◌-◌, ◌<◌, ◌≤◌, List, [], ◌∷◌, ◌++◌, map, take, length, Bool, true, false, cond, refl, sym, ◌∙◌, ap, ap₂}
use Rattle.std.proofs.Common.{subst, arith, add-one}
use Rattle.std.specs.Prelude.{Some, not, filter, slice_get}
use Rattle.std.proofs.lemmas.List.{length-append}
use Rattle.exact_values.specs.Rational.{ℚ, zero_ℚ, ◌+ℚ◌, ◌*ℚ◌}
use Rattle.exact_values.proofs.RingLaws.{add-zero, mul-zero}
use Rattle.lp_definitions.specs.LinearProgram.{Matrix, LinearProgram, Vector, size, IsVariable, numbers_from, lower_of, upper_of}
use Rattle.lp_definitions.specs.Basis.{Basics, basics_of, is_in, status_of, IsBasis, IsBasic, IsNonbasic, IsNonsingular, IsPointOf, IsDirectionOf, AreRates}
use Rattle.lp_definitions.specs.Basis.{StandsAt}
use Rattle.lp_definitions.specs.RatesEvidence.{sum_from}
use Rattle.lp_definitions.specs.declared.Evidence.{Evidence}
use Rattle.lp_definitions.specs.declared.Status.{Status}
use Rattle.lp_laws.specs.Rates.{combination}
use Rattle.lp_laws.specs.Points.{place_of, standing}
use Rattle.lp_laws.proofs.Opening.{numbers_from-append}
use Rattle.lp_laws.proofs.Ordered.{combination_in_order}
use Rattle.lp_laws.proofs.Combination.{combination_at}
use Rattle.lp_laws.proofs.Equations.{KeepsEquations-same}
use Rattle.lp_laws.proofs.Points.{IsPointOf-combination}
use Rattle.lp_laws.proofs.Statuses.{basic_from}
use Rattle.lp_laws.proofs.Uniqueness.{is_in-basics_of, one_direction}
use Rattle.simplex_definitions.specs.Formulas.{nonbasics, PointFormula, f10_product, f10_sum}
use Rattle.basis_values.specs.Calls.{PointRefused}
use Rattle.basis_values.specs.Points.{nonbasics_to, with_term, sum_at, IsSoFar, AreAdded, ColumnTermRefused, term_of}
use Rattle.basis_values.specs.Formulas.{IsTermRefusal, of_product, of_sum}
use Rattle.basis_values.proofs.Existence.{rates_exist}
use Rattle.basis_values.proofs.Refusals.{stops_at_basis}
use Rattle.basis_values.proofs.RatesStops.{tableau_of, IsTableau-of, of_point}

-- ---- lists

sum_from-end : (xs : List ℚ) (start y : ℚ) → sum_from start (xs ++ y ∷ []) ≡ sum_from start xs +ℚ y
sum_from-end [] start y = refl
sum_from-end (x ∷ xs) start y = sum_from-end xs (start +ℚ x) y

map-end : {A B : Type 0} → (f : A → B) (xs : List A) (y : A) → map f (xs ++ y ∷ []) ≡ map f xs ++ f y ∷ []
map-end f [] y = refl
map-end f (x ∷ xs) y = ap (λ zs. f x ∷ zs) (map-end f xs y)

filter_kept : Bool → ℕ → List ℕ → List ℕ
filter_kept true x xs = x ∷ xs
filter_kept false x xs = xs

pub filter-append : (test : ℕ → Bool) (xs ys : List ℕ) → filter test (xs ++ ys) ≡ filter test xs ++ filter test ys
filter-append test [] ys = refl
filter-append test (x ∷ xs) ys = by_test (test x) refl (filter-append test xs ys)
  where
    by_test : (m : Bool) → test x ≡ m → filter test (xs ++ ys) ≡ filter test xs ++ filter test ys →
        filter test ((x ∷ xs) ++ ys) ≡ filter test (x ∷ xs) ++ filter test ys
    by_test true is rest = rw is (ap (λ zs. x ∷ zs) rest)
    by_test false is rest = rw is rest

take_front : (xs ys : List ℕ) → take (length xs) (xs ++ ys) ≡ xs
take_front [] ys = refl
take_front (x ∷ xs) ys = ap (λ zs. x ∷ zs) (take_front xs ys)

get_after : (xs : List ℕ) (y : ℕ) (ys : List ℕ) → slice_get (xs ++ y ∷ ys) (length xs) ≡ Some y
get_after [] y ys = refl
get_after (x ∷ xs) y ys = get_after xs y ys

numbers_from-more : (n : ℕ) → numbers_from 1 (suc n) ≡ numbers_from 1 n ++ (1 + n) ∷ []
numbers_from-more n = ap (numbers_from 1) (sym (add-one n)) ∙ numbers_from-append 1 n 1

module _ (b : Basics) where
  pub nonbasics_to-basic : (n : ℕ) → is_in b (suc n) ≡ true → nonbasics_to b (suc n) ≡ nonbasics_to b n
  nonbasics_to-basic n is =
      ap (filter (λ k. not (is_in b k))) (numbers_from-more n)
      ∙ filter-append (λ k. not (is_in b k)) (numbers_from 1 n) ((1 + n) ∷ [])
      ∙ last (1 + n) (omega arith)
    where
      last : (m : ℕ) → m ≡ suc n → nonbasics_to b n ++ filter (λ k. not (is_in b k)) (m ∷ []) ≡ nonbasics_to b n
      last m e = rw (e, is) (append_nothing (nonbasics_to b n))
        where
          append_nothing : (xs : List ℕ) → xs ++ [] ≡ xs
          append_nothing [] = refl
          append_nothing (x ∷ xs) = ap (λ zs. x ∷ zs) (append_nothing xs)

  pub nonbasics_to-nonbasic : (n : ℕ) → is_in b (suc n) ≡ false → nonbasics_to b (suc n) ≡ nonbasics_to b n ++ suc n ∷ []
  nonbasics_to-nonbasic n is =
      ap (filter (λ k. not (is_in b k))) (numbers_from-more n)
      ∙ filter-append (λ k. not (is_in b k)) (numbers_from 1 n) ((1 + n) ∷ [])
      ∙ last (1 + n) (omega arith)
    where
      last : (m : ℕ) → m ≡ suc n → nonbasics_to b n ++ filter (λ k. not (is_in b k)) (m ∷ []) ≡ nonbasics_to b n ++ suc n ∷ []
      last m e = rw (e, is) refl

  pub count-basic : (n : ℕ) → is_in b (n + 1) ≡ true → length (nonbasics_to b n) ≡ length (nonbasics_to b (n + 1))
  count-basic n is = sym (ap (λ k. length (nonbasics_to b k)) (add-one n) ∙ ap length (nonbasics_to-basic n (ap (is_in b) (sym (add-one n)) ∙ is)))

  pub count-nonbasic : (n : ℕ) → is_in b (n + 1) ≡ false → length (nonbasics_to b n) + 1 ≡ length (nonbasics_to b (n + 1))
  count-nonbasic n is =
      let more = length-append (nonbasics_to b n) (suc n ∷ []) in
      sym (ap (λ k. length (nonbasics_to b k)) (add-one n) ∙ ap length (nonbasics_to-nonbasic n (ap (is_in b) (sym (add-one n)) ∙ is)) ∙ more)

  -- the sums in the order of the nonbasics
  pub sum_at_ordered : (f : Vector) (n : ℕ) → sum_at b f n ≡ sum_from zero_ℚ (map f (nonbasics_to b n))
  sum_at_ordered f zero = refl
  sum_at_ordered f (suc n) = by_mark (is_in b (suc n)) refl (sum_at_ordered f n)
    where
      by_mark : (m : Bool) → is_in b (suc n) ≡ m → sum_at b f n ≡ sum_from zero_ℚ (map f (nonbasics_to b n)) →
          with_term m (sum_at b f n) (f (suc n)) ≡ sum_from zero_ℚ (map f (nonbasics_to b (suc n)))
      by_mark true is so_far = so_far ∙ sym (ap (λ xs. sum_from zero_ℚ (map f xs)) (nonbasics_to-basic n is))
      by_mark false is so_far =
          ap (λ s. s +ℚ f (suc n)) so_far
          ∙ sym (ap (λ xs. sum_from zero_ℚ (map f xs)) (nonbasics_to-nonbasic n is) ∙ ap (sum_from zero_ℚ) (map-end f (nonbasics_to b n) (suc n))
          ∙ sum_from-end (map f (nonbasics_to b n)) zero_ℚ (f (suc n)))

  pub sum_at-same : (f g : Vector) (n : ℕ) → ((k : ℕ) → 1 ≤ k → k ≤ n → is_in b k ≡ false → f k ≡ g k) → sum_at b f n ≡ sum_at b g n
  sum_at-same f g zero h = refl
  sum_at-same f g (suc n) h = by_mark (is_in b (suc n)) refl (sum_at-same f g n (λ k low high out. h k low (omega (arith, high)) out))
    where
      by_mark : (m : Bool) → is_in b (suc n) ≡ m → sum_at b f n ≡ sum_at b g n → with_term m (sum_at b f n) (f (suc n)) ≡ with_term m (sum_at b g n) (g (suc n))
      by_mark true is rest = rest
      by_mark false is rest = ap₂ (λ s t. s +ℚ t) rest (h (suc n) (omega arith) (omega arith) is)

  -- the nonbasics before the next nonbasic are the first ones
  module _ (a : Matrix) (n : ℕ) (below : n < size a) (out : is_in b (suc n) ≡ false) where
    split_at : (m : ℕ) → size a ≡ n + suc m → nonbasics a b ≡ nonbasics_to b n ++ suc n ∷ filter (λ k. not (is_in b k)) (numbers_from (suc (1 + n)) m)
    split_at m e =
        ap (λ k. filter (λ k. not (is_in b k)) (numbers_from 1 k)) e
        ∙ ap (filter (λ k. not (is_in b k))) (numbers_from-append 1 n (suc m))
        ∙ filter-append (λ k. not (is_in b k)) (numbers_from 1 n) ((1 + n) ∷ numbers_from (suc (1 + n)) m)
        ∙ next (1 + n) (omega arith) (numbers_from (suc (1 + n)) m)
      where
        next : (k : ℕ) → k ≡ suc n → (ys : List ℕ) →
            nonbasics_to b n ++ filter (λ k. not (is_in b k)) (k ∷ ys) ≡ nonbasics_to b n ++ suc n ∷ filter (λ k. not (is_in b k)) ys
        next k same ys = rw (same, out) refl

    rest : ℕ
    rest = size a - suc n

    counted : size a ≡ n + suc (size a - suc n)
    counted = omega arith

    pub front : take (length (nonbasics_to b n)) (nonbasics a b) ≡ nonbasics_to b n
    front =
        ap (take (length (nonbasics_to b n))) (split_at (size a - suc n) counted)
        ∙ take_front (nonbasics_to b n) (suc n ∷ filter (λ k. not (is_in b k)) (numbers_from (suc (1 + n)) (size a - suc n)))

    pub next_is : slice_get (nonbasics a b) (length (nonbasics_to b n)) ≡ Some (suc n)
    next_is =
        ap (λ xs. slice_get xs (length (nonbasics_to b n))) (split_at (size a - suc n) counted)
        ∙ get_after (nonbasics_to b n) (suc n) (filter (λ k. not (is_in b k)) (numbers_from (suc (1 + n)) (size a - suc n)))

-- ---- one column more

module _ (a : Matrix) (b : Basics) (v : Vector) (n : ℕ) where
  -- a variable that is basic adds nothing
  pub so_far-basic : (z : Vector) → IsSoFar a b v n z → is_in b (suc n) ≡ true → IsSoFar a b v (suc n) z
  so_far-basic z h is = record {
    nonbasics = h.nonbasics;
    basics = λ rate are k basic. h.basics rate are k basic ∙ ap (λ m. with_term m (sum_at b (λ j. rate k j *ℚ v j) n) (rate k (suc n) *ℚ v (suc n))) (sym is);
  }

  -- nor does a value 0
  pub so_far-zero : (z : Vector) → IsSoFar a b v n z → is_in b (suc n) ≡ false → v (suc n) ≡ zero_ℚ → IsSoFar a b v (suc n) z
  so_far-zero z h is vanishes = record {
    nonbasics = h.nonbasics;
    basics = λ rate are k basic.
        h.basics rate are k basic
        ∙ sym (add-zero (sum_at b (λ j. rate k j *ℚ v j) n))
        ∙ ap (λ t. sum_at b (λ j. rate k j *ℚ v j) n +ℚ t) (sym (ap (λ x. rate k (suc n) *ℚ x) vanishes ∙ mul-zero (rate k (suc n))))
        ∙ ap (λ m. with_term m (sum_at b (λ j. rate k j *ℚ v j) n) (rate k (suc n) *ℚ v (suc n))) (sym is);
  }

  -- and a nonbasic adds its direction, times its value
  pub so_far-added : (z w d : Vector) → IsNonsingular a b → IsSoFar a b v n z → IsNonbasic a b (suc n) → IsDirectionOf a b (suc n) d →
      AreAdded b d (z (suc n)) z (size a) w → IsSoFar a b v (suc n) w
  so_far-added z w d nonsingular h out direction added = record {
    nonbasics = λ k is. added k is.0.0 is.0.1 ∙ ap (λ m. cond m (z k +ℚ d k *ℚ z (suc n)) (z k)) is.1 ∙ h.nonbasics k is;
    basics = λ rate are k is.
        added k is.0.0 is.0.1
        ∙ ap (λ m. cond m (z k +ℚ d k *ℚ z (suc n)) (z k)) is.1
        ∙ ap₂ (λ s t. s +ℚ t) (h.basics rate are k is)
        (ap₂ (λ x y. x *ℚ y) (one_direction a b (suc n) d (λ i. rate i (suc n)) nonsingular direction (are (suc n) out) k is.0) (h.nonbasics (suc n) out))
        ∙ ap (λ m. with_term m (sum_at b (λ j. rate k j *ℚ v j) n) (rate k (suc n) *ℚ v (suc n))) (sym out.1);
  }

-- ---- the beginning, the end, and a refusal

module _ (p : LinearProgram) (s : List Status) (basis : IsBasis p s) where
  pub so_far-begins : (z : Vector) → ((k : ℕ) → IsVariable p.matrix k → z k ≡ standing p s k) → IsSoFar p.matrix (basics_of s) (standing p s) 0 z
  so_far-begins z is = record {
    nonbasics = λ k out. is k out.0;
    basics = λ rate are k basic.
        let within : k ≤ length s = omega (arith, basis.counted, basic.0.1) in
        is k basic.0 ∙ ap (λ st. place_of st (lower_of p k) (upper_of p k)) (basic_from (status_of s k) (sym (is_in-basics_of s k basic.0.0 within) ∙ basic.1));
  }

  module _ (nonsingular : IsNonsingular p.matrix (basics_of s)) where
    pub so_far-ends : (z : Vector) → IsSoFar p.matrix (basics_of s) (standing p s) (size p.matrix) z → IsPointOf p s z
    so_far-ends z h =
        let there = rates_exist p.matrix (basics_of s) nonsingular in
        let point = IsPointOf-combination p s basis there.0 there.1 in
        let c : Vector = combination p.matrix (basics_of s) there.0 (standing p s) in
        record {
          keeps = KeepsEquations-same p.matrix c z (λ k is. sym (same k is (is_in (basics_of s) k) refl)) point.keeps;
          placed =
              λ k is. subst (λ x. StandsAt (status_of s k) (lower_of p k) (upper_of p k) x) (sym (same k is (is_in (basics_of s) k) refl)) (point.placed k is);
        }
      where
        same : (k : ℕ) → IsVariable p.matrix k → (m : Bool) → is_in (basics_of s) k ≡ m
            → z k ≡ combination p.matrix (basics_of s) (rates_exist p.matrix (basics_of s) nonsingular).0 (standing p s) k
        same k is true basic =
            h.basics (rates_exist p.matrix (basics_of s) nonsingular).0 (rates_exist p.matrix (basics_of s) nonsingular).1 k (is, basic)
            ∙ sum_at_ordered (basics_of s) (λ j. (rates_exist p.matrix (basics_of s) nonsingular).0 k j *ℚ standing p s j) (size p.matrix)
            ∙ combination_in_order p.matrix (basics_of s) (rates_exist p.matrix (basics_of s) nonsingular).0 (standing p s) k
        same k is false out =
            h.nonbasics k (is, out)
            ∙ sym (combination_at p.matrix (basics_of s) (rates_exist p.matrix (basics_of s) nonsingular).0 (rates_exist p.matrix (basics_of s) nonsingular).1
            (standing p s) k (is, out))

    module _ (z d : Vector) (n : ℕ) (e : Evidence) (h : IsSoFar p.matrix (basics_of s) (standing p s) n z) (out : IsNonbasic p.matrix (basics_of s) (suc n))
        (direction : IsDirectionOf p.matrix (basics_of s) (suc n) d) where
      rate : ℕ → ℕ → ℚ
      rate = (rates_exist p.matrix (basics_of s) nonsingular).0

      are : AreRates p.matrix (basics_of s) rate
      unfolding rate
      are = (rates_exist p.matrix (basics_of s) nonsingular).1

      abbrev point : Vector
      point = combination p.matrix (basics_of s) rate (standing p s)

      point_at : (k : ℕ) → IsNonbasic p.matrix (basics_of s) k → standing p s k ≡ point k
      point_at k is = sym (combination_at p.matrix (basics_of s) rate are (standing p s) k is)

      rate_at : (i : ℕ) → IsVariable p.matrix i → d i ≡ rate i (suc n)
      rate_at i is = one_direction p.matrix (basics_of s) (suc n) d (λ k. rate k (suc n)) nonsingular direction (are (suc n) out) i is

      value_is : z (suc n) ≡ point (suc n)
      value_is = h.nonbasics (suc n) out ∙ point_at (suc n) out

      sum_is : (i : ℕ) → IsBasic p.matrix (basics_of s) i →
          z i ≡ sum_from zero_ℚ (map (λ j. rate i j *ℚ point j) (take (length (nonbasics_to (basics_of s) n)) (nonbasics p.matrix (basics_of s))))
      sum_is i basic =
          h.basics rate are i basic
          ∙ sum_at-same (basics_of s) (λ j. rate i j *ℚ standing p s j) (λ j. rate i j *ℚ point j) n
          (λ k low high nonbasic. ap (λ x. rate i k *ℚ x) (point_at k ((low, omega (arith, high, out.0.1)), nonbasic)))
          ∙ sum_at_ordered (basics_of s) (λ j. rate i j *ℚ point j) n
          ∙ ap (λ ks. sum_from zero_ℚ (map (λ j. rate i j *ℚ point j) ks)) (sym (front (basics_of s) p.matrix n (omega (arith, out.0.1)) out.1))

      formula_of : ColumnTermRefused (basics_of s) d (z (suc n)) z (suc n) (length (nonbasics_to (basics_of s) n)) (size p.matrix) e →
          PointFormula p s (tableau_of p s basis nonsingular rate) e
      formula_of r = by_term r.refused
        where
          is_basic_i : IsBasic p.matrix (basics_of s) r.i
          is_basic_i = ((r.low, r.high), r.basic)

          next : slice_get (nonbasics p.matrix (basics_of s)) (length (nonbasics_to (basics_of s) n)) ≡ Some (suc n)
          next = next_is (basics_of s) p.matrix n (omega (arith, out.0.1)) out.1

          by_term : IsTermRefusal (term_of r.i (suc n) (length (nonbasics_to (basics_of s) n))) (z r.i) (d r.i) (z (suc n)) e →
              PointFormula p s (tableau_of p s basis nonsingular rate) e
          by_term (of_product refused) =
              f10_product r.i (suc n) (length (nonbasics_to (basics_of s) n)) refused.names is_basic_i next
              (rw (rate_at r.i is_basic_i.0, value_is) at refused.refuses)
          by_term (of_sum refused) =
              f10_sum r.i (suc n) (length (nonbasics_to (basics_of s) n)) refused.names is_basic_i next
              (rw (sum_is r.i is_basic_i, rate_at r.i is_basic_i.0, value_is) at refused.refuses)

      facts : ColumnTermRefused (basics_of s) d (z (suc n)) z (suc n) (length (nonbasics_to (basics_of s) n)) (size p.matrix) e →
          (e.formula ≡ 10) × (e.way ≡ 0) × (e.theta ≡ zero_ℚ)
      facts r = by_term r.refused
        where
          by_term : IsTermRefusal (term_of r.i (suc n) (length (nonbasics_to (basics_of s) n))) (z r.i) (d r.i) (z (suc n)) e →
              (e.formula ≡ 10) × (e.way ≡ 0) × (e.theta ≡ zero_ℚ)
          by_term (of_product refused) = (refused.names.is_formula, refused.no_way, refused.is_theta)
          by_term (of_sum refused) = (refused.names.is_formula, refused.no_way, refused.is_theta)

      pub term_stops : (before after : List Basics) →
          ColumnTermRefused (basics_of s) d (z (suc n)) z (suc n) (length (nonbasics_to (basics_of s) n)) (size p.matrix) e → PointRefused p before s after e
      term_stops before after r =
          let f = facts r in
          record {
            of_call = of_point p.change e.formula (rw f.0 refl);
            stops =
                stops_at_basis p s (tableau_of p s basis nonsingular rate) (IsTableau-of p s basis nonsingular rate are) nonsingular
                (λ to. ⊥) before after e f.1 f.2 (formula_of r);
          }

-- ---- the same at k + 1

module _ (p : LinearProgram) (s : List Status) (j : ℕ) (low : 1 ≤ j) where
  same : suc (j - 1) ≡ j
  same = omega (arith, low)

  more : (z : Vector) → IsSoFar p.matrix (basics_of s) (standing p s) (suc (j - 1)) z → IsSoFar p.matrix (basics_of s) (standing p s) j z
  more z h = subst (λ (n : ℕ). IsSoFar p.matrix (basics_of s) (standing p s) n z) (same) h

  pub more_basic : (z : Vector) → IsSoFar p.matrix (basics_of s) (standing p s) (j - 1) z → is_in (basics_of s) j ≡ true →
      IsSoFar p.matrix (basics_of s) (standing p s) j z
  more_basic z h is = more z (so_far-basic p.matrix (basics_of s) (standing p s) (j - 1) z h (ap (is_in (basics_of s)) (same) ∙ is))

  pub more_zero : (z : Vector) → IsSoFar p.matrix (basics_of s) (standing p s) (j - 1) z → IsVariable p.matrix j → is_in (basics_of s) j ≡ false →
      z j ≡ zero_ℚ → IsSoFar p.matrix (basics_of s) (standing p s) j z
  more_zero z h is out nothing =
      more z (so_far-zero p.matrix (basics_of s) (standing p s) (j - 1) z h (ap (is_in (basics_of s)) (same) ∙ out)
      (ap (standing p s) (same) ∙ sym (h.nonbasics j (is, out)) ∙ nothing))

  pub more_added : (z w d : Vector) (v : ℚ) → IsNonsingular p.matrix (basics_of s) → IsSoFar p.matrix (basics_of s) (standing p s) (j - 1) z →
      IsNonbasic p.matrix (basics_of s) j → IsDirectionOf p.matrix (basics_of s) j d → v ≡ z j →
      AreAdded (basics_of s) d v z (size p.matrix) w → IsSoFar p.matrix (basics_of s) (standing p s) j w
  more_added z w d v nonsingular h out direction is added =
      more w (so_far-added p.matrix (basics_of s) (standing p s) (j - 1) z w d nonsingular h
      (subst (λ (n : ℕ). IsNonbasic p.matrix (basics_of s) n) (sym same) out)
      (subst (λ (n : ℕ). IsDirectionOf p.matrix (basics_of s) n d) (sym same) direction)
      (subst (λ (x : ℚ). AreAdded (basics_of s) d x z (size p.matrix) w) (is ∙ ap z (sym same)) added))

  pub more_refused : (z d : Vector) (v : ℚ) (term : ℕ) (e : Evidence) (basis : IsBasis p s) → IsNonsingular p.matrix (basics_of s) →
      IsSoFar p.matrix (basics_of s) (standing p s) (j - 1) z → IsNonbasic p.matrix (basics_of s) j →
      IsDirectionOf p.matrix (basics_of s) j d → v ≡ z j → term ≡ length (nonbasics_to (basics_of s) (j - 1)) → (before after : List Basics) →
      ColumnTermRefused (basics_of s) d v z j term (size p.matrix) e → PointRefused p before s after e
  more_refused z d v term e basis nonsingular h out direction is counted before after refused =
      term_stops p s basis nonsingular z d (j - 1) e h
      (subst (λ (n : ℕ). IsNonbasic p.matrix (basics_of s) n) (sym same) out)
      (subst (λ (n : ℕ). IsDirectionOf p.matrix (basics_of s) n d) (sym same) direction) before after
      (subst (λ (x : ℚ). ColumnTermRefused (basics_of s) d x z (suc (j - 1)) (length (nonbasics_to (basics_of s) (j - 1))) (size p.matrix) e)
      (is ∙ ap z (sym same))
      (subst (λ (t : ℕ). ColumnTermRefused (basics_of s) d v z (suc (j - 1)) t (size p.matrix) e) counted
      (subst (λ (n : ℕ). ColumnTermRefused (basics_of s) d v z n term (size p.matrix) e) (sym same) refused)))
