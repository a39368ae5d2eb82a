-- The rows are a nonsingular set, and the directions of the columns have their numbers.
use Rattle.std.proofs.Common.{◌≡◌, ℕ, zero, suc, ◌+◌, ◌-◌, ◌<◌, ◌≤◌, List, [], ◌∷◌, ◌++◌, length, map, get_or, refl, sym, ◌∙◌, ap, ap₂, Bool, true, false}
use Rattle.std.proofs.Common.{arith}
use Rattle.std.specs.Prelude.{nat_le, count_by}
use Rattle.std.proofs.lemmas.List.{get_or-map, length-map, map-append}
use Rattle.exact_values.specs.Rational.{zero_ℚ, ◌*ℚ◌}
use Rattle.exact_values.proofs.RingLaws.{mul-zero}
use Rattle.exact_values.proofs.Sums.{sum_to-zero}
use Rattle.lp_definitions.specs.LinearProgram.{Matrix, Vector, size, entry, numbers_from, variables, IsColumn, IsVariable, KeepsEquations}
use Rattle.lp_definitions.specs.Basis.{is_in, IsNonbasic, IsNonsingular, AreRates, row_basics}
use Rattle.lp_laws.specs.Vectors.{unit}
use Rattle.lp_laws.specs.Rates.{opening_rate}
use Rattle.lp_laws.proofs.Exchange.{marked, marked_is}
use Rattle.lp_laws.proofs.Functionals.{KeepsEquations-unit, unit_own, unit_other}

-- ---- numbers in order

pub length-numbers_from : (first n : ℕ) → length (numbers_from first n) ≡ n
length-numbers_from first zero = refl
length-numbers_from first (suc n) = ap suc (length-numbers_from (suc first) n)

pub numbers_from-at : (first n i d : ℕ) → i < n → get_or (numbers_from first n) i d ≡ first + i
numbers_from-at first zero i d below = absurd (omega arith)
numbers_from-at first (suc n) zero d below = omega arith
numbers_from-at first (suc n) (suc i) d below = numbers_from-at (suc first) n i d (omega arith) ∙ omega arith

pub numbers_from-append : (first m n : ℕ) → numbers_from first (m + n) ≡ numbers_from first m ++ numbers_from (first + m) n
numbers_from-append first zero n = ap₂ numbers_from (omega arith) (omega arith)
numbers_from-append first (suc m) n =
    let more : suc m + n ≡ suc (m + n) = omega arith in
    ap (numbers_from first) more
    ∙ ap (λ xs. first ∷ xs) (numbers_from-append (suc first) m n ∙ ap (λ k. numbers_from (suc first) m ++ numbers_from k n) (omega arith))

-- ---- the marks of the rows

pub length-row_basics : (a : Matrix) → length (row_basics a) ≡ size a
length-row_basics a = rw length-map (length-numbers_from 1 (size a))

pub is_in-row_basics : (a : Matrix) (k : ℕ) → IsVariable a k → is_in (row_basics a) k ≡ nat_le k a.rows
is_in-row_basics a k is =
    let below : k - 1 < length (variables a) = rw (length-numbers_from 1 (size a)) (omega (arith, is.0, is.1)) in
    get_or-map (λ k. nat_le k a.rows) (variables a) (k - 1) 0 false below
    ∙ ap (λ n. nat_le n a.rows) (numbers_from-at 1 (size a) (k - 1) 0 (omega (arith, is.0, is.1)) ∙ omega (arith, is.0))

marked-append : (ms ns : List Bool) → marked (ms ++ ns) ≡ marked ms + marked ns
marked-append [] ns = omega arith
marked-append (true ∷ ms) ns = ap (λ n. 1 + n) (marked-append ms ns) ∙ omega arith
marked-append (false ∷ ms) ns = marked-append ms ns

-- so many numbers from one on that are at most m, and so many that are not
all_marked : (m first n : ℕ) → first + n ≤ m + 1 → marked (map (λ k. nat_le k m) (numbers_from first n)) ≡ n
all_marked m first zero below = refl
all_marked m first (suc n) below =
    let is : nat_le first m ≡ true = grind arith in
    rw is (ap (λ k. 1 + k) (all_marked m (suc first) n (omega arith)) ∙ omega arith)

none_marked : (m first n : ℕ) → m < first → marked (map (λ k. nat_le k m) (numbers_from first n)) ≡ 0
none_marked m first zero above = refl
none_marked m first (suc n) above =
    let is : nat_le first m ≡ false = grind arith in
    rw is (none_marked m (suc first) n (omega arith))

pub marked-row_basics : (a : Matrix) → count_by (λ m. m) (row_basics a) ≡ a.rows
marked-row_basics a =
    let row : ℕ → Bool = λ k. nat_le k a.rows in
    sym (marked_is (row_basics a))
    ∙ ap (λ ks. marked (map row ks)) (numbers_from-append 1 a.rows a.cols)
    ∙ ap marked (map-append row (numbers_from 1 a.rows) (numbers_from (1 + a.rows) a.cols))
    ∙ marked-append (map row (numbers_from 1 a.rows)) (map row (numbers_from (1 + a.rows) a.cols))
    ∙ ap₂ (λ m n. m + n) (all_marked a.rows 1 a.rows (omega arith)) (none_marked a.rows (1 + a.rows) a.cols (omega arith))
    ∙ omega arith

-- ---- nonsingular

-- a nonbasic is a column
column_of : (a : Matrix) (k : ℕ) → IsNonbasic a (row_basics a) k → a.rows < k
column_of a k out = let above : nat_le k a.rows ≡ false = sym (is_in-row_basics a k out.0) ∙ out.1 in grind arith

nonbasic_column : (a : Matrix) (j : ℕ) → IsColumn a j → IsNonbasic a (row_basics a) (a.rows + j)
nonbasic_column a j is =
    let var : IsVariable a (a.rows + j) = (omega (arith, is.0), omega (arith, is.1)) in
    let above : nat_le (a.rows + j) a.rows ≡ false = grind (arith, is.0) in
    (var, is_in-row_basics a (a.rows + j) var ∙ above)

pub IsNonsingular-row_basics : (a : Matrix) → IsNonsingular a (row_basics a)
IsNonsingular-row_basics a = record { counted = length-row_basics a; m_basics = marked-row_basics a; only_zero = only_zero }
  where
    only_zero : (z : Vector) → KeepsEquations a z → ((k : ℕ) → IsNonbasic a (row_basics a) k → z k ≡ zero_ℚ) → (k : ℕ) → IsVariable a k → z k ≡ zero_ℚ
    only_zero z keeps out k is = at (nat_le k a.rows) refl
      where
        at : (low : Bool) → nat_le k a.rows ≡ low → z k ≡ zero_ℚ
        at true low =
            keeps k (is.0, grind arith)
            ∙ sum_to-zero a.cols _
            (λ j below. ap (λ x. entry a k (suc j) *ℚ x) (out (a.rows + suc j) (nonbasic_column a (suc j) (omega arith, omega (arith, below))))
            ∙ mul-zero (entry a k (suc j)))
        at false high = out k (is, is_in-row_basics a k is ∙ high)

pub AreRates-opening : (a : Matrix) → AreRates a (row_basics a) (opening_rate a)
AreRates-opening a j out =
    let above : a.rows < j = column_of a j out in
    let column : IsColumn a (j - a.rows) = (omega arith, omega (arith, out.0.1)) in
    let number : a.rows + (j - a.rows) ≡ j = omega arith in
    record {
      keeps = KeepsEquations-unit a (j - a.rows) column;
      own = ap (unit a (j - a.rows)) (sym number) ∙ unit_own a (j - a.rows) column.0;
      others = λ k other differs.
          let high : a.rows < k = column_of a k other in
          let its : a.rows + (k - a.rows) ≡ k = omega arith in
          ap (unit a (j - a.rows)) (sym its) ∙ unit_other a (j - a.rows) (k - a.rows) (omega arith) (λ e. differs (omega (arith, e)));
    }
