-- A sum that is made product by product: what is left of it.
use Rattle.std.proofs.Common.{◌≡◌, ℕ, ◌+◌, ◌-◌, ◌<◌, List, [], ◌∷◌, length, map, get_or, drop, refl, sym, ap, ◌∙◌, add-one, subst, false, Ok, Err}
use Rattle.std.specs.Prelude.{if◌then◌else◌}
use Rattle.exact_values.specs.Rational.{ℚ, zero_ℚ, ◌+ℚ◌, ◌*ℚ◌}
use Rattle.exact_values.proofs.RingLaws.{add-zero, zero-mul, mul-zero}
use Rattle.frac128.specs.declared.Op.TheVariants.{Add, Mul}
use Rattle.frac128.specs.declared.Refused.{Refused}
use Rattle.frac128.specs.Operations.{TermsFit, refuses}
use Rattle.std.proofs.Math.Seq.{drop-cons}
use Rattle.lp_definitions.specs.declared.Entry.{Entry}
use Rattle.lp_definitions.specs.LinearProgram.{LinearProgram, Vector, numbers_from, entry}
use Rattle.check_definitions.specs.declared.Verdict.TheVariants.{Checked, Unchecked}
use Rattle.check_definitions.specs.Steps.{operation, Product, product_of, verdict_of, sum_steps, sum_of, followed_by}
use Rattle.check_definitions.specs.Checks.{entry_products}
use Rattle.check_definitions.proofs.Passing.{verdict-append, numbers-next}
use Rattle.certificate_check.proofs.NoRefusal.{mul_taken_left, mul_taken_right, add_zero_taken}
use Rattle.certificate_check.specs.Results.{SumsTo}

-- after some products the sum so far, and the products that are left, stand for the whole
pub record IsLeft (start : ℚ) (ts : List Product) (sum : ℚ) (rest : List Product) : Type 0 where
  pub steps : verdict_of (sum_steps start ts) ≡ verdict_of (sum_steps sum rest)
  pub total : sum_of start ts ≡ sum_of sum rest

pub all_left : (start : ℚ) (ts : List Product) → IsLeft start ts start ts
all_left start ts = record { steps = refl; total = refl }

-- one product more
pub left_next : (start : ℚ) (ts : List Product) (sum next : ℚ) (t : Product) (rest : List Product) → IsLeft start ts sum (t ∷ rest) →
    SumsTo (Ok next) sum (t ∷ []) → IsLeft start ts next rest
left_next start ts sum next t rest left made = record {
  steps = left.steps ∙ verdict-append (sum_steps sum (t ∷ [])) (sum_steps (sum +ℚ product_of t) rest)
      ∙ ap (λ v. followed_by v (verdict_of (sum_steps (sum +ℚ product_of t) rest))) made.0
      ∙ ap (λ s. verdict_of (sum_steps s rest)) (sym made.1);
  total = left.total ∙ ap (λ s. sum_of s rest) (sym made.1);
}

pub left_refused : (start : ℚ) (ts : List Product) (sum : ℚ) (t : Product) (rest : List Product) (refused : Refused) → IsLeft start ts sum (t ∷ rest) →
    SumsTo (Err refused) sum (t ∷ []) → SumsTo (Err refused) start ts
left_refused start ts sum t rest refused left stopped =
    left.steps ∙ verdict-append (sum_steps sum (t ∷ [])) (sum_steps (sum +ℚ product_of t) rest)
    ∙ ap (λ v. followed_by v (verdict_of (sum_steps (sum +ℚ product_of t) rest))) stopped

pub left_none : (start : ℚ) (ts : List Product) (sum : ℚ) → IsLeft start ts sum [] → SumsTo (Ok sum) start ts
left_none start ts sum left = (left.steps, sym left.total)

-- ---- products that are 0

-- a product that is 0 may be left out
pub skipped : (sum : ℚ) (t : Product) → refuses Mul t.left t.right ≡ false → product_of t ≡ zero_ℚ → TermsFit sum → SumsTo (Ok sum) sum (t ∷ [])
skipped sum t taken none fits = (
  ap (λ b. if b then Unchecked (record { op = Mul; left = t.left; right = t.right }) else verdict_of (operation Add sum (product_of t) ∷ [])) taken
      ∙ ap (λ b. if b then Unchecked (record { op = Add; left = sum; right = product_of t }) else Checked) (add_zero_taken sum (product_of t) none fits),
  sym (ap (λ s. sum +ℚ s) none ∙ add-zero sum),
)

pub skipped_left : (sum x y : ℚ) → x ≡ zero_ℚ → TermsFit sum → SumsTo (Ok sum) sum (record { left = x; right = y } ∷ [])
skipped_left sum x y none fits = skipped sum (record { left = x; right = y }) (mul_taken_left x y none) (ap (λ s. s *ℚ y) none ∙ zero-mul y) fits

pub skipped_right : (sum x y : ℚ) → y ≡ zero_ℚ → TermsFit sum → SumsTo (Ok sum) sum (record { left = x; right = y } ∷ [])
skipped_right sum x y none fits = skipped sum (record { left = x; right = y }) (mul_taken_right x y none) (ap (λ s. x *ℚ s) none ∙ mul-zero x) fits

-- ---- the numbers of a column, and those of a row

pub column_next : (y : Vector) (es : List Entry) (i : ℕ) (d : Entry) → i < length es →
    entry_products y (drop i es) ≡ (record { left = y (get_or es i d).row; right = (get_or es i d).value }) ∷ entry_products y (drop (i + 1) es)
column_next y es i d below = ap (entry_products y) (drop-cons es i d below ∙ ap (λ j. get_or es i d ∷ drop j es) (sym (add-one i)))

abbrev pub row_product : LinearProgram → Vector → ℕ → ℕ → Product
row_product p z i j = record { left = entry p.matrix i j; right = z (p.rows + j) }

-- the columns from j + 1 on
abbrev pub columns_left : LinearProgram → Vector → ℕ → ℕ → List Product
columns_left p z i j = map (row_product p z i) (numbers_from (j + 1) (p.cols - j))

row_next : (p : LinearProgram) (z : Vector) (i j : ℕ) → j < p.cols → columns_left p z i j ≡ row_product p z i (j + 1) ∷ columns_left p z i (j + 1)
row_next p z i j below = ap (map (row_product p z i)) (numbers-next j p.cols below)

-- the number that a column has on row i, and the value of that column
pub same_product : (p : LinearProgram) (z : Vector) (i j : ℕ) (x v : ℚ) → x ≡ entry p.matrix i j → v ≡ z (p.rows + j) →
    (record { left = x; right = v }) ≡ row_product p z i j
same_product p z i j x v is_number is_value = ap (λ (s : ℚ). product s v) is_number ∙ ap (λ (s : ℚ). product (entry p.matrix i j) s) is_value
  where
    product : ℚ → ℚ → Product
    product x y = record { left = x; right = y }

module _ (p : LinearProgram) (z : Vector) (i j : ℕ) (below : j < p.cols) (start : ℚ) (ts : List Product) (sum : ℚ)
    (left : IsLeft start ts sum (columns_left p z i j)) where
  pub row_step : (next : ℚ) → SumsTo (Ok next) sum (row_product p z i (j + 1) ∷ []) → IsLeft start ts next (columns_left p z i (j + 1))
  row_step next made =
      left_next start ts sum next (row_product p z i (j + 1)) (columns_left p z i (j + 1))
      (subst (λ (rest : List Product). IsLeft start ts sum rest) (row_next p z i j below) left) made

  pub row_refused : (refused : Refused) → SumsTo (Err refused) sum (row_product p z i (j + 1) ∷ []) → SumsTo (Err refused) start ts
  row_refused refused stopped =
      left_refused start ts sum (row_product p z i (j + 1)) (columns_left p z i (j + 1)) refused
      (subst (λ (rest : List Product). IsLeft start ts sum rest) (row_next p z i j below) left) stopped
