-- Lists of columns that leave out only columns of value 0, and a row's sum over such a list.
use Rattle.std.specs.Prelude.{eqb}
use Rattle.std.proofs.Common.{rules, true, false, ◌≡◌, ◌≢◌, ℕ, zero, suc, ◌+◌, ◌-◌, ◌<◌, ◌≤◌, ◌⊎◌, inl, inr, List, [], ◌∷◌, ◌++◌, length, map, get_or, drop}
use Rattle.std.proofs.Common.{take, set, sym, ap, ◌∙◌, arith, subst, Ok, Err}
use Rattle.std.proofs.lemmas.Bool.Decides.{eqb_tells}
use Rattle.std.proofs.lemmas.List.{take_more_set, drop_all, get_or-take, get_or-drop}
use Rattle.std.proofs.Math.Seq.{drop-cons}
use Rattle.exact_values.specs.Rational.{ℚ, zero_ℚ}
use Rattle.frac128.specs.declared.Refused.{Refused}
use Rattle.frac128.specs.Operations.{TermsFit}
use Rattle.lp_definitions.specs.LinearProgram.{LinearProgram, Vector, numbers_from, entry, value_at}
use Rattle.lp_laws.proofs.Places.{value_at_place}
use Rattle.check_definitions.specs.Steps.{Product}
use Rattle.check_definitions.specs.Checks.{row_products}
use Rattle.certificate_check.specs.Listed.{AreZero, AreListed}
use Rattle.certificate_check.specs.Results.{SumsTo}
use Rattle.certificate_check.proofs.Left.{IsLeft, all_left, row_product, columns_left, row_step, row_refused, skipped_right}

-- ---- lists

zero_next : (f : ℕ → ℚ) (first last : ℕ) → f (last + 1) ≡ zero_ℚ → AreZero f first last → AreZero f first (last + 1)
zero_next f first last none zeros = λ j low high. at j low high (eqb_tells j (last + 1))
  where
    at : (j : ℕ) → first < j → j ≤ last + 1 → ((eqb j (last + 1) ≡ true) × (j ≡ last + 1)) ⊎ ((eqb j (last + 1) ≡ false) × (j ≢ last + 1)) → f j ≡ zero_ℚ
    at j low high (inl same) = ap f same.1 ∙ none
    at j low high (inr other) = zeros j low (omega (arith, other.1, high))

-- the next column has the value 0
pub listed_zero : (f : ℕ → ℚ) (first : ℕ) (js : List ℕ) (last : ℕ) → f (last + 1) ≡ zero_ℚ → AreListed f first js last → AreListed f first js (last + 1)
listed_zero f first [] last none listed = (omega (arith, listed.0), zero_next f first last none listed.1)
listed_zero f first (j ∷ js) last none listed = (listed.0, (listed.1.0, listed_zero f j js last none listed.1.1))

-- the next column is listed
listed_last : (f : ℕ → ℚ) (first : ℕ) (js : List ℕ) (last : ℕ) → AreListed f first js last → AreListed f first (js ++ (last + 1) ∷ []) (last + 1)
listed_last f first [] last listed = (
  omega (arith, listed.0),
  (
    λ j low high. listed.1 j low (omega (arith, high)),
    (omega arith, λ j low high. absurd (omega (arith, low, high))),
  ),
)
listed_last f first (j ∷ js) last listed = (listed.0, (listed.1.0, listed_last f j js last listed.1.1))

pub listed_more : (f : ℕ → ℚ) (list : List ℕ) (count last : ℕ) → count < length list → AreListed f 0 (take count list) last →
    AreListed f 0 (take (count + 1) (set list count (last + 1))) (last + 1)
listed_more f list count last below listed =
    subst (λ (js : List ℕ). AreListed f 0 js (last + 1)) (sym (take_more_set list count (last + 1) below)) (listed_last f 0 (take count list) last listed)

up_to_last : (f : ℕ → ℚ) (first : ℕ) (js : List ℕ) (last : ℕ) → AreListed f first js last → first ≤ last
up_to_last f first [] last listed = listed.0
up_to_last f first (j ∷ js) last listed = omega (arith, listed.0, up_to_last f j js last listed.1.1)

-- ---- columns that are left out

module _ (p : LinearProgram) (z : Vector) (i : ℕ) (start : ℚ) (ts : List Product) (sum : ℚ) (fits : TermsFit sum) where
  -- a column of value 0
  pub passed_zero : (j : ℕ) → j < p.cols → z (p.rows + (j + 1)) ≡ zero_ℚ → IsLeft start ts sum (columns_left p z i j) →
      IsLeft start ts sum (columns_left p z i (j + 1))
  passed_zero j below none left =
      row_step p z i j below start ts sum left sum (skipped_right sum (entry p.matrix i (j + 1)) (z (p.rows + (j + 1))) none fits)

  passed : (n first : ℕ) → first + n ≤ p.cols → AreZero (λ j. z (p.rows + j)) first (first + n) → IsLeft start ts sum (columns_left p z i first) →
      IsLeft start ts sum (columns_left p z i (first + n))
  passed zero first within zeros left =
      let same : first ≡ first + zero = omega arith in
      subst (λ (k : ℕ). IsLeft start ts sum (columns_left p z i k)) same left
  passed (suc n) first within zeros left =
      let same : (first + 1) + n ≡ first + suc n = omega arith in
      subst (λ (k : ℕ). IsLeft start ts sum (columns_left p z i k)) same
      (
      passed n (first + 1) (omega (arith, within)) (λ j low high. zeros j (omega (arith, low)) (omega (arith, high)))
      (passed_zero first (omega (arith, within)) (zeros (first + 1) (omega arith) (omega arith)) left)
      )

  pub passed_to : (first last : ℕ) → first ≤ last → last ≤ p.cols → AreZero (λ j. z (p.rows + j)) first last → IsLeft start ts sum (columns_left p z i first) →
      IsLeft start ts sum (columns_left p z i last)
  passed_to first last up within zeros left =
      let same : first + (last - first) ≡ last = omega (arith, up) in
      subst (λ (k : ℕ). IsLeft start ts sum (columns_left p z i k)) same
      (passed (last - first) first (omega (arith, up, within)) (λ j low high. zeros j low (omega (arith, up, high))) left)

-- ---- the sum of a row

-- the columns after some column are to be added to the sum so far, and the list names those of them that aren't 0, up to the last
pub record IsListLeft (p : LinearProgram) (z : Vector) (i : ℕ) (sum : ℚ) (js : List ℕ) (last : ℕ) : Type 0 where
  pub fits : TermsFit sum
  pub first : ℕ
  pub left : IsLeft zero_ℚ (row_products p z i) sum (columns_left p z i first)
  pub listed : AreListed (λ j. z (p.rows + j)) first js last

pub list_start : (p : LinearProgram) (z : Vector) (i : ℕ) (sum : ℚ) (js : List ℕ) (last : ℕ) → sum ≡ zero_ℚ → TermsFit sum →
    AreListed (λ j. z (p.rows + j)) 0 js last → IsListLeft p z i sum js last
list_start p z i sum js last none fits listed = record {
  fits = fits;
  first = 0;
  left =
      subst (λ (s : ℚ). IsLeft zero_ℚ (row_products p z i) s (columns_left p z i 0)) (sym none)
      (subst (λ (ts : List Product). IsLeft zero_ℚ (row_products p z i) zero_ℚ ts) whole (all_left zero_ℚ (row_products p z i)));
  listed = listed;
}
  where
    whole : row_products p z i ≡ columns_left p z i 0
    whole = let same : p.cols ≡ p.cols - 0 = omega arith in ap (λ (n : ℕ). map (row_product p z i) (numbers_from 1 n)) same

pub next_listed : (p : LinearProgram) (z : Vector) (i : ℕ) (sum : ℚ) (js : List ℕ) (k last : ℕ) → k < length js → IsListLeft p z i sum (drop k js) last →
    IsListLeft p z i sum (get_or js k 0 ∷ drop (k + 1) js) last
next_listed p z i sum js k last below so_far =
    let same : drop k js ≡ get_or js k 0 ∷ drop (k + 1) js = search (rules, drop-cons) in
    subst (λ (ks : List ℕ). IsListLeft p z i sum ks last) same so_far

pub next_within : (p : LinearProgram) (z : Vector) (i : ℕ) (sum : ℚ) (j : ℕ) (js : List ℕ) (last : ℕ) → IsListLeft p z i sum (j ∷ js) last →
    (1 ≤ j) × (j ≤ last)
next_within p z i sum j js last so_far = (omega (arith, so_far.listed.0), up_to_last (λ j. z (p.rows + j)) j js last so_far.listed.1.1)

module _ (p : LinearProgram) (z : Vector) (i : ℕ) (sum : ℚ) (j : ℕ) (js : List ℕ) (last : ℕ) (within : last ≤ p.cols)
    (so_far : IsListLeft p z i sum (j ∷ js) last) where
  up : so_far.first ≤ j - 1
  up = omega (arith, so_far.listed.0)

  below : j - 1 < p.cols
  below = let h = next_within p z i sum j js last so_far in omega (arith, h.0, h.1, within)

  same : j ≡ (j - 1) + 1
  same = omega (arith, so_far.listed.0)

  before : IsLeft zero_ℚ (row_products p z i) sum (columns_left p z i (j - 1))
  before = passed_to p z i zero_ℚ (row_products p z i) sum so_far.fits so_far.first (j - 1) up (omega (arith, below)) so_far.listed.1.0 so_far.left

  pub listed_step : (next : ℚ) → TermsFit next → SumsTo (Ok next) sum (row_product p z i j ∷ []) → IsListLeft p z i next js last
  listed_step next fits made = record {
    fits = fits;
    first = j;
    left = subst (λ (k : ℕ). IsLeft zero_ℚ (row_products p z i) next (columns_left p z i k)) (sym same)
        (row_step p z i (j - 1) below zero_ℚ (row_products p z i) sum before next
        (subst (λ (k : ℕ). SumsTo (Ok next) sum (row_product p z i k ∷ [])) same made));
    listed = so_far.listed.1.1;
  }

  pub listed_refused : (refused : Refused) → SumsTo (Err refused) sum (row_product p z i j ∷ []) → SumsTo (Err refused) zero_ℚ (row_products p z i)
  listed_refused refused stopped =
      row_refused p z i (j - 1) below zero_ℚ (row_products p z i) sum before refused
      (subst (λ (k : ℕ). SumsTo (Err refused) sum (row_product p z i k ∷ [])) same stopped)

-- at the end of the list
pub listed_done : (p : LinearProgram) (z : Vector) (i : ℕ) (sum : ℚ) (js : List ℕ) (k last : ℕ) → length js ≤ k → last ≤ p.cols
    → IsListLeft p z i sum (drop k js) last
    → IsLeft zero_ℚ (row_products p z i) sum (columns_left p z i last)
listed_done p z i sum js k last all within so_far =
    let none : drop k js ≡ [] = drop_all k js all in
    at (subst (λ (ks : List ℕ). IsListLeft p z i sum ks last) none so_far)
  where
    at : IsListLeft p z i sum [] last → IsLeft zero_ℚ (row_products p z i) sum (columns_left p z i last)
    at ended = passed_to p z i zero_ℚ (row_products p z i) sum ended.fits ended.first last ended.listed.0 within ended.listed.1 ended.left

-- ---- the values after the list

pub tail_value : (xs : List ℚ) (n place : ℕ) (x : ℚ) → n + place < length xs → x ≡ get_or (take (length xs - n) (drop n xs)) place x →
    x ≡ value_at xs (n + place + 1)
tail_value xs n place x within is =
    let same : n + place ≡ n + place + 1 - 1 = omega arith in
    value_at_place xs (n + place + 1) x (omega arith) (omega (arith, within))
    (is ∙ get_or-take (length xs - n) (drop n xs) place x (omega (arith, within)) ∙ get_or-drop n xs place x ∙ ap (λ (k : ℕ). get_or xs k x) same)
