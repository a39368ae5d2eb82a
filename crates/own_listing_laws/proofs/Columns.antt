-- The numbers of printed lines, as the vectors that they were printed of.
use Rattle.std.proofs.Common.{◌≡◌, ℕ, zero, suc, ◌+◌, ◌-◌, ◌<◌, ◌≤◌, Bool, true, false, not, cond, List, [], ◌∷◌, ◌++◌, map, length, get_or, Option, Some, None}
use Rattle.std.proofs.Common.{refl, sym, ap, ap₂, ◌∙◌, arith}
use Rattle.std.specs.Prelude.{find, slice_get, nat_eq}
use Rattle.std.proofs.lemmas.List.{ext_get_or, map-append}
use Rattle.std.proofs.lemmas.Bool.Decides.{nat_tests}
use Rattle.exact_values.specs.Rational.{ℚ, zero_ℚ}
use Rattle.exact_values.specs.Tests.{eq_ℚ}
use Rattle.exact_values.proofs.TestsLaws.{same_from_test}
use Rattle.lp_definitions.specs.LinearProgram.{Matrix, Vector, value_at, variables, numbers_from, size, IsVariable}
use Rattle.lp_definitions.specs.Basis.{Tableau, basics_of, price_at}
use Rattle.lp_laws.proofs.Opening.{numbers_from-append}
use Rattle.simplex_definitions.specs.Path.{listed}
use Rattle.simplex_laws.proofs.Numbered.{map_same, get_or-listed}
use Rattle.listing_definitions.specs.Report.{Value, Number, Line}
use Rattle.question_definitions.specs.Answers.{Basis, Sheet}
use Rattle.answer_definitions.specs.Lines.{row_numbers, column_numbers, name_of, lines_of, pair_lines, ray_lines}
use Rattle.answer_definitions.specs.Sections.{solution_row, solution_column, solution_lines}
use Rattle.walk_definitions.specs.Tables.{number_of, numbered, column_of, multipliers}
use Rattle.own_listing_laws.proofs.Tabled.{among, one_value}

-- ---- lists of values

length_listed : (f : Vector) (n first : ℕ) → length (map f (numbers_from first n)) ≡ n
length_listed f zero first = refl
length_listed f (suc n) first = let rest = length_listed f n (suc first) in omega (arith, rest)

pub sized : (a : Matrix) (f : Vector) → length (listed a f) ≡ size a
sized a f = length_listed f (size a) 1

-- a list of as many values as there are variables has these values
pub listed_again : (a : Matrix) (xs : List ℚ) → length xs ≡ size a → listed a (value_at xs) ≡ xs
listed_again a xs counted = sym (ext_get_or zero_ℚ xs (listed a (value_at xs)) (counted ∙ sym (sized a (value_at xs))) same)
  where
    same : (i : ℕ) → i < length xs → get_or xs i zero_ℚ ≡ get_or (listed a (value_at xs)) i zero_ℚ
    same i below =
        let place : i ≡ 1 + i - 1 = omega arith in
        ap (λ j. get_or xs j zero_ℚ) place ∙ sym (get_or-listed (value_at xs) (size a) 1 i zero_ℚ (omega (arith, below, counted)))

pub listed_same : (a : Matrix) (f g : Vector) → ((k : ℕ) → IsVariable a k → f k ≡ g k) → listed a f ≡ listed a g
listed_same a f g same = map_same f g (size a) 1 (λ k low high. same k (low, omega (arith, high)))

-- the numbers at a place of lines
module _ (sheet : Sheet) (values : ℕ → List Value) (place : ℕ) where
  pub column_is : (ks : List ℕ) → column_of place (lines_of sheet values ks) ≡ map (λ k. number_of (slice_get (values k) place)) ks
  column_is [] = refl
  column_is (k ∷ ks) = ap (λ xs. number_of (slice_get (values k) place) ∷ xs) (column_is ks)

pub first_of_pairs : (sheet : Sheet) (point direction : List ℚ) → length point ≡ size sheet.lp.matrix → column_of 0 (pair_lines sheet point direction) ≡ point
first_of_pairs sheet point direction counted =
    column_is sheet (λ k. Number (value_at point k) ∷ Number (value_at direction k) ∷ []) 0 (variables sheet.lp.matrix)
    ∙ listed_again sheet.lp.matrix point counted

pub second_of_pairs : (sheet : Sheet) (point direction : List ℚ) → length direction ≡ size sheet.lp.matrix →
    column_of 1 (pair_lines sheet point direction) ≡ direction
second_of_pairs sheet point direction counted =
    column_is sheet (λ k. Number (value_at point k) ∷ Number (value_at direction k) ∷ []) 1 (variables sheet.lp.matrix)
    ∙ listed_again sheet.lp.matrix direction counted

-- ---- rays

module _ (sheet : Sheet) (w : ℕ → ℚ) where
  abbrev lines_from : ℕ → ℕ → List Line
  lines_from first n = lines_of sheet (one_value sheet w) (among sheet w (numbers_from first n))

  equal_numbers : (m n : ℕ) → nat_eq m n ≡ true → m ≡ n
  equal_numbers m n e = grind (arith, nat_tests, e)

  other_numbers : (m n : ℕ) → n < m → nat_eq m n ≡ false
  other_numbers m n below = grind (arith, nat_tests, below)

  later_number : (first k : ℕ) → nat_eq first k ≡ false → first ≤ k → suc first ≤ k
  later_number first k other low = grind (arith, nat_tests, other, low)

  abbrev found_in : Option Line → ℚ
  found_in o = elim o [
    | None ↦ zero_ℚ
    | Some line ↦ number_of (slice_get line.values 0)
  ]

  abbrev search_in : ℕ → List ℕ → Option Line
  search_in k ks = find (λ line. nat_eq line.number k) (lines_of sheet (one_value sheet w) ks)

  -- a line in front, of this number or of another one
  in_front : (k first : ℕ) (more : List ℕ) (b : Bool) → nat_eq first k ≡ b →
      numbered k (lines_of sheet (one_value sheet w) (first ∷ more)) ≡ cond b (w first) (numbered k (lines_of sheet (one_value sheet w) more))
  in_front k first more true e =
      ap (λ b. found_in (cond b (Some (record { number = first; name = name_of sheet first; values = one_value sheet w first })) (search_in k more))) e
  in_front k first more false e =
      ap (λ b. found_in (cond b (Some (record { number = first; name = name_of sheet first; values = one_value sheet w first })) (search_in k more))) e

  none_before : (first n k : ℕ) → k < first → numbered k (lines_from first n) ≡ zero_ℚ
  none_before first zero k below = refl
  none_before first (suc n) k below = by (not (eq_ℚ (w first) zero_ℚ)) (none_before (suc first) n k (omega (arith, below)))
    where
      more : List ℕ
      more = among sheet w (numbers_from (suc first) n)

      by : (b : Bool) → numbered k (lines_of sheet (one_value sheet w) more) ≡ zero_ℚ →
          numbered k (lines_of sheet (one_value sheet w) (cond b (first ∷ more) more)) ≡ zero_ℚ
      by true later = in_front k first more false (other_numbers first k below) ∙ later
      by false later = later

  number_is : (first n k : ℕ) → first ≤ k → k < first + n → numbered k (lines_from first n) ≡ w k
  number_is first zero k low high = absurd (omega (arith, low, high))
  number_is first (suc n) k low high =
      by (eq_ℚ (w first) zero_ℚ) refl (nat_eq first k) refl (λ other. number_is (suc first) n k (later_number first k other low) (omega (arith, high)))
    where
      more : List ℕ
      more = among sheet w (numbers_from (suc first) n)

      by : (b : Bool) → eq_ℚ (w first) zero_ℚ ≡ b → (c : Bool) → nat_eq first k ≡ c →
          (nat_eq first k ≡ false → numbered k (lines_of sheet (one_value sheet w) more) ≡ w k) →
          numbered k (lines_of sheet (one_value sheet w) (cond (not b) (first ∷ more) more)) ≡ w k
      by true zero_is true same later =
          let is : first ≡ k = equal_numbers first k same in
          none_before (suc first) n k (omega (arith, is)) ∙ sym (same_from_test (w first) zero_ℚ zero_is) ∙ ap w is
      by true zero_is false other later = later other
      by false apart true same later = in_front k first more true same ∙ ap w (equal_numbers first k same)
      by false apart false other later = in_front k first more false other ∙ later other

pub numbers_of_ray : (sheet : Sheet) (ray : List ℚ) → multipliers sheet (ray_lines sheet ray) ≡ listed sheet.lp.matrix (value_at ray)
numbers_of_ray sheet ray =
    map_same (λ k. numbered k (ray_lines sheet ray)) (value_at ray) (size sheet.lp.matrix) 1
    (λ k low high. number_is sheet (value_at ray) 1 (size sheet.lp.matrix) k low high)

pub multipliers_of_ray : (sheet : Sheet) (ray : List ℚ) → length ray ≡ size sheet.lp.matrix → multipliers sheet (ray_lines sheet ray) ≡ ray
multipliers_of_ray sheet ray counted = numbers_of_ray sheet ray ∙ listed_again sheet.lp.matrix ray counted

-- ---- SOLUTION

module _ (sheet : Sheet) (s : Basis) (t : Tableau) where
  abbrev all_lines : List Line
  all_lines = (solution_lines sheet s t).rows ++ (solution_lines sheet s t).columns

  both_columns : (place : ℕ) (f : Vector) → ((k : ℕ) → number_of (slice_get (solution_row sheet s t k) place) ≡ f k) →
      ((k : ℕ) → number_of (slice_get (solution_column sheet s t k) place) ≡ f k) →
      column_of place all_lines ≡ listed sheet.lp.matrix f
  both_columns place f rows columns =
      let m = sheet.lp.matrix.rows in
      let n = sheet.lp.matrix.cols in
      let first : m + 1 ≡ 1 + m = omega arith in
      map-append _ (solution_lines sheet s t).rows (solution_lines sheet s t).columns
      ∙ ap₂ (λ xs ys. xs ++ ys)
      (column_is sheet (solution_row sheet s t) place (row_numbers sheet.lp)
      ∙ map_same (λ k. number_of (slice_get (solution_row sheet s t k) place)) f m 1 (λ k low high. rows k))
      (column_is sheet (solution_column sheet s t) place (column_numbers sheet.lp)
      ∙ map_same (λ k. number_of (slice_get (solution_column sheet s t k) place)) f n (m + 1) (λ k low high. columns k)
      ∙ ap (λ from. map f (numbers_from from n)) first)
      ∙ sym (map-append f (numbers_from 1 m) (numbers_from (1 + m) n)) ∙ ap (map f) (sym (numbers_from-append 1 m n))

  pub points_of_lines : column_of 1 all_lines ≡ listed sheet.lp.matrix t.point
  points_of_lines = both_columns 1 t.point (λ k. refl) (λ k. refl)

  pub prices_of_lines : column_of 5 all_lines ≡ listed sheet.lp.matrix (price_at sheet.lp (basics_of s) t.rate)
  prices_of_lines = both_columns 5 (price_at sheet.lp (basics_of s) t.rate) (λ k. refl) (λ k. refl)
