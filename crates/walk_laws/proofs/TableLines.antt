-- The table lines that are read are those of their numbers.
use Rattle.std.proofs.Common.{◌≡◌, ℕ, zero, suc, ◌+◌, ◌<◌, ◌≤◌, ◌≢◌, ◌⊎◌, List, [], ◌∷◌, filter, find, cond, Bool, true, false, not, Option, Some, None, refl}
use Rattle.std.proofs.Common.{sym, ap, ap₂, ◌∙◌, arith, codes, nat_eq, option_map, IfSome, slice_index_or}
use Rattle.std.specs.Prelude.{if◌then◌else◌}
use Rattle.std.proofs.lemmas.Bool.Decides.{nat_tests}
use mathlib.Core.Logic.{inl, inr}
use Rattle.exact_values.specs.Rational.{ℚ, zero_ℚ}
use Rattle.exact_values.specs.Tests.{eq_ℚ}
use Rattle.exact_values.proofs.TestsLaws.{test_from_same}
use Rattle.lp_definitions.specs.LinearProgram.{Vector, value_at, size, numbers_from, variables}
use Rattle.simplex_laws.proofs.Ends.{value_at-listed}
use Rattle.listing_definitions.specs.Report.{Value, Number, Line}
use Rattle.question_definitions.specs.Answers.{Sheet}
use Rattle.answer_definitions.specs.Lines.{lines_of, pair_lines, ray_lines}
use Rattle.walk_definitions.specs.Words.{Parsed, left_after}
use Rattle.walk_definitions.specs.Tables.{Slot, AnyNumber, value_in, slot_in, values_in, then_more, number_at, numbered, begins_table_line, pair_slots}
use Rattle.walk_definitions.specs.Tables.{line_head, line_of, line_in, table_in, multiplier_in, ray_in, multipliers, column_of}
use Rattle.walk_laws.proofs.Readings.{after_text, after_word, if_none_else, gone_on, listed_more}

-- ---- values

abbrev IsNumber : Value → Type 0
IsNumber value = (x : ℚ) × (value ≡ Number x)

abbrev IsOne : List Value → Type 0
IsOne values = (x : ℚ) × (values ≡ Number x ∷ [])

abbrev AreTwo : List Value → Type 0
AreTwo values = (x : ℚ) × (y : ℚ) × (values ≡ Number x ∷ Number y ∷ [])

number_is : (of : List ℕ → Option ℚ) (word : List ℕ) (value : Value) → value_in of AnyNumber word ≡ Some value → IsNumber value
number_is of word value e = by (of word) e
  where
    by : (o : Option ℚ) → option_map Number o ≡ Some value → IsNumber value
    by None e = cc
    by (Some x) e = (x, cc)

slot_is : (of : List ℕ → Option ℚ) (rest : List ℕ) → IfSome (slot_in of AnyNumber rest) (λ got. IsNumber got.0)
slot_is of rest =
    after_text (λ (got : Value × List ℕ). IsNumber got.0) (codes " ") _ rest (λ left.
    after_word (λ (got : Value × List ℕ). IsNumber got.0) (value_in of AnyNumber) (λ value left. Some (value, left)) left
    (λ value is on. number_is of _ value is))

none_more : (of : List ℕ → Option ℚ) (rest : List ℕ) → IfSome (values_in of [] rest) (λ got. got.0 ≡ [])
none_more of rest = refl

one_is : (of : List ℕ → Option ℚ) (rest : List ℕ) → IfSome (values_in of (AnyNumber ∷ []) rest) (λ got. IsOne got.0)
one_is of rest =
    listed_more IsNumber (λ values. values ≡ []) IsOne (slot_in of AnyNumber rest) (values_in of []) (slot_is of rest) (none_more of)
    (λ value values is none. (is.0, ap₂ (λ (v : Value) (vs : List Value). v ∷ vs) is.1 none))

two_are : (of : List ℕ → Option ℚ) (rest : List ℕ) → IfSome (values_in of (AnyNumber ∷ AnyNumber ∷ []) rest) (λ got. AreTwo got.0)
two_are of rest =
    listed_more IsNumber IsOne AreTwo (slot_in of AnyNumber rest) (values_in of (AnyNumber ∷ [])) (slot_is of rest) (one_is of)
    (λ value values is one. (is.0, one.0, ap₂ (λ (v : Value) (vs : List Value). v ∷ vs) is.1 one.1))

module _ (of : List ℕ → Option ℚ) (sheet : Sheet) where
  -- a line is made of the values that are read
  line_is : (P : List Value → Type 0) (slots : List Slot) (k : ℕ) (rest : List ℕ) → ((left : List ℕ) → IfSome (values_in of slots left) (λ got. P got.0))
      → IfSome (line_in of sheet slots k rest) (λ got. (values : List Value) × P values × (got.0 ≡ line_of sheet k values))
  line_is P slots k rest h =
      gone_on (λ (got : Line × List ℕ). (values : List Value) × P values × (got.0 ≡ line_of sheet k values)) (λ (got : List Value × List ℕ). P got.0) _ _
      (after_text (λ (got : List Value × List ℕ). P got.0) (line_head sheet k) (values_in of slots) rest h)
      (λ got p. ended got p (left_after (codes "\n") got.1))
    where
      ended : (got : List Value × List ℕ) → P got.0 → (o : Option (List ℕ))
          → IfSome {T = Line × List ℕ} (option_map {U = Line × List ℕ} (λ (left : List ℕ). (line_of sheet k got.0, left)) o)
          (λ got. (values : List Value) × P values × (got.0 ≡ line_of sheet k values))
      ended got p None = tt
      ended got p (Some left) = (got.0, p, refl)

  -- ---- two numbers in each line

  abbrev IsPair : ℕ → Line → Type 0
  IsPair k line = line ≡ line_of sheet k (Number (number_at 0 line) ∷ Number (number_at 1 line) ∷ [])

  pair_is : (k : ℕ) (line : Line) (values : List Value) → AreTwo values → line ≡ line_of sheet k values → IsPair k line
  pair_is k line values two e =
      let whole : line ≡ line_of sheet k (Number two.0 ∷ Number two.1 ∷ []) = e ∙ ap (line_of sheet k) two.2 in
      whole ∙ ap₂ (λ x y. line_of sheet k (Number x ∷ Number y ∷ [])) (sym (ap (number_at 0) whole)) (sym (ap (number_at 1) whole))

  -- a line of two numbers for each of the numbers from first on, so many
  abbrev ArePairs : ℕ → ℕ → List Line → Type 0
  ArePairs first zero lines = lines ≡ []
  ArePairs first (suc n) [] = ⊥
  ArePairs first (suc n) (line ∷ lines) = IsPair first line × ArePairs (suc first) n lines

  pairs_are : (first n : ℕ) (rest : List ℕ) → IfSome (table_in of sheet pair_slots (numbers_from first n) rest) (λ got. ArePairs first n got.0)
  pairs_are first zero rest = refl
  pairs_are first (suc n) rest =
      listed_more (IsPair first) (ArePairs (suc first) n) (ArePairs first (suc n))
      (line_in of sheet (pair_slots first) first rest) (table_in of sheet pair_slots (numbers_from (suc first) n))
      (weaker (line_in of sheet (pair_slots first) first rest) (line_is AreTwo (pair_slots first) first rest (two_are of)))
      (pairs_are (suc first) n) (λ line lines is are. (is, are))
    where
      weaker : (o : Parsed Line) → IfSome o (λ got. (values : List Value) × AreTwo values × (got.0 ≡ line_of sheet first values)) →
          IfSome o (λ got. IsPair first got.0)
      weaker None h = tt
      weaker (Some got) h = pair_is first got.0 h.0 h.1 h.2

  -- the lines of two vectors that have these numbers in these places
  pairs_of : (f g : Vector) (first n : ℕ) (lines : List Line) → ArePairs first n lines
      → ((i : ℕ) → f (first + i) ≡ slice_index_or (column_of 0 lines) i zero_ℚ) → ((i : ℕ) → g (first + i) ≡ slice_index_or (column_of 1 lines) i zero_ℚ)
      → lines ≡ lines_of sheet (λ k. Number (f k) ∷ Number (g k) ∷ []) (numbers_from first n)
  pairs_of f g first zero lines are a b = are
  pairs_of f g first (suc n) [] are a b = absurd are
  pairs_of f g first (suc n) (line ∷ lines) are a b =
      let x : f first ≡ number_at 0 line = ap f (omega arith) ∙ a 0 in
      let y : g first ≡ number_at 1 line = ap g (omega arith) ∙ b 0 in
      ap₂ (λ (l : Line) (ls : List Line). l ∷ ls)
      (are.0 ∙ ap₂ (λ x y. line_of sheet first (Number x ∷ Number y ∷ [])) (sym x) (sym y))
      (pairs_of f g (suc first) n lines are.1 (λ i. ap f (omega arith) ∙ a (suc i)) (λ i. ap g (omega arith) ∙ b (suc i)))

  pub pair_lines_are : (rest : List ℕ)
      → IfSome (table_in of sheet pair_slots (variables sheet.lp.matrix) rest) (λ got. got.0 ≡ pair_lines sheet (column_of 0 got.0) (column_of 1 got.0))
  pair_lines_are rest = by (table_in of sheet pair_slots (variables sheet.lp.matrix) rest) (pairs_are 1 (size sheet.lp.matrix) rest)
    where
      by : (o : Parsed (List Line)) → IfSome o (λ got. ArePairs 1 (size sheet.lp.matrix) got.0) →
          IfSome o (λ got. got.0 ≡ pair_lines sheet (column_of 0 got.0) (column_of 1 got.0))
      by None h = tt
      by (Some got) h =
          pairs_of (value_at (column_of 0 got.0)) (value_at (column_of 1 got.0)) 1 (size sheet.lp.matrix) got.0 h
          (λ i. ap (λ k. slice_index_or (column_of 0 got.0) k zero_ℚ) (omega arith)) (λ i. ap (λ k. slice_index_or (column_of 1 got.0) k zero_ℚ) (omega arith))

  -- ---- a number in the lines of some variables

  -- a line with one number, which isn't 0
  pub record IsMultiplier (k : ℕ) (line : Line) : Type 0 where
    pub number : ℚ
    pub is_apart : eq_ℚ number zero_ℚ ≡ false
    pub is_line : line ≡ line_of sheet k (Number number ∷ [])

  multiplier_is : (k : ℕ) (rest : List ℕ) → IfSome (multiplier_in of sheet k rest) (λ got. IsMultiplier k got.0)
  multiplier_is k rest =
      gone_on (λ (got : Line × List ℕ). IsMultiplier k got.0) (λ (got : Line × List ℕ). (values : List Value) × IsOne values × (got.0 ≡ line_of sheet k values))
      (λ got. if eq_ℚ (number_at 0 got.0) zero_ℚ then None else Some got) (line_in of sheet (AnyNumber ∷ []) k rest)
      (line_is IsOne (AnyNumber ∷ []) k rest (one_is of))
      (λ got h. if_none_else (λ (got : Line × List ℕ). IsMultiplier k got.0) (eq_ℚ (number_at 0 got.0) zero_ℚ) (Some got) (made got h.0 h.1 h.2))
    where
      made : (got : Line × List ℕ) (values : List Value) → IsOne values → got.0 ≡ line_of sheet k values → eq_ℚ (number_at 0 got.0) zero_ℚ ≡ false →
          IsMultiplier k got.0
      made got values one e apart =
          let whole : got.0 ≡ line_of sheet k (Number one.0 ∷ []) = e ∙ ap (line_of sheet k) one.1 in
          record { number = one.0; is_apart = sym (ap (λ line. eq_ℚ (number_at 0 line) zero_ℚ) whole) ∙ apart; is_line = whole }

  -- a line for each of the numbers from first on, so many, that has one
  abbrev AreOfSome : ℕ → ℕ → List Line → Type 0
  AreOfSome first zero lines = lines ≡ []
  AreOfSome first (suc n) lines =
      AreOfSome (suc first) n lines ⊎ ((line : Line) × (later : List Line) × (lines ≡ line ∷ later) × IsMultiplier first line × AreOfSome (suc first) n later)

  some_are : (first n : ℕ) (rest : List ℕ) → IfSome (ray_in of sheet (numbers_from first n) rest) (λ got. AreOfSome first n got.0)
  some_are first zero rest = if_none_else (λ (got : List Line × List ℕ). got.0 ≡ []) (begins_table_line rest) (Some ([], rest)) (λ none. refl)
  some_are first (suc n) rest = by (left_after (line_head sheet first) rest) (some_are (suc first) n)
    where
      by : (o : Option (List ℕ)) → ((rest : List ℕ) → IfSome (ray_in of sheet (numbers_from (suc first) n) rest) (λ got. AreOfSome (suc first) n got.0))
          → IfSome {T = List Line × List ℕ} (elim o [
            | None ↦ ray_in of sheet (numbers_from (suc first) n) rest
            | Some values ↦ then_more (multiplier_in of sheet first rest) (ray_in of sheet (numbers_from (suc first) n))
          ]) (λ got. AreOfSome first (suc n) got.0)
      by None later = skipped (ray_in of sheet (numbers_from (suc first) n) rest) (later rest)
        where
          skipped : (o : Parsed (List Line)) → IfSome o (λ got. AreOfSome (suc first) n got.0) → IfSome o (λ got. AreOfSome first (suc n) got.0)
          skipped None h = tt
          skipped (Some got) h = inl h
      by (Some values) later =
          listed_more (IsMultiplier first) (AreOfSome (suc first) n) (AreOfSome first (suc n)) (multiplier_in of sheet first rest)
          (ray_in of sheet (numbers_from (suc first) n)) (multiplier_is first rest) later (λ line lines is are. inr (line, lines, refl, is, are))

-- ---- the number of a variable

-- the line of another variable doesn't count
other_number : (k : ℕ) (line : Line) (lines : List Line) → line.number ≢ k → numbered k (line ∷ lines) ≡ numbered k lines
other_number k line lines apart = by (nat_eq line.number k) refl
  where
    by : (b : Bool) → nat_eq line.number k ≡ b
        → elim (cond b (Some line) (find (λ (l : Line). nat_eq l.number k) lines)) [ None ↦ zero_ℚ | Some line ↦ number_at 0 line ] ≡ numbered k lines
    by true e = absurd (apart (grind (arith, nat_tests)))
    by false e = refl

own_number : (k : ℕ) (line : Line) (lines : List Line) → line.number ≡ k → numbered k (line ∷ lines) ≡ number_at 0 line
own_number k line lines same = by (nat_eq line.number k) refl
  where
    by : (b : Bool) → nat_eq line.number k ≡ b
        → elim (cond b (Some line) (find (λ (l : Line). nat_eq l.number k) lines)) [ None ↦ zero_ℚ | Some line ↦ number_at 0 line ] ≡ number_at 0 line
    by true e = refl
    by false e = absurd (grind (arith, nat_tests))

module _ (of : List ℕ → Option ℚ) (sheet : Sheet) where
  number_of_line : (k : ℕ) (line : Line) → (is : IsMultiplier of sheet k line) → line.number ≡ k
  number_of_line k line is = ap (λ (l : Line). l.number) is.is_line

  -- a variable before them has no line
  none_before : (first n k : ℕ) (lines : List Line) → k < first → AreOfSome of sheet first n lines → numbered k lines ≡ zero_ℚ
  none_before first zero k lines below are = ap (numbered k) are
  none_before first (suc n) k lines below (inl later) = none_before (suc first) n k lines (omega arith) later
  none_before first (suc n) k lines below (inr h) =
      let number : h.0.number ≡ first = number_of_line first h.0 h.3 in
      ap (numbered k) h.2 ∙ other_number k h.0 h.1 (λ same. absurd (omega (arith, same, number))) ∙ none_before (suc first) n k h.1 (omega arith) h.4

  -- the lines of a vector that has these numbers
  some_of : (f : Vector) (first n : ℕ) (lines : List Line) → AreOfSome of sheet first n lines → ((k : ℕ) → first ≤ k → k < first + n → f k ≡ numbered k lines)
      → lines ≡ lines_of sheet (λ k. Number (f k) ∷ []) (filter (λ k. not (eq_ℚ (f k) zero_ℚ)) (numbers_from first n))
  some_of f first zero lines are is = are
  some_of f first (suc n) lines (inl later) is =
      let nothing : f first ≡ zero_ℚ = is first (omega arith) (omega arith) ∙ none_before (suc first) n first lines (omega arith) later in
      some_of f (suc first) n lines later (λ k low high. is k (omega arith) (omega arith))
      ∙ ap (λ b. lines_of sheet (λ k. Number (f k) ∷ [])
      (cond (not b) (first ∷ filter (λ k. not (eq_ℚ (f k) zero_ℚ)) (numbers_from (suc first) n))
      (filter (λ k. not (eq_ℚ (f k) zero_ℚ)) (numbers_from (suc first) n))))
      (sym (test_from_same (f first) zero_ℚ nothing))
  some_of f first (suc n) lines (inr h) is =
      let number : h.0.number ≡ first = number_of_line first h.0 h.3 in
      let here : f first ≡ h.3.number =
      is first (omega arith) (omega arith) ∙ ap (numbered first) h.2 ∙ own_number first h.0 h.1 number ∙ ap (number_at 0) h.3.is_line in
      let apart : eq_ℚ (f first) zero_ℚ ≡ false = ap (λ x. eq_ℚ x zero_ℚ) here ∙ h.3.is_apart in
      let rest =
      some_of f (suc first) n h.1 h.4
      (λ k low high. is k (omega arith) (omega arith) ∙ ap (numbered k) h.2 ∙ other_number k h.0 h.1 (λ same. absurd (omega (arith, same, number, low)))) in
      h.2 ∙ ap₂ (λ (l : Line) (ls : List Line). l ∷ ls) (h.3.is_line ∙ ap (λ x. line_of sheet first (Number x ∷ [])) (sym here)) rest
      ∙ ap (λ b. lines_of sheet (λ k. Number (f k) ∷ [])
      (cond (not b) (first ∷ filter (λ k. not (eq_ℚ (f k) zero_ℚ)) (numbers_from (suc first) n))
      (filter (λ k. not (eq_ℚ (f k) zero_ℚ)) (numbers_from (suc first) n))))
      (sym apart)

  pub ray_lines_are : (rest : List ℕ) → IfSome (ray_in of sheet (variables sheet.lp.matrix) rest) (λ got. got.0 ≡ ray_lines sheet (multipliers sheet got.0))
  ray_lines_are rest = by (ray_in of sheet (variables sheet.lp.matrix) rest) (some_are of sheet 1 (size sheet.lp.matrix) rest)
    where
      by : (o : Parsed (List Line)) → IfSome o (λ got. AreOfSome of sheet 1 (size sheet.lp.matrix) got.0) →
          IfSome o (λ got. got.0 ≡ ray_lines sheet (multipliers sheet got.0))
      by None h = tt
      by (Some got) h =
          some_of (value_at (multipliers sheet got.0)) 1 (size sheet.lp.matrix) got.0 h
          (λ k low high. value_at-listed sheet.lp.matrix (λ k. numbered k got.0) k (low, omega arith))
