-- What a column has on each row, one row after the other, and its numbers on combinations.
use Rattle.std.proofs.Common.{◌≡◌, ◌≢◌, ℕ, zero, suc, ◌+◌, ◌-◌, ◌<◌, ◌≤◌, Bool, true, false, ◌||◌, List, [], ◌∷◌, ◌++◌, Option, Some, None, length, take, set}
use Rattle.std.proofs.Common.{get_or, refl, ap, sym, ◌∙◌, subst, arith, zero-add}
use Rattle.std.specs.List.{slice_get, slice_index_or, enumerate_from, filter_map, cons_option, list_any}
use Rattle.std.specs.Option.{IfSome, is_some}
use Rattle.std.proofs.lemmas.List.{take_more, take_more_set, take_all, length-set, get_or-set_other, get_or_default}
use Rattle.std.proofs.lemmas.List.Elements.{filter_map-append}
use Rattle.std.proofs.lemmas.List.FromFn.{get_or-map-range_with_len}
use Rattle.std.proofs.lemmas.List.Sums.{fold-append}
use Rattle.std.proofs.lemmas.Option.{same_Some, slice_get_within, get_or_from_slice_get}
use native.Mathlib.Decide.{ℕ_discrete}
use Rattle.exact_values.specs.Rational.{ℚ, zero_ℚ}
use Rattle.lp_definitions.specs.declared.Entry.{Entry as Coefficient}
use Rattle.lp_model.specs.declared.Stop.{Stop}
use Rattle.lp_model.specs.declared.Stop.TheVariants.{Overflow, NoMemory}
use Rattle.check_definitions.specs.declared.Verdict.TheVariants.{Checked}
use Rattle.check_definitions.specs.Steps.{verdict_of, sum_steps}
use Rattle.problem_definitions.specs.Problem.{Row, Entry, Group}
use Rattle.problem_definitions.specs.Valid.{AreEntries}
use Rattle.selection_definitions.specs.Limits.{value_on}
use Rattle.selection_definitions.specs.Combinations.{value_in, part_products, sum_if_any, row_value, column_values, on_combination}
use Rattle.selection_definitions.specs.Making.{combination_steps}
use Rattle.selection_laws.proofs.Values.{length-before}
use Rattle.selection_laws.proofs.Fields.{numbered-at, length-numbered, parts-at}
use Rattle.lp_setup.specs.Parts.{by_number}
use Rattle.lp_setup.specs.Combined.{IsRowValue, IsRowValueMade, IsRowValueOverflow, IsTermRefusal, IsSumMade, AreSumsMade, IsColumnRefusal, IsColumnOverflow}
use Rattle.lp_setup.specs.Combined.{AreColumnsMade, IsMatrixOverflow, AreParts}
use Rattle.lp_setup.proofs.Lists.{length-by_number}

module _ (rows : List (Row ℕ)) (es : List (Entry ℕ)) where
  -- the values on the rows before a place are those of the column, and those from it on are still those of its entries
  pub record AreValues (place : ℕ) (values : List (Option ℚ)) : Type 0 where
    pub counted : length values ≡ length rows
    pub before : take place values ≡ column_values (take place rows) es
    pub after : (k : ℕ) → place ≤ k → k < length rows → get_or values k None ≡ value_on es (k + 1)

  module _ (place : ℕ) (values : List (Option ℚ)) (are : AreValues place values) (row : Row ℕ) (is_row : slice_get rows place ≡ Some row) where
    within : place < length rows
    within = slice_get_within rows place row is_row

    -- what the row at the place has
    row_has : (value : Option ℚ) → IsRowValue values row.parts place value → value ≡ row_value es (column_values (take place rows) es) row.parts
    row_has value has = by row.parts has
      where
        by : (parts : Option (List (Entry ℕ))) → IsRowValue values parts place value → value ≡ row_value es (column_values (take place rows) es) parts
        by None stands =
            sym (get_or_from_slice_get values place value None stands) ∙ are.after place (omega arith) within
            ∙ ap (λ n. value_on es (n + 1)) (sym (length-before es rows place within))
        by (Some parts) is_sum = is_sum ∙ ap (λ before. sum_if_any (part_products parts before)) are.before

    pub values_step : (value : Option ℚ) → IsRowValue values row.parts place value → AreValues (place + 1) (set values place value)
    values_step value has = record {
      counted = length-set values place value ∙ are.counted;
      before =
          take_more_set values place value (omega (arith, within, are.counted))
          ∙ ap (λ front. front ++ value ∷ []) are.before
          ∙ ap (λ v. column_values (take place rows) es ++ v ∷ []) (row_has value has)
          ∙ sym (fold-append (λ before (row : Row ℕ). before ++ row_value es before row.parts ∷ []) [] (take place rows) (row ∷ []))
          ∙ ap (λ front. column_values front es)
          (ap (λ (r : Row ℕ). take place rows ++ r ∷ []) (sym (get_or_from_slice_get rows place row row is_row)) ∙ sym (take_more rows place row within));
      after = λ k past below. get_or-set_other values place k value None (apart k past) ∙ are.after k (omega (arith, past)) below;
    }
      where
        apart : (k : ℕ) → place + 1 ≤ k → k ≢ place
        apart k past same = omega (arith, past, same)

    -- what the row at the place makes is made
    sum_there : IsRowValueMade values row.parts place → IsSumMade rows es place
    sum_there made other there =
        subst (λ (r : Row ℕ). verdict_of (combination_steps (take place rows) es r.parts) ≡ Checked) (same_Some row other (sym is_row ∙ there))
        (by row.parts made)
      where
        by : (parts : Option (List (Entry ℕ))) → IsRowValueMade values parts place → verdict_of (combination_steps (take place rows) es parts) ≡ Checked
        by None made = refl
        by (Some parts) made = subst (λ before. verdict_of (sum_steps zero_ℚ (part_products parts before)) ≡ Checked) are.before made

    pub sums_step : IsRowValueMade values row.parts place → AreSumsMade rows es place → AreSumsMade rows es (place + 1)
    sums_step made before k below = by (ℕ_discrete place k)
      where
        by : Dec (place ≡ k) → IsSumMade rows es k
        by (yes same) = subst (IsSumMade rows es) same (sum_there made)
        by (no other) = before k (omega (arith, below, other))

    -- what of the row at the place is refused is refused of the column
    pub overflow_at : (number : ℕ) (stop : Stop) → IsRowValueOverflow values row.parts place number stop → IsColumnOverflow rows es number stop
    overflow_at number stop over = by row.parts refl stop over
      where
        by : (parts : Option (List (Entry ℕ))) → row.parts ≡ parts → (stop : Stop) → IsRowValueOverflow values parts place number stop →
            IsColumnOverflow rows es number stop
        by None is stop over = absurd over
        by (Some parts) is NoMemory over = tt
        by (Some parts) is (Overflow e) over = record {
          place = place;
          row = row;
          is_row = is_row;
          parts = parts;
          is_combination = is;
          refused = subst (λ before. IsTermRefusal (part_products parts before) place number e) are.before over;
        }

  -- at first the values are those of the entries
  pub values_begun : (values : List (Option ℚ)) → values ≡ by_number (value_on es) (length rows) → AreValues 0 values
  values_begun values is = record {
    counted = ap length is ∙ length-by_number (value_on es) (length rows);
    before = refl;
    after =
        λ k from below. ap (λ vs. get_or vs k None) is
        ∙ get_or-map-range_with_len (λ place. value_on es (place + 1)) 0 (length rows) k k None below (zero-add k);
  }

  -- at last they are those of the column
  pub values_all : (place : ℕ) (values : List (Option ℚ)) → length rows ≤ place → AreValues place values → values ≡ column_values rows es
  values_all place values past are =
      sym (take_all place values (omega (arith, past, are.counted))) ∙ are.before ∙ ap (λ front. column_values front es) (take_all place rows past)

-- the parts of the row at a place stand on rows before it
pub parts_there : (rows : List (Row ℕ)) (place : ℕ) (row : Row ℕ) → AreParts rows → slice_get rows place ≡ Some row → IfSome row.parts (AreEntries place)
parts_there rows place row are is_row = by row.parts refl
  where
    by : (parts : Option (List (Entry ℕ))) → row.parts ≡ parts → IfSome parts (AreEntries place)
    by None is = tt
    by (Some parts) is = parts-at rows are place row parts is_row is

-- ---- numbers on combinations

-- the numbers on one row more
pub numbers_step : (rows : List (Row ℕ)) (values : List (Option ℚ)) (place : ℕ) (row : Row ℕ) (value : Option ℚ) → slice_get rows place ≡ Some row
    → place < length values → value ≡ get_or values place value
    → filter_map (λ (r : ℕ × Row ℕ). on_combination r.0 (value_in values r.0) r.1.parts) (take (place + 1) (enumerate_from 1 rows))
    ≡ filter_map (λ (r : ℕ × Row ℕ). on_combination r.0 (value_in values r.0) r.1.parts) (take place (enumerate_from 1 rows)) ++ cons_option
    (on_combination (place + 1) value row.parts) []
numbers_step rows values place row value is_row below is_value =
    ap (filter_map number_of) (take_more (enumerate_from 1 rows) place (0, row) within)
    ∙ filter_map-append number_of (take place (enumerate_from 1 rows)) (get_or (enumerate_from 1 rows) place (0, row) ∷ [])
    ∙ ap (λ r. filter_map number_of (take place (enumerate_from 1 rows)) ++ cons_option (number_of r) [])
    (numbered-at rows 1 place row (0, row) is_row ∙ ap (λ n. (n, row)) (omega arith))
    ∙ ap (λ has. filter_map number_of (take place (enumerate_from 1 rows)) ++ cons_option (on_combination (place + 1) has row.parts) [])
    (ap (λ n. slice_index_or values n None) at ∙ get_or_default values place None value below ∙ sym is_value)
  where
    number_of : ℕ × Row ℕ → Option Coefficient
    number_of r = on_combination r.0 (value_in values r.0) r.1.parts

    within : place < length (enumerate_from 1 rows)
    within = omega (arith, slice_get_within rows place row is_row, length-numbered rows 1)

    at : place + 1 - 1 ≡ place
    at = omega arith

-- the number on a row is there or not
pub with_number : (before after : List Coefficient) (o : Option Coefficient) (number : Coefficient) → o ≡ Some number → after ≡ before ++ number ∷ [] →
    after ≡ before ++ cons_option o []
with_number before after o number is pushed = pushed ∙ ap (λ o. before ++ cons_option o []) (sym is)

-- ---- columns

-- what all columns before make, and the next
pub columns_step : (rows : List (Row ℕ)) (columns : List (Group (Entry ℕ))) (place : ℕ) (column : Group (Entry ℕ)) → slice_get columns place ≡ Some column
    → AreSumsMade rows column.items (length rows)
    → AreColumnsMade rows columns place → AreColumnsMade rows columns (place + 1)
columns_step rows columns place column is_column made before k below other there = by (ℕ_discrete place k)
  where
    by : Dec (place ≡ k) → AreSumsMade rows other.items (length rows)
    by (yes same) =
        subst (λ (c : Group (Entry ℕ)). AreSumsMade rows c.items (length rows))
        (same_Some column other (sym is_column ∙ ap (slice_get columns) same ∙ there)) made
    by (no apart) = before k (omega (arith, below, apart)) other there

pub overflow_of_column : (rows : List (Row ℕ)) (columns : List (Group (Entry ℕ))) (place : ℕ) (column : Group (Entry ℕ)) (number : ℕ) (stop : Stop)
    → slice_get columns place ≡ Some column → number ≡ length rows + (place + 1)
    → IsColumnOverflow rows column.items number stop → IsMatrixOverflow rows columns stop
overflow_of_column rows columns place column number NoMemory is_column is over = tt
overflow_of_column rows columns place column number (Overflow e) is_column is over = record {
  place = place;
  column = column;
  is_column = is_column;
  refused = subst (λ n. IsColumnRefusal rows column.items n e) is over;
}

-- where no row is a combination, nothing is made
pub plain_made : (rows : List (Row ℕ)) (columns : List (Group (Entry ℕ))) → list_any (λ (row : Row ℕ). is_some row.parts) rows ≡ false →
    AreColumnsMade rows columns (length columns)
plain_made rows columns plain place below column is_column k within row is_row = by row.parts (plain_at rows k plain is_row)
  where
    by : (parts : Option (List (Entry ℕ))) → is_some parts ≡ false → verdict_of (combination_steps (take k rows) column.items parts) ≡ Checked
    by None e = refl
    by (Some parts) e = absurd (cc e)

    right : (a b : Bool) → (a || b) ≡ false → b ≡ false
    right true true none = none
    right true false none = refl
    right false b none = none

    left : (a b : Bool) → (a || b) ≡ false → a ≡ false
    left true b none = none
    left false b none = refl

    plain_at : (rows : List (Row ℕ)) (k : ℕ) → list_any (λ (row : Row ℕ). is_some row.parts) rows ≡ false → slice_get rows k ≡ Some row →
        is_some row.parts ≡ false
    plain_at [] k plain is = absurd (cc is)
    plain_at (x ∷ rows) zero plain is =
        ap (λ (r : Row ℕ). is_some r.parts) (sym (same_Some x row is)) ∙ left (is_some x.parts) (list_any (λ (row : Row ℕ). is_some row.parts) rows) plain
    plain_at (x ∷ rows) (suc k) plain is = plain_at rows k (right (is_some x.parts) (list_any (λ (row : Row ℕ). is_some row.parts) rows) plain) is
