-- The range sums of rows that are made, one row after the other, and a selection that is made.
use Rattle.std.proofs.Common.{◌≡◌, ℕ, ◌+◌, ◌<◌, List, Option, Some, true, length, sym, ap, subst, ◌∙◌, arith, zero-add}
use Rattle.std.specs.List.{slice_get}
use Rattle.std.proofs.lemmas.List.FromFn.{get_or-map-range_with_len}
use Rattle.std.proofs.lemmas.Option.{same_Some, slice_get-get_or, slice_get_within}
use native.Mathlib.Decide.{ℕ_discrete}
use Rattle.exact_values.specs.Rational.{ℚ}
use Rattle.check_definitions.specs.declared.Verdict.TheVariants.{Checked}
use Rattle.check_definitions.specs.Steps.{verdict_of}
use Rattle.problem_definitions.specs.Problem.{Row, Entry, Problem}
use Rattle.selection_definitions.specs.Choice.{Choice, rhs_items, set_items}
use Rattle.selection_definitions.specs.Limits.{value_on}
use Rattle.selection_definitions.specs.Selection.{range_of}
use Rattle.selection_definitions.specs.Making.{range_steps, is_made}
use Rattle.selection_definitions.proofs.Making.{made_by_parts}
use Rattle.selection_definitions.specs.Programs.{side_on}
use Rattle.lp_setup.specs.Parts.{by_number, IsRowMade, AreRowsMade}
use Rattle.lp_setup.specs.Combined.{AreColumnsMade}
use Rattle.lp_setup.proofs.Lists.{length-by_number}

module _ (rows : List (Row ℕ)) (sides : List ℚ) (ranges : List (Option ℚ)) where
  -- the row that stands at a place
  pub row_made : (place : ℕ) (row : Row ℕ) (side : ℚ) (range : Option ℚ) → slice_get rows place ≡ Some row → slice_get sides place ≡ Some side →
      slice_get ranges place ≡ Some range →
      verdict_of (range_steps row.kind side range) ≡ Checked → IsRowMade rows sides ranges place
  row_made place row side range is_row is_side is_range made other other_side other_range there there_side there_range =
      subst (λ (r : Row ℕ). verdict_of (range_steps r.kind other_side other_range) ≡ Checked) (same_Some row other (sym is_row ∙ there))
      (subst (λ s. verdict_of (range_steps row.kind s other_range) ≡ Checked) (same_Some side other_side (sym is_side ∙ there_side))
      (subst (λ o. verdict_of (range_steps row.kind side o) ≡ Checked) (same_Some range other_range (sym is_range ∙ there_range)) made))

  pub none_made : AreRowsMade rows sides ranges 0
  none_made place below = absurd (omega (arith, below))

  -- one row more
  pub next_made : (count : ℕ) → AreRowsMade rows sides ranges count → IsRowMade rows sides ranges count → AreRowsMade rows sides ranges (count + 1)
  next_made count before here place below = by (ℕ_discrete count place)
    where
      by : Dec (count ≡ place) → IsRowMade rows sides ranges place
      by (yes same) = subst (IsRowMade rows sides ranges) same here
      by (no other) = before place (omega (arith, below, other))

at_number : {X : Type 0} (f : ℕ → X) (count place : ℕ) → place < count → slice_get (by_number f count) place ≡ Some (f (place + 1))
at_number f count place below =
    slice_get-get_or (by_number f count) place (f (place + 1)) (omega (arith, below, length-by_number f count))
    ∙ ap Some (get_or-map-range_with_len (λ k. f (k + 1)) 0 count place place (f (place + 1)) below (zero-add place))

module _ (problem : Problem ℕ) (choice : Choice) (rhs ranges : List (Entry ℕ)) (is_rhs : rhs ≡ rhs_items problem.rhs choice.rhs)
    (is_ranges : ranges ≡ set_items problem.ranges choice.options.range) where
  -- a selection is made where the range sums of all rows are, and what all columns make on combinations
  pub selection_made : AreRowsMade problem.rows (by_number (side_on rhs) (length problem.rows)) (by_number (value_on ranges) (length problem.rows))
      (length problem.rows) →
      AreColumnsMade problem.rows problem.columns (length problem.columns) → is_made problem choice ≡ true
  selection_made made columns_made = made_by_parts problem choice
      (λ place row is_row.
      let below : place < length problem.rows = slice_get_within problem.rows place row is_row in
      subst (λ items. verdict_of (range_steps row.kind (side_on items (place + 1)) (range_of problem choice (place + 1))) ≡ Checked) is_rhs
      (subst (λ items. verdict_of (range_steps row.kind (side_on rhs (place + 1)) (value_on items (place + 1))) ≡ Checked) is_ranges
      (made place below row (side_on rhs (place + 1)) (value_on ranges (place + 1)) is_row
      (at_number (side_on rhs) (length problem.rows) place below) (at_number (value_on ranges) (length problem.rows) place below))))
      (λ column_place column is_column place row is_row.
      columns_made column_place (slice_get_within problem.columns column_place column is_column) column is_column place
      (slice_get_within problem.rows place row is_row) row is_row)
