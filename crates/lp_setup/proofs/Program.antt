-- The linear program, from its lists.
use Rattle.std.proofs.Common.{◌≡◌, inl, inr, ℕ, ◌+◌, List, ◌++◌, Option, Some, None, map, length, take, refl, ap, sym, ◌∙◌, subst, unwrap_or, IsTrue}
use Rattle.std.specs.Prelude.{Ok}
use Rattle.std.specs.List.{enumerate_from}
use Rattle.exact_values.specs.Rational.{ℚ}
use Rattle.exact_values.specs.Tests.{magnitude}
use Rattle.frac128.specs.Operations.{refuses}
use Rattle.lp_definitions.specs.declared.Entry.{Entry as Coefficient}
use Rattle.lp_definitions.specs.declared.Evidence.{Evidence}
use Rattle.lp_definitions.specs.declared.Sense.{Sense}
use Rattle.lp_definitions.specs.LinearProgram.{LinearProgram}
use Rattle.card_definitions.specs.Words.{unless}
use Rattle.problem_definitions.specs.Problem.{Row, Entry, Bound, Group, Problem}
use Rattle.selection_definitions.specs.Choice.{Choice, objective_of, rhs_items, set_items, selection_fault}
use Rattle.selection_definitions.specs.Combinations.{part_products, column_values}
use Rattle.selection_definitions.specs.Limits.{Limits, value_on, row_limits, column_limits}
use Rattle.selection_definitions.specs.RangeSums.{IsRangeRefusal}
use Rattle.selection_definitions.specs.CombinationSums.{IsCombinationRefusal}
use Rattle.selection_definitions.specs.Refusals.{IsSelectionRefusal}
use Rattle.selection_definitions.specs.Selection.{coefficients, program_of_choice, selected}
use Rattle.lp_model.specs.declared.Stop.TheVariants.{Overflow}
use Rattle.selection_definitions.specs.Programs.{side_on, limits_with, program_with}
use Rattle.lp_setup.specs.Parts.{by_number, limits_of_rows, IsRowRefusal}
use Rattle.lp_setup.specs.Combined.{IsMatrixRefusal, IsProgramOverflow}
use Rattle.lp_setup.proofs.Lists.{map-enumerate, limits-numbered, at-by_number}

module _ (problem : Problem ℕ) (objective : ℕ) (rhs ranges : List (Entry ℕ)) (bounds : List (Bound ℕ)) (sense : Sense) where
  -- the limits that are made of the rows and of the columns are those of the program
  pub limits_made : limits_of_rows problem.rows (by_number (side_on rhs) (length problem.rows)) (by_number (value_on ranges) (length problem.rows)) ++ by_number
      (column_limits bounds) (length problem.columns)
      ≡ limits_with problem objective rhs ranges bounds sense
  limits_made =
      ap (λ limits. limits ++ by_number (column_limits bounds) (length problem.columns)) (limits-numbered (side_on rhs) (value_on ranges) problem.rows)
      ∙ ap (λ limits. map (λ (entry : ℕ × Row ℕ). row_limits entry.1.kind (side_on rhs entry.0) (value_on ranges entry.0))
      (enumerate_from 1 problem.rows) ++ limits) (sym (map-enumerate (column_limits bounds) problem.columns))

  pub sides_made : by_number (side_on rhs) (length problem.rows) ≡ map (λ (entry : ℕ × Row ℕ). side_on rhs entry.0) (enumerate_from 1 problem.rows)
  sides_made = sym (map-enumerate (side_on rhs) problem.rows)

  -- the program of these lists
  abbrev pub made : ℕ → ℕ → List (List Coefficient) → List (Option ℚ) → List (Option ℚ) → List ℚ → LinearProgram
  made rows cols columns lower upper sides =
      record {
        matrix = record { rows = rows; cols = cols; columns = columns };
        lower = lower;
        upper = upper;
        rhs = sides;
        objective = objective;
        change =
            None;
        sense = sense;
      }

  -- it is the program of the problem, where the lists are made of what is read of it
  pub program_made : (read_rows : List (Row ℕ)) (read_columns : List (Group (Entry ℕ))) (rows cols : ℕ) (columns : List (List Coefficient))
      (limits : List Limits) (lower upper : List (Option ℚ)) (sides read_sides : List ℚ)
      → read_rows ≡ problem.rows → read_columns ≡ problem.columns → rows ≡ length problem.rows → cols ≡ length problem.columns
      → columns ≡ map (coefficients read_rows) read_columns
      → limits ≡ limits_of_rows problem.rows read_sides (by_number (value_on ranges) (length problem.rows)) ++ by_number (column_limits bounds)
      (length problem.columns) → read_sides ≡ sides
      → lower ≡ map (λ (pair : Limits). pair.lower) limits → upper ≡ map (λ (pair : Limits). pair.upper) limits
      → sides ≡ by_number (side_on rhs) (length read_rows)
      → made rows cols columns lower upper sides ≡ program_with problem objective rhs ranges bounds sense
  program_made read_rows read_columns rows cols columns limits lower upper sides read_sides read_is read_columns_is is_rows is_cols columns_read limits_read
      sides_read is_lower is_upper sides_so_far =
      let is_columns : columns ≡ map (coefficients problem.rows) problem.columns = columns_read ∙ (λ i. map (coefficients (read_is i)) (read_columns_is i)) in
      let is_sides : sides ≡ by_number (side_on rhs) (length problem.rows) =
      sides_so_far ∙ ap (λ (rs : List (Row ℕ)). by_number (side_on rhs) (length rs)) read_is in
      let is_limits : limits ≡ limits_of_rows problem.rows sides (by_number (value_on ranges) (length problem.rows)) ++ by_number (column_limits bounds)
      (length problem.columns) =
      limits_read ∙ ap
      (λ xs. limits_of_rows problem.rows xs (by_number (value_on ranges) (length problem.rows)) ++ by_number (column_limits bounds)
      (length problem.columns)) sides_read in
      let all : limits ≡ limits_with problem objective rhs ranges bounds sense =
      is_limits ∙ ap
      (λ xs. limits_of_rows problem.rows xs (by_number (value_on ranges) (length problem.rows)) ++ by_number (column_limits bounds)
      (length problem.columns)) is_sides ∙ limits_made in
      let low : lower ≡ map (λ (pair : Limits). pair.lower) (limits_with problem objective rhs ranges bounds sense) =
      is_lower ∙ ap (map (λ (pair : Limits). pair.lower)) all in
      let high : upper ≡ map (λ (pair : Limits). pair.upper) (limits_with problem objective rhs ranges bounds sense) =
      is_upper ∙ ap (map (λ (pair : Limits). pair.upper)) all in
      let side : sides ≡ map (λ (entry : ℕ × Row ℕ). side_on rhs entry.0) (enumerate_from 1 problem.rows) = is_sides ∙ sides_made in
      λ i. record {
        matrix = record { rows = is_rows i; cols = is_cols i; columns = is_columns i };
        lower = low i;
        upper = high i;
        rhs = side i;
        objective = objective;
        change = None;
        sense = sense;
      }

module _ (problem : Problem ℕ) (choice : Choice) (rhs ranges : List (Entry ℕ)) (is_rhs : rhs ≡ rhs_items problem.rhs choice.rhs)
    (is_ranges : ranges ≡ set_items problem.ranges choice.options.range) where
  -- the program of the chosen items is what the choice selects
  pub program_selected : (number : ℕ) (bounds : List (Bound ℕ)) (lp : LinearProgram) → bounds ≡ set_items problem.bounds choice.options.bound
      → objective_of problem.rows choice.objective ≡ Some number
      → selection_fault problem choice ≡ None → lp ≡ program_with problem number rhs ranges bounds choice.options.sense → selected problem choice ≡ Ok lp
  unfolding selected
  program_selected number bounds lp is_bounds is_number faultless is_lp =
      let same : program_with problem number rhs ranges bounds choice.options.sense ≡ program_of_choice problem choice =
      λ i. program_with problem (unwrap_or (sym is_number i) 0) (is_rhs i) (is_ranges i) (is_bounds i) choice.options.sense in
      ap (λ fault. unless fault (program_of_choice problem choice)) faultless ∙ ap Ok (sym (is_lp ∙ same))

  -- a row's range sum is refused
  pub refusal_of_row : (e : Evidence) →
      IsRowRefusal problem.rows (by_number (side_on rhs) (length problem.rows)) (by_number (value_on ranges) (length problem.rows)) e →
      IsRangeRefusal problem choice e
  refusal_of_row e h =
      let is_side : h.side ≡ side_on (rhs_items problem.rhs choice.rhs) (h.place + 1) =
      at-by_number (side_on rhs) (length problem.rows) h.place h.side h.is_side ∙ ap (λ items. side_on items (h.place + 1)) is_rhs in
      let is_range : h.range ≡ value_on (set_items problem.ranges choice.options.range) (h.place + 1) =
      at-by_number (value_on ranges) (length problem.rows) h.place h.range h.is_range ∙ ap (λ items. value_on items (h.place + 1)) is_ranges in
      record {
        place = h.place;
        row = h.row;
        is_row = h.is_row;
        range = h.refused.value;
        has_range = sym is_range ∙ h.refused.has_range;
        op = h.refused.op;
        is_op = h.refused.is_op;
        names = h.names;
        refuses = record {
          is_op = h.refused.refuses.is_op;
          is_left = h.refused.refuses.is_left ∙ is_side;
          is_right = h.refused.refuses.is_right;
          refused = subst (λ (side : ℚ). IsTrue (refuses h.refused.op side (magnitude h.refused.value))) is_side h.refused.refuses.is_refused;
        };
        no_way = h.no_way;
        no_theta = h.no_theta;
      }

-- a product or a sum of a combination is refused in a column
pub refusal_of_column : (problem : Problem ℕ) (e : Evidence) → IsMatrixRefusal problem.rows problem.columns e → IsCombinationRefusal problem e
refusal_of_column problem e h = record {
  place = h.refused.place;
  row = h.refused.row;
  is_row = h.refused.is_row;
  parts = h.refused.parts;
  is_combination = h.refused.is_combination;
  column_place = h.place;
  column = h.column;
  is_column = h.is_column;
  products = part_products h.refused.parts (column_values (take h.refused.place problem.rows) h.column.items);
  are_products = refl;
  term = h.refused.refused.term;
  product = h.refused.refused.product;
  is_product = h.refused.refused.is_product;
  names = h.refused.refused.names;
  refuses = h.refused.refused.refuses;
  no_way = h.refused.refused.no_way;
  no_theta = h.refused.refused.no_theta;
}

-- the evidence of a stop is that of an operation of the selection
pub refusal_of_program : (problem : Problem ℕ) (choice : Choice) (rhs ranges : List (Entry ℕ)) → rhs ≡ rhs_items problem.rhs choice.rhs
    → ranges ≡ set_items problem.ranges choice.options.range → (e : Evidence)
    → IsProgramOverflow problem (by_number (side_on rhs) (length problem.rows)) (by_number (value_on ranges) (length problem.rows)) (Overflow e)
    → IsSelectionRefusal problem choice e
refusal_of_program problem choice rhs ranges is_rhs is_ranges e (inl row) = inl (refusal_of_row problem choice rhs ranges is_rhs is_ranges e row)
refusal_of_program problem choice rhs ranges is_rhs is_ranges e (inr column) = inr (refusal_of_column problem e column)
