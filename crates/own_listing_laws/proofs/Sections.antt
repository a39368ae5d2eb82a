-- SOLUTION, an interval of a parametric run and its close are read back.
use Rattle.std.proofs.Common.{◌≡◌, ℕ, false, List, [], ◌++◌, Option, Some, None, codes, refl, ap, ◌∙◌, append_assoc, append-nil}
use Rattle.std.specs.Prelude.{option_map, option_and_then}
use Rattle.exact_values.specs.Rational.{ℚ}
use Rattle.frac128.specs.Operations.{TermsFit}
use Rattle.lp_definitions.specs.LinearProgram.{variables}
use Rattle.lp_definitions.specs.Basis.{Tableau}
use Rattle.simplex_definitions.specs.Chain.{Part}
use Rattle.listing_definitions.specs.declared.Mark.{Mark}
use Rattle.listing_definitions.specs.declared.Solver.{Solver}
use Rattle.listing_definitions.specs.declared.Solver.TheVariants.{Primal, Dual, Paraobj, Pararhs}
use Rattle.listing_definitions.specs.Numbers.{digits, rational_text}
use Rattle.listing_definitions.specs.Report.{Line, SolutionLines, ParametricInterval, ChainEnd, EndsAt, UnboundedPast, InfeasiblePast}
use Rattle.listing_definitions.specs.Text.{mark_text, solver_text, table_text, solution_text, interval_text, chain_end_text}
use Rattle.question_definitions.specs.Answers.{Basis, Sheet}
use Rattle.answer_definitions.specs.Lines.{row_numbers, column_numbers, lines_of, pair_lines, ray_lines}
use Rattle.answer_definitions.specs.Sections.{solution_row, solution_column, solution_lines}
use Rattle.answer_definitions.specs.ParametricRuns.{part_values}
use Rattle.walk_definitions.specs.Words.{Parsed, left_after, with_text, with_word}
use Rattle.walk_definitions.specs.Tables.{begins_table_line, pair_slots, part_slots, table_in, ray_in}
use Rattle.walk_definitions.specs.Reading.{row_slots, column_slots, solution_in, interval_in, close_in}
use Rattle.fitting_answers.specs.Fitting.{ValuesFit, LinesFit, EndFits}
use Rattle.own_listing_laws.specs.Printed.{IsEndOf, of_direction, of_ray}
use Rattle.own_listing_laws.proofs.Spelled.{ReadsFractions, Gives, text_first, or_else, or_first, not_there, done, fraction_first}
use Rattle.own_listing_laws.proofs.Tabled.{AllMatch, matched_of, table_read}
use Rattle.own_listing_laws.proofs.Claims.{pairs_read, multipliers_read}

as_solution : (mark end head rows second columns after : List ℕ) →
    (codes "SOLUTION " ++ (mark ++ (end ++ (head ++ (rows ++ (second ++ (columns ++ []))))))) ++ after ≡
    (codes "SOLUTION " ++ (mark ++ (end ++ head))) ++ (rows ++ (second ++ (columns ++ after)))
as_solution mark end head rows second columns after = simp (append_assoc, append-nil)

module _ (of : List ℕ → Option ℚ) (fractions : ReadsFractions of) (sheet : Sheet) where
  module _ (s : Basis) (t : Tableau) where
    row_matches : (k : ℕ) → ValuesFit (solution_row sheet s t k) → AllMatch (row_slots sheet k) (solution_row sheet s t k)
    row_matches k (code, (point, (slack, (low, (high, (price, end)))))) = (tt, (point, (slack, (refl, (refl, (price, tt))))))

    column_matches : (k : ℕ) → ValuesFit (solution_column sheet s t k) → AllMatch (column_slots sheet k) (solution_column sheet s t k)
    column_matches k (code, (point, (cost, (low, (high, (price, end)))))) = (tt, (point, (refl, (refl, (refl, (price, tt))))))

    pub reported_read : (mark : Mark) (after : List ℕ) → LinesFit (solution_lines sheet s t).rows → LinesFit (solution_lines sheet s t).columns →
        solution_in of sheet mark (solution_text mark (solution_lines sheet s t) ++ after) ≡ Some
        (solution_lines sheet s t, after)
    reported_read mark after rows_fit columns_fit =
        ap (solution_in of sheet mark)
        (as_solution (mark_text mark) (codes "\n") (codes "SECTION 1 - ROWS\nNUMBER ROW AT ACTIVITY SLACK LOWER UPPER DUAL\n") (table_text rows) second
        (table_text columns) after)
        ∙ ap (option_and_then columns_in) first ∙ ap (option_map (λ (more : List Line × List ℕ). (record { rows = rows; columns = more.0 }, more.1))) last
      where
        rows : List Line
        rows = lines_of sheet (solution_row sheet s t) (row_numbers sheet.lp)

        columns : List Line
        columns = lines_of sheet (solution_column sheet s t) (column_numbers sheet.lp)

        head : List ℕ
        head = codes "SOLUTION " ++ (mark_text mark ++ codes "\nSECTION 1 - ROWS\nNUMBER ROW AT ACTIVITY SLACK LOWER UPPER DUAL\n")

        second : List ℕ
        second = codes "SECTION 2 - COLUMNS\nNUMBER COLUMN AT ACTIVITY COST LOWER UPPER REDUCED\n"

        columns_in : List Line × List ℕ → Parsed SolutionLines
        columns_in got =
            option_map (λ more. (record { rows = got.0; columns = more.0 }, more.1))
            (with_text second (table_in of sheet (column_slots sheet) (column_numbers sheet.lp)) got.1)

        first : with_text head (table_in of sheet (row_slots sheet) (row_numbers sheet.lp))
            (head ++ (table_text rows ++ (second ++ (table_text columns ++ after)))) ≡ Some (rows, second ++ (table_text columns ++ after))
        first = (text_first head (table_in of sheet (row_slots sheet) (row_numbers sheet.lp))
            (table_text rows ++ (second ++ (table_text columns ++ after))) (Some (rows, second ++ (table_text columns ++ after))) (record {
              of = table_read sheet of fractions (row_slots sheet) (solution_row sheet s t) (row_numbers sheet.lp) (second ++ (table_text columns ++ after))
                  (matched_of sheet (row_slots sheet) (solution_row sheet s t) row_matches (row_numbers sheet.lp) rows_fit);
            })).of

        last : with_text second (table_in of sheet (column_slots sheet) (column_numbers sheet.lp))
            (second ++ (table_text columns ++ after)) ≡ Some (columns, after)
        last = (text_first second (table_in of sheet (column_slots sheet) (column_numbers sheet.lp))
            (table_text columns ++ after) (Some (columns, after)) (record {
              of = table_read sheet of fractions (column_slots sheet) (solution_column sheet s t) (column_numbers sheet.lp) after
                  (matched_of sheet (column_slots sheet) (solution_column sheet s t) column_matches (column_numbers sheet.lp) columns_fit);
            })).of

  -- ---- intervals

  part_matches : (part : Part) (k : ℕ) → ValuesFit (part_values sheet.lp part k) → AllMatch (part_slots k) (part_values sheet.lp part k)
  part_matches part k (code, (value, (value_rate, (price, (price_rate, end))))) = (tt, (value, (value_rate, (price, (price_rate, tt)))))

  as_interval : (number from to lines after : List ℕ) →
      (codes "INTERVAL " ++ (number ++ (codes " FROM " ++ (from ++ (codes " TO " ++ (to ++ (codes "\n" ++ (lines ++ [])))))))) ++ after ≡
      (codes "INTERVAL " ++ (number ++ (codes " FROM " ++ (from ++ codes " TO ")))) ++ (to ++ (codes "\n" ++ (lines ++ after)))
  as_interval number from to lines after = simp (append_assoc, append-nil)

  abbrev part_lines : Part → List Line
  part_lines part = lines_of sheet (part_values sheet.lp part) (variables sheet.lp.matrix)

  pub interval_read : (number : ℕ) (part : Part) (after : List ℕ) → TermsFit part.to → LinesFit (part_lines part) →
      interval_in of sheet number part.from
      (interval_text (number, record { from = part.from; to = part.to; lines = part_lines part }) ++ after) ≡ Some
      (record { from = part.from; to = part.to; lines = part_lines part }, after)
  interval_read number part after fit lines_fit =
      ap (interval_in of sheet number part.from)
      (as_interval (digits number) (rational_text part.from) (rational_text part.to) (table_text (part_lines part)) after)
      ∙ (text_first (codes "INTERVAL " ++ (digits number ++ (codes " FROM " ++ (rational_text part.from ++ codes " TO ")))) _ _ _
      (fraction_first of fractions part.to 10 _ (λ to. with_text (codes "\n") (last to)) _ fit refl
      (text_first (codes "\n") (last part.to) _ _
      (record {
        of = ap (option_map (λ (got : List Line × List ℕ). (record { from = part.from; to = part.to; lines = got.0 }, got.1)))
            (table_read sheet of fractions part_slots (part_values sheet.lp part) (variables sheet.lp.matrix) after
            (matched_of sheet part_slots (part_values sheet.lp part) (part_matches part) (variables sheet.lp.matrix) lines_fit));
      })))).of
    where
      last : ℚ → List ℕ → Parsed ParametricInterval
      last to rest =
          option_map (λ got. (record { from = part.from; to = to; lines = got.0 }, got.1))
          (table_in of sheet part_slots (variables sheet.lp.matrix) rest)

  -- ---- closes

  as_end : (solver word value after : List ℕ) →
      (solver ++ (word ++ (value ++ (codes "\n" ++ [])))) ++ after ≡ solver ++ (word ++ (value ++ (codes "\n" ++ after)))
  as_end solver word value after = simp (append_assoc, append-nil)

  as_past : (solver word value lines after : List ℕ) →
      (solver ++ (word ++ (value ++ (codes "\n" ++ (lines ++ []))))) ++ after ≡ solver ++ (word ++ (value ++ (codes "\n" ++ (lines ++ after))))
  as_past solver word value lines after = simp (append_assoc, append-nil)

  abbrev ends_in : List ℕ → Parsed ChainEnd
  ends_in = with_text (codes " ENDS AT ") (with_word of (λ t. with_text (codes "\n") (λ after. Some (EndsAt t, after))))

  ends_read : (t : ℚ) (after : List ℕ) → TermsFit t → Gives ends_in (codes " ENDS AT " ++ (rational_text t ++ (codes "\n" ++ after))) (Some (EndsAt t, after))
  ends_read t after fit =
      text_first (codes " ENDS AT ") _ _ _ (fraction_first of fractions t 10 after (λ t. with_text (codes "\n") (λ after. Some (EndsAt t, after))) _ fit refl
      (text_first (codes "\n") (λ after. Some (EndsAt t, after)) after _ (done (λ after. Some (EndsAt t, after)) after)))

  abbrev direction_in : List ℕ → Parsed ChainEnd
  direction_in = with_text (codes " UNBOUNDED PAST ") (with_word of (λ t. with_text (codes "\n") (λ after.
      option_map (λ got. (UnboundedPast t got.0, got.1)) (table_in of sheet pair_slots (variables sheet.lp.matrix) after))))

  abbrev ray_past_in : List ℕ → Parsed ChainEnd
  ray_past_in = with_text (codes " INFEASIBLE PAST ") (with_word of (λ t. with_text (codes "\n") (λ after.
      option_map (λ got. (InfeasiblePast t got.0, got.1)) (ray_in of sheet (variables sheet.lp.matrix) after))))

  direction_read : (t : ℚ) (point direction : List ℚ) (after : List ℕ) → TermsFit t → LinesFit (pair_lines sheet point direction) →
      Gives direction_in (codes " UNBOUNDED PAST " ++ (rational_text t ++ (codes "\n" ++ (table_text (pair_lines sheet point direction) ++ after))))
      (Some (UnboundedPast t (pair_lines sheet point direction), after))
  direction_read t point direction after fit lines_fit =
      text_first (codes " UNBOUNDED PAST ") _ _ _
      (fraction_first of fractions t 10 (table_text (pair_lines sheet point direction) ++ after) (λ t. with_text (codes "\n") (λ after.
      option_map (λ got. (UnboundedPast t got.0, got.1))
      (table_in of sheet pair_slots (variables sheet.lp.matrix) after))) _ fit refl
      (text_first (codes "\n")
      (λ after. option_map (λ (got : List Line × List ℕ). (UnboundedPast t got.0, got.1))
      (table_in of sheet pair_slots (variables sheet.lp.matrix) after)) _ _
      (record {
        of = ap (option_map (λ (got : List Line × List ℕ). (UnboundedPast t got.0, got.1)))
            (pairs_read of fractions sheet point direction after lines_fit);
      })))

  ray_past_read : (t : ℚ) (ray : List ℚ) (after : List ℕ) → TermsFit t → LinesFit (ray_lines sheet ray) → begins_table_line after ≡ false →
      Gives ray_past_in (codes " INFEASIBLE PAST " ++ (rational_text t ++ (codes "\n" ++ (table_text (ray_lines sheet ray) ++ after))))
      (Some (InfeasiblePast t (ray_lines sheet ray), after))
  ray_past_read t ray after fit lines_fit other =
      text_first (codes " INFEASIBLE PAST ") _ _ _ (fraction_first of fractions t 10 (table_text (ray_lines sheet ray) ++ after) (λ t. with_text
      (codes "\n") (λ after.
      option_map (λ got. (InfeasiblePast t got.0, got.1)) (ray_in of sheet (variables sheet.lp.matrix) after))) _ fit refl
      (text_first (codes "\n")
      (λ after. option_map (λ (got : List Line × List ℕ). (InfeasiblePast t got.0, got.1))
      (ray_in of sheet (variables sheet.lp.matrix) after)) _ _
      (record {
        of = ap (option_map (λ (got : List Line × List ℕ). (InfeasiblePast t got.0, got.1)))
            (multipliers_read of fractions sheet ray after lines_fit other);
      })))

  abbrev past_lines : ℚ → List Line → List ℕ → List ℕ
  past_lines t lines after = rational_text t ++ (codes "\n" ++ (table_text lines ++ after))

  no_end : (rest : List ℕ) → left_after (codes " ENDS AT ") rest ≡ None → ends_in rest ≡ None
  no_end rest none =
      not_there (codes " ENDS AT ") (with_word of (λ t. with_text (codes "\n") (λ after. Some (EndsAt t, after)))) rest none

  pub close_read : (solver : Solver) (end : ChainEnd) (after : List ℕ) → IsEndOf sheet solver end → EndFits end → begins_table_line after ≡ false →
      close_in of sheet solver (chain_end_text solver end ++ after) ≡ Some (end, after)
  close_read Primal (EndsAt t) after is fit other =
      ap (close_in of sheet Primal) (as_end (solver_text Primal) (codes " ENDS AT ") (rational_text t) after)
      ∙ (text_first (solver_text Primal) _ _ _ (or_first ends_in (λ left. None) _ _ (ends_read t after fit))).of
  close_read Dual (EndsAt t) after is fit other =
      ap (close_in of sheet Dual) (as_end (solver_text Dual) (codes " ENDS AT ") (rational_text t) after)
      ∙ (text_first (solver_text Dual) _ _ _ (or_first ends_in (λ left. None) _ _ (ends_read t after fit))).of
  close_read Paraobj (EndsAt t) after is fit other =
      ap (close_in of sheet Paraobj) (as_end (solver_text Paraobj) (codes " ENDS AT ") (rational_text t) after)
      ∙ (text_first (solver_text Paraobj) _ _ _ (or_first ends_in direction_in _ _ (ends_read t after fit))).of
  close_read Pararhs (EndsAt t) after is fit other =
      ap (close_in of sheet Pararhs) (as_end (solver_text Pararhs) (codes " ENDS AT ") (rational_text t) after)
      ∙ (text_first (solver_text Pararhs) _ _ _ (or_first ends_in ray_past_in _ _ (ends_read t after fit))).of
  close_read _ _ after (of_direction t point direction) fit other =
      ap (close_in of sheet Paraobj)
      (as_past (solver_text Paraobj) (codes " UNBOUNDED PAST ") (rational_text t) (table_text (pair_lines sheet point direction)) after)
      ∙ (text_first (solver_text Paraobj) _ _ _
      (or_else ends_in direction_in (codes " UNBOUNDED PAST " ++ past_lines t (pair_lines sheet point direction) after) _
      (no_end (codes " UNBOUNDED PAST " ++ past_lines t (pair_lines sheet point direction) after) refl)
      (direction_read t point direction after fit.0 fit.1))).of
  close_read _ _ after (of_ray t ray) fit other =
      ap (close_in of sheet Pararhs)
      (as_past (solver_text Pararhs) (codes " INFEASIBLE PAST ") (rational_text t) (table_text (ray_lines sheet ray)) after)
      ∙ (text_first (solver_text Pararhs) _ _ _
      (or_else ends_in ray_past_in (codes " INFEASIBLE PAST " ++ past_lines t (ray_lines sheet ray) after) _
      (no_end (codes " INFEASIBLE PAST " ++ past_lines t (ray_lines sheet ray) after) refl) (ray_past_read t ray after fit.0 fit.1 other))).of
