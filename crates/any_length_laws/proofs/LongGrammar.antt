-- What is read of a report whose long numbers may stand is read by its values, or a long number stands in it.
use Rattle.std.proofs.Common.{◌≡◌, ◌⊎◌, inl, inr, ℕ, Bool, true, false, List, [], ◌∷◌, ◌++◌, Option, Some, None, codes, if◌then◌else◌, nat_eq, pos, subst, refl}
use Rattle.std.proofs.Common.{ap, ◌∙◌}
use Rattle.std.specs.Prelude.{option_map, option_and_then, bytes_eq, ◌&&◌}
use Rattle.std.specs.Option.{option_or}
use Rattle.exact_values.specs.Rational.{ℚ, whole, zero_ℚ}
use Rattle.exact_values.specs.Tests.{eq_ℚ}
use Rattle.frac128.specs.declared.Op.{Op}
use Rattle.lp_definitions.specs.LinearProgram.{variables, size}
use Rattle.card_definitions.specs.Words.{named}
use Rattle.listing_definitions.specs.declared.Mark.{Mark}
use Rattle.listing_definitions.specs.declared.Solver.{Solver}
use Rattle.listing_definitions.specs.declared.Solver.TheVariants.{Primal, Dual, Paraobj, Pararhs}
use Rattle.listing_definitions.specs.Numbers.{digits, rational_text}
use Rattle.listing_definitions.specs.Report.{Value, Line, Number, Check, Checked, Unchecked, OptimalAt, CrossedAt, InfeasibleBy, UnboundedBy, SolutionLines}
use Rattle.listing_definitions.specs.Report.{ParametricInterval, ChainEnd, EndsAt, UnboundedPast, InfeasiblePast}
use Rattle.listing_definitions.specs.Text.{solver_text, mark_text, value_text}
use Rattle.question_definitions.specs.Answers.{Sheet}
use Rattle.answer_definitions.specs.Lines.{row_numbers, column_numbers}
use Rattle.walk_definitions.specs.Checkers.{Checker, checker_of_128_bits}
use Rattle.walk_definitions.specs.Words.{Parsed, left_after, with_text, with_word, is_long, spelled, fraction_in, form_in, count_in, max_count}
use Rattle.walk_definitions.specs.Forms.{all_operations}
use Rattle.walk_definitions.specs.Tables.{Slot, AnyCode, AnyNumber, Known, value_in, slot_in, then_more, values_in, number_at, begins_table_line, line_head}
use Rattle.walk_definitions.specs.Tables.{line_of, line_in, table_in, multiplier_in, ray_in, pair_slots, part_slots}
use Rattle.walk_definitions.specs.Reading.{Claim, with_check, optimal_in, crossed_in, infeasible_in, unbounded_in, claim_in, verdict_in, row_slots}
use Rattle.walk_definitions.specs.Reading.{column_slots, solution_in, interval_in, close_in}
use Rattle.any_length_laws.specs.Laws.{HasLong}
use Rattle.any_length_laws.proofs.Readers as readers
use Rattle.any_length_laws.proofs.Grammar as grammar
use Rattle.any_length_laws.proofs.Longer.{IsSuffix, text_suffix, Reads, done, nothing, unless, after_text, after_word, number_known, alike, mapped, gone_on}
use Rattle.any_length_laws.proofs.Longer.{more, by_text, either}

module _ (C : Checker) where
  -- a number that is read by its value has the form of one
  pub value_formed : (word : List ℕ) (x : ℚ) → fraction_in C word ≡ Some x → form_in C word ≡ Some x
  unfolding fraction_in
  value_formed word x e = by (is_long C word) e
    where
      by : (b : Bool) →
          (if b then None else if C.arithmetic.reads (spelled word) && bytes_eq (rational_text (spelled word)) word then Some
          (spelled word) else None) ≡ Some x →
          (if b then Some (whole (pos 1)) else if b then None else if C.arithmetic.reads (spelled word) && bytes_eq
          (rational_text (spelled word)) word then Some (spelled word) else None) ≡ Some x
      by true e = absurd (cc e)
      by false e = e

  -- ---- the word of a check

  check_reads : {X : Type 0} (forms values : Check → List ℕ → Parsed X) → ((check : Check) → Reads C (forms check) (values check)) →
      ((check : Check) → readers.Widens (values check) (forms check)) →
      Reads C (with_check forms) (with_check values)
  check_reads forms values reads widens =
      either C (with_text (codes "CHECKED\n") (forms Checked)) _ (with_text (codes "CHECKED\n") (values Checked)) _
      (readers.after_text (codes "CHECKED\n") (values Checked) (forms Checked) (widens Checked))
      (after_text C (codes "CHECKED\n") (forms Checked) (values Checked) (reads Checked))
      (after_text C (codes "UNCHECKED ") (grammar.after_unchecked forms) (grammar.after_unchecked values)
      (after_word C (named all_operations) (named all_operations) (alike C (named all_operations)) (grammar.after_operation forms)
      (grammar.after_operation values) (λ op.
      after_text C (codes " ") _ _
      (after_word C (fraction_in checker_of_128_bits) (fraction_in checker_of_128_bits) (alike C (fraction_in checker_of_128_bits))
      (grammar.after_left forms op) (grammar.after_left values op) (λ left.
      after_text C (codes " ") _ _
      (after_word C (fraction_in checker_of_128_bits) (fraction_in checker_of_128_bits) (alike C (fraction_in checker_of_128_bits))
      (grammar.after_right forms op left) (grammar.after_right values op left) (λ right.
      after_text C (codes "\n") _ _ (reads (Unchecked (record { op = op; left = left; right = right }))))))))))

  -- ---- values, lines, tables, rays

  value_known : (slot : Slot) (word : List ℕ) → (value_in (form_in C) slot word ≡ value_in (fraction_in C) slot word) ⊎ (is_long C word ≡ true)
  value_known AnyCode word = inl refl
  value_known (Known value) word = inl refl
  value_known AnyNumber word = by (number_known C word)
    where
      by : (form_in C word ≡ fraction_in C word) ⊎ (is_long C word ≡ true) →
          (option_map Number (form_in C word) ≡ option_map Number (fraction_in C word)) ⊎ (is_long C word ≡ true)
      by (inl same) = inl (ap (option_map Number) same)
      by (inr long) = inr long

  slot_reads : (slot : Slot) → Reads C (slot_in (form_in C) slot) (slot_in (fraction_in C) slot)
  slot_reads slot =
      after_text C (codes " ") (with_word (value_in (form_in C) slot) (λ value left. Some (value, left)))
      (with_word (value_in (fraction_in C) slot) (λ value left. Some (value, left)))
      (after_word C (value_in (form_in C) slot) (value_in (fraction_in C) slot) (value_known slot) (λ value left. Some (value, left))
      (λ value left. Some (value, left)) (λ value. done C value))

  values_read : (slots : List Slot) → Reads C (values_in (form_in C) slots) (values_in (fraction_in C) slots)
  values_read [] = done C []
  values_read (slot ∷ slots) =
      more C (slot_in (form_in C) slot) (slot_in (fraction_in C) slot) (values_in (form_in C) slots) (values_in (fraction_in C) slots) (slot_reads slot)
      (values_read slots)

  module _ (sheet : Sheet) where
    abbrev ended_line : ℕ → List Value × List ℕ → Parsed Line
    ended_line k got = option_map {U = Line × List ℕ} (λ left. (line_of sheet k got.0, left)) (left_after (codes "\n") got.1)

    ended_too : (k : ℕ) (first : List Value × List ℕ) (got : Line × List ℕ) → ended_line k first ≡ Some got →
        ((ended_line k first ≡ Some got) ⊎ HasLong C first.1) × IsSuffix first.1 got.1
    ended_too k first got e = (inl e, by (left_after (codes "\n") first.1) refl e)
      where
        by : (o : Option (List ℕ)) → left_after (codes "\n") first.1 ≡ o →
            option_map {U = Line × List ℕ} (λ left. (line_of sheet k first.0, left)) o ≡ Some got → IsSuffix first.1 got.1
        by None stands e = absurd (cc e)
        by (Some left) stands e = let last : left ≡ got.1 = cc e in subst (IsSuffix first.1) last (text_suffix (codes "\n") first.1 left stands)

    line_reads : (slots : List Slot) (k : ℕ) → Reads C (line_in (form_in C) sheet slots k) (line_in (fraction_in C) sheet slots k)
    line_reads slots k =
        gone_on C (ended_line k) (ended_line k) (with_text (line_head sheet k) (values_in (form_in C) slots))
        (with_text (line_head sheet k) (values_in (fraction_in C) slots))
        (after_text C (line_head sheet k) (values_in (form_in C) slots) (values_in (fraction_in C) slots) (values_read slots)) (ended_too k)

    table_reads : (slots : ℕ → List Slot) (ks : List ℕ) → Reads C (table_in (form_in C) sheet slots ks) (table_in (fraction_in C) sheet slots ks)
    table_reads slots [] = done C []
    table_reads slots (k ∷ ks) =
        more C (line_in (form_in C) sheet (slots k) k) (line_in (fraction_in C) sheet (slots k) k) (table_in (form_in C) sheet slots ks)
        (table_in (fraction_in C) sheet slots ks) (line_reads (slots k) k) (table_reads slots ks)

    abbrev unless_zero : Line × List ℕ → Parsed Line
    unless_zero got = if eq_ℚ (number_at 0 got.0) zero_ℚ then None else Some got

    apart_too : (first got : Line × List ℕ) → unless_zero first ≡ Some got → ((unless_zero first ≡ Some got) ⊎ HasLong C first.1) × IsSuffix first.1 got.1
    apart_too first got e = (inl e, by (eq_ℚ (number_at 0 first.0) zero_ℚ) e)
      where
        by : (b : Bool) → (if b then None else Some first) ≡ Some got → IsSuffix first.1 got.1
        by true e = absurd (cc e)
        by false e = let last : first.1 ≡ got.1 = cc e in ([], last)

    multiplier_reads : (k : ℕ) → Reads C (multiplier_in (form_in C) sheet k) (multiplier_in (fraction_in C) sheet k)
    multiplier_reads k =
        gone_on C unless_zero unless_zero (line_in (form_in C) sheet (AnyNumber ∷ []) k) (line_in (fraction_in C) sheet (AnyNumber ∷ []) k)
        (line_reads (AnyNumber ∷ []) k) apart_too

    ray_reads : (ks : List ℕ) → Reads C (ray_in (form_in C) sheet ks) (ray_in (fraction_in C) sheet ks)
    ray_reads [] = unless C begins_table_line []
    ray_reads (k ∷ ks) =
        by_text C (left_after (line_head sheet k)) (ray_in (form_in C) sheet ks)
        (λ rest. then_more (multiplier_in (form_in C) sheet k rest) (ray_in (form_in C) sheet ks))
        (ray_in (fraction_in C) sheet ks) (λ rest. then_more (multiplier_in (fraction_in C) sheet k rest) (ray_in (fraction_in C) sheet ks))
        (ray_reads ks)
        (more C (multiplier_in (form_in C) sheet k) (multiplier_in (fraction_in C) sheet k) (ray_in (form_in C) sheet ks) (ray_in (fraction_in C) sheet ks)
        (multiplier_reads k) (ray_reads ks))

    -- ---- verdicts

    abbrev counted : {X : Type 0} (forms values : ℕ → List ℕ → Parsed X) → ((n : ℕ) → Reads C (forms n) (values n)) →
        Reads C (with_word (count_in max_count) forms) (with_word (count_in max_count) values)
    counted forms values reads = after_word C (count_in max_count) (count_in max_count) (alike C (count_in max_count)) forms values reads

    abbrev numbered : {X : Type 0} (forms values : ℚ → List ℕ → Parsed X) → ((x : ℚ) → Reads C (forms x) (values x)) →
        Reads C (with_word (form_in C) forms) (with_word (fraction_in C) values)
    numbered forms values reads = after_word C (form_in C) (fraction_in C) (number_known C) forms values reads

    optimal_reads : Reads C (optimal_in (form_in C) sheet) (optimal_in (fraction_in C) sheet)
    optimal_reads =
        after_text C (codes "OPTIMAL STEPS ") _ _ (counted _ _ (λ steps. after_text C (codes " OBJECTIVE ") _ _ (numbered _ _ (λ objective.
        after_text C (codes " ") _ _
        (check_reads (λ check rest. Some ((OptimalAt steps objective, check), rest)) (λ check rest. Some ((OptimalAt steps objective, check), rest))
        (λ check. done C (OptimalAt steps objective, check)) (λ check. readers.same _))))))

    crossed_reads : Reads C (crossed_in sheet) (crossed_in sheet)
    crossed_reads =
        after_text C (codes "INFEASIBLE STEPS 0 CROSSED ") _ _
        (after_word C (count_in (size sheet.lp.matrix)) (count_in (size sheet.lp.matrix)) (alike C (count_in (size sheet.lp.matrix))) _ _ (λ k.
        after_text C (codes " ") _ _
        (check_reads (λ check rest. if nat_eq k 0 then None else Some ((CrossedAt k, check), rest))
        (λ check rest. if nat_eq k 0 then None else Some ((CrossedAt k, check), rest))
        (λ check. unless C (λ rest. nat_eq k 0) (CrossedAt k, check)) (λ check. readers.same _))))

    infeasible_reads : Reads C (infeasible_in (form_in C) sheet) (infeasible_in (fraction_in C) sheet)
    infeasible_reads =
        after_text C (codes "INFEASIBLE STEPS ") _ _ (counted _ _ (λ steps. after_text C (codes " RAY ") _ _ (check_reads
        (λ check rest. option_map (λ got. ((InfeasibleBy steps got.0, check), got.1)) (ray_in (form_in C) sheet (variables sheet.lp.matrix) rest))
        (λ check rest. option_map (λ got. ((InfeasibleBy steps got.0, check), got.1)) (ray_in (fraction_in C) sheet (variables sheet.lp.matrix) rest))
        (λ check. mapped C (λ lines. (InfeasibleBy steps lines, check)) (ray_in (form_in C) sheet (variables sheet.lp.matrix))
        (ray_in (fraction_in C) sheet (variables sheet.lp.matrix)) (ray_reads (variables sheet.lp.matrix)))
        (λ check. readers.mapped _ _ _ (grammar.ray_widens (fraction_in C) (form_in C) value_formed sheet (variables sheet.lp.matrix))))))

    unbounded_reads : Reads C (unbounded_in (form_in C) sheet) (unbounded_in (fraction_in C) sheet)
    unbounded_reads =
        after_text C (codes "UNBOUNDED STEPS ") _ _
        (counted _ _ (λ steps. after_text C (codes " OBJECTIVE ") _ _ (numbered _ _ (λ objective. after_text C (codes " ") _ _ (check_reads
        (λ check rest. option_map (λ got. ((UnboundedBy steps objective got.0, check), got.1))
        (table_in (form_in C) sheet pair_slots (variables sheet.lp.matrix) rest))
        (λ check rest. option_map (λ got. ((UnboundedBy steps objective got.0, check), got.1))
        (table_in (fraction_in C) sheet pair_slots (variables sheet.lp.matrix) rest))
        (λ check. mapped C (λ lines. (UnboundedBy steps objective lines, check)) (table_in (form_in C) sheet pair_slots (variables sheet.lp.matrix))
        (table_in (fraction_in C) sheet pair_slots (variables sheet.lp.matrix))
        (table_reads pair_slots (variables sheet.lp.matrix)))
        (λ check. readers.mapped _ _ _ (grammar.table_widens (fraction_in C) (form_in C) value_formed sheet pair_slots (variables sheet.lp.matrix))))))))

    abbrev late : (List ℕ → Option ℚ) → List ℕ → Parsed Claim
    late of rest = option_or (infeasible_in of sheet rest) (unbounded_in of sheet rest)

    abbrev behind_crossed : (List ℕ → Parsed Claim) → List ℕ → Parsed Claim
    behind_crossed reads rest = option_or (crossed_in sheet rest) (reads rest)

    late_reads : Reads C (late (form_in C)) (late (fraction_in C))
    late_reads =
        either C (infeasible_in (form_in C) sheet) (unbounded_in (form_in C) sheet) (infeasible_in (fraction_in C) sheet) (unbounded_in (fraction_in C) sheet)
        (grammar.infeasible_widens (fraction_in C) (form_in C) value_formed sheet) infeasible_reads unbounded_reads

    crossed_or : (forms values : List ℕ → Parsed Claim) → Reads C forms values → Reads C (behind_crossed forms) (behind_crossed values)
    crossed_or forms values reads = either C (crossed_in sheet) forms (crossed_in sheet) values (readers.same (crossed_in sheet)) crossed_reads reads

    optimal_or : (forms values : List ℕ → Parsed Claim) → Reads C forms values →
        Reads C (λ rest. option_or (optimal_in (form_in C) sheet rest) (forms rest)) (λ rest. option_or (optimal_in (fraction_in C) sheet rest) (values rest))
    optimal_or forms values reads =
        either C (optimal_in (form_in C) sheet) forms (optimal_in (fraction_in C) sheet) values
        (grammar.optimal_widens (fraction_in C) (form_in C) value_formed sheet) optimal_reads reads

    claim_reads : (solver : Solver) → Reads C (claim_in (form_in C) sheet solver) (claim_in (fraction_in C) sheet solver)
    claim_reads Primal =
        optimal_or (behind_crossed (late (form_in C))) (behind_crossed (late (fraction_in C))) (crossed_or (late (form_in C)) (late (fraction_in C)) late_reads)
    claim_reads Dual =
        optimal_or (behind_crossed (infeasible_in (form_in C) sheet)) (behind_crossed (infeasible_in (fraction_in C) sheet))
        (crossed_or (infeasible_in (form_in C) sheet) (infeasible_in (fraction_in C) sheet) infeasible_reads)
    claim_reads Paraobj = crossed_or (late (form_in C)) (late (fraction_in C)) late_reads
    claim_reads Pararhs = crossed_or (late (form_in C)) (late (fraction_in C)) late_reads

    pub verdict_reads : (solver : Solver) → Reads C (verdict_in (form_in C) sheet solver) (verdict_in (fraction_in C) sheet solver)
    verdict_reads solver =
        after_text C (solver_text solver ++ codes " ") (claim_in (form_in C) sheet solver) (claim_in (fraction_in C) sheet solver) (claim_reads solver)

    -- ---- SOLUTION

    abbrev columns_head : List ℕ
    columns_head = codes "SECTION 2 - COLUMNS\nNUMBER COLUMN AT ACTIVITY COST LOWER UPPER REDUCED\n"

    abbrev columns_by : (List ℕ → Option ℚ) → List ℕ → Parsed (List Line)
    columns_by of = with_text columns_head (table_in of sheet (column_slots sheet) (column_numbers sheet.lp))

    columns_read : Reads C (columns_by (form_in C)) (columns_by (fraction_in C))
    columns_read = after_text C columns_head _ _ (table_reads (column_slots sheet) (column_numbers sheet.lp))

    with_columns : (List ℕ → Option ℚ) → List Line × List ℕ → Parsed SolutionLines
    with_columns of got = option_map {U = SolutionLines × List ℕ} (λ more. (record { rows = got.0; columns = more.0 }, more.1)) (columns_by of got.1)

    columns_too : (first : List Line × List ℕ) (got : SolutionLines × List ℕ) → with_columns (form_in C) first ≡ Some got →
        ((with_columns (fraction_in C) first ≡ Some got) ⊎ HasLong C first.1) × IsSuffix first.1 got.1
    unfolding with_columns
    columns_too first got e =
        let reads =
        mapped C {X = List Line} {Y = SolutionLines} (λ columns. record { rows = first.0; columns = columns }) (columns_by (form_in C))
        (columns_by (fraction_in C)) columns_read in
        (reads.agree first.1 got e, reads.leaves first.1 got e)

    pub solution_reads : (mark : Mark) → Reads C (solution_in (form_in C) sheet mark) (solution_in (fraction_in C) sheet mark)
    unfolding with_columns
    solution_reads mark =
        let rows_head = codes "SOLUTION " ++ (mark_text mark ++ codes "\nSECTION 1 - ROWS\nNUMBER ROW AT ACTIVITY SLACK LOWER UPPER DUAL\n") in
        gone_on C (with_columns (form_in C)) (with_columns (fraction_in C))
        (with_text rows_head (table_in (form_in C) sheet (row_slots sheet) (row_numbers sheet.lp)))
        (with_text rows_head (table_in (fraction_in C) sheet (row_slots sheet) (row_numbers sheet.lp)))
        (after_text C rows_head _ _ (table_reads (row_slots sheet) (row_numbers sheet.lp))) columns_too

    -- ---- parametric runs

    pub interval_reads : (number : ℕ) (from : ℚ) → Reads C (interval_in (form_in C) sheet number from) (interval_in (fraction_in C) sheet number from)
    interval_reads number from =
        after_text C (codes "INTERVAL " ++ (digits number ++ (codes " FROM " ++ (rational_text from ++ codes " TO ")))) _ _
        (numbered _ _ (λ to. after_text C (codes "\n") _ _
        (mapped C {X = List Line} {Y = ParametricInterval} (λ lines. record { from = from; to = to; lines = lines })
        (table_in (form_in C) sheet part_slots (variables sheet.lp.matrix)) (table_in (fraction_in C) sheet part_slots (variables sheet.lp.matrix))
        (table_reads part_slots (variables sheet.lp.matrix)))))

    abbrev ends_by : (List ℕ → Option ℚ) → List ℕ → Parsed ChainEnd
    ends_by of = with_text (codes " ENDS AT ") (with_word of (λ t. with_text (codes "\n") (λ after. Some (EndsAt t, after))))

    abbrev unbounded_by : (List ℕ → Option ℚ) → List ℕ → Parsed ChainEnd
    unbounded_by of = with_text (codes " UNBOUNDED PAST ") (with_word of (λ t. with_text (codes "\n") (λ after.
        option_map (λ got. (UnboundedPast t got.0, got.1)) (table_in of sheet pair_slots (variables sheet.lp.matrix) after))))

    abbrev infeasible_by : (List ℕ → Option ℚ) → List ℕ → Parsed ChainEnd
    infeasible_by of = with_text (codes " INFEASIBLE PAST ") (with_word of (λ t. with_text (codes "\n") (λ after.
        option_map (λ got. (InfeasiblePast t got.0, got.1)) (ray_in of sheet (variables sheet.lp.matrix) after))))

    ends_read : Reads C (ends_by (form_in C)) (ends_by (fraction_in C))
    ends_read = after_text C (codes " ENDS AT ") _ _ (numbered _ _ (λ t. after_text C (codes "\n") _ _ (done C (EndsAt t))))

    unbounded_read : Reads C (unbounded_by (form_in C)) (unbounded_by (fraction_in C))
    unbounded_read =
        after_text C (codes " UNBOUNDED PAST ") _ _ (numbered _ _ (λ t. after_text C (codes "\n") _ _
        (mapped C {X = List Line} {Y = ChainEnd} (UnboundedPast t) (table_in (form_in C) sheet pair_slots (variables sheet.lp.matrix))
        (table_in (fraction_in C) sheet pair_slots (variables sheet.lp.matrix))
        (table_reads pair_slots (variables sheet.lp.matrix)))))

    infeasible_read : Reads C (infeasible_by (form_in C)) (infeasible_by (fraction_in C))
    infeasible_read =
        after_text C (codes " INFEASIBLE PAST ") _ _ (numbered _ _ (λ t. after_text C (codes "\n") _ _
        (mapped C {X = List Line} {Y = ChainEnd} (InfeasiblePast t) (ray_in (form_in C) sheet (variables sheet.lp.matrix))
        (ray_in (fraction_in C) sheet (variables sheet.lp.matrix)) (ray_reads (variables sheet.lp.matrix)))))

    ends_or : (forms values : List ℕ → Parsed ChainEnd) → Reads C forms values →
        Reads C (λ rest. option_or (ends_by (form_in C) rest) (forms rest)) (λ rest. option_or (ends_by (fraction_in C) rest) (values rest))
    ends_or forms values reads =
        either C (ends_by (form_in C)) forms (ends_by (fraction_in C)) values
        (grammar.ends_widen (fraction_in C) (form_in C) value_formed sheet) ends_read reads

    pub close_reads : (solver : Solver) → Reads C (close_in (form_in C) sheet solver) (close_in (fraction_in C) sheet solver)
    close_reads Primal = after_text C (solver_text Primal) _ _ (ends_or (λ left. None) (λ left. None) (nothing C))
    close_reads Dual = after_text C (solver_text Dual) _ _ (ends_or (λ left. None) (λ left. None) (nothing C))
    close_reads Paraobj = after_text C (solver_text Paraobj) _ _ (ends_or (unbounded_by (form_in C)) (unbounded_by (fraction_in C)) unbounded_read)
    close_reads Pararhs = after_text C (solver_text Pararhs) _ _ (ends_or (infeasible_by (form_in C)) (infeasible_by (fraction_in C)) infeasible_read)
