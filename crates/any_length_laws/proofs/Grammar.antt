-- What is read of a listing with numbers read in one way is read alike in another way, where this reads all that the first reads.
use Rattle.std.proofs.Common.{◌≡◌, ◌⊎◌, inl, inr, ℕ, List, [], ◌∷◌, ◌++◌, Option, Some, None, codes, if◌then◌else◌, refl, ap, ◌∙◌}
use Rattle.std.specs.Prelude.{option_map, option_and_then}
use Rattle.std.specs.Option.{option_or}
use Rattle.exact_values.specs.Rational.{ℚ}
use Rattle.frac128.specs.declared.Op.{Op}
use Rattle.lp_definitions.specs.LinearProgram.{variables}
use Rattle.card_definitions.specs.Words.{named}
use Rattle.listing_definitions.specs.declared.Mark.{Mark}
use Rattle.listing_definitions.specs.declared.Solver.{Solver}
use Rattle.listing_definitions.specs.declared.Solver.TheVariants.{Primal, Dual, Paraobj, Pararhs}
use Rattle.listing_definitions.specs.Numbers.{digits, rational_text}
use Rattle.listing_definitions.specs.Report.{Value, Line, Number, Check, Checked, Unchecked, OptimalAt, InfeasibleBy, UnboundedBy, SolutionLines, ChainEnd}
use Rattle.listing_definitions.specs.Report.{EndsAt, UnboundedPast, InfeasiblePast}
use Rattle.listing_definitions.specs.Text.{solver_text, mark_text}
use Rattle.question_definitions.specs.Answers.{Sheet}
use Rattle.answer_definitions.specs.Lines.{row_numbers, column_numbers}
use Rattle.walk_definitions.specs.Checkers.{checker_of_128_bits}
use Rattle.walk_definitions.specs.Words.{Parsed, left_after, with_text, with_word, fraction_in, count_in, max_count}
use Rattle.walk_definitions.specs.Forms.{all_operations}
use Rattle.walk_definitions.specs.Tables.{Slot, AnyCode, AnyNumber, Known, value_in, slot_in, then_more, values_in, begins_table_line, line_head, line_in}
use Rattle.walk_definitions.specs.Tables.{table_in, multiplier_in, ray_in, pair_slots, part_slots}
use Rattle.walk_definitions.specs.Reading.{Claim, with_check, optimal_in, crossed_in, infeasible_in, unbounded_in, claim_in, verdict_in, row_slots}
use Rattle.walk_definitions.specs.Reading.{column_slots, solution_in, interval_in, close_in}
use Rattle.walk_definitions.proofs.Texts.{is_text}
use Rattle.any_length_laws.proofs.Readers.{Widens, same, after_text, after_word, mapped, gone_on, more, by_text, either, text_stands}

-- ---- the word of a check is read alike, whatever is read behind it

module _ {X : Type 0} where
  abbrev pub after_right : (Check → List ℕ → Option X) → Op → ℚ → ℚ → List ℕ → Option X
  after_right reads op left right = with_text (codes "\n") (reads (Unchecked (record { op = op; left = left; right = right })))

  abbrev pub after_left : (Check → List ℕ → Option X) → Op → ℚ → List ℕ → Option X
  after_left reads op left = with_text (codes " ") (with_word (fraction_in checker_of_128_bits) (after_right reads op left))

  abbrev pub after_operation : (Check → List ℕ → Option X) → Op → List ℕ → Option X
  after_operation reads op = with_text (codes " ") (with_word (fraction_in checker_of_128_bits) (after_left reads op))

  abbrev pub after_unchecked : (Check → List ℕ → Option X) → List ℕ → Option X
  after_unchecked reads = with_word (named all_operations) (after_operation reads)

  abbrev unchecked_in : (Check → List ℕ → Option X) → List ℕ → Option X
  unchecked_in reads = with_text (codes "UNCHECKED ") (after_unchecked reads)

  module _ (reads others : Check → List ℕ → Option X) (widens : (check : Check) → Widens (reads check) (others check)) where
    right_widens : (op : Op) (left right : ℚ) → Widens (after_right reads op left right) (after_right others op left right)
    right_widens op left right = after_text (codes "\n") _ _ (widens (Unchecked (record { op = op; left = left; right = right })))

    left_widens : (op : Op) (left : ℚ) → Widens (after_left reads op left) (after_left others op left)
    left_widens op left =
        after_text (codes " ") (with_word (fraction_in checker_of_128_bits) (after_right reads op left))
        (with_word (fraction_in checker_of_128_bits) (after_right others op left))
        (after_word (fraction_in checker_of_128_bits) (fraction_in checker_of_128_bits) (after_right reads op left) (after_right others op left) (λ word x e. e)
        (right_widens op left))

    operation_widens : (op : Op) → Widens (after_operation reads op) (after_operation others op)
    operation_widens op =
        after_text (codes " ") (with_word (fraction_in checker_of_128_bits) (after_left reads op))
        (with_word (fraction_in checker_of_128_bits) (after_left others op))
        (after_word (fraction_in checker_of_128_bits) (fraction_in checker_of_128_bits) (after_left reads op) (after_left others op) (λ word x e. e)
        (left_widens op))

    unchecked_widens : Widens (after_unchecked reads) (after_unchecked others)
    unchecked_widens =
        after_word (named all_operations) (named all_operations) (after_operation reads) (after_operation others) (λ word op e. e) operation_widens

  not_checked : (others : Check → List ℕ → Option X) (rest left : List ℕ) → left_after (codes "UNCHECKED ") rest ≡ Some left →
      with_text (codes "CHECKED\n") (others Checked) rest ≡ None
  not_checked others rest left stands =
      ap (λ r. option_and_then (others Checked) (left_after (codes "CHECKED\n") r)) (is_text (codes "UNCHECKED ") rest left stands)

check_widens : {X : Type 0} (reads others : Check → List ℕ → Option X) → ((check : Check) → Widens (reads check) (others check)) →
    Widens (with_check reads) (with_check others)
check_widens reads others widens =
    either (with_text (codes "CHECKED\n") (reads Checked)) (unchecked_in reads) (with_text (codes "CHECKED\n") (others Checked)) (unchecked_in others)
    (after_text (codes "CHECKED\n") (reads Checked) (others Checked) (widens Checked))
    (after_text (codes "UNCHECKED ") (after_unchecked reads) (after_unchecked others) (unchecked_widens reads others widens))
    (λ rest x none e. let stands = text_stands (codes "UNCHECKED ") (after_unchecked reads) rest x e in not_checked others rest stands.0 stands.1)

module _ (of other : List ℕ → Option ℚ) (means : (word : List ℕ) (x : ℚ) → of word ≡ Some x → other word ≡ Some x) where
  value_widens : (slot : Slot) (word : List ℕ) (value : Value) → value_in of slot word ≡ Some value → value_in other slot word ≡ Some value
  value_widens AnyCode word value e = e
  value_widens (Known v) word value e = e
  value_widens AnyNumber word value e = at (of word) refl e
    where
      at : (o : Option ℚ) → of word ≡ o → option_map Number o ≡ Some value → option_map Number (other word) ≡ Some value
      at None is e = absurd (cc e)
      at (Some x) is e = ap (option_map Number) (means word x is) ∙ e

  slot_widens : (slot : Slot) → Widens (slot_in of slot) (slot_in other slot)
  slot_widens slot =
      after_text (codes " ") (with_word (value_in of slot) (λ value left. Some (value, left)))
      (with_word (value_in other slot) (λ value left. Some (value, left)))
      (after_word (value_in of slot) (value_in other slot) _ _ (value_widens slot) (λ value. same (λ left. Some (value, left))))

  values_widen : (slots : List Slot) → Widens (values_in of slots) (values_in other slots)
  values_widen [] = same (λ rest. Some ([], rest))
  values_widen (slot ∷ slots) = more (slot_in of slot) (slot_in other slot) (values_in of slots) (values_in other slots) (slot_widens slot) (values_widen slots)

  module _ (sheet : Sheet) where
    line_widens : (slots : List Slot) (k : ℕ) → Widens (line_in of sheet slots k) (line_in other sheet slots k)
    line_widens slots k =
        gone_on _ _ (with_text (line_head sheet k) (values_in of slots)) (with_text (line_head sheet k) (values_in other slots))
        (after_text (line_head sheet k) (values_in of slots) (values_in other slots) (values_widen slots)) (λ got line e. e)

    pub table_widens : (slots : ℕ → List Slot) (ks : List ℕ) → Widens (table_in of sheet slots ks) (table_in other sheet slots ks)
    table_widens slots [] = same (λ rest. Some ([], rest))
    table_widens slots (k ∷ ks) =
        more (line_in of sheet (slots k) k) (line_in other sheet (slots k) k) (table_in of sheet slots ks) (table_in other sheet slots ks)
        (line_widens (slots k) k) (table_widens slots ks)

    multiplier_widens : (k : ℕ) → Widens (multiplier_in of sheet k) (multiplier_in other sheet k)
    multiplier_widens k =
        gone_on _ _ (line_in of sheet (AnyNumber ∷ []) k) (line_in other sheet (AnyNumber ∷ []) k) (line_widens (AnyNumber ∷ []) k) (λ got line e. e)

    pub ray_widens : (ks : List ℕ) → Widens (ray_in of sheet ks) (ray_in other sheet ks)
    ray_widens [] = same (λ rest. if begins_table_line rest then None else Some ([], rest))
    ray_widens (k ∷ ks) =
        by_text (left_after (line_head sheet k)) (ray_in of sheet ks) (λ rest. then_more (multiplier_in of sheet k rest) (ray_in of sheet ks))
        (ray_in other sheet ks) (λ rest. then_more (multiplier_in other sheet k rest) (ray_in other sheet ks))
        (ray_widens ks)
        (more (multiplier_in of sheet k) (multiplier_in other sheet k) (ray_in of sheet ks) (ray_in other sheet ks) (multiplier_widens k) (ray_widens ks))

    -- ---- verdicts

    pub optimal_widens : Widens (optimal_in of sheet) (optimal_in other sheet)
    optimal_widens =
        after_text (codes "OPTIMAL STEPS ") _ _
        (after_word (count_in max_count) (count_in max_count) _ _ (λ word n e. e)
        (λ steps. after_text (codes " OBJECTIVE ") _ _ (after_word of other _ _ means (λ objective.
        after_text (codes " ") _ _ (check_widens _ _ (λ check. same (λ rest. Some ((OptimalAt steps objective, check), rest))))))))

    pub infeasible_widens : Widens (infeasible_in of sheet) (infeasible_in other sheet)
    infeasible_widens =
        after_text (codes "INFEASIBLE STEPS ") _ _
        (after_word (count_in max_count) (count_in max_count) _ _ (λ word n e. e) (λ steps. after_text (codes " RAY ") _ _ (check_widens _ _ (λ check.
        mapped (λ got. ((InfeasibleBy steps got.0, check), got.1)) (ray_in of sheet (variables sheet.lp.matrix))
        (ray_in other sheet (variables sheet.lp.matrix)) (ray_widens (variables sheet.lp.matrix))))))

    unbounded_widens : Widens (unbounded_in of sheet) (unbounded_in other sheet)
    unbounded_widens =
        after_text (codes "UNBOUNDED STEPS ") _ _
        (after_word (count_in max_count) (count_in max_count) _ _ (λ word n e. e)
        (λ steps. after_text (codes " OBJECTIVE ") _ _ (after_word of other _ _ means (λ objective.
        after_text (codes " ") _ _ (check_widens _ _ (λ check.
        mapped (λ got. ((UnboundedBy steps objective got.0, check), got.1)) (table_in of sheet pair_slots (variables sheet.lp.matrix))
        (table_in other sheet pair_slots (variables sheet.lp.matrix))
        (table_widens pair_slots (variables sheet.lp.matrix))))))))

    -- none of the others begins with the text of an optimal verdict, and that of an unbounded one doesn't begin as an infeasible one
    abbrev OpensWith : List ℕ → List ℕ → Type 0
    OpensWith text rest = (left : List ℕ) × (left_after text rest ≡ Some left)

    no_optimal : (rest : List ℕ) → OpensWith (codes "INFEASIBLE STEPS ") rest ⊎ OpensWith (codes "UNBOUNDED STEPS ") rest → optimal_in other sheet rest ≡ None
    no_optimal rest (inl opens) = ap (optimal_in other sheet) (is_text (codes "INFEASIBLE STEPS ") rest opens.0 opens.1)
    no_optimal rest (inr opens) = ap (optimal_in other sheet) (is_text (codes "UNBOUNDED STEPS ") rest opens.0 opens.1)

    no_infeasible : (rest : List ℕ) → OpensWith (codes "UNBOUNDED STEPS ") rest → infeasible_in other sheet rest ≡ None
    no_infeasible rest opens = ap (infeasible_in other sheet) (is_text (codes "UNBOUNDED STEPS ") rest opens.0 opens.1)

    -- the verdict of a crossed variable begins as an infeasible one
    crossed_opens : (rest : List ℕ) (got : Claim × List ℕ) → crossed_in sheet rest ≡ Some got → OpensWith (codes "INFEASIBLE STEPS ") rest
    crossed_opens rest got e =
        let stands = text_stands (codes "INFEASIBLE STEPS 0 CROSSED ") _ rest got e in
        (codes "0 CROSSED " ++ stands.0, ap (left_after (codes "INFEASIBLE STEPS ")) (is_text (codes "INFEASIBLE STEPS 0 CROSSED ") rest stands.0 stands.1))

    late_opens : (rest : List ℕ) (got : Claim × List ℕ) → option_or (infeasible_in of sheet rest) (unbounded_in of sheet rest) ≡ Some got →
        OpensWith (codes "INFEASIBLE STEPS ") rest ⊎ OpensWith (codes "UNBOUNDED STEPS ") rest
    late_opens rest got e = at (infeasible_in of sheet rest) refl e
      where
        at : (o : Parsed Claim) → infeasible_in of sheet rest ≡ o → option_or o (unbounded_in of sheet rest) ≡ Some got →
            OpensWith (codes "INFEASIBLE STEPS ") rest ⊎ OpensWith (codes "UNBOUNDED STEPS ") rest
        at None is e = inr (text_stands (codes "UNBOUNDED STEPS ") _ rest got e)
        at (Some first) is e = inl (text_stands (codes "INFEASIBLE STEPS ") _ rest first is)

    late_widens : Widens (λ rest. option_or (infeasible_in of sheet rest) (unbounded_in of sheet rest))
        (λ rest. option_or (infeasible_in other sheet rest) (unbounded_in other sheet rest))
    late_widens =
        either (infeasible_in of sheet) (unbounded_in of sheet) (infeasible_in other sheet) (unbounded_in other sheet) infeasible_widens unbounded_widens
        (λ rest got none e. no_infeasible rest (text_stands (codes "UNBOUNDED STEPS ") _ rest got e))

    -- behind the verdict of a crossed variable
    abbrev behind_crossed : (List ℕ → Parsed Claim) → List ℕ → Parsed Claim
    behind_crossed reads rest = option_or (crossed_in sheet rest) (reads rest)

    crossed_widens : (reads others : List ℕ → Parsed Claim) → Widens reads others → Widens (behind_crossed reads) (behind_crossed others)
    crossed_widens reads others widens = either (crossed_in sheet) reads (crossed_in sheet) others (same (crossed_in sheet)) widens (λ rest got none e. none)

    abbrev Opens : List ℕ → Type 0
    Opens rest = OpensWith (codes "INFEASIBLE STEPS ") rest ⊎ OpensWith (codes "UNBOUNDED STEPS ") rest

    crossed_or_late : (reads : List ℕ → Parsed Claim) → ((rest : List ℕ) (got : Claim × List ℕ) → reads rest ≡ Some got → Opens rest) →
        (rest : List ℕ) (got : Claim × List ℕ) → behind_crossed reads rest ≡ Some got → Opens rest
    crossed_or_late reads opens rest got e = at (crossed_in sheet rest) refl e
      where
        at : (o : Parsed Claim) → crossed_in sheet rest ≡ o → option_or o (reads rest) ≡ Some got → Opens rest
        at None is e = opens rest got e
        at (Some first) is e = inl (crossed_opens rest first is)

    claim_widens : (solver : Solver) → Widens (claim_in of sheet solver) (claim_in other sheet solver)
    claim_widens Primal =
        either (optimal_in of sheet) (behind_crossed (λ rest. option_or (infeasible_in of sheet rest) (unbounded_in of sheet rest))) (optimal_in other sheet)
        (behind_crossed (λ rest. option_or (infeasible_in other sheet rest) (unbounded_in other sheet rest)))
        optimal_widens (crossed_widens _ _ late_widens) (λ rest got none e. no_optimal rest (crossed_or_late _ late_opens rest got e))
    claim_widens Dual =
        either (optimal_in of sheet) (behind_crossed (infeasible_in of sheet)) (optimal_in other sheet) (behind_crossed (infeasible_in other sheet))
        optimal_widens (crossed_widens _ _ infeasible_widens)
        (λ rest got none e. no_optimal rest
        (crossed_or_late (infeasible_in of sheet) (λ rest got e. inl (text_stands (codes "INFEASIBLE STEPS ") _ rest got e)) rest got e))
    claim_widens Paraobj = crossed_widens _ _ late_widens
    claim_widens Pararhs = crossed_widens _ _ late_widens

    pub verdict_widens : (solver : Solver) → Widens (verdict_in of sheet solver) (verdict_in other sheet solver)
    verdict_widens solver = after_text (solver_text solver ++ codes " ") (claim_in of sheet solver) (claim_in other sheet solver) (claim_widens solver)

    -- ---- SOLUTION

    pub solution_widens : (mark : Mark) → Widens (solution_in of sheet mark) (solution_in other sheet mark)
    solution_widens mark =
        let rows_head = codes "SOLUTION " ++ (mark_text mark ++ codes "\nSECTION 1 - ROWS\nNUMBER ROW AT ACTIVITY SLACK LOWER UPPER DUAL\n") in
        let columns_head = codes "SECTION 2 - COLUMNS\nNUMBER COLUMN AT ACTIVITY COST LOWER UPPER REDUCED\n" in
        gone_on _ _ (with_text rows_head (table_in of sheet (row_slots sheet) (row_numbers sheet.lp)))
        (with_text rows_head (table_in other sheet (row_slots sheet) (row_numbers sheet.lp)))
        (after_text rows_head _ _ (table_widens (row_slots sheet) (row_numbers sheet.lp)))
        (λ got.
        (mapped {X = List Line × List ℕ} {Y = SolutionLines × List ℕ} (λ later. (record { rows = got.0; columns = later.0 }, later.1))
        (with_text columns_head (table_in of sheet (column_slots sheet) (column_numbers sheet.lp)))
        (with_text columns_head (table_in other sheet (column_slots sheet) (column_numbers sheet.lp)))
        (after_text columns_head _ _ (table_widens (column_slots sheet) (column_numbers sheet.lp)))).by got.1)

    -- ---- parametric runs

    pub interval_widens : (number : ℕ) (from : ℚ) → Widens (interval_in of sheet number from) (interval_in other sheet number from)
    interval_widens number from =
        after_text (codes "INTERVAL " ++ (digits number ++ (codes " FROM " ++ (rational_text from ++ codes " TO ")))) _ _
        (after_word of other _ _ means (λ to. after_text (codes "\n") _ _
        (mapped (λ got. (record { from = from; to = to; lines = got.0 }, got.1)) (table_in of sheet part_slots (variables sheet.lp.matrix))
        (table_in other sheet part_slots (variables sheet.lp.matrix))
        (table_widens part_slots (variables sheet.lp.matrix)))))

    abbrev ends_by : (List ℕ → Option ℚ) → List ℕ → Parsed ChainEnd
    ends_by reader = with_text (codes " ENDS AT ") (with_word reader (λ t. with_text (codes "\n") (λ after. Some (EndsAt t, after))))

    pub ends_widen : Widens (ends_by of) (ends_by other)
    ends_widen = after_text (codes " ENDS AT ") _ _ (after_word of other _ _ means (λ t. after_text (codes "\n") _ _ (same (λ after. Some (EndsAt t, after)))))

    abbrev unbounded_by : (List ℕ → Option ℚ) → List ℕ → Parsed ChainEnd
    unbounded_by reader = with_text (codes " UNBOUNDED PAST ") (with_word reader (λ t. with_text (codes "\n") (λ after.
        option_map (λ got. (UnboundedPast t got.0, got.1)) (table_in reader sheet pair_slots (variables sheet.lp.matrix) after))))

    abbrev infeasible_by : (List ℕ → Option ℚ) → List ℕ → Parsed ChainEnd
    infeasible_by reader = with_text (codes " INFEASIBLE PAST ") (with_word reader (λ t. with_text (codes "\n") (λ after.
        option_map (λ got. (InfeasiblePast t got.0, got.1)) (ray_in reader sheet (variables sheet.lp.matrix) after))))

    unbounded_by_widens : Widens (unbounded_by of) (unbounded_by other)
    unbounded_by_widens =
        after_text (codes " UNBOUNDED PAST ") _ _ (after_word of other _ _ means (λ t. after_text (codes "\n") _ _
        (mapped (λ got. (UnboundedPast t got.0, got.1)) (table_in of sheet pair_slots (variables sheet.lp.matrix))
        (table_in other sheet pair_slots (variables sheet.lp.matrix)) (table_widens pair_slots (variables sheet.lp.matrix)))))

    infeasible_by_widens : Widens (infeasible_by of) (infeasible_by other)
    infeasible_by_widens =
        after_text (codes " INFEASIBLE PAST ") _ _ (after_word of other _ _ means (λ t. after_text (codes "\n") _ _
        (mapped (λ got. (InfeasiblePast t got.0, got.1)) (ray_in of sheet (variables sheet.lp.matrix)) (ray_in other sheet (variables sheet.lp.matrix))
        (ray_widens (variables sheet.lp.matrix)))))

    no_end : (text rest : List ℕ) → OpensWith text rest → ((left : List ℕ) → ends_by other (text ++ left) ≡ None) → ends_by other rest ≡ None
    no_end text rest opens none = ap (ends_by other) (is_text text rest opens.0 opens.1) ∙ none opens.0

    pub close_widens : (solver : Solver) → Widens (close_in of sheet solver) (close_in other sheet solver)
    close_widens Primal =
        after_text (solver_text Primal) _ _
        (either (ends_by of) (λ left. None) (ends_by other) (λ left. None) ends_widen (same (λ left. None)) (λ rest got none e. absurd (cc e)))
    close_widens Dual =
        after_text (solver_text Dual) _ _
        (either (ends_by of) (λ left. None) (ends_by other) (λ left. None) ends_widen (same (λ left. None)) (λ rest got none e. absurd (cc e)))
    close_widens Paraobj =
        after_text (solver_text Paraobj) _ _ (either (ends_by of) (unbounded_by of) (ends_by other) (unbounded_by other) ends_widen unbounded_by_widens
        (λ rest got none e. no_end (codes " UNBOUNDED PAST ") rest (text_stands (codes " UNBOUNDED PAST ") _ rest got e) (λ left. refl)))
    close_widens Pararhs =
        after_text (solver_text Pararhs) _ _ (either (ends_by of) (infeasible_by of) (ends_by other) (infeasible_by other) ends_widen infeasible_by_widens
        (λ rest got none e. no_end (codes " INFEASIBLE PAST ") rest (text_stands (codes " INFEASIBLE PAST ") _ rest got e) (λ left. refl)))
