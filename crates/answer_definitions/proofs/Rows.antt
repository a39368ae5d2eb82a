-- Worked problems, computed from their decks to what PRIMAL and SOLUTION print of them.
use Rattle.std.specs.Prelude.{◌≡◌, refl, ℕ, Bool, true, false, List, [], ◌∷◌, codes, Option, Some, None, Result, Ok, Err, option_map}
use Prim.Native.String.{String}
use Rattle.std.specs.Fmt.{digits}
use Rattle.exact_values.specs.Gcd.{gcd}
use Rattle.exact_values.specs.Rational.{fraction, whole, ◌+ℚ◌, ◌*ℚ◌, neg_ℚ, inverse_ℚ, reciprocal, compare_ℚ}
use Rattle.exact_values.specs.Sums.{sum_to}
use Rattle.frac128.specs.Operations.{refuses, shared_factor, raised_numerator, raised_sum, sum_denominator}
use Rattle.lp_definitions.specs.declared.Sense.TheVariants.{Min, Max}
use Rattle.lp_definitions.specs.Basis.{opening_statuses}
use Rattle.check_definitions.specs.declared.Verdict.{Verdict as CheckVerdict}
use Rattle.simplex_definitions.specs.Path.{PathEnding, EndsOptimal, EndsCrossed, EndsInfeasible, EndsUnbounded, turn}
use Rattle.simplex_definitions.proofs.Solve.{solved, tableau_for, table_for}
use Rattle.card_definitions.specs.Cards.{cards_of, numbered_cards}
use Rattle.card_definitions.specs.Fields.{reading_of}
use Rattle.card_definitions.specs.Numbers.{number_of, number_fault, value_of}
use Rattle.problem_definitions.specs.Problem.{Problem}
use Rattle.problem_definitions.specs.Numbering.{numbered}
use Rattle.deck_definitions.specs.declared.DeckFault.{DeckFault}
use Rattle.deck_definitions.specs.Described.{described}
use Rattle.deck_definitions.specs.Conversion.{card_fault, deck_fault, conversion}
use Rattle.deck_definitions.specs.Written.{data_card}
use Rattle.deck_definitions.specs.Transport.{deck_fields}
use Rattle.selection_definitions.specs.Choice.{Choice}
use Rattle.selection_definitions.specs.Selection.{program_of_choice}
use Rattle.listing_definitions.specs.Numbers.{digits as listing_digits}
use Rattle.listing_definitions.specs.declared.Mark.{Mark}
use Rattle.listing_definitions.specs.declared.Mark.TheVariants.{Optimal, Infeasible, Unbounded}
use Rattle.listing_definitions.specs.declared.Solver.TheVariants.{Primal}
use Rattle.listing_definitions.specs.Report.{Check, Checked, Unchecked, Report, Solved, Solution}
use Rattle.listing_definitions.specs.Listing.{reports_text}
use Rattle.question_definitions.specs.Answers.{Basis, Sheet}
use Rattle.answer_definitions.specs.Verdicts.{verdict_of, check_of}
use Rattle.answer_definitions.specs.Sections.{solution_lines}

-- the problem of a deck, with the linear program of a choice
abbrev sheet_with : Choice → Result (Problem ℕ) DeckFault → Option Sheet
sheet_with choice (Ok problem) = Some (record { problem = problem; lp = program_of_choice problem choice })
sheet_with choice (Err fault) = None

abbrev sheet_of_cards : List (List ℕ) → Choice → Option Sheet
sheet_of_cards cards choice = sheet_with choice (conversion (numbered_cards cards) None)

unfoldable pub sheet_of : String → Choice → Option Sheet
sheet_of deck choice = sheet_of_cards (cards_of (codes deck)) choice

-- a check that doesn't fail
abbrev check_printed : CheckVerdict → Option Check
check_printed CheckVerdict.Checked = Some Checked
check_printed (CheckVerdict.Unchecked refused) = Some (Unchecked refused)
check_printed (CheckVerdict.Failed part number) = None

abbrev mark_left : PathEnding → Mark
mark_left (EndsOptimal point prices) = Optimal
mark_left (EndsCrossed k) = Infeasible
mark_left (EndsInfeasible ray) = Infeasible
mark_left (EndsUnbounded point direction) = Unbounded

abbrev solution_if : Bool → Sheet → PathEnding → Basis → List Report
solution_if false sheet ending s = []
solution_if true sheet ending s = Solution (mark_left ending) (solution_lines sheet s (tableau_for sheet.lp s)) ∷ []

abbrev printed_end : Bool → Sheet → Option (ℕ × PathEnding × Basis) → Option (List ℕ)
printed_end with_solution sheet None = None
printed_end with_solution sheet (Some found) =
    option_map (λ check. reports_text (Solved Primal (verdict_of sheet found.0 found.1) check ∷ solution_if with_solution sheet found.1 found.2))
    (check_printed (check_of sheet.lp found.1))

-- what PRIMAL prints from the opening basis, and SOLUTION after it
abbrev printed_sheet : Bool → Option Sheet → Option (List ℕ)
printed_sheet with_solution None = None
printed_sheet with_solution (Some sheet) = printed_end with_solution sheet (solved sheet.lp (opening_statuses sheet.lp))

printed : Bool → Option Sheet → Option (List ℕ)
printed with_solution sheet = printed_sheet with_solution sheet

testprob_primal : printed true
    (sheet_of "NAME          TESTPROB\nROWS\n N  COST\n L  LIM1\n G  LIM2\n E  MYEQN\nCOLUMNS\n    XONE      COST      1              LIM1      1\n    XONE      LIM2      1\n    YTWO      COST      4              LIM1      1\n    YTWO      MYEQN     -1\n    ZTHREE    COST      9              LIM2      1\n    ZTHREE    MYEQN     1\nRHS\n    RHS       LIM1      5              LIM2      10\n    RHS       MYEQN     7\nBOUNDS\n UP BND1      XONE      4\n LO BND1      YTWO      -1\n UP BND1      YTWO      1\nENDATA\n" (record { objective = None; rhs = None; options = record { bound = Some (codes "BND1"); range = None; sense = Min } }))
    ≡ Some (codes "PRIMAL OPTIMAL STEPS 3 OBJECTIVE 54 CHECKED\nSOLUTION OPTIMAL\nSECTION 1 - ROWS\nNUMBER ROW AT ACTIVITY SLACK LOWER UPPER DUAL\n    1 COST     BS 54 -54 NONE NONE 0\n    2 LIM1     BS 3 2 NONE 5 0\n    3 LIM2     LL 10 0 10 NONE 1\n    4 MYEQN    EQ 7 0 7 7 8\nSECTION 2 - COLUMNS\nNUMBER COLUMN AT ACTIVITY COST LOWER UPPER REDUCED\n    5 XONE     BS 4 1 0 4 0\n    6 YTWO     LL -1 4 -1 1 12\n    7 ZTHREE   BS 6 9 0 NONE 0\n")
unfolding printed sheet_of card_fault deck_fault conversion described numbered number_of number_fault value_of reading_of cards_of solved tableau_for
    table_for turn refuses shared_factor raised_numerator raised_sum sum_denominator fraction whole ◌+ℚ◌ ◌*ℚ◌ neg_ℚ inverse_ℚ reciprocal compare_ℚ sum_to gcd
    listing_digits
testprob_primal = refl

beale_cycling : printed true
    (sheet_of "NAME          BEALE\nROWS\n N  COST\n L  R1\n L  R2\n L  R3\nCOLUMNS\n    X1        COST      -.75\n    X1        R1        .25\n    X1        R2        .5\n    X2        COST      150\n    X2        R1        -60\n    X2        R2        -90\n    X3        COST      -.02\n    X3        R1        -.04\n    X3        R2        -.02\n    X3        R3        1\n    X4        COST      6\n    X4        R1        9\n    X4        R2        3\nRHS\n    B         R3        1\nENDATA\n" (record { objective = None; rhs = None; options = record { bound = None; range = None; sense = Min } }))
    ≡ Some (codes "PRIMAL OPTIMAL STEPS 6 OBJECTIVE -1/20 CHECKED\nSOLUTION OPTIMAL\nSECTION 1 - ROWS\nNUMBER ROW AT ACTIVITY SLACK LOWER UPPER DUAL\n    1 COST     BS -1/20 1/20 NONE NONE 0\n    2 R1       BS -3/100 3/100 NONE 0 0\n    3 R2       UL 0 0 NONE 0 -3/2\n    4 R3       UL 1 0 NONE 1 -1/20\nSECTION 2 - COLUMNS\nNUMBER COLUMN AT ACTIVITY COST LOWER UPPER REDUCED\n    5 X1       BS 1/25 -3/4 0 NONE 0\n    6 X2       LL 0 150 0 NONE 15\n    7 X3       BS 1 -1/50 0 NONE 0\n    8 X4       LL 0 6 0 NONE 21/2\n")
unfolding printed sheet_of card_fault deck_fault conversion described numbered number_of number_fault value_of reading_of cards_of solved tableau_for
    table_for turn refuses shared_factor raised_numerator raised_sum sum_denominator fraction whole ◌+ℚ◌ ◌*ℚ◌ neg_ℚ inverse_ℚ reciprocal compare_ℚ sum_to gcd
    listing_digits
beale_cycling = refl

no_columns : printed true
    (sheet_of "NAME          NIL\nROWS\n N  COST\nCOLUMNS\nENDATA\n"
    (record { objective = None; rhs = None; options = record { bound = None; range = None; sense = Min } }))
    ≡ Some (codes "PRIMAL OPTIMAL STEPS 0 OBJECTIVE 0 CHECKED\nSOLUTION OPTIMAL\nSECTION 1 - ROWS\nNUMBER ROW AT ACTIVITY SLACK LOWER UPPER DUAL\n    1 COST     BS 0 0 NONE NONE 0\nSECTION 2 - COLUMNS\nNUMBER COLUMN AT ACTIVITY COST LOWER UPPER REDUCED\n")
unfolding printed sheet_of card_fault deck_fault conversion described numbered number_of number_fault value_of reading_of cards_of solved tableau_for
    table_for turn refuses shared_factor raised_numerator raised_sum sum_denominator fraction whole ◌+ℚ◌ ◌*ℚ◌ neg_ℚ inverse_ℚ reciprocal compare_ℚ sum_to gcd
    listing_digits
no_columns = refl

negative_range_on_equality : printed true
    (sheet_of "NAME          T\nROWS\n N  COST\n E  BAND\nCOLUMNS\n    X         COST      1\n    X         BAND      1\nRHS\n    B         BAND      5\nRANGES\n    R         BAND      -3\nENDATA\n" (record { objective = None; rhs = None; options = record { bound = None; range = Some (codes "R"); sense = Min } }))
    ≡ Some (codes "PRIMAL OPTIMAL STEPS 1 OBJECTIVE 2 CHECKED\nSOLUTION OPTIMAL\nSECTION 1 - ROWS\nNUMBER ROW AT ACTIVITY SLACK LOWER UPPER DUAL\n    1 COST     BS 2 -2 NONE NONE 0\n    2 BAND     LL 2 3 2 5 1\nSECTION 2 - COLUMNS\nNUMBER COLUMN AT ACTIVITY COST LOWER UPPER REDUCED\n    3 X        BS 2 1 0 NONE 0\n")
unfolding printed sheet_of card_fault deck_fault conversion described numbered number_of number_fault value_of reading_of cards_of solved tableau_for
    table_for turn refuses shared_factor raised_numerator raised_sum sum_denominator fraction whole ◌+ℚ◌ ◌*ℚ◌ neg_ℚ inverse_ℚ reciprocal compare_ℚ sum_to gcd
    listing_digits
negative_range_on_equality = refl

maximise : printed true
    (sheet_of
    "NAME          T\nROWS\n N  COST\n L  LIM\nCOLUMNS\n    X         COST      3\n    X         LIM       1\nRHS\n    B         LIM       4\nENDATA\n"
    (record { objective = None; rhs = None; options = record { bound = None; range = None; sense = Max } }))
    ≡ Some (codes "PRIMAL OPTIMAL STEPS 1 OBJECTIVE 12 CHECKED\nSOLUTION OPTIMAL\nSECTION 1 - ROWS\nNUMBER ROW AT ACTIVITY SLACK LOWER UPPER DUAL\n    1 COST     BS 12 -12 NONE NONE 0\n    2 LIM      UL 4 0 NONE 4 3\nSECTION 2 - COLUMNS\nNUMBER COLUMN AT ACTIVITY COST LOWER UPPER REDUCED\n    3 X        BS 4 3 0 NONE 0\n")
unfolding printed sheet_of card_fault deck_fault conversion described numbered number_of number_fault value_of reading_of cards_of solved tableau_for
    table_for turn refuses shared_factor raised_numerator raised_sum sum_denominator fraction whole ◌+ℚ◌ ◌*ℚ◌ neg_ℚ inverse_ℚ reciprocal compare_ℚ sum_to gcd
    listing_digits
maximise = refl

lower_bound : printed true
    (sheet_of "NAME          T\nROWS\n N  COST\nCOLUMNS\n    X         COST      1\nBOUNDS\n LO BND       X         2\nENDATA\n"
    (record { objective = None; rhs = None; options = record { bound = Some (codes "BND"); range = None; sense = Min } }))
    ≡ Some (codes "PRIMAL OPTIMAL STEPS 0 OBJECTIVE 2 CHECKED\nSOLUTION OPTIMAL\nSECTION 1 - ROWS\nNUMBER ROW AT ACTIVITY SLACK LOWER UPPER DUAL\n    1 COST     BS 2 -2 NONE NONE 0\nSECTION 2 - COLUMNS\nNUMBER COLUMN AT ACTIVITY COST LOWER UPPER REDUCED\n    2 X        LL 2 1 2 NONE 1\n")
unfolding printed sheet_of card_fault deck_fault conversion described numbered number_of number_fault value_of reading_of cards_of solved tableau_for
    table_for turn refuses shared_factor raised_numerator raised_sum sum_denominator fraction whole ◌+ℚ◌ ◌*ℚ◌ neg_ℚ inverse_ℚ reciprocal compare_ℚ sum_to gcd
    listing_digits
lower_bound = refl

negative_upper_crossed : printed false
    (sheet_of "NAME          T\nROWS\n N  COST\nCOLUMNS\n    X         COST      1\nBOUNDS\n UP BND       X         -1\nENDATA\n"
    (record { objective = None; rhs = None; options = record { bound = Some (codes "BND"); range = None; sense = Min } }))
    ≡ Some (codes "PRIMAL INFEASIBLE STEPS 0 CROSSED 2 CHECKED\n")
unfolding printed sheet_of card_fault deck_fault conversion described numbered number_of number_fault value_of reading_of cards_of solved tableau_for
    table_for turn refuses shared_factor raised_numerator raised_sum sum_denominator fraction whole ◌+ℚ◌ ◌*ℚ◌ neg_ℚ inverse_ℚ reciprocal compare_ℚ sum_to gcd
    listing_digits
negative_upper_crossed = refl

infeasible_ray : printed false
    (sheet_of "NAME          T\nROWS\n N  COST\n G  LOW\n L  HIGH\nCOLUMNS\n    X         COST      1\n    X         LOW       1\n    X         HIGH      1\nRHS\n    B         LOW       3\n    B         HIGH      2\nENDATA\n" (record { objective = None; rhs = None; options = record { bound = None; range = None; sense = Min } }))
    ≡ Some (codes "PRIMAL INFEASIBLE STEPS 1 RAY CHECKED\n    2 LOW      -1\n    3 HIGH     1\n")
unfolding printed sheet_of card_fault deck_fault conversion described numbered number_of number_fault value_of reading_of cards_of solved tableau_for
    table_for turn refuses shared_factor raised_numerator raised_sum sum_denominator fraction whole ◌+ℚ◌ ◌*ℚ◌ neg_ℚ inverse_ℚ reciprocal compare_ℚ sum_to gcd
    listing_digits
infeasible_ray = refl

unbounded : printed false
    (sheet_of "NAME          T\nROWS\n N  COST\nCOLUMNS\n    X         COST      -1\nENDATA\n"
    (record { objective = None; rhs = None; options = record { bound = None; range = None; sense = Min } }))
    ≡ Some (codes "PRIMAL UNBOUNDED STEPS 0 OBJECTIVE 0 CHECKED\n    1 COST     0 -1\n    2 X        0 1\n")
unfolding printed sheet_of card_fault deck_fault conversion described numbered number_of number_fault value_of reading_of cards_of solved tableau_for
    table_for turn refuses shared_factor raised_numerator raised_sum sum_denominator fraction whole ◌+ℚ◌ ◌*ℚ◌ neg_ℚ inverse_ℚ reciprocal compare_ℚ sum_to gcd
    listing_digits
unbounded = refl

unbounded_demand_solution : printed true
    (sheet_of "NAME          T\nROWS\n N  COST\nCOLUMNS\n    X         COST      -1\nENDATA\n"
    (record { objective = None; rhs = None; options = record { bound = None; range = None; sense = Min } }))
    ≡ Some (codes "PRIMAL UNBOUNDED STEPS 0 OBJECTIVE 0 CHECKED\n    1 COST     0 -1\n    2 X        0 1\nSOLUTION UNBOUNDED\nSECTION 1 - ROWS\nNUMBER ROW AT ACTIVITY SLACK LOWER UPPER DUAL\n    1 COST     BS 0 0 NONE NONE 0\nSECTION 2 - COLUMNS\nNUMBER COLUMN AT ACTIVITY COST LOWER UPPER REDUCED\n    2 X        LL 0 -1 0 NONE -1\n")
unfolding printed sheet_of card_fault deck_fault conversion described numbered number_of number_fault value_of reading_of cards_of solved tableau_for
    table_for turn refuses shared_factor raised_numerator raised_sum sum_denominator fraction whole ◌+ℚ◌ ◌*ℚ◌ neg_ℚ inverse_ℚ reciprocal compare_ℚ sum_to gcd
    listing_digits
unbounded_demand_solution = refl

crossed_demand_solution : printed true
    (sheet_of "NAME          T\nROWS\n N  COST\nCOLUMNS\n    X         COST      1\nBOUNDS\n UP BND       X         -1\nENDATA\n"
    (record { objective = None; rhs = None; options = record { bound = Some (codes "BND"); range = None; sense = Min } }))
    ≡ Some (codes "PRIMAL INFEASIBLE STEPS 0 CROSSED 2 CHECKED\nSOLUTION INFEASIBLE\nSECTION 1 - ROWS\nNUMBER ROW AT ACTIVITY SLACK LOWER UPPER DUAL\n    1 COST     BS 0 0 NONE NONE 0\nSECTION 2 - COLUMNS\nNUMBER COLUMN AT ACTIVITY COST LOWER UPPER REDUCED\n    2 X        LL 0 1 0 -1 1\n")
unfolding printed sheet_of card_fault deck_fault conversion described numbered number_of number_fault value_of reading_of cards_of solved tableau_for
    table_for turn refuses shared_factor raised_numerator raised_sum sum_denominator fraction whole ◌+ℚ◌ ◌*ℚ◌ neg_ℚ inverse_ℚ reciprocal compare_ℚ sum_to gcd
    listing_digits
crossed_demand_solution = refl

-- the generated job of two sources
generated_two : printed false
    (sheet_of_cards (deck_fields 2) (record { objective = None; rhs = None; options = record { bound = None; range = None; sense = Min } }))
    ≡ Some (codes "PRIMAL OPTIMAL STEPS 4 OBJECTIVE 180 CHECKED\n")
unfolding printed data_card card_fault deck_fault conversion described numbered number_of number_fault value_of reading_of cards_of solved tableau_for
    table_for turn refuses shared_factor raised_numerator raised_sum sum_denominator fraction whole ◌+ℚ◌ ◌*ℚ◌ neg_ℚ inverse_ℚ reciprocal compare_ℚ sum_to gcd
    digits listing_digits
generated_two = refl
