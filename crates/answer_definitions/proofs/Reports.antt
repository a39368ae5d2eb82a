-- Intervals and chains, from their values to what RANGE and the parametric verbs print of them.
use Rattle.std.specs.Prelude.{◌≡◌, refl, ℕ, List, [], ◌∷◌, codes, Option, Some, None, map, pos, negsuc}
use Rattle.exact_values.specs.Gcd.{gcd}
use Rattle.exact_values.specs.Rational.{ℚ, fraction, whole, ◌+ℚ◌, ◌*ℚ◌, neg_ℚ, inverse_ℚ, reciprocal, compare_ℚ}
use Rattle.exact_values.specs.Sums.{sum_to}
use Rattle.lp_definitions.specs.declared.Sense.TheVariants.{Min}
use Rattle.lp_definitions.specs.declared.Status.TheVariants.{Bs, Ll, Ul}
use Rattle.simplex_definitions.proofs.Solve.{tableau_for, table_for}
use Rattle.simplex_definitions.specs.Ranges.{Interval as Ends, RangeReport}
use Rattle.simplex_definitions.specs.Chain.{Part, ChainEnd, AtMax, UnboundedPast as PastUnbounded, InfeasiblePast as PastInfeasible}
use Rattle.card_definitions.specs.Cards.{cards_of}
use Rattle.card_definitions.specs.Fields.{reading_of}
use Rattle.card_definitions.specs.Numbers.{number_of, number_fault, value_of}
use Rattle.problem_definitions.specs.Numbering.{numbered}
use Rattle.deck_definitions.specs.Described.{described}
use Rattle.deck_definitions.specs.Conversion.{card_fault, deck_fault, conversion}
use Rattle.listing_definitions.specs.Numbers.{digits}
use Rattle.listing_definitions.specs.Report.{Ranges, Parametric}
use Rattle.listing_definitions.specs.Text.{report_text}
use Rattle.question_definitions.specs.Answers.{Basis, Sheet, Changing, Row, Set, changing_name, parametric_solver}
use Rattle.answer_definitions.specs.Sections.{range_lines}
use Rattle.answer_definitions.specs.ParametricRuns.{sheet_at, interval_of, end_of}
use Rattle.answer_definitions.proofs.Rows.{sheet_of}

ends : ℕ → Option ℚ → Option ℚ → Ends
ends variable low high = record { variable = variable; low = low; high = high }

-- what RANGE prints of a basis with these intervals
range_text : Option Sheet → Basis → RangeReport → List ℕ
range_text None s report = []
range_text (Some sheet) s report = report_text (Ranges (range_lines sheet s (tableau_for sheet.lp s) report))

-- what a parametric run from the one value to the other prints, with these intervals
chain_text : Option Sheet → Changing → ℚ → ℚ → List Part → ChainEnd → List ℕ
chain_text None changing from to parts end = []
chain_text (Some sheet) changing from to parts end =
    report_text (Parametric (parametric_solver changing) (record {
      from = from;
      change = changing_name changing;
      intervals = map (interval_of (sheet_at sheet changing from)) parts;
      end = end_of sheet to end;
    }))

range_testprob : range_text
    (sheet_of "NAME          TESTPROB\nROWS\n N  COST\n L  LIM1\n G  LIM2\n E  MYEQN\nCOLUMNS\n    XONE      COST      1              LIM1      1\n    XONE      LIM2      1\n    YTWO      COST      4              LIM1      1\n    YTWO      MYEQN     -1\n    ZTHREE    COST      9              LIM2      1\n    ZTHREE    MYEQN     1\nRHS\n    RHS       LIM1      5              LIM2      10\n    RHS       MYEQN     7\nBOUNDS\n UP BND1      XONE      4\n LO BND1      YTWO      -1\n UP BND1      YTWO      1\nENDATA\n" (record { objective = None; rhs = None; options = record { bound = Some (codes "BND1"); range = None; sense = Min } })) (Bs ∷ Bs ∷ Ll ∷ Ll ∷ Bs ∷ Ll ∷ Bs ∷ []) (record {
      limits =
          ends 3 (Some (fraction (pos 6) 1)) (Some (fraction (pos 10) 1)) ∷ ends 4 (Some (fraction (pos 7) 1)) (Some (fraction (pos 11) 1)) ∷ ends 6
          (Some (fraction (negsuc 0) 1)) (Some (fraction (pos 1) 1)) ∷ [];
      costs =
          ends 5 (Some (fraction (pos 0) 1)) (Some (fraction (pos 13) 1)) ∷ ends 6 (Some (fraction (negsuc 7) 1)) (None) ∷ ends 7 (Some (fraction (negsuc 2) 1))
          (None) ∷ [];
      rows = ends 2 (Some (fraction (negsuc 0) 1)) (None) ∷ [];
    })
    ≡ codes "RANGE\nSECTION 1 - ROWS AT LIMIT LEVEL\n    3 LIM2     LL 10 6 10\n    4 MYEQN    EQ 7 7 11\nSECTION 2 - COLUMNS AT LIMIT LEVEL\n    6 YTWO     LL -1 -1 1 4 -8 NONE\nSECTION 3 - ROWS AT INTERMEDIATE LEVEL\n    2 LIM1     BS 3 -1 NONE\nSECTION 4 - COLUMNS AT INTERMEDIATE LEVEL\n    5 XONE     BS 4 1 0 13\n    7 ZTHREE   BS 6 9 -3 NONE\n"
unfolding ends range_text chain_text sheet_of card_fault deck_fault conversion described numbered number_of number_fault value_of reading_of cards_of
    tableau_for table_for fraction whole ◌+ℚ◌ ◌*ℚ◌ neg_ℚ inverse_ℚ reciprocal compare_ℚ sum_to gcd digits
range_testprob = refl

range_two : range_text
    (sheet_of "NAME          TWO\nROWS\n N  COST\n N  CHG\n L  LIM\nCOLUMNS\n    X         COST      -1\n    X         CHG       -1\n    X         LIM       1\n    Y         COST      -2\n    Y         LIM       1\nRHS\n    B         LIM       4\nBOUNDS\n UP BND       X         3\nENDATA\n" (record { objective = None; rhs = None; options = record { bound = Some (codes "BND"); range = None; sense = Min } })) (Bs ∷ Bs ∷ Ul ∷ Ll ∷ Bs ∷ []) (record {
      limits = ends 3 (Some (fraction (pos 0) 1)) (None) ∷ ends 4 (None) (Some (fraction (pos 3) 1)) ∷ [];
      costs = ends 4 (Some (fraction (negsuc 1) 1)) (None) ∷ ends 5 (None) (Some (fraction (negsuc 0) 1)) ∷ [];
      rows = ends 2 (None) (Some (fraction (pos 1) 1)) ∷ [];
    })
    ≡ codes "RANGE\nSECTION 1 - ROWS AT LIMIT LEVEL\n    3 LIM      UL 4 0 NONE\nSECTION 2 - COLUMNS AT LIMIT LEVEL\n    4 X        LL 0 NONE 3 -1 -2 NONE\nSECTION 3 - ROWS AT INTERMEDIATE LEVEL\n    2 CHG      BS 0 NONE 1\nSECTION 4 - COLUMNS AT INTERMEDIATE LEVEL\n    5 Y        BS 4 -2 NONE -1\n"
unfolding ends range_text chain_text sheet_of card_fault deck_fault conversion described numbered number_of number_fault value_of reading_of cards_of
    tableau_for table_for fraction whole ◌+ℚ◌ ◌*ℚ◌ neg_ℚ inverse_ℚ reciprocal compare_ℚ sum_to gcd digits
range_two = refl

paraobj_two_intervals : chain_text
    (sheet_of "NAME          TWO\nROWS\n N  COST\n N  CHG\n L  LIM\nCOLUMNS\n    X         COST      -1\n    X         CHG       -1\n    X         LIM       1\n    Y         COST      -2\n    Y         LIM       1\nRHS\n    B         LIM       4\nBOUNDS\n UP BND       X         3\nENDATA\n" (record { objective = None; rhs = None; options = record { bound = Some (codes "BND"); range = None; sense = Min } })) (Row (codes "CHG")) (fraction (pos 0) 1) (fraction (pos 5) 1)
    (record {
      from = fraction (pos 0) 1;
      to = fraction (pos 1) 1;
      statuses = Bs ∷ Bs ∷ Ul ∷ Ll ∷ Bs ∷ [];
      value = fraction (negsuc 7) 1 ∷ fraction (pos 0) 1 ∷ fraction (pos 4) 1 ∷ fraction (pos 0) 1 ∷ fraction (pos 4) 1 ∷ [];
      value_rate = fraction (pos 0) 1 ∷ fraction (pos 0) 1 ∷ fraction (pos 0) 1 ∷ fraction (pos 0) 1 ∷ fraction (pos 0) 1 ∷ [];
      price = fraction (pos 0) 1 ∷ fraction (pos 0) 1 ∷ fraction (negsuc 1) 1 ∷ fraction (pos 1) 1 ∷ fraction (pos 0) 1 ∷ [];
      price_rate = fraction (pos 0) 1 ∷ fraction (pos 0) 1 ∷ fraction (pos 0) 1 ∷ fraction (negsuc 0) 1 ∷ fraction (pos 0) 1 ∷ [];
    } ∷
    record {
      from = fraction (pos 1) 1;
      to = fraction (pos 5) 1;
      statuses = Bs ∷ Bs ∷ Ul ∷ Ul ∷ Bs ∷ [];
      value = fraction (negsuc 4) 1 ∷ fraction (negsuc 2) 1 ∷ fraction (pos 4) 1 ∷ fraction (pos 3) 1 ∷ fraction (pos 1) 1 ∷ [];
      value_rate = fraction (pos 0) 1 ∷ fraction (pos 0) 1 ∷ fraction (pos 0) 1 ∷ fraction (pos 0) 1 ∷ fraction (pos 0) 1 ∷ [];
      price = fraction (pos 0) 1 ∷ fraction (pos 0) 1 ∷ fraction (negsuc 1) 1 ∷ fraction (pos 1) 1 ∷ fraction (pos 0) 1 ∷ [];
      price_rate = fraction (pos 0) 1 ∷ fraction (pos 0) 1 ∷ fraction (pos 0) 1 ∷ fraction (negsuc 0) 1 ∷ fraction (pos 0) 1 ∷ [];
    } ∷ [])
    (AtMax)
    ≡ codes "PARAOBJ FROM 0 CHANGE CHG\nINTERVAL 1 FROM 0 TO 1\n    1 COST     BS -8 0 0 0\n    2 CHG      BS 0 0 0 0\n    3 LIM      UL 4 0 -2 0\n    4 X        LL 0 0 1 -1\n    5 Y        BS 4 0 0 0\nINTERVAL 2 FROM 1 TO 5\n    1 COST     BS -5 0 0 0\n    2 CHG      BS -3 0 0 0\n    3 LIM      UL 4 0 -2 0\n    4 X        UL 3 0 1 -1\n    5 Y        BS 1 0 0 0\nPARAOBJ ENDS AT 5\n"
unfolding ends range_text chain_text sheet_of card_fault deck_fault conversion described numbered number_of number_fault value_of reading_of cards_of
    tableau_for table_for fraction whole ◌+ℚ◌ ◌*ℚ◌ neg_ℚ inverse_ℚ reciprocal compare_ℚ sum_to gcd digits
paraobj_two_intervals = refl

paraobj_unbounded_past : chain_text
    (sheet_of "NAME          T\nROWS\n N  COST\n N  CHG\nCOLUMNS\n    X         COST      1\n    X         CHG       -1\nENDATA\n"
    (record { objective = None; rhs = None; options = record { bound = None; range = None; sense = Min } })) (Row (codes "CHG")) (fraction (pos 0) 1)
    (fraction (pos 1) 1)
    (record {
      from = fraction (pos 0) 1;
      to = fraction (pos 1) 1;
      statuses = Bs ∷ Bs ∷ Ll ∷ [];
      value = fraction (pos 0) 1 ∷ fraction (pos 0) 1 ∷ fraction (pos 0) 1 ∷ [];
      value_rate = fraction (pos 0) 1 ∷ fraction (pos 0) 1 ∷ fraction (pos 0) 1 ∷ [];
      price = fraction (pos 0) 1 ∷ fraction (pos 0) 1 ∷ fraction (pos 1) 1 ∷ [];
      price_rate = fraction (pos 0) 1 ∷ fraction (pos 0) 1 ∷ fraction (negsuc 0) 1 ∷ [];
    } ∷ [])
    (PastUnbounded (fraction (pos 1) 1) (fraction (pos 0) 1 ∷ fraction (pos 0) 1 ∷ fraction (pos 0) 1 ∷ [])
    (fraction (pos 1) 1 ∷ fraction (negsuc 0) 1 ∷ fraction (pos 1) 1 ∷ []))
    ≡ codes "PARAOBJ FROM 0 CHANGE CHG\nINTERVAL 1 FROM 0 TO 1\n    1 COST     BS 0 0 0 0\n    2 CHG      BS 0 0 0 0\n    3 X        LL 0 0 1 -1\nPARAOBJ UNBOUNDED PAST 1\n    1 COST     0 1\n    2 CHG      0 -1\n    3 X        0 1\n"
unfolding ends range_text chain_text sheet_of card_fault deck_fault conversion described numbered number_of number_fault value_of reading_of cards_of
    tableau_for table_for fraction whole ◌+ℚ◌ ◌*ℚ◌ neg_ℚ inverse_ℚ reciprocal compare_ℚ sum_to gcd digits
paraobj_unbounded_past = refl

pararhs_infeasible_past : chain_text
    (sheet_of "NAME          ONE\nROWS\n N  COST\n G  LOW\nCOLUMNS\n    X         COST      1\n    X         LOW       1\nRHS\n    B         LOW       1\n    C         LOW       1\nBOUNDS\n UP BND       X         3\nENDATA\n" (record { objective = None; rhs = None; options = record { bound = Some (codes "BND"); range = None; sense = Min } })) (Set (codes "C")) (fraction (pos 0) 1) (fraction (pos 2) 1)
    (record {
      from = fraction (pos 0) 1;
      to = fraction (pos 2) 1;
      statuses = Bs ∷ Ll ∷ Bs ∷ [];
      value = fraction (pos 1) 1 ∷ fraction (pos 1) 1 ∷ fraction (pos 1) 1 ∷ [];
      value_rate = fraction (pos 1) 1 ∷ fraction (pos 1) 1 ∷ fraction (pos 1) 1 ∷ [];
      price = fraction (pos 0) 1 ∷ fraction (pos 1) 1 ∷ fraction (pos 0) 1 ∷ [];
      price_rate = fraction (pos 0) 1 ∷ fraction (pos 0) 1 ∷ fraction (pos 0) 1 ∷ [];
    } ∷ [])
    (PastInfeasible (fraction (pos 2) 1) (fraction (pos 0) 1 ∷ fraction (negsuc 0) 1 ∷ fraction (pos 1) 1 ∷ []))
    ≡ codes "PARARHS FROM 0 CHANGE C\nINTERVAL 1 FROM 0 TO 2\n    1 COST     BS 1 1 0 0\n    2 LOW      LL 1 1 1 0\n    3 X        BS 1 1 0 0\nPARARHS INFEASIBLE PAST 2\n    2 LOW      -1\n    3 X        1\n"
unfolding ends range_text chain_text sheet_of card_fault deck_fault conversion described numbered number_of number_fault value_of reading_of cards_of
    tableau_for table_for fraction whole ◌+ℚ◌ ◌*ℚ◌ neg_ℚ inverse_ℚ reciprocal compare_ℚ sum_to gcd digits
pararhs_infeasible_past = refl

pararhs_two_intervals : chain_text
    (sheet_of "NAME          T\nROWS\n N  COST\n G  LOW\nCOLUMNS\n    X         COST      1\n    X         LOW       1\n    Y         COST      2\n    Y         LOW       1\nRHS\n    B         LOW       1\n    C         LOW       1\nBOUNDS\n UP BND       X         3\nENDATA\n" (record { objective = None; rhs = None; options = record { bound = Some (codes "BND"); range = None; sense = Min } })) (Set (codes "C")) (fraction (pos 0) 1) (fraction (pos 5) 1)
    (record {
      from = fraction (pos 0) 1;
      to = fraction (pos 2) 1;
      statuses = Bs ∷ Ll ∷ Bs ∷ Ll ∷ [];
      value = fraction (pos 1) 1 ∷ fraction (pos 1) 1 ∷ fraction (pos 1) 1 ∷ fraction (pos 0) 1 ∷ [];
      value_rate = fraction (pos 1) 1 ∷ fraction (pos 1) 1 ∷ fraction (pos 1) 1 ∷ fraction (pos 0) 1 ∷ [];
      price = fraction (pos 0) 1 ∷ fraction (pos 1) 1 ∷ fraction (pos 0) 1 ∷ fraction (pos 1) 1 ∷ [];
      price_rate = fraction (pos 0) 1 ∷ fraction (pos 0) 1 ∷ fraction (pos 0) 1 ∷ fraction (pos 0) 1 ∷ [];
    } ∷
    record {
      from = fraction (pos 2) 1;
      to = fraction (pos 5) 1;
      statuses = Bs ∷ Ll ∷ Ul ∷ Bs ∷ [];
      value = fraction (negsuc 0) 1 ∷ fraction (pos 1) 1 ∷ fraction (pos 3) 1 ∷ fraction (negsuc 1) 1 ∷ [];
      value_rate = fraction (pos 2) 1 ∷ fraction (pos 1) 1 ∷ fraction (pos 0) 1 ∷ fraction (pos 1) 1 ∷ [];
      price = fraction (pos 0) 1 ∷ fraction (pos 2) 1 ∷ fraction (negsuc 0) 1 ∷ fraction (pos 0) 1 ∷ [];
      price_rate = fraction (pos 0) 1 ∷ fraction (pos 0) 1 ∷ fraction (pos 0) 1 ∷ fraction (pos 0) 1 ∷ [];
    } ∷ [])
    (AtMax)
    ≡ codes "PARARHS FROM 0 CHANGE C\nINTERVAL 1 FROM 0 TO 2\n    1 COST     BS 1 1 0 0\n    2 LOW      LL 1 1 1 0\n    3 X        BS 1 1 0 0\n    4 Y        LL 0 0 1 0\nINTERVAL 2 FROM 2 TO 5\n    1 COST     BS -1 2 0 0\n    2 LOW      LL 1 1 2 0\n    3 X        UL 3 0 -1 0\n    4 Y        BS -2 1 0 0\nPARARHS ENDS AT 5\n"
unfolding ends range_text chain_text sheet_of card_fault deck_fault conversion described numbered number_of number_fault value_of reading_of cards_of
    tableau_for table_for fraction whole ◌+ℚ◌ ◌*ℚ◌ neg_ℚ inverse_ℚ reciprocal compare_ℚ sum_to gcd digits
pararhs_two_intervals = refl

pararhs_point_interval : chain_text
    (sheet_of "NAME          ONE\nROWS\n N  COST\n G  LOW\nCOLUMNS\n    X         COST      1\n    X         LOW       1\nRHS\n    B         LOW       1\n    C         LOW       1\nBOUNDS\n UP BND       X         3\nENDATA\n" (record { objective = None; rhs = None; options = record { bound = Some (codes "BND"); range = None; sense = Min } })) (Set (codes "C")) (fraction (pos 0) 1) (fraction (pos 0) 1)
    (record {
      from = fraction (pos 0) 1;
      to = fraction (pos 0) 1;
      statuses = Bs ∷ Ll ∷ Bs ∷ [];
      value = fraction (pos 1) 1 ∷ fraction (pos 1) 1 ∷ fraction (pos 1) 1 ∷ [];
      value_rate = fraction (pos 1) 1 ∷ fraction (pos 1) 1 ∷ fraction (pos 1) 1 ∷ [];
      price = fraction (pos 0) 1 ∷ fraction (pos 1) 1 ∷ fraction (pos 0) 1 ∷ [];
      price_rate = fraction (pos 0) 1 ∷ fraction (pos 0) 1 ∷ fraction (pos 0) 1 ∷ [];
    } ∷ [])
    (AtMax)
    ≡ codes
    "PARARHS FROM 0 CHANGE C\nINTERVAL 1 FROM 0 TO 0\n    1 COST     BS 1 1 0 0\n    2 LOW      LL 1 1 1 0\n    3 X        BS 1 1 0 0\nPARARHS ENDS AT 0\n"
unfolding ends range_text chain_text sheet_of card_fault deck_fault conversion described numbered number_of number_fault value_of reading_of cards_of
    tableau_for table_for fraction whole ◌+ℚ◌ ◌*ℚ◌ neg_ℚ inverse_ℚ reciprocal compare_ℚ sum_to gcd digits
pararhs_point_interval = refl
