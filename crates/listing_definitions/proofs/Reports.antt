-- Reports as they are printed, computed.
use Rattle.std.specs.Prelude.{◌≡◌, refl, ℕ, List, [], ◌∷◌, ◌++◌, codes, pos, negsuc}
use Prim.Native.String.{String}
use Rattle.exact_values.specs.Gcd.{gcd}
use Rattle.exact_values.specs.Rational.{fraction, whole}
use Rattle.frac128.specs.declared.Op.TheVariants.{Add, Mul}
use Rattle.lp_definitions.specs.declared.Sense.TheVariants.{Min, Max}
use Rattle.listing_definitions.specs.declared.Mark.TheVariants.{Optimal, Infeasible, Unbounded}
use Rattle.listing_definitions.specs.declared.Solver.TheVariants.{Primal, Paraobj, Pararhs}
use Rattle.listing_definitions.specs.declared.At.TheVariants.{Basic, Outside, Equal, Lower, Upper, Free}
use Rattle.listing_definitions.specs.Numbers.{digits}
use Rattle.listing_definitions.specs.Report.{Value, Code, Number, Absent, Dash, Line, OptimalAt, CrossedAt, InfeasibleBy, UnboundedBy, Checked, Unchecked}
use Rattle.listing_definitions.specs.Report.{EndsAt, UnboundedPast, InfeasiblePast, Titled, Converted, Revised, SetUp, BcdOut, Solved, Solution, Ranges}
use Rattle.listing_definitions.specs.Report.{Parametric}
use Rattle.listing_definitions.specs.Ending.{Ended}
use Rattle.listing_definitions.specs.Text.{report_text, line_text}
use Rattle.listing_definitions.specs.Listing.{listing, reports_text}

row : ℕ → String → List Value → Line
row number name values = record { number = number; name = codes name; values = values }

-- an optimal solution, whole
testprob : listing
    (Converted (record { name = codes "TESTPROB"; rows = 4; columns = 3; entries = 9 }) ∷
    SetUp (codes "TESTPROB") Min ∷
    Solved Primal (OptimalAt 3 (whole (pos 54))) Checked ∷
    Solution Optimal (record {
      rows = (row 1 "COST" (Code Basic ∷ Number (fraction (pos 54) 1) ∷ Number (fraction (negsuc 53) 1) ∷ Absent ∷ Absent ∷ Number (fraction (pos 0) 1) ∷ []) ∷
          row 2 "LIM1"
          (Code Basic ∷ Number (fraction (pos 3) 1) ∷ Number (fraction (pos 2) 1) ∷ Absent ∷ Number (fraction (pos 5) 1) ∷ Number
          (fraction (pos 0) 1) ∷ []) ∷
          row 3 "LIM2"
          (Code Lower ∷ Number (fraction (pos 10) 1) ∷ Number (fraction (pos 0) 1) ∷ Number (fraction (pos 10) 1) ∷ Absent ∷ Number
          (fraction (pos 1) 1) ∷ []) ∷
          row 4 "MYEQN"
          (Code Equal ∷ Number (fraction (pos 7) 1) ∷ Number (fraction (pos 0) 1) ∷ Number (fraction (pos 7) 1) ∷ Number (fraction (pos 7) 1) ∷ Number
          (fraction (pos 8) 1) ∷ []) ∷ []);
      columns =
          (row 5 "XONE"
          (Code Basic ∷ Number (fraction (pos 4) 1) ∷ Number (fraction (pos 1) 1) ∷ Number (fraction (pos 0) 1) ∷ Number (fraction (pos 4) 1) ∷ Number
          (fraction (pos 0) 1) ∷ []) ∷
          row 6 "YTWO"
          (Code Lower ∷ Number (fraction (negsuc 0) 1) ∷ Number (fraction (pos 4) 1) ∷ Number (fraction (negsuc 0) 1) ∷ Number (fraction (pos 1) 1) ∷ Number
          (fraction (pos 12) 1) ∷ []) ∷
          row 7 "ZTHREE"
          (Code Basic ∷ Number (fraction (pos 6) 1) ∷ Number (fraction (pos 9) 1) ∷ Number (fraction (pos 0) 1) ∷ Absent ∷ Number
          (fraction (pos 0) 1) ∷ []) ∷ []);
    }) ∷ [])
    (Ended 0)
    ≡ codes "CONVERT TESTPROB ROWS 4 COLUMNS 3 ENTRIES 9\nSETUP   TESTPROB MIN\nPRIMAL OPTIMAL STEPS 3 OBJECTIVE 54 CHECKED\nSOLUTION OPTIMAL\nSECTION 1 - ROWS\nNUMBER ROW AT ACTIVITY SLACK LOWER UPPER DUAL\n    1 COST     BS 54 -54 NONE NONE 0\n    2 LIM1     BS 3 2 NONE 5 0\n    3 LIM2     LL 10 0 10 NONE 1\n    4 MYEQN    EQ 7 0 7 7 8\nSECTION 2 - COLUMNS\nNUMBER COLUMN AT ACTIVITY COST LOWER UPPER REDUCED\n    5 XONE     BS 4 1 0 4 0\n    6 YTWO     LL -1 4 -1 1 12\n    7 ZTHREE   BS 6 9 0 NONE 0\nEND 0\n"
unfolding whole row fraction gcd digits
testprob = refl

infeasible : listing
    (Converted (record { name = codes "T"; rows = 3; columns = 1; entries = 3 }) ∷
    SetUp (codes "T") Min ∷
    Solved Primal (InfeasibleBy 1 (row 2 "LOW" (Number (fraction (negsuc 0) 1) ∷ []) ∷
    row 3 "HIGH" (Number (fraction (pos 1) 1) ∷ []) ∷ [])) Checked ∷ [])
    (Ended 1)
    ≡ codes
    "CONVERT T        ROWS 3 COLUMNS 1 ENTRIES 3\nSETUP   T        MIN\nPRIMAL INFEASIBLE STEPS 1 RAY CHECKED\n    2 LOW      -1\n    3 HIGH     1\nEND 1\n"
unfolding whole row fraction gcd digits
infeasible = refl

unbounded : listing
    (Converted (record { name = codes "T"; rows = 1; columns = 1; entries = 1 }) ∷
    SetUp (codes "T") Min ∷
    Solved Primal (UnboundedBy 0 (whole (pos 0)) (row 1 "COST" (Number (fraction (pos 0) 1) ∷ Number (fraction (negsuc 0) 1) ∷ []) ∷
    row 2 "X" (Number (fraction (pos 0) 1) ∷ Number (fraction (pos 1) 1) ∷ []) ∷ [])) Checked ∷ [])
    (Ended 2)
    ≡ codes "CONVERT T        ROWS 1 COLUMNS 1 ENTRIES 1\nSETUP   T        MIN\nPRIMAL UNBOUNDED STEPS 0 OBJECTIVE 0 CHECKED\n    1 COST     0 -1\n    2 X        0 1\nEND 2\n"
unfolding whole row fraction gcd digits
unbounded = refl

crossed : listing
    (Converted (record { name = codes "T"; rows = 1; columns = 1; entries = 1 }) ∷
    SetUp (codes "T") Min ∷
    Solved Primal (CrossedAt 2) Checked ∷ [])
    (Ended 1)
    ≡ codes "CONVERT T        ROWS 1 COLUMNS 1 ENTRIES 1\nSETUP   T        MIN\nPRIMAL INFEASIBLE STEPS 0 CROSSED 2 CHECKED\nEND 1\n"
unfolding whole row fraction gcd digits
crossed = refl

paraobj_two_intervals : report_text (Parametric Paraobj (record {
  from = fraction (pos 0) 1;
  change = codes "CHG";
  intervals =
      record {
        from = fraction (pos 0) 1;
        to = fraction (pos 1) 1;
        lines =
            (row 1 "COST"
            (Code Basic ∷ Number (fraction (negsuc 7) 1) ∷ Number (fraction (pos 0) 1) ∷ Number (fraction (pos 0) 1) ∷ Number (fraction (pos 0) 1) ∷ []) ∷
            row 2 "CHG" (Code Basic ∷ Number (fraction (pos 0) 1) ∷ Number (fraction (pos 0) 1) ∷ Number (fraction (pos 0) 1) ∷ Number
            (fraction (pos 0) 1) ∷ []) ∷
            row 3 "LIM" (Code Upper ∷ Number (fraction (pos 4) 1) ∷ Number (fraction (pos 0) 1) ∷ Number (fraction (negsuc 1) 1) ∷ Number
            (fraction (pos 0) 1) ∷ []) ∷
            row 4 "X" (Code Lower ∷ Number (fraction (pos 0) 1) ∷ Number (fraction (pos 0) 1) ∷ Number (fraction (pos 1) 1) ∷ Number
            (fraction (negsuc 0) 1) ∷ []) ∷
            row 5 "Y" (Code Basic ∷ Number (fraction (pos 4) 1) ∷ Number (fraction (pos 0) 1) ∷ Number (fraction (pos 0) 1) ∷ Number
            (fraction (pos 0) 1) ∷ []) ∷ []);
      } ∷
      record {
        from = fraction (pos 1) 1;
        to = fraction (pos 5) 1;
        lines =
            (row 1 "COST"
            (Code Basic ∷ Number (fraction (negsuc 4) 1) ∷ Number (fraction (pos 0) 1) ∷ Number (fraction (pos 0) 1) ∷ Number (fraction (pos 0) 1) ∷ []) ∷
            row 2 "CHG" (Code Basic ∷ Number (fraction (negsuc 2) 1) ∷ Number (fraction (pos 0) 1) ∷ Number (fraction (pos 0) 1) ∷ Number
            (fraction (pos 0) 1) ∷ []) ∷
            row 3 "LIM" (Code Upper ∷ Number (fraction (pos 4) 1) ∷ Number (fraction (pos 0) 1) ∷ Number (fraction (negsuc 1) 1) ∷ Number
            (fraction (pos 0) 1) ∷ []) ∷
            row 4 "X" (Code Upper ∷ Number (fraction (pos 3) 1) ∷ Number (fraction (pos 0) 1) ∷ Number (fraction (pos 1) 1) ∷ Number
            (fraction (negsuc 0) 1) ∷ []) ∷
            row 5 "Y" (Code Basic ∷ Number (fraction (pos 1) 1) ∷ Number (fraction (pos 0) 1) ∷ Number (fraction (pos 0) 1) ∷ Number
            (fraction (pos 0) 1) ∷ []) ∷ []);
      } ∷ [];
  end = EndsAt (fraction (pos 5) 1);
}))
    ≡ codes "PARAOBJ FROM 0 CHANGE CHG\nINTERVAL 1 FROM 0 TO 1\n    1 COST     BS -8 0 0 0\n    2 CHG      BS 0 0 0 0\n    3 LIM      UL 4 0 -2 0\n    4 X        LL 0 0 1 -1\n    5 Y        BS 4 0 0 0\nINTERVAL 2 FROM 1 TO 5\n    1 COST     BS -5 0 0 0\n    2 CHG      BS -3 0 0 0\n    3 LIM      UL 4 0 -2 0\n    4 X        UL 3 0 1 -1\n    5 Y        BS 1 0 0 0\nPARAOBJ ENDS AT 5\n"
unfolding whole row fraction gcd digits
paraobj_two_intervals = refl

pararhs_infeasible_past : report_text (Parametric Pararhs (record {
  from = fraction (pos 0) 1;
  change = codes "C";
  intervals =
      record {
        from = fraction (pos 0) 1;
        to = fraction (pos 2) 1;
        lines =
            (row 1 "COST"
            (Code Basic ∷ Number (fraction (pos 1) 1) ∷ Number (fraction (pos 1) 1) ∷ Number (fraction (pos 0) 1) ∷ Number (fraction (pos 0) 1) ∷ []) ∷
            row 2 "LOW" (Code Lower ∷ Number (fraction (pos 1) 1) ∷ Number (fraction (pos 1) 1) ∷ Number (fraction (pos 1) 1) ∷ Number
            (fraction (pos 0) 1) ∷ []) ∷
            row 3 "X" (Code Basic ∷ Number (fraction (pos 1) 1) ∷ Number (fraction (pos 1) 1) ∷ Number (fraction (pos 0) 1) ∷ Number
            (fraction (pos 0) 1) ∷ []) ∷ []);
      } ∷ [];
  end = InfeasiblePast (fraction (pos 2) 1) (row 2 "LOW" (Number (fraction (negsuc 0) 1) ∷ []) ∷
      row 3 "X" (Number (fraction (pos 1) 1) ∷ []) ∷ []);
}))
    ≡ codes "PARARHS FROM 0 CHANGE C\nINTERVAL 1 FROM 0 TO 2\n    1 COST     BS 1 1 0 0\n    2 LOW      LL 1 1 1 0\n    3 X        BS 1 1 0 0\nPARARHS INFEASIBLE PAST 2\n    2 LOW      -1\n    3 X        1\n"
unfolding whole row fraction gcd digits
pararhs_infeasible_past = refl

paraobj_unbounded_past : report_text (Parametric Paraobj (record {
  from = fraction (pos 0) 1;
  change = codes "CHG";
  intervals =
      record {
        from = fraction (pos 0) 1;
        to = fraction (pos 1) 1;
        lines =
            (row 1 "COST"
            (Code Basic ∷ Number (fraction (pos 0) 1) ∷ Number (fraction (pos 0) 1) ∷ Number (fraction (pos 0) 1) ∷ Number (fraction (pos 0) 1) ∷ []) ∷
            row 2 "CHG" (Code Basic ∷ Number (fraction (pos 0) 1) ∷ Number (fraction (pos 0) 1) ∷ Number (fraction (pos 0) 1) ∷ Number
            (fraction (pos 0) 1) ∷ []) ∷
            row 3 "X" (Code Lower ∷ Number (fraction (pos 0) 1) ∷ Number (fraction (pos 0) 1) ∷ Number (fraction (pos 1) 1) ∷ Number
            (fraction (negsuc 0) 1) ∷ []) ∷ []);
      } ∷ [];
  end = UnboundedPast (fraction (pos 1) 1) (row 1 "COST" (Number (fraction (pos 0) 1) ∷ Number (fraction (pos 1) 1) ∷ []) ∷
      row 2 "CHG" (Number (fraction (pos 0) 1) ∷ Number (fraction (negsuc 0) 1) ∷ []) ∷
      row 3 "X" (Number (fraction (pos 0) 1) ∷ Number (fraction (pos 1) 1) ∷ []) ∷ []);
}))
    ≡ codes "PARAOBJ FROM 0 CHANGE CHG\nINTERVAL 1 FROM 0 TO 1\n    1 COST     BS 0 0 0 0\n    2 CHG      BS 0 0 0 0\n    3 X        LL 0 0 1 -1\nPARAOBJ UNBOUNDED PAST 1\n    1 COST     0 1\n    2 CHG      0 -1\n    3 X        0 1\n"
unfolding whole row fraction gcd digits
paraobj_unbounded_past = refl

range_testprob : report_text (Ranges (record {
  rows_at_limit = (row 3 "LIM2" (Code Lower ∷ Number (fraction (pos 10) 1) ∷ Number (fraction (pos 6) 1) ∷ Number (fraction (pos 10) 1) ∷ []) ∷
      row 4 "MYEQN" (Code Equal ∷ Number (fraction (pos 7) 1) ∷ Number (fraction (pos 7) 1) ∷ Number (fraction (pos 11) 1) ∷ []) ∷ []);
  columns_at_limit =
      (row 6 "YTWO"
      (Code Lower ∷ Number (fraction (negsuc 0) 1) ∷ Number (fraction (negsuc 0) 1) ∷ Number (fraction (pos 1) 1) ∷ Number (fraction (pos 4) 1) ∷ Number
      (fraction (negsuc 7) 1) ∷ Absent ∷ []) ∷ []);
  rows_between = (row 2 "LIM1" (Code Basic ∷ Number (fraction (pos 3) 1) ∷ Number (fraction (negsuc 0) 1) ∷ Absent ∷ []) ∷ []);
  columns_between =
      (row 5 "XONE" (Code Basic ∷ Number (fraction (pos 4) 1) ∷ Number (fraction (pos 1) 1) ∷ Number (fraction (pos 0) 1) ∷ Number (fraction (pos 13) 1) ∷ []) ∷
      row 7 "ZTHREE" (Code Basic ∷ Number (fraction (pos 6) 1) ∷ Number (fraction (pos 9) 1) ∷ Number (fraction (negsuc 2) 1) ∷ Absent ∷ []) ∷ []);
}))
    ≡ codes "RANGE\nSECTION 1 - ROWS AT LIMIT LEVEL\n    3 LIM2     LL 10 6 10\n    4 MYEQN    EQ 7 7 11\nSECTION 2 - COLUMNS AT LIMIT LEVEL\n    6 YTWO     LL -1 -1 1 4 -8 NONE\nSECTION 3 - ROWS AT INTERMEDIATE LEVEL\n    2 LIM1     BS 3 -1 NONE\nSECTION 4 - COLUMNS AT INTERMEDIATE LEVEL\n    5 XONE     BS 4 1 0 13\n    7 ZTHREE   BS 6 9 -3 NONE\n"
unfolding whole row fraction gcd digits
range_testprob = refl

range_two : report_text (Ranges (record {
  rows_at_limit = (row 3 "LIM" (Code Upper ∷ Number (fraction (pos 4) 1) ∷ Number (fraction (pos 0) 1) ∷ Absent ∷ []) ∷ []);
  columns_at_limit =
      (row 4 "X" (Code Lower ∷ Number (fraction (pos 0) 1) ∷ Absent ∷ Number (fraction (pos 3) 1) ∷ Number (fraction (negsuc 0) 1) ∷ Number
      (fraction (negsuc 1) 1) ∷ Absent ∷ []) ∷ []);
  rows_between = (row 2 "CHG" (Code Basic ∷ Number (fraction (pos 0) 1) ∷ Absent ∷ Number (fraction (pos 1) 1) ∷ []) ∷ []);
  columns_between = (row 5 "Y" (Code Basic ∷ Number (fraction (pos 4) 1) ∷ Number (fraction (negsuc 1) 1) ∷ Absent ∷ Number (fraction (negsuc 0) 1) ∷ []) ∷ []);
}))
    ≡ codes "RANGE\nSECTION 1 - ROWS AT LIMIT LEVEL\n    3 LIM      UL 4 0 NONE\nSECTION 2 - COLUMNS AT LIMIT LEVEL\n    4 X        LL 0 NONE 3 -1 -2 NONE\nSECTION 3 - ROWS AT INTERMEDIATE LEVEL\n    2 CHG      BS 0 NONE 1\nSECTION 4 - COLUMNS AT INTERMEDIATE LEVEL\n    5 Y        BS 4 -2 NONE -1\n"
unfolding whole row fraction gcd digits
range_two = refl

-- the shorter reports; a title may be empty, and so may a name
short_reports : reports_text
    (Titled (codes "FIRST RUN") ∷ Titled [] ∷
    Revised (record { name = codes "NEW"; rows = 2; columns = 1; entries = 2 }) ∷
    SetUp [] Min ∷ SetUp (codes "TESTPROB") Max ∷ BcdOut (codes "ONE") 10 ∷ [])
    ≡ codes "TITLE FIRST RUN\nTITLE \nREVISE  NEW      ROWS 2 COLUMNS 1 ENTRIES 2\nSETUP            MIN\nSETUP   TESTPROB MAX\nBCDOUT  ONE      CARDS 10\n"
unfolding digits
short_reports = refl

-- a parametric opening that isn't optimal, and checks that couldn't be made
openings : reports_text
    (Solved Paraobj (UnboundedBy 0 (whole (pos 0)) (row 1 "COST" (Number (whole (pos 0)) ∷ Number (whole (negsuc 0)) ∷ []) ∷ [])) Checked ∷
    Solved Pararhs (InfeasibleBy 0 []) (Unchecked (record { op = Mul; left = fraction (negsuc 0) 3; right = whole (pos 5) })) ∷
    Solved Primal (OptimalAt 6 (fraction (negsuc 0) 20)) (Unchecked (record { op = Add; left = whole (pos 1); right = fraction (pos 1) 2 })) ∷ [])
    ≡ codes "PARAOBJ UNBOUNDED STEPS 0 OBJECTIVE 0 CHECKED\n    1 COST     0 -1\nPARARHS INFEASIBLE STEPS 0 RAY UNCHECKED MUL -1/3 5\nPRIMAL OPTIMAL STEPS 6 OBJECTIVE -1/20 UNCHECKED ADD 1 1/2\n"
unfolding whole row fraction gcd digits
openings = refl

marks : reports_text (Solution Infeasible (record { rows = []; columns = [] }) ∷ Solution Unbounded (record { rows = []; columns = [] }) ∷ [])
    ≡ codes "SOLUTION INFEASIBLE\nSECTION 1 - ROWS\nNUMBER ROW AT ACTIVITY SLACK LOWER UPPER DUAL\nSECTION 2 - COLUMNS\nNUMBER COLUMN AT ACTIVITY COST LOWER UPPER REDUCED\nSOLUTION UNBOUNDED\nSECTION 1 - ROWS\nNUMBER ROW AT ACTIVITY SLACK LOWER UPPER DUAL\nSECTION 2 - COLUMNS\nNUMBER COLUMN AT ACTIVITY COST LOWER UPPER REDUCED\n"
marks = refl

-- a free column at an intermediate level has no limit to be ranged; a basic may stand outside its limits; numbers may fill their places
table_lines : line_text (row 6 "Z" (Code Free ∷ Number (whole (pos 0)) ∷ Dash ∷ Dash ∷ Absent ∷ [])) ++ line_text
    (row 60000 "LONGNAME" (Code Outside ∷ Number (fraction (negsuc 2) 100) ∷ []))
    ≡ codes "    6 Z        FR 0 - - NONE\n60000 LONGNAME ** -3/100\n"
unfolding whole row fraction gcd digits
table_lines = refl

-- a number of 73 digits, and a fraction of 73 digits by 73, are printed whole
long_objective : report_text (Solved Primal (OptimalAt 3 (whole (pos 1234567890123456789012345678901234567890123456789012345678901234567890123))) Checked)
    ≡ codes "PRIMAL OPTIMAL STEPS 3 OBJECTIVE 1234567890123456789012345678901234567890123456789012345678901234567890123 CHECKED\n"
unfolding whole fraction gcd digits
long_objective = refl

long_fraction : line_text
    (row 1 "COST"
    (Number (fraction
    (negsuc 1234567890123456789012345678901234567890123456789012345678901234567890122)
    1000000000000000000000000000000000000000000000000000000000000000000000001) ∷ []))
    ≡ codes "    1 COST     -1234567890123456789012345678901234567890123456789012345678901234567890123/1000000000000000000000000000000000000000000000000000000000000000000000001\n"
unfolding row fraction gcd digits
long_fraction = refl
