-- Worked walks: a title and the end; a line of a name with blanks; and PRIMAL with SOLUTION, on one row and one column.
use Rattle.std.specs.Prelude.{◌≡◌, refl, ℕ, ◌++◌, pos, List, [], ◌∷◌, codes, Some, None}
use Rattle.exact_values.specs.Gcd.{gcd}
use Rattle.exact_values.specs.Rational.{whole, fraction, neg_ℚ, ◌+ℚ◌, ◌*ℚ◌, compare_ℚ}
use Rattle.frac128.specs.declared.Op.TheVariants.{Mul}
use Rattle.frac128.specs.Operations.{refuses, shared_factor, raised_numerator, raised_sum, sum_denominator}
use Rattle.lp_definitions.specs.declared.Sense.TheVariants.{Min}
use Rattle.lp_definitions.specs.declared.Status.TheVariants.{Bs, Ll}
use Rattle.problem_definitions.specs.declared.RowKind.TheVariants.{N}
use Rattle.problem_definitions.specs.Problem.{Problem, plain_row}
use Rattle.control_definitions.specs.Program.{Program, Title, Primal, Solution}
use Rattle.selection_definitions.specs.Choice.{selection_fault}
use Rattle.selection_definitions.specs.Selection.{selected}
use Rattle.listing_definitions.specs.Numbers.{digits}
use Rattle.listing_definitions.specs.declared.Mark.TheVariants.{Optimal}
use Rattle.listing_definitions.specs.Report.{Checked, Unchecked}
use Rattle.run_definitions.specs.State.{State, start}
use Rattle.run_definitions.specs.Verbs.{verb_move}
use Rattle.walk_definitions.specs.Checkers.{checker_of_128_bits, checker_of_any_length}
use Rattle.walk_definitions.specs.Words.{fraction_in, count_in}
use Rattle.walk_definitions.specs.Forms.{is_open_stop}
use Rattle.walk_definitions.specs.Walker.{Walker, Walks, Finds, Attested, Wrong, Open, turn}
use Rattle.selection_definitions.specs.Making.{is_made}
use Rattle.walk_definitions.specs.Found.{first_walker, answer_text}

-- ---- a title and the end

program : Program
program = record { statements = record { card = 2; verb = Title (codes "A B") } ∷ []; decks_from = 4 }

listing : List ℕ
listing = codes "TITLE A B\nEND 0\n"

after_title : Walker
after_title = record {
  state = record (start []) { position = 2; executed = 1 };
  pending = None;
  rest = codes "END 0\n";
  reports = 1;
}

first : turn checker_of_128_bits program (first_walker [] listing) ≡ Walks after_title
unfolding turn program listing after_title verb_move is_open_stop
first = refl

second : turn checker_of_128_bits program after_title ≡ Finds (Attested 1)
unfolding turn program after_title is_open_stop digits
second = refl

other_title : turn checker_of_128_bits program (first_walker [] (codes "TITLE A C\nEND 0\n")) ≡ Finds (Wrong (codes "TITLE A C\nEND 0\n"))
unfolding turn program verb_move is_open_stop
other_title = refl

stopped : turn checker_of_128_bits program (first_walker [] (codes "STOP 28 MEMORY\n")) ≡ Finds (Open (codes "STOP 28 MEMORY\n"))
unfolding turn program verb_move is_open_stop
stopped = refl

line_three : answer_text (codes "A\nB\nC\n") (Some (Wrong (codes "C\n"))) ≡ codes "WRONG LINE 3\n"
unfolding digits
line_three = refl

-- ---- PRIMAL and SOLUTION

-- COST is X, which is at least 0
problem : Problem ℕ
problem = record {
  name = codes "MIX";
  rows = plain_row N (codes "COST") ∷ [];
  columns = record { name = codes " X"; items = record { row = 1; value = record { text = codes "1"; value = whole (pos 1) } } ∷ [] } ∷ [];
  rhs = [];
  ranges = [];
  bounds = [];
}

solving : Program
solving = record { statements = record { card = 5; verb = Primal } ∷ record { card = 6; verb = Solution } ∷ []; decks_from = 8 }

ready : State
ready = record (start []) {
  setup = Some (record { problem = problem; options = record { bound = None; range = None; sense = Min }; opening = Bs ∷ Ll ∷ []; steps = [] });
}

verdict : List ℕ
verdict = codes "PRIMAL OPTIMAL STEPS 7 OBJECTIVE 0 CHECKED\n"

viewed : List ℕ
viewed =
    codes "SOLUTION OPTIMAL\nSECTION 1 - ROWS\nNUMBER ROW AT ACTIVITY SLACK LOWER UPPER DUAL\n"
    ++ (codes "    1 COST     BS 0 0 NONE NONE 0\n"
    ++ (codes "SECTION 2 - COLUMNS\nNUMBER COLUMN AT ACTIVITY COST LOWER UPPER REDUCED\n"
    ++ codes "    2  X       LL 0 1 0 NONE 1\n"))

solved : Walker
solved = record {
  state = record ready { position = 2; executed = 1; mark = Some Optimal };
  pending = Some (record { rest = verdict ++ (viewed ++ codes "END 0\n"); objective = fraction (pos 0) 1; check = Checked });
  rest = viewed ++ codes "END 0\n";
  reports = 1;
}

proved : Walker
proved = record {
  state = record ready { position = 3; executed = 2; mark = Some Optimal };
  pending = None;
  rest = codes "END 0\n";
  reports = 2;
}

solves : turn checker_of_128_bits solving (record { state = ready; pending = None; rest = verdict ++ (viewed ++ codes "END 0\n"); reports = 0 }) ≡ Walks solved
unfolding turn solving ready problem verdict viewed solved verb_move is_open_stop selected selection_fault is_made fraction_in count_in digits fraction gcd
    whole
solves = refl

shows : turn checker_of_128_bits solving solved ≡ Walks proved
unfolding turn solving ready problem verdict viewed solved proved verb_move is_open_stop selected selection_fault is_made fraction_in count_in digits fraction
    gcd whole refuses shared_factor raised_numerator raised_sum sum_denominator ◌+ℚ◌ ◌*ℚ◌ neg_ℚ compare_ℚ
shows = refl

ends : turn checker_of_128_bits solving proved ≡ Finds (Attested 2)
unfolding turn solving proved ready is_open_stop digits
ends = refl

-- where the verdict is printed with an operation that was too much for the run, the checker of any length goes on past SOLUTION
doubted : Walker
doubted = record solved {
  pending =
      Some (record { rest = verdict; objective = fraction (pos 0) 1; check = Unchecked (record { op = Mul; left = whole (pos 2); right = whole (pos 3) }) });
}

either_word : turn checker_of_any_length solving doubted ≡ Walks proved
unfolding turn solving ready problem verdict viewed doubted solved proved verb_move is_open_stop selected selection_fault is_made fraction_in count_in digits
    fraction gcd whole refuses shared_factor raised_numerator raised_sum sum_denominator ◌+ℚ◌ ◌*ℚ◌ neg_ℚ compare_ℚ
either_word = refl

one_word : turn checker_of_128_bits solving doubted ≡ Finds (Wrong verdict)
unfolding turn solving ready problem verdict viewed doubted solved proved verb_move is_open_stop selected selection_fault is_made fraction_in count_in digits
    fraction gcd whole refuses shared_factor raised_numerator raised_sum sum_denominator ◌+ℚ◌ ◌*ℚ◌ neg_ℚ compare_ℚ
one_word = refl

-- the end before SOLUTION leaves the verdict pending
unshown : turn checker_of_128_bits (record solving { statements = [] }) solved ≡ Finds (Open (verdict ++ (viewed ++ codes "END 0\n")))
unfolding turn solving solved ready is_open_stop viewed verdict
unshown = refl
