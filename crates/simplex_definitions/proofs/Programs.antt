-- The linear programs of the worked examples.
use Rattle.std.proofs.Common.{ℕ, [], ◌∷◌, pos, negsuc, List}
use Rattle.std.specs.Prelude.{Some, None, Option, neg_ℤ}
use Rattle.exact_values.specs.Rational.{ℚ, fraction, whole, zero_ℚ}
use Rattle.lp_definitions.specs.LinearProgram.{LinearProgram}
use Rattle.lp_definitions.specs.declared.Entry.{Entry}
use Rattle.lp_definitions.specs.declared.Sense.TheVariants.{Min, Max}

abbrev pub plus : ℕ → ℚ
plus n = whole (pos n)

abbrev pub minus : ℕ → ℚ
minus n = whole (neg_ℤ (pos n))

abbrev pub on : ℕ → ℚ → Entry
on i v = record { row = i; value = v }

-- the least 1x + 4y + 9z under three rows and four bounds
abbrev pub testprob : LinearProgram
testprob = record {
  matrix = record {
    rows = 4;
    cols = 3;
    columns =
        (on 1 (plus 1) ∷ on 2 (plus 1) ∷ on 3 (plus 1) ∷ [])
        ∷ (on 1 (plus 4) ∷ on 2 (plus 1) ∷ on 4 (minus 1) ∷ [])
        ∷ (on 1 (plus 9) ∷ on 3 (plus 1) ∷ on 4 (plus 1) ∷ [])
        ∷ [];
  };
  lower = None ∷ None ∷ Some (plus 10) ∷ Some (plus 7) ∷ Some zero_ℚ ∷ Some (minus 1) ∷ Some zero_ℚ ∷ [];
  upper = None ∷ Some (plus 5) ∷ None ∷ Some (plus 7) ∷ Some (plus 4) ∷ Some (plus 1) ∷ None ∷ [];
  rhs = zero_ℚ ∷ plus 5 ∷ plus 10 ∷ plus 7 ∷ [];
  objective = 1;
  change = None;
  sense = Min;
}

-- Beale's example, in which the greatest gain goes in a circle
abbrev pub beale : LinearProgram
beale = record {
  matrix = record {
    rows = 4;
    cols = 4;
    columns =
        (on 1 (fraction (negsuc 2) 4) ∷ on 2 (fraction (pos 1) 4) ∷ on 3 (fraction (pos 1) 2) ∷ [])
        ∷ (on 1 (plus 150) ∷ on 2 (minus 60) ∷ on 3 (minus 90) ∷ [])
        ∷ (on 1 (fraction (negsuc 0) 50) ∷ on 2 (fraction (negsuc 0) 25) ∷ on 3 (fraction (negsuc 0) 50) ∷ on 4 (plus 1) ∷ [])
        ∷ (on 1 (plus 6) ∷ on 2 (plus 9) ∷ on 3 (plus 3) ∷ [])
        ∷ [];
  };
  lower = None ∷ None ∷ None ∷ None ∷ Some zero_ℚ ∷ Some zero_ℚ ∷ Some zero_ℚ ∷ Some zero_ℚ ∷ [];
  upper = None ∷ Some zero_ℚ ∷ Some zero_ℚ ∷ Some (plus 1) ∷ None ∷ None ∷ None ∷ None ∷ [];
  rhs = zero_ℚ ∷ zero_ℚ ∷ zero_ℚ ∷ plus 1 ∷ [];
  objective = 1;
  change = None;
  sense = Min;
}

-- an objective row alone
abbrev pub bare : LinearProgram
bare = record {
  matrix = record { rows = 1; cols = 0; columns = [] };
  lower = None ∷ [];
  upper = None ∷ [];
  rhs = zero_ℚ ∷ [];
  objective = 1;
  change = None;
  sense = Min;
}

-- the least x, which is at least 0 and at most -1
abbrev pub crossing : LinearProgram
crossing = record {
  matrix = record { rows = 1; cols = 1; columns = (on 1 (plus 1) ∷ []) ∷ [] };
  lower = None ∷ Some zero_ℚ ∷ [];
  upper = None ∷ Some (minus 1) ∷ [];
  rhs = zero_ℚ ∷ [];
  objective = 1;
  change = None;
  sense = Min;
}

-- the least x, which is at least 3 by one row and at most 2 by another
abbrev pub torn : LinearProgram
torn = record {
  matrix = record { rows = 3; cols = 1; columns = (on 1 (plus 1) ∷ on 2 (plus 1) ∷ on 3 (plus 1) ∷ []) ∷ [] };
  lower = None ∷ Some (plus 3) ∷ None ∷ Some zero_ℚ ∷ [];
  upper = None ∷ None ∷ Some (plus 2) ∷ None ∷ [];
  rhs = zero_ℚ ∷ plus 3 ∷ plus 2 ∷ [];
  objective = 1;
  change = None;
  sense = Min;
}

-- the least -x
abbrev pub unbounded_end : LinearProgram
unbounded_end = record {
  matrix = record { rows = 1; cols = 1; columns = (on 1 (minus 1) ∷ []) ∷ [] };
  lower = None ∷ Some zero_ℚ ∷ [];
  upper = None ∷ None ∷ [];
  rhs = zero_ℚ ∷ [];
  objective = 1;
  change = None;
  sense = Min;
}

-- the least x on an equality to 5 with the range -3: from 2 to 5
abbrev pub band : LinearProgram
band = record {
  matrix = record { rows = 2; cols = 1; columns = (on 1 (plus 1) ∷ on 2 (plus 1) ∷ []) ∷ [] };
  lower = None ∷ Some (plus 2) ∷ Some zero_ℚ ∷ [];
  upper = None ∷ Some (plus 5) ∷ None ∷ [];
  rhs = zero_ℚ ∷ plus 5 ∷ [];
  objective = 1;
  change = None;
  sense = Min;
}

-- the least -x - 2y, where x + y is at most 4, and x is at most 3 or so; row 2 is -x
abbrev pub two_with : ℕ → LinearProgram
two_with most = record {
  matrix = record { rows = 3; cols = 2; columns = (on 1 (minus 1) ∷ on 2 (minus 1) ∷ on 3 (plus 1) ∷ []) ∷ (on 1 (minus 2) ∷ on 3 (plus 1) ∷ []) ∷ [] };
  lower = None ∷ None ∷ None ∷ Some zero_ℚ ∷ Some zero_ℚ ∷ [];
  upper = None ∷ None ∷ Some (plus 4) ∷ Some (plus most) ∷ None ∷ [];
  rhs = zero_ℚ ∷ zero_ℚ ∷ plus 4 ∷ [];
  objective = 1;
  change = None;
  sense = Min;
}

abbrev pub two : LinearProgram
two = two_with 3

-- the least x, which is at least b by a row and, if there is one, at most that
abbrev pub one_with : ℕ → Option ℚ → LinearProgram
one_with b most = record {
  matrix = record { rows = 2; cols = 1; columns = (on 1 (plus 1) ∷ on 2 (plus 1) ∷ []) ∷ [] };
  lower = None ∷ Some (plus b) ∷ Some zero_ℚ ∷ [];
  upper = None ∷ None ∷ most ∷ [];
  rhs = zero_ℚ ∷ plus b ∷ [];
  objective = 1;
  change = None;
  sense = Min;
}

-- the greatest 3x, where x is at most 4
abbrev pub greatest : LinearProgram
greatest = record {
  matrix = record { rows = 2; cols = 1; columns = (on 1 (plus 3) ∷ on 2 (plus 1) ∷ []) ∷ [] };
  lower = None ∷ None ∷ Some zero_ℚ ∷ [];
  upper = None ∷ Some (plus 4) ∷ None ∷ [];
  rhs = zero_ℚ ∷ plus 4 ∷ [];
  objective = 1;
  change = None;
  sense = Max;
}

-- two sources of 10, two destinations of 10, and the costs 19, 11, 7 and 18 of the four ways between them
abbrev pub way : ℕ → ℕ → ℕ → List Entry
way cost source destination = on 1 (plus cost) ∷ on source (plus 1) ∷ on destination (plus 1) ∷ []

abbrev pub transport : LinearProgram
transport = record {
  matrix = record { rows = 5; cols = 4; columns = way 19 2 4 ∷ way 11 2 5 ∷ way 7 3 4 ∷ way 18 3 5 ∷ [] };
  lower = None ∷ None ∷ None ∷ Some (plus 10) ∷ Some (plus 10) ∷ Some zero_ℚ ∷ Some zero_ℚ ∷ Some zero_ℚ ∷ Some zero_ℚ ∷ [];
  upper = None ∷ Some (plus 10) ∷ Some (plus 10) ∷ None ∷ None ∷ None ∷ None ∷ None ∷ None ∷ [];
  rhs = zero_ℚ ∷ plus 10 ∷ plus 10 ∷ plus 10 ∷ plus 10 ∷ [];
  objective = 1;
  change = None;
  sense = Min;
}

-- the least x + y, where x has no limits, y is at least 0, x - y is at least -2 and x at least -5 by a row
abbrev pub freed : LinearProgram
freed = record {
  matrix = record { rows = 3; cols = 2; columns = (on 1 (plus 1) ∷ on 2 (plus 1) ∷ on 3 (plus 1) ∷ []) ∷ (on 1 (plus 1) ∷ on 2 (minus 1) ∷ []) ∷ [] };
  lower = None ∷ Some (minus 2) ∷ Some (minus 5) ∷ None ∷ Some zero_ℚ ∷ [];
  upper = None ∷ None ∷ None ∷ None ∷ None ∷ [];
  rhs = zero_ℚ ∷ minus 2 ∷ minus 5 ∷ [];
  objective = 1;
  change = None;
  sense = Min;
}

-- the least x without limits
abbrev pub sinking : LinearProgram
sinking = record {
  matrix = record { rows = 1; cols = 1; columns = (on 1 (plus 1) ∷ []) ∷ [] };
  lower = None ∷ None ∷ [];
  upper = None ∷ None ∷ [];
  rhs = zero_ℚ ∷ [];
  objective = 1;
  change = None;
  sense = Min;
}

-- the greatest x, which is at most 5, and at most 2 by a row
abbrev pub capped : LinearProgram
capped = record {
  matrix = record { rows = 2; cols = 1; columns = (on 1 (plus 1) ∷ on 2 (plus 1) ∷ []) ∷ [] };
  lower = None ∷ None ∷ None ∷ [];
  upper = None ∷ Some (plus 2) ∷ Some (plus 5) ∷ [];
  rhs = zero_ℚ ∷ plus 2 ∷ [];
  objective = 1;
  change = None;
  sense = Max;
}

-- the least x, and a second row -x that takes the cost away where it is added to the objective
abbrev pub falling : LinearProgram
falling = record {
  matrix = record { rows = 2; cols = 1; columns = (on 1 (plus 1) ∷ on 2 (minus 1) ∷ []) ∷ [] };
  lower = None ∷ None ∷ Some zero_ℚ ∷ [];
  upper = None ∷ None ∷ None ∷ [];
  rhs = zero_ℚ ∷ zero_ℚ ∷ [];
  objective = 1;
  change = None;
  sense = Min;
}

-- the least x + 2y, where x + y is at least 1 and x at most 3
abbrev pub pair : LinearProgram
pair = record {
  matrix = record { rows = 2; cols = 2; columns = (on 1 (plus 1) ∷ on 2 (plus 1) ∷ []) ∷ (on 1 (plus 2) ∷ on 2 (plus 1) ∷ []) ∷ [] };
  lower = None ∷ Some (plus 1) ∷ Some zero_ℚ ∷ Some zero_ℚ ∷ [];
  upper = None ∷ None ∷ Some (plus 3) ∷ None ∷ [];
  rhs = zero_ℚ ∷ plus 1 ∷ [];
  objective = 1;
  change = None;
  sense = Min;
}
