-- When the evidence of an overflow holds.
--     Formula, ShowsRefusal        the operands are those of the formula at a basis and a waypoint, and the operation refuses them
--     IsOfMove, GoesTo             the numbers that a formula of a move names are those of the move that is made
--     EvidenceHolds                e shows why the statement stops at the basis s, which the path has reached
--     ShiftHolds                   e shows why a limit at a value of the parameter could not be made, which needs no basis
use Rattle.std.specs.Prelude.{◌≡◌, ℕ, ◌≤◌, Bool, not, ◌||◌, List, [], ◌∷◌, ◌++◌, map, Option, Some, None, IsTrue, nat_eq, Contains}
use Rattle.exact_values.specs.Rational.{ℚ, zero_ℚ}
use Rattle.lp_definitions.specs.LinearProgram.{LinearProgram}
use Rattle.lp_definitions.specs.Basis.{Basics, basics_of, exchanged, Tableau, IsTableau, AreRates}
use Rattle.lp_definitions.specs.Waypoints.{IsWaypoint}
use Rattle.lp_definitions.specs.RatesEvidence.{ExchangeFormula, EntryFormula, CarriedFormula}
use Rattle.lp_definitions.specs.declared.Evidence.{Evidence}
use Rattle.lp_definitions.specs.declared.Status.{Status}
use Rattle.simplex_definitions.specs.Path.{Move, after}
use Rattle.simplex_definitions.specs.Formulas.{PointFormula, SlackFormula, MoveFormula, RatioFormula, RangeFormula, ObjectiveFormula, ShiftFormula}
use Rattle.simplex_definitions.specs.Formulas.{SlopeFormula}
use Rattle.simplex_definitions.specs.Statements.{SolvingStatement, Primal, Dual, Range, is_between, belongs, program_at, change_row, shift_at, thetas_of}
use Rattle.simplex_definitions.specs.Statements.{MovesAt, EntersAt, BringsAt}

-- the formula tells of an exchange at a waypoint
abbrev pub names_waypoint : ℕ → Bool
names_waypoint f = is_between 1 5 f || nat_eq f 12

-- a statement, the basis s with its tableau, the waypoint w with its rates, and the limits to which a step may go
module _ (statement : SolvingStatement) (Goes : Status → Type 0) (s : List Status) (t : Tableau) (w : Basics) (way_rate : ℕ → ℕ → ℚ) (e : Evidence) where
  -- the program at the value that the evidence names
  abbrev pub present : LinearProgram
  present = program_at statement e.theta

  pub data Formula : Type 0 where
    by_exchange : ExchangeFormula present.matrix w way_rate e → Formula
    by_entry : EntryFormula present.matrix (basics_of s) t.rate e → Formula
    by_carried : CarriedFormula present.matrix (basics_of s) t.rate w way_rate e → Formula
    by_point : PointFormula present s t e → Formula
    by_slack : SlackFormula present s t e → Formula
    by_move : (to : Status) → Goes to → MoveFormula present s t to e → Formula
    by_ratio : RatioFormula present s t e → Formula
    by_range : RangeFormula present s t e → Formula
    by_objective : ObjectiveFormula present s t (change_row statement) e → Formula
    by_slope : (u : Tableau) → IsTableau (program_at statement zero_ℚ) s u → SlopeFormula (program_at statement zero_ℚ) s u (shift_at statement) e → Formula

-- the operands are those of the formula at the basis s and the waypoint w, and the operation refuses them; a formula that tells
-- of an exchange at w leads to a waypoint too, and any other means the basis itself. Around are the bases that waypoints lie in.
pub record ShowsRefusal (statement : SolvingStatement) (Goes : Status → Type 0) (around : List Basics) (s : List Status) (w : Basics)
    (e : Evidence) : Type 0 where
  pub tableau : Tableau
  pub is_tableau : IsTableau (program_at statement e.theta) s tableau
  pub way_rate : ℕ → ℕ → ℚ
  pub are_way_rates : AreRates (program_at statement e.theta).matrix w way_rate
  pub formula : Formula statement Goes s tableau w way_rate e
  pub is_way : IsWaypoint (program_at statement e.theta).matrix around w
  pub reaches : IsTrue (names_waypoint e.formula) → IsWaypoint (program_at statement e.theta).matrix around (exchanged w e.p e.q)
  pub no_way : IsTrue (not (names_waypoint e.formula)) → (e.way ≡ 0) × (w ≡ basics_of s)

-- the move that is made has the numbers p and q of the evidence, and p goes to the limit of this status
pub record IsLeaver (statement : SolvingStatement) (breakpoint : Option ℚ) (s : List Status) (e : Evidence) (to : Status) : Type 0 where
  pub move : Move
  pub moves : MovesAt statement breakpoint s move
  pub enters : move.enters ≡ e.q
  pub leaves : move.leaves ≡ e.p
  pub goes_to : move.to ≡ to

-- a report of intervals may ask of any limit
abbrev pub GoesTo : SolvingStatement → Option ℚ → List Status → Evidence → Status → Type 0
GoesTo (Range p) breakpoint s e to = Unit {0}
GoesTo statement breakpoint s e to = IsLeaver statement breakpoint s e to

-- PRIMAL takes a step at s
abbrev pub TakesStep : SolvingStatement → Option ℚ → List Status → Type 0
TakesStep (Primal p) breakpoint s = (m : Move) × MovesAt (Primal p) breakpoint s m
TakesStep (Dual p) breakpoint s = (m : Move) × MovesAt (Dual p) breakpoint s m
TakesStep _ breakpoint s = Unit {0}

-- in formulas 7 to 9, q is what is moved at s; in 14, i is what is brought back, and j may bring it; and 6 belongs to a basis at
-- which PRIMAL takes a step
pub record IsOfMove (statement : SolvingStatement) (breakpoint : Option ℚ) (s : List Status) (e : Evidence) : Type 0 where
  pub enters : IsTrue (is_between 7 9 e.formula) → EntersAt statement breakpoint s e.q
  pub brings : IsTrue (nat_eq e.formula 14) → BringsAt statement breakpoint s e.i e.j
  pub steps : IsTrue (nat_eq e.formula 6) → TakesStep statement breakpoint s

-- the basis that a step in hand is to reach, where one is made and so many steps are left
abbrev pub IsAhead : SolvingStatement → Option ℚ → ℕ → List Status → Option (List Status) → Type 0
IsAhead statement breakpoint left s None = Unit {0}
IsAhead statement breakpoint left s (Some next) = (1 ≤ left) × ((m : Move) × MovesAt statement breakpoint s m × (next ≡ after s m))

abbrev pub with_ahead : List (List Status) → Option (List Status) → List (List Status)
with_ahead bases None = bases
with_ahead bases (Some next) = bases ++ next ∷ []

-- s is the last of the bases of the path in hand, which has so many steps left; waypoints lie in these bases and the one that
-- the step in hand is to reach; breakpoint is the value at which a parametric run takes face steps, if it is at one, and ends are the
-- ends of its intervals so far
pub record EvidenceHolds (statement : SolvingStatement) (breakpoint : Option ℚ) (left : ℕ) (bases : List (List Status)) (ends : List ℚ) (s : List Status)
    (w : Basics) (e : Evidence) : Type 0 where
  pub before : List (List Status)
  pub reached : bases ≡ before ++ s ∷ []
  pub ahead : Option (List Status)
  pub is_ahead : IsAhead statement breakpoint left s ahead
  pub shows : ShowsRefusal statement (GoesTo statement breakpoint s e) (map basics_of (with_ahead bases ahead)) s w e
  pub is_theta : Contains (thetas_of statement ends) e.theta
  pub of_move : IsOfMove statement breakpoint s e
  pub of_statement : IsTrue (belongs statement e)

pub record ShiftHolds (statement : SolvingStatement) (ends : List ℚ) (e : Evidence) : Type 0 where
  pub formula : ShiftFormula (program_at statement zero_ℚ) (shift_at statement) e
  pub no_way : e.way ≡ 0
  pub is_theta : Contains (thetas_of statement ends) e.theta
  pub of_statement : IsTrue (belongs statement e)
