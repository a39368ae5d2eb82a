-- What a call finds of one turn of the path.
--     IsUncrossed p                no variable is crossed
--     least_outside p s z          the least-numbered basic outside its limits
--     ray_from xs r below          the multipliers that show why r cannot come back, from the rates xs of r
--     IsRestoring p s r below xs q    q is what brings r back, if something does
--     entering_variable_by p s y   the variable that improves the objective, by the prices y, and whether it rises
--     IsEnteringVariableFound p s xs m    m is that variable at the basis s, if there is one
--     RuleEndsHere rule            the path by a rule ends at s, after so many steps; EndsHere: that of the simplex method
--     EvidenceAt                   the evidence of a turn at s, whatever path led there
--     TurnFound result             the path ends at s, or moves a variable, or the call stops
use Rattle.std.specs.Prelude.{◌≡◌, ◌≢◌, ℕ, Bool, not, ◌≤◌, ◌&&◌, List, [], ◌∷◌, ◌++◌, length, Option, Some, None, option_map, Result, Ok, Err, nat_eq}
use Rattle.std.specs.Prelude.{if◌then◌else◌}
use Rattle.exact_values.specs.Rational.{ℚ, zero_ℚ, one_ℚ, neg_ℚ}
use Rattle.lp_definitions.specs.LinearProgram.{LinearProgram, Vector, size, value_at, IsVariable}
use Rattle.lp_definitions.specs.Basis.{Basics, basics_of, is_in, IsNonbasic, IsDirectionOf, IsPointOf, ArePricesOf}
use Rattle.lp_definitions.specs.Waypoints.{waypoint}
use Rattle.lp_definitions.specs.declared.Evidence.{Evidence}
use Rattle.lp_definitions.specs.declared.Status.{Status}
use Rattle.lp_model.specs.RatesState.{RatesState}
use Rattle.lp_model.specs.RatesCalls.{IsRowOf}
use Rattle.lp_model.specs.declared.reports.Outcome.{Outcome}
use Rattle.lp_model.specs.declared.reports.Outcome.TheVariants.{Unbounded}
use Rattle.simplex_definitions.specs.Moves.{least, is_crossed, is_outside, signed, goes_up, entering}
use Rattle.simplex_definitions.specs.Path.{PathEnding, Rule, turn, RuleEnd, IsStep}
use Rattle.simplex_definitions.specs.Statements.{PathMoves, PathEnters}
use Rattle.simplex_definitions.specs.Evidence.{EvidenceHolds}
use Rattle.basis_values.specs.Calls.{LieIn, job_of, PointRefused}
use Rattle.bounded_primal.specs.Calls.{outcome_of}
use Rattle.basis_values.specs.Motions.{motion}
use Rattle.basis_values.specs.Prices.{worth_by}
use Rattle.bounded_primal.specs.Moves.{StepsFromPoint, move_by, BlockingVariableRefused}
use Rattle.bounded_primal.specs.Steps.{ReturnRefused}
use Rattle.bounded_primal.specs.declared.moves.PrimalStop.{PrimalStop}
use Rattle.bounded_primal.specs.declared.moves.PrimalStop.TheVariants.{Limit, Overflow, NoMemory}
use Rattle.bounded_primal.specs.declared.moves.BlockingVariable.{BlockingVariable}
use Rattle.bounded_primal.specs.declared.turns.EnteringVariable.{EnteringVariable}
use Rattle.bounded_primal.specs.declared.turns.Turn.{Turn}
use Rattle.bounded_primal.specs.declared.turns.Turn.TheVariants.{Ends, Moves}

abbrev pub IsUncrossed : LinearProgram → Type 0
IsUncrossed p = least p (is_crossed p) ≡ None

abbrev pub least_outside : LinearProgram → List Status → Vector → Option ℕ
least_outside p s z = least p (λ k. is_in (basics_of s) k && is_outside p z k)

abbrev pub ray_from : Vector → ℕ → Bool → Vector
ray_from xs r below k = signed below (if nat_eq k r then neg_ℚ one_ℚ else xs k)

abbrev pub moved_by : LinearProgram → Vector → ℕ → EnteringVariable
moved_by p y q = record { q = q; up = goes_up (worth_by p y) q }

abbrev pub entering_variable_by : LinearProgram → List Status → Vector → Option EnteringVariable
entering_variable_by p s y = option_map (moved_by p y) (entering p s (worth_by p y))

-- q lowers the excess of the basic r, and nothing before it does; where nothing does, xs has the rates of r
pub record IsRestoring (p : LinearProgram) (s : List Status) (r : ℕ) (below : Bool) (xs : Vector) (q : Option ℕ) : Type 0 where
  pub rates : Vector
  pub is_row : IsRowOf p.matrix (basics_of s) r rates
  pub enters : q ≡ entering p s (motion rates (not below))
  pub at_end : q ≡ None → (k : ℕ) → IsVariable p.matrix k → xs k ≡ rates k

-- it is that variable
pub record Improves (p : LinearProgram) (s : List Status) (m : EnteringVariable) : Type 0 where
  pub price : Vector
  pub prices : ArePricesOf p s price
  pub chosen : Some m ≡ entering_variable_by p s price

-- what improves the objective, if something does; where nothing does, xs are the prices
abbrev pub IsEnteringVariableFound : LinearProgram → List Status → Vector → Option EnteringVariable → Type 0
IsEnteringVariableFound p s xs None = ArePricesOf p s xs × (None ≡ entering_variable_by p s xs)
IsEnteringVariableFound p s xs (Some m) = Improves p s m

-- the outcome has the motion of what has the direction d
pub record IsUnboundedEnd (p : LinearProgram) (zs : List ℚ) (d : Vector) (up : Bool) (steps : ℕ) (outcome : Outcome) : Type 0 where
  pub ds : List ℚ
  pub is_outcome : outcome ≡ Unbounded steps zs ds
  pub counted : length ds ≡ size p.matrix
  pub speeds : (k : ℕ) → IsVariable p.matrix k → value_at ds k ≡ motion d up k

-- the direction of q is refused, or the way of r to the limit of the status to
pub data ReturnStops (p : LinearProgram) (s : List Status) (z : Vector) (q r : ℕ) (to : Status) (before after : List Basics) (e : Evidence) : Type 0 where
  by_column : PointRefused p before s after e → ReturnStops p s z q r to before after e
  by_return : (d : Vector) → IsDirectionOf p.matrix (basics_of s) q d → ReturnRefused p z d q r to e → ReturnStops p s z q r to before after e

-- the direction of q is refused, or what stops q
pub data RunStops (p : LinearProgram) (s : List Status) (z : Vector) (q : ℕ) (up : Bool) (before after : List Basics) (e : Evidence) : Type 0 where
  by_direction : PointRefused p before s after e → RunStops p s z q up before after e
  by_blocking_variable : (d : Vector) → IsDirectionOf p.matrix (basics_of s) q d → BlockingVariableRefused p s z d q up e → RunStops p s z q up before after e

-- that holds at the point of s
abbrev pub RunStopsAtPoint : LinearProgram → List Status → ℕ → Bool → List Basics → List Basics → Evidence → Type 0
RunStopsAtPoint p s q up before after e = (z : Vector) → IsPointOf p s z → RunStops p s z q up before after e

-- the path by a rule ends at s, after so many steps
pub record RuleEndsHere (rule : Rule) (p : LinearProgram) (s : List Status) (steps : ℕ) (outcome : Outcome) : Type 0 where
  pub ending : PathEnding
  pub ends : RuleEnd rule p s ending
  pub is_outcome : outcome ≡ outcome_of steps ending

abbrev pub EndsHere : LinearProgram → List Status → ℕ → Outcome → Type 0
EndsHere = RuleEndsHere turn

-- it moves q by what stops it, and a step is left
pub record MovesOn (p : LinearProgram) (s : List Status) (d : Vector) (q : ℕ) (by : BlockingVariable) (left : ℕ) : Type 0 where
  pub enters : PathEnters p s q
  pub moves : PathMoves p s (move_by q by)
  pub nonbasic : IsNonbasic p.matrix (basics_of s) q
  pub direction : IsDirectionOf p.matrix (basics_of s) q d
  pub pivot : d by.p ≢ zero_ℚ
  pub step : StepsFromPoint p s d q by
  pub was_left : 1 ≤ left

-- for every list of bases that ends with s, and in which the waypoints lay before the call, the evidence holds on that list
pub record EvidenceAt (p : LinearProgram) (s : List Status) (left : ℕ) (before after : List Basics) (e : Evidence) : Type 0 where
  pub is_way : e.way ≤ length after
  pub shows : (earlier : List (List Status)) → LieIn p.matrix before (earlier ++ s ∷ []) →
      EvidenceHolds (job_of p p.change) None left (earlier ++ s ∷ []) [] s (waypoint (basics_of s) after e.way) e

abbrev pub TurnStops : LinearProgram → List Status → ℕ → List Basics → List Basics → PrimalStop → Type 0
TurnStops p s left before after Limit = (left ≡ 0) × ((next : List Status) × IsStep p s next)
TurnStops p s left before after (Overflow e) = EvidenceAt p s left before after e
TurnStops p s left before after NoMemory = Unit {0}

-- after so many steps, where so many more are allowed
abbrev pub TurnFound : Result Turn PrimalStop → LinearProgram → List Status → ℕ → ℕ → Vector → RatesState → RatesState → Type 0
TurnFound (Ok (Ends outcome)) p s steps left d before after = EndsHere p s steps outcome
TurnFound (Ok (Moves q by)) p s steps left d before after = MovesOn p s d q by left
TurnFound (Err stop) p s steps left d before after = TurnStops p s left before.waypoints after.waypoints stop
