-- The path of the bounded simplex method with the least-index rule.
--     Move, after s m              a variable goes in and one comes to a limit; the statuses after that
--     PathEnding, Turn                 how a path ends; what is done at a basis: a move, or an end
--     turn p s t                   what is done at the basis s with the point and the rates t
--     IsStep p s next              the path goes from s to next
--     EndsAt p s ending            the path ends at s
--     IsPath p s bases             the bases after s, each by one step; last_of s bases is the one that the path has reached
--     PathEnds p s bases ending    the path from s goes over these bases and ends at the last
--     GoesOnFor p s steps          the path from s has not ended after so many steps
use Rattle.std.specs.Prelude.{◌≡◌, ℕ, not, ◌&&◌, List, [], ◌∷◌, map, length, Option, Some, None, Bool, if◌then◌else◌, nat_eq}
use Rattle.exact_values.specs.Rational.{ℚ, zero_ℚ, one_ℚ, neg_ℚ}
use Rattle.lp_definitions.specs.LinearProgram.{Matrix, LinearProgram, Vector, variables, for_min}
use Rattle.lp_definitions.specs.Basis.{Basics, is_in, basics_of, with_status, Tableau, IsTableau, objective_rate, price_at}
use Rattle.lp_definitions.specs.declared.Status.{Status}
use Rattle.lp_definitions.specs.declared.Status.TheVariants.{Bs, Ll, Ul}
use Rattle.simplex_definitions.specs.Moves.{least, is_crossed, is_below, is_outside, signed, goes_up, entering, blocking_variable, reached}

-- the variable enters moves, and the variable leaves comes to the limit of the status to; the two may be one
pub record Move : Type 0 where
  pub enters : ℕ
  pub leaves : ℕ
  pub to : Status

-- what enters is basic, and what leaves stands at its limit; where the two are one it changes its limit, and all else is as it was
abbrev pub after : List Status → Move → List Status
after s m = with_status (with_status s m.enters Bs) m.leaves m.to

-- a point with its prices, a crossed variable, a ray, or a point with a direction
pub data PathEnding : Type 0 where
  EndsOptimal : List ℚ → List ℚ → PathEnding
  EndsCrossed : ℕ → PathEnding
  EndsInfeasible : List ℚ → PathEnding
  EndsUnbounded : List ℚ → List ℚ → PathEnding

pub data Turn : Type 0 where
  Moves : Move → Turn
  Ends : PathEnding → Turn

-- a vector as the list of its values
abbrev pub listed : Matrix → Vector → List ℚ
listed a z = map z (variables a)

-- what shows that the basic r cannot come back within its limits: for an r below them -1 at r, and its rates at the nonbasics;
-- for an r above them the negative of that
abbrev pub ray_of : Basics → (ℕ → ℕ → ℚ) → ℕ → Bool → Vector
ray_of b rate r below k =
    if nat_eq k r then signed below (neg_ℚ one_ℚ) else (if is_in b k then zero_ℚ else signed below (rate r k))

-- how r, or -r where r is below its limits, grows with each nonbasic: to bring r back is to lower this
abbrev pub excess_rate : (ℕ → ℕ → ℚ) → ℕ → Bool → Vector
excess_rate rate r below q = signed (not below) (rate r q)

-- how fast each variable moves where the nonbasic q rises or falls
abbrev pub speeds : (ℕ → ℕ → ℚ) → Bool → ℕ → Vector
speeds rate up q k = signed up (rate k q)

-- what stops this motion of q leaves, or changes its limit if it is q itself
abbrev pub stopped_by : ℕ → Vector → ℕ → Move
stopped_by q v k = record { enters = q; leaves = k; to = reached v k }

module _ (p : LinearProgram) (s : List Status) (t : Tableau) where
  abbrev pub crossed : Option ℕ
  crossed = least p (is_crossed p)

  -- the least-numbered basic outside its limits
  abbrev pub outside : Option ℕ
  outside = least p (λ k. is_in (basics_of s) k && is_outside p t.point k)

  -- how the objective, or its negative for MAX, grows with each nonbasic: to better it is to lower this
  abbrev pub worth_rate : Vector
  worth_rate q = for_min p.sense (objective_rate p t.rate q)

  -- the variable that is moved: it brings the basic r back, or else improves the objective
  abbrev pub entering_variable : Option ℕ → Option ℕ
  entering_variable (Some r) = entering p s (excess_rate t.rate r (is_below p t.point r))
  entering_variable None = entering p s worth_rate

  -- first phase: q brings the basic r back to the limit that it broke
  abbrev pub restore_feasibility : ℕ → Option ℕ → Turn
  restore_feasibility r (Some q) = Moves (record { enters = q; leaves = r; to = if is_below p t.point r then Ll else Ul })
  restore_feasibility r None = Ends (EndsInfeasible (listed p.matrix (ray_of (basics_of s) t.rate r (is_below p t.point r))))

  -- q moves at these speeds until a variable stops it
  abbrev pub run_until : ℕ → Vector → Option ℕ → Turn
  run_until q v (Some k) = Moves (stopped_by q v k)
  run_until q v None = Ends (EndsUnbounded (listed p.matrix t.point) (listed p.matrix v))

  abbrev pub run_at : ℕ → Vector → Turn
  run_at q v = run_until q v (blocking_variable p t.point v)

  -- second phase: q improves the objective
  abbrev pub improve : Option ℕ → Turn
  improve (Some q) = run_at q (speeds t.rate (goes_up worth_rate q) q)
  improve None = Ends (EndsOptimal (listed p.matrix t.point) (listed p.matrix (price_at p (basics_of s) t.rate)))

  -- a crossed variable ends the path; else a basic outside its limits is brought back; else the objective is improved
  abbrev pub turn_for : Option ℕ → Option ℕ → Turn
  turn_for (Some k) out = Ends (EndsCrossed k)
  turn_for None (Some r) = restore_feasibility r (entering_variable (Some r))
  turn_for None None = improve (entering_variable None)

  unfoldable pub turn : Turn
  turn = turn_for crossed outside

-- ---- steps and paths by a rule, which says what is done at a basis with its point and its rates

abbrev pub Rule : Type 0
Rule = LinearProgram → List Status → Tableau → Turn

abbrev pub last_of : List Status → List (List Status) → List Status
last_of s [] = s
last_of s (next ∷ bases) = last_of next bases

module _ (rule : Rule) (p : LinearProgram) where
  pub record RuleStep (s next : List Status) : Type 0 where
    pub tableau : Tableau
    pub is_tableau : IsTableau p s tableau
    pub move : Move
    pub turns : rule p s tableau ≡ Moves move
    pub is_next : next ≡ after s move

  pub record RuleEnd (s : List Status) (ending : PathEnding) : Type 0 where
    pub tableau : Tableau
    pub is_tableau : IsTableau p s tableau
    pub turns : rule p s tableau ≡ Ends ending

  abbrev pub RulePath : List Status → List (List Status) → Type 0
  RulePath s [] = Unit {0}
  RulePath s (next ∷ bases) = RuleStep s next × RulePath next bases

  pub record RulePathEnds (s : List Status) (bases : List (List Status)) (ending : PathEnding) : Type 0 where
    pub is_path : RulePath s bases
    pub ends : RuleEnd (last_of s bases) ending

  -- after these steps there is one more
  pub record RuleGoesOn (s : List Status) (steps : ℕ) : Type 0 where
    pub bases : List (List Status)
    pub is_path : RulePath s bases
    pub taken : length bases ≡ steps
    pub next : List Status
    pub is_step : RuleStep (last_of s bases) next

-- ---- those of the simplex method

abbrev pub IsStep : LinearProgram → List Status → List Status → Type 0
IsStep = RuleStep turn

abbrev pub EndsAt : LinearProgram → List Status → PathEnding → Type 0
EndsAt = RuleEnd turn

abbrev pub IsPath : LinearProgram → List Status → List (List Status) → Type 0
IsPath = RulePath turn

abbrev pub PathEnds : LinearProgram → List Status → List (List Status) → PathEnding → Type 0
PathEnds = RulePathEnds turn

abbrev pub GoesOnFor : LinearProgram → List Status → ℕ → Type 0
GoesOnFor = RuleGoesOn turn
