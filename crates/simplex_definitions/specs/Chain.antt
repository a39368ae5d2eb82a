-- The intervals of a parametric run, over a family of linear programs, one for each value of the parameter.
--     Part, ChainEnd, RunReport    an interval; how a chain of them ends; a whole run
--     ReachesTo s from max to      s is optimal from the one value to the other, which is the greatest such value
--     FaceTurn                     what is done at a breakpoint: a move, an end, or nothing more
--     IsFacePath theta s bases     the bases after s, each by one face step at the breakpoint
--     IsPart from max s part       the interval that begins at from with the basis s
--     IsChain max from s parts end path     the intervals from there on, their end, and the bases of all face steps
--     IsReport from max s report path       the run from the basis s, with the bases of all its steps
--     Reaches place path ends      where a run that has not ended stands after these steps, with the ends of its intervals so far
--     RunGoesOnFor steps           the run has not ended after so many steps
use Rattle.std.specs.Prelude.{◌≡◌, ℕ, List, [], ◌∷◌, ◌++◌, length, Option, Some, None}
use Rattle.exact_values.specs.Rational.{ℚ, ◌+ℚ◌, ◌*ℚ◌, ◌≤ℚ◌, ◌<ℚ◌}
use Rattle.lp_definitions.specs.LinearProgram.{LinearProgram, Vector, value_at, size}
use Rattle.lp_definitions.specs.Basis.{IsOptimalBasis, IsPointOf, ArePricesOf}
use Rattle.lp_definitions.specs.declared.Status.{Status}
use Rattle.simplex_definitions.specs.Path.{Move, after, PathEnding, EndsOptimal, EndsCrossed, EndsInfeasible, EndsUnbounded, IsStep, EndsAt, PathEnds, last_of}

-- an interval with its basis: at a parameter theta of it a variable's activity is value + theta * value_rate, and its price is
-- price + theta * price_rate
pub record Part : Type 0 where
  pub from : ℚ
  pub to : ℚ
  pub statuses : List Status
  pub value : List ℚ
  pub value_rate : List ℚ
  pub price : List ℚ
  pub price_rate : List ℚ

-- at the last value, or at a breakpoint past which all is unbounded, with a point and a direction, or infeasible, with a ray
pub data ChainEnd : Type 0 where
  AtMax : ChainEnd
  UnboundedPast : ℚ → List ℚ → List ℚ → ChainEnd
  InfeasiblePast : ℚ → List ℚ → ChainEnd

-- an opening path that does not end optimal, or the intervals with their end
pub data RunReport : Type 0 where
  FailedOpening : PathEnding → RunReport
  Chain : List Part → ChainEnd → RunReport

pub data FaceTurn : Type 0 where
  FaceMoves : Move → FaceTurn
  FaceDone : FaceTurn
  FaceEnds : ChainEnd → FaceTurn

-- value + theta * rate, place by place
abbrev pub along : ℚ → List ℚ → List ℚ → Vector
along theta value rate k = value_at value k +ℚ theta *ℚ value_at rate k

abbrev pub IsFailure : PathEnding → Type 0
IsFailure (EndsOptimal z y) = ⊥
IsFailure (EndsCrossed k) = Unit {0}
IsFailure (EndsInfeasible w) = Unit {0}
IsFailure (EndsUnbounded z d) = Unit {0}

module _ (family : ℚ → LinearProgram) where
  -- optimal at every value from the one to the other, and the other is the greatest such value up to max
  pub record ReachesTo (s : List Status) (from max to : ℚ) : Type 0 where
    pub forward : from ≤ℚ to
    pub within : to ≤ℚ max
    pub optimal : (theta : ℚ) → from ≤ℚ theta → theta ≤ℚ to → IsOptimalBasis (family theta) s
    pub greatest : (u : ℚ) → u ≤ℚ max → ((theta : ℚ) → from ≤ℚ theta → theta ≤ℚ u → IsOptimalBasis (family theta) s) → u ≤ℚ to

  -- a value and a rate for each variable, in order
  pub record AreCounted (from : ℚ) (value rate : List ℚ) : Type 0 where
    pub value_counted : length value ≡ size (family from).matrix
    pub rate_counted : length rate ≡ size (family from).matrix

  -- the interval goes as far as its basis stays optimal; the basis's point and prices are linear in theta
  pub record IsPart (from max : ℚ) (s : List Status) (part : Part) : Type 0 where
    pub begins : part.from ≡ from
    pub statuses : part.statuses ≡ s
    pub reaches : ReachesTo s from max part.to
    pub values : (theta : ℚ) → IsPointOf (family theta) s (along theta part.value part.value_rate)
    pub prices : (theta : ℚ) → ArePricesOf (family theta) s (along theta part.price part.price_rate)
    pub values_counted : AreCounted from part.value part.value_rate
    pub prices_counted : AreCounted from part.price part.price_rate

module _ (family : ℚ → LinearProgram) (Face : ℚ → List Status → FaceTurn → Type 0) where
  abbrev pub IsFaceStep : ℚ → List Status → List Status → Type 0
  IsFaceStep theta s next = (m : Move) × Face theta s (FaceMoves m) × (next ≡ after s m)

  abbrev pub IsFacePath : ℚ → List Status → List (List Status) → Type 0
  IsFacePath theta s [] = Unit {0}
  IsFacePath theta s (next ∷ bases) = IsFaceStep theta s next × IsFacePath theta next bases

  -- at a breakpoint before max: the face steps there, and what is done after them
  pub record FacesTo (max theta : ℚ) (s : List Status) (bases : List (List Status)) (turn : FaceTurn) : Type 0 where
    pub before_max : theta <ℚ max
    pub face_path : IsFacePath theta s bases
    pub last : Face theta (last_of s bases) turn

  -- an interval that goes to max ends the chain; at a breakpoint the face steps end it, or the next interval begins there with the
  -- basis that they reached
  pub data IsChain (max : ℚ) : ℚ → List Status → List Part → ChainEnd → List (List Status) → Type 0 where
    at_max : {from : ℚ} {s : List Status} {part : Part} →
        IsPart family from max s part → part.to ≡ max → IsChain max from s (part ∷ []) AtMax []
    past_breakpoint : {from : ℚ} {s : List Status} {part : Part} {end : ChainEnd} {path : List (List Status)} →
        IsPart family from max s part → FacesTo max part.to s path (FaceEnds end) → IsChain max from s (part ∷ []) end path
    goes_on : {from : ℚ} {s : List Status} {part : Part} {parts : List Part} {end : ChainEnd} {bases later : List (List Status)} →
        IsPart family from max s part → FacesTo max part.to s bases FaceDone →
        IsChain max part.to (last_of s bases) parts end later → IsChain max from s (part ∷ parts) end (bases ++ later)

  -- the chain begins where the opening path ends optimal; path has the bases of all steps
  pub record IsRun (from max : ℚ) (s : List Status) (parts : List Part) (end : ChainEnd) (path : List (List Status)) : Type 0 where
    pub opening : List (List Status)
    pub point : List ℚ
    pub prices : List ℚ
    pub opens : PathEnds (family from) s opening (EndsOptimal point prices)
    pub faces : List (List Status)
    pub chain : IsChain max from (last_of s opening) parts end faces
    pub whole : path ≡ opening ++ faces

  pub record IsFailedOpening (from : ℚ) (s : List Status) (ending : PathEnding) (path : List (List Status)) : Type 0 where
    pub opens : PathEnds (family from) s path ending
    pub is_failure : IsFailure ending

  abbrev pub IsReport : ℚ → ℚ → List Status → RunReport → List (List Status) → Type 0
  IsReport from max s (FailedOpening ending) path = IsFailedOpening from s ending path
  IsReport from max s (Chain parts end) path = IsRun from max s parts end path

-- a basis of the opening path, or one at a breakpoint
pub data RunPlace : Type 0 where
  InOpening : List Status → RunPlace
  AtBreakpoint : ℚ → List Status → RunPlace

-- the breakpoint at which a run stands, if it is at one, and the basis
abbrev pub breakpoint_of : RunPlace → Option ℚ
breakpoint_of (InOpening now) = None
breakpoint_of (AtBreakpoint theta now) = Some theta

abbrev pub basis_of : RunPlace → List Status
basis_of (InOpening now) = now
basis_of (AtBreakpoint theta now) = now

module _ (family : ℚ → LinearProgram) (Face : ℚ → List Status → FaceTurn → Type 0) (from max : ℚ) (s : List Status) where
  -- the run begins in the opening path, which takes its steps; where that ends optimal, the first interval goes to its breakpoint;
  -- there the face steps are taken; and where none is left, the next interval goes to its breakpoint
  pub data Reaches : RunPlace → List (List Status) → List ℚ → Type 0 where
    begins : Reaches (InOpening s) [] []
    path_step : {now next : List Status} {path : List (List Status)} →
        Reaches (InOpening now) path [] → IsStep (family from) now next → Reaches (InOpening next) (path ++ next ∷ []) []
    first_breakpoint : {now : List Status} {path : List (List Status)} {to : ℚ} (point prices : List ℚ) →
        Reaches (InOpening now) path [] → EndsAt (family from) now (EndsOptimal point prices) →
        ReachesTo family now from max to → to <ℚ max → Reaches (AtBreakpoint to now) path (to ∷ [])
    face_step : {theta : ℚ} {now next : List Status} {path : List (List Status)} {ends : List ℚ} →
        Reaches (AtBreakpoint theta now) path ends → IsFaceStep family Face theta now next → Reaches (AtBreakpoint theta next) (path ++ next ∷ []) ends
    next_breakpoint : {theta : ℚ} {now : List Status} {path : List (List Status)} {ends : List ℚ} {to : ℚ} →
        Reaches (AtBreakpoint theta now) path ends → Face theta now FaceDone →
        ReachesTo family now theta max to → to <ℚ max → Reaches (AtBreakpoint to now) path (to ∷ ends)

  -- one more step can be taken
  abbrev pub GoesOn : RunPlace → Type 0
  GoesOn (InOpening now) = (next : List Status) × IsStep (family from) now next
  GoesOn (AtBreakpoint theta now) = (next : List Status) × IsFaceStep family Face theta now next

  pub record RunGoesOnFor (steps : ℕ) : Type 0 where
    pub place : RunPlace
    pub path : List (List Status)
    pub ends : List ℚ
    pub reaches : Reaches place path ends
    pub taken : length path ≡ steps
    pub goes_on : GoesOn place
