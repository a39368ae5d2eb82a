-- What the calls at a basis ask and give.
--     HasRates a b p s             the rates have the basics of the basis, for the matrix of the program
--     KeepsRates a b p s before after      the rates are still those of the basis after a call there
--     IsAtBasis r p s, StaysAt before after p s    the same of how the rates stand, and before and after a call
--     MovesTo before after p s next      where the waypoints lie after a call that took the basis s to next
--     LieIn a ways bases           every waypoint lies in one of the bases
--     job_of p change              the statement that a call on a program counts as
--     StopsAt                      the evidence of a call that stays at one basis
--     PointRefused, RangeRefused   the same, by the formulas of a point or prices, or of a range report
use Rattle.std.specs.Prelude.{◌≡◌, ℕ, ◌≤◌, Bool, ◌||◌, List, [], ◌∷◌, map, length, All, Option, Some, None, Contains, IsTrue, nat_eq}
use Rattle.lp_definitions.specs.LinearProgram.{Matrix, LinearProgram}
use Rattle.lp_definitions.specs.Basis.{Basics, basics_of, IsBasis, IsNonsingular}
use Rattle.lp_definitions.specs.Waypoints.{IsWithinOne, KeepsWaypoints, waypoint}
use Rattle.lp_model.specs.RatesState.{RatesState}
use Rattle.lp_definitions.specs.declared.Evidence.{Evidence}
use Rattle.lp_definitions.specs.declared.Status.{Status}
use Rattle.lp_definitions.specs.declared.Change.{Change}
use Rattle.simplex_definitions.specs.Statements.{SolvingStatement, Primal, Paraobj, Range, belongs, is_between, thetas_of}
use Rattle.simplex_definitions.specs.Evidence.{ShowsRefusal}

-- a basis of the program, whose basics are nonsingular and are those of the rates
pub record HasRates (a : Matrix) (b : Basics) (p : LinearProgram) (s : List Status) : Type 0 where
  pub is_basis : IsBasis p s
  pub nonsingular : IsNonsingular p.matrix (basics_of s)
  pub same_matrix : a ≡ p.matrix
  pub same_basics : b ≡ basics_of s

-- the rates still have the basics of the basis, and each of their waypoints was there before or lies in the basis
abbrev pub KeepsRates : Matrix → Basics → LinearProgram → List Status → List Basics → List Basics → Type 0
KeepsRates a b p s before after = HasRates a b p s × KeepsWaypoints p.matrix (basics_of s) before (basics_of s) after

-- the same of how the rates stand
abbrev pub IsAtBasis : RatesState → LinearProgram → List Status → Type 0
IsAtBasis r p s = HasRates r.matrix r.basics p s

abbrev pub StaysAt : RatesState → RatesState → LinearProgram → List Status → Type 0
StaysAt before after p s = KeepsRates after.matrix after.basics p s before.waypoints after.waypoints

-- each waypoint was there before the call, or lies in the basis before it or after it
abbrev pub MovesTo : RatesState → RatesState → LinearProgram → List Status → List Status → Type 0
MovesTo before after p s next = KeepsWaypoints p.matrix (basics_of s) before.waypoints (basics_of next) after.waypoints

abbrev pub LieIn : Matrix → List Basics → List (List Status) → Type 0
LieIn a ways bases = All (λ w. IsWithinOne a w (map basics_of bases)) ways

-- what a call on a program counts as: with a change row it is the opening path of a run of the objective from that theta
abbrev pub job_of : LinearProgram → Option Change → SolvingStatement
job_of p None = Primal p
job_of p (Some c) = Paraobj p c.row c.theta

-- an overflow of a call at the one basis s: the operands are those of the formula there, and at a waypoint that the rates have
-- after the call, and the operation refuses them; an exchange in the formula leads to a set that lies in one of those around
pub record StopsAt (Goes : Status → Type 0) (p : LinearProgram) (around : List Basics) (s : List Status) (after : List Basics) (e : Evidence) : Type 0 where
  pub is_way : e.way ≤ length after
  pub is_theta : Contains (thetas_of (job_of p p.change) []) e.theta
  pub shows : ShowsRefusal (job_of p p.change) Goes around s (waypoint (basics_of s) after e.way) e

-- which formulas a point or the prices may stop by
abbrev pub is_of_point : Option Change → ℕ → Bool
is_of_point None f = is_between 1 5 f || is_between 10 12 f
is_of_point (Some c) f = is_between 1 5 f || is_between 10 12 f || nat_eq f 17

pub record PointRefused (p : LinearProgram) (before : List Basics) (s : List Status) (after : List Basics) (e : Evidence) : Type 0 where
  pub of_call : IsTrue (is_of_point p.change e.formula)
  pub stops : StopsAt (λ to. ⊥) p (basics_of s ∷ before) s after e

pub record RangeRefused (p : LinearProgram) (before : List Basics) (s : List Status) (after : List Basics) (e : Evidence) : Type 0 where
  pub of_call : IsTrue (belongs (Range p) e)
  pub stops : StopsAt (λ to. Unit {0}) p (basics_of s ∷ before) s after e
