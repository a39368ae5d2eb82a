-- When SOLUTION and RANGE may stop with an overflow.
--     SolutionRefused p before s after e   the evidence of the statement at the basis s, whatever path led there
--     RangesRefused p before s after e     the same of RANGE
use Rattle.std.specs.Prelude.{List, [], ◌∷◌, ◌++◌, ◌≤◌, length, Some, None}
use Rattle.lp_definitions.specs.LinearProgram.{LinearProgram}
use Rattle.lp_definitions.specs.Basis.{Basics, basics_of}
use Rattle.lp_definitions.specs.Waypoints.{waypoint}
use Rattle.lp_definitions.specs.declared.Evidence.{Evidence}
use Rattle.lp_definitions.specs.declared.Status.{Status}
use Rattle.simplex_definitions.specs.Statements.{Solution, Range}
use Rattle.answer_definitions.specs.Evidence.{IsEvidence}
use Rattle.basis_values.specs.Calls.{LieIn}

-- it names a waypoint that the rates have after the call; and for every list of bases that ends with s, and in which the waypoints
-- lay before the call, it is evidence on that list, with the basics of s and of that waypoint
pub record SolutionRefused (p : LinearProgram) (before : List Basics) (s : List Status) (after : List Basics) (e : Evidence) : Type 0 where
  pub is_way : e.way ≤ length after
  pub shows : (earlier : List (List Status)) → LieIn p.matrix before (earlier ++ s ∷ []) →
      IsEvidence (Solution p) None 0 (earlier ++ s ∷ []) [] e (Some (record { basis = s; way = waypoint (basics_of s) after e.way }))

pub record RangesRefused (p : LinearProgram) (before : List Basics) (s : List Status) (after : List Basics) (e : Evidence) : Type 0 where
  pub is_way : e.way ≤ length after
  pub shows : (earlier : List (List Status)) → LieIn p.matrix before (earlier ++ s ∷ []) →
      IsEvidence (Range p) None 0 (earlier ++ s ∷ []) [] e (Some (record { basis = s; way = waypoint (basics_of s) after e.way }))
