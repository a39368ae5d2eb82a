-- Evidence of calls at one basis, one after another.
use Rattle.std.proofs.Common.{ℕ, List}
use Rattle.std.specs.Prelude.{Option}
use Rattle.exact_values.specs.Rational.{ℚ}
use Rattle.lp_definitions.specs.LinearProgram.{Matrix}
use Rattle.lp_definitions.specs.Basis.{Basics, basics_of}
use Rattle.lp_definitions.specs.Waypoints.{KeepsWaypoints}
use Rattle.lp_definitions.specs.declared.Evidence.{Evidence}
use Rattle.lp_definitions.specs.declared.Status.{Status}
use Rattle.lp_model.specs.RatesCalls.{IfOverflow}
use Rattle.lp_model.specs.declared.Stop.{Stop}
use Rattle.lp_model.specs.declared.Stop.TheVariants as stop
use Rattle.simplex_definitions.specs.Statements.{SolvingStatement}
use Rattle.bounded_primal.specs.Calls.{EvidenceHere}
use Rattle.parametric_run.specs.Programs.{ParametricProgram}
use Rattle.parametric_run.specs.Standing.{RefusedAt}
use Rattle.bounded_primal.proofs.Within.{lie_same}

-- a call that comes after others at the same basis
pub evidence_later : (statement : SolvingStatement) (a : Matrix) (breakpoint : Option ℚ) (left : ℕ) (now : List Status) (before mid after : List Basics)
    (e : Evidence) →
    KeepsWaypoints a (basics_of now) before (basics_of now) mid → EvidenceHere statement a breakpoint left now mid after e →
    EvidenceHere statement a breakpoint left now before after e
evidence_later statement a breakpoint left now before mid after e keeps here = record {
  is_way = here.is_way;
  shows = λ ends earlier lie. here.shows ends earlier (lie_same a earlier now before mid keeps lie);
}

pub refused_later : (m : ParametricProgram) (s : List Status) (before mid after : List Basics) (why : Stop) →
    KeepsWaypoints m.program.matrix (basics_of s) before (basics_of s) mid →
    IfOverflow why (RefusedAt m s mid after) → IfOverflow why (RefusedAt m s before after)
refused_later m s before mid after (stop.Overflow e) keeps h =
    λ from breakpoint left. evidence_later (m.statement from) m.program.matrix breakpoint left s before mid after e keeps (h from breakpoint left)
refused_later m s before mid after stop.NoMemory keeps h = tt
