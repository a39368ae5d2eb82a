-- Evidence of a call that stays at one basis, as that of a run of the right-hand side.
--     RunRefused .. e      e is evidence at the basis s, for a run from any value, whatever bases led there
use Rattle.std.specs.Prelude.{ℕ, List, Option}
use Rattle.exact_values.specs.Rational.{ℚ}
use Rattle.simplex_definitions.specs.Statements.{Pararhs}
use Rattle.lp_definitions.specs.Basis.{Basics}
use Rattle.lp_definitions.specs.LinearProgram.{LinearProgram}
use Rattle.lp_definitions.specs.declared.Evidence.{Evidence}
use Rattle.lp_definitions.specs.declared.Status.{Status}
use Rattle.bounded_primal.specs.Calls.{EvidenceHere}

-- with any number of steps left, at a breakpoint or where an interval begins; before and after are the waypoints of the call
abbrev pub RunRefused : LinearProgram → List ℚ → List Status → List Basics → List Basics → Evidence → Type 0
RunRefused p shift s before after e =
    (from : ℚ) (breakpoint : Option ℚ) (left : ℕ) → EvidenceHere (Pararhs p shift from) p.matrix breakpoint left s before after e
