-- The verbs that follow a path.
--     verb_of, solver_of, limit_of the verb of a program, whose path it follows, and the limit of that
use Rattle.std.specs.Prelude.{ℕ, Option, Some}
use Rattle.control_definitions.specs.Program as program
use Rattle.control_definitions.specs.Cells.{Cells, steps_allowed}
use Rattle.listing_definitions.specs.declared.Solver.{Solver}
use Rattle.listing_definitions.specs.declared.Solver.TheVariants as solvers
use Rattle.run_machine.specs.declared.solving.SolvingVerb.{SolvingVerb}
use Rattle.run_machine.specs.declared.solving.SolvingVerb.TheVariants.{Primal, Dual}

abbrev pub verb_of : SolvingVerb → program.Verb ℕ
verb_of Primal = program.Primal
verb_of Dual = program.Dual

abbrev pub solver_of : SolvingVerb → Solver
solver_of Primal = solvers.Primal
solver_of Dual = solvers.Dual

-- PRIMAL alone may have no limit
abbrev pub limit_of : SolvingVerb → Cells → Option ℕ
limit_of Primal cells = cells.xiterlim
limit_of Dual cells = Some (steps_allowed cells)
