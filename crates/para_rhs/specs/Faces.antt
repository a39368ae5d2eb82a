-- What a run of the right-hand side is over.
--     family, Face, statement      the run's linear programs, what is done at its breakpoints, and its statement
use Rattle.std.specs.Prelude.{List}
use Rattle.exact_values.specs.Rational.{ℚ}
use Rattle.lp_definitions.specs.LinearProgram.{LinearProgram}
use Rattle.lp_definitions.specs.declared.Status.{Status}
use Rattle.simplex_definitions.specs.Chain.{FaceTurn}
use Rattle.simplex_definitions.specs.RhsRun.{rhs_family, IsRhsFace}
use Rattle.simplex_definitions.specs.Statements.{SolvingStatement, Pararhs}
use Rattle.para_rhs.specs.declared.parts.ParaRhs.{ParaRhs}

module _ (p : LinearProgram) (run : ParaRhs) where
  abbrev pub family : ℚ → LinearProgram
  family = rhs_family p run.shift.items

  abbrev pub Face : ℚ → List Status → FaceTurn → Type 0
  Face = IsRhsFace p run.shift.items

  abbrev pub statement : SolvingStatement
  statement = Pararhs p run.shift.items run.from
