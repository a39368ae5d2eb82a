-- What SETUP keeps, as contracts see it, whichever engine has the rates.
--     Setup        what SETUP keeps
--     chosen       what its linear program was selected by
use Rattle.std.specs.Prelude.{Option}
use Rattle.lp_definitions.specs.LinearProgram.{LinearProgram}
use Rattle.lp_model.specs.RatesState.{RatesState}
use Rattle.problem_definitions.specs.Names.{Name}
use Rattle.control_definitions.specs.Program.{SetupOptions}
use Rattle.selection_definitions.specs.Choice.{Choice}
use Rattle.question_definitions.specs.Answers.{Basis}

-- the name under which the problem is on file, the options, the linear program that was selected last, with the names of the objective and of
-- the right-hand side set that selected it, the present basis and its rates
pub record Setup : Type 0 where
  pub name : Name
  pub options : SetupOptions
  pub objective : Option Name
  pub rhs : Option Name
  pub lp : LinearProgram
  pub basis : Basis
  pub engine : RatesState

-- the choice by which the linear program was selected
abbrev pub chosen : Setup → Choice
chosen setup = record { objective = setup.objective; rhs = setup.rhs; options = setup.options }
