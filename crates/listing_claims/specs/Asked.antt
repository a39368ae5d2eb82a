-- A parametric run that is asked for.
--     parametric_run_of limit request    the run, in the words of runs
--     IsAskedOf sheet request            it is asked for of this sheet
--     sheet_of run, changing_in run      the sheet, and what changes along the run, in the words of questions
use Rattle.std.specs.Prelude.{◌≡◌, ℕ, None}
use Rattle.lp_definitions.specs.LinearProgram.{IsLinearProgram}
use Rattle.question_definitions.specs.Answers.{ParametricRun, Changing, Sheet as Views}
use Rattle.listing_tables.specs.declared.sheet.Sheet.{Sheet}
use Rattle.parametric_request.specs.Asking.{changing_of, ServesChange}
use Rattle.listing_words.specs.Read.{sheet_view}
use Rattle.listing_claims.specs.declared.claims.AskedRun.{AskedRun}
use Rattle.listing_claims.specs.declared.claims.SheetRun.{SheetRun}

abbrev pub parametric_run_of : ℕ → AskedRun → ParametricRun
parametric_run_of limit request = record { changing = changing_of request.name request.change; from = request.from; to = request.to; limit = limit }

-- the run can be made in the linear program, to whose objective no row is added
pub record IsAskedOf (sheet : Sheet) (request : AskedRun) : Type 0 where
  pub lawful : IsLinearProgram sheet.lp.now
  pub no_change : sheet.lp.now.change ≡ None
  pub serves : ServesChange sheet.problem.now sheet.lp.now request.name request.change

abbrev pub sheet_of : SheetRun → Views
sheet_of run = sheet_view run.sheet

abbrev pub changing_in : SheetRun → Changing
changing_in run = changing_of run.request.now.name run.request.now.change
