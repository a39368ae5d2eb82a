-- The parametric run that PARAOBJ or PARARHS asks for by the cells.
--     verb_of, change_of ..        the verb, and what it changes
--     IsAsked, IsAskFault          what a verb asks for by the cells, and why it asks for nothing
--     IsNoChange                   why nothing changes; or there is no memory
--     IsNotAsked                   why it is refused; or there is no memory
--     parametric_run_of limit request    a request, in the words of runs
--     IsOf problem request         its row or its shifts are those of the problem
--     Serves problem p request     the run can be made in the linear program p
use Rattle.std.specs.Prelude.{◌≡◌, ℕ, Option, Some, None, length, option_and_then}
use Rattle.exact_values.specs.Rational.{ℚ, ◌≤ℚ◌}
use Rattle.lp_definitions.specs.LinearProgram.{LinearProgram, IsRow, HasNoLimits}
use Rattle.problem_definitions.specs.Names.{Name}
use Rattle.problem_definitions.specs.Problem.{Problem}
use Rattle.selection_definitions.specs.Changes.{IsFreeIn}
use Rattle.listing_definitions.specs.declared.VerbFault.{VerbFault}
use Rattle.listing_definitions.specs.declared.VerbFault.TheVariants.{NoChangeRow, NoChangeSet, NoParmax, ParmaxBelow}
use Rattle.control_definitions.specs.Program as program
use Rattle.control_definitions.specs.Cells.{Cells, steps_allowed}
use Rattle.question_definitions.specs.Answers.{Changing, ParametricRun}
use Rattle.question_definitions.specs.Answers as answers
use Rattle.answer_definitions.specs.ParametricRuns.{row_of, shifts_of}
use Rattle.run_definitions.specs.Verbs.{change_row, change_set, not_less}
use Rattle.parametric_request.specs.declared.request.ParametricVerb.{ParametricVerb}
use Rattle.parametric_request.specs.declared.request.ParametricVerb.TheVariants.{Paraobj, Pararhs}
use Rattle.parametric_request.specs.declared.request.Change.{Change}
use Rattle.parametric_request.specs.declared.request.Change.TheVariants.{Row, Set}
use Rattle.parametric_request.specs.declared.request.ParametricRequest.{ParametricRequest}
use Rattle.parametric_request.specs.declared.request.RequestStop.{RequestStop}
use Rattle.parametric_request.specs.declared.request.RequestStop.TheVariants.{Fault, NoMemory}

-- the verb of a statement that makes a parametric run
abbrev pub verb_of : ParametricVerb → program.Verb ℕ
verb_of Paraobj = program.Paraobj
verb_of Pararhs = program.Pararhs

-- the name of what it changes
abbrev pub name_moved : ParametricVerb → Cells → Option Name
name_moved Paraobj cells = cells.xchrow
name_moved Pararhs cells = cells.xchcol

-- what has this name
abbrev pub change_of : ParametricVerb → Problem ℕ → Name → Option Changing
change_of Paraobj = change_row
change_of Pararhs = change_set

-- it is refused so where nothing has
abbrev pub change_fault : ParametricVerb → VerbFault
change_fault Paraobj = NoChangeRow
change_fault Pararhs = NoChangeSet

-- what stands in XPARMAX, where it isn't less than XPARAM
pub record IsLastValue (cells : Cells) (to : ℚ) : Type 0 where
  pub last : ℚ
  pub is_moved : cells.xparmax ≡ Some last
  pub is_last : not_less cells.xparam last ≡ Some to

-- there is none, or it is less
pub data IsLastFault (cells : Cells) : VerbFault → Type 0 where
  no_last : cells.xparmax ≡ None → IsLastFault cells NoParmax
  below : {last : ℚ} → cells.xparmax ≡ Some last → not_less cells.xparam last ≡ None → IsLastFault cells ParmaxBelow

module _ (verb : ParametricVerb) (problem : Problem ℕ) (cells : Cells) where
  -- what changes has the name that was moved to its cell
  abbrev pub Changes : Changing → Type 0
  Changes changing = option_and_then (change_of verb problem) (name_moved verb cells) ≡ Some changing

  -- the run goes from XPARAM to XPARMAX, which isn't less, in as many steps as a verb may take
  pub record IsAsked (parametric_run : ParametricRun) : Type 0 where
    pub changes : Changes parametric_run.changing
    pub is_last : IsLastValue cells parametric_run.to
    pub is_first : parametric_run.from ≡ cells.xparam
    pub is_limit : parametric_run.limit ≡ steps_allowed cells

  -- nothing has the name of what is to change; or the last value is refused
  pub data IsAskFault : VerbFault → Type 0 where
    no_change : option_and_then (change_of verb problem) (name_moved verb cells) ≡ None → IsAskFault (change_fault verb)
    no_value : {changing : Changing} {fault : VerbFault} → Changes changing → IsLastFault cells fault → IsAskFault fault

  -- memory may run out at any time
  abbrev pub IsNoChange : RequestStop → Type 0
  IsNoChange (Fault fault) = (option_and_then (change_of verb problem) (name_moved verb cells) ≡ None) × (fault ≡ change_fault verb)
  IsNoChange NoMemory = Unit {0}

  abbrev pub IsNotAsked : RequestStop → Type 0
  IsNotAsked (Fault fault) = IsAskFault fault
  IsNotAsked NoMemory = Unit {0}

-- ---- a request

abbrev pub changing_of : Name → Change → Changing
changing_of name (Row row) = answers.Row name
changing_of name (Set shift) = answers.Set name

abbrev pub parametric_run_of : ℕ → ParametricRequest → ParametricRun
parametric_run_of limit request = record { changing = changing_of request.name request.change; from = request.from; to = request.to; limit = limit }

-- the row has this name, and no limits in what is selected, or the shifts are those of the set
abbrev pub IsChangeOf : Problem ℕ → Name → Change → Type 0
IsChangeOf problem name (Row row) = (row_of problem name ≡ row) × IsFreeIn problem row
IsChangeOf problem name (Set shift) = shifts_of problem name ≡ shift.items

-- and the last value isn't less than the first
abbrev pub IsOf : Problem ℕ → ParametricRequest → Type 0
IsOf problem request = IsChangeOf problem request.name request.change × (request.from ≤ℚ request.to)

abbrev pub ServesChange : Problem ℕ → LinearProgram → Name → Change → Type 0
ServesChange problem p name (Row row) = (row_of problem name ≡ row) × IsRow p.matrix row × HasNoLimits p row
ServesChange problem p name (Set shift) = (shifts_of problem name ≡ shift.items) × (length shift.items ≡ p.rows)

abbrev pub Serves : Problem ℕ → LinearProgram → ParametricRequest → Type 0
Serves problem p request = ServesChange problem p request.name request.change × (request.from ≤ℚ request.to)
