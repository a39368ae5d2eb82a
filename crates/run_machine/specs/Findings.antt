-- What the verbs that ask of linear programming find, and what follows.
--     refused_finding refusal      what a refusal comes to
--     ReportsFinding result        what is found is reported, with its report printed; or it is cut off
--     act_of cells card finding    what follows
--     mark_left finding            the mark that it leaves
use Rattle.std.specs.Prelude.{◌≡◌, ℕ, Option, Some, None, Result, Ok, Err}
use Rattle.job_devices.specs.States.{SinkState}
use Rattle.job_devices.specs.declared.device.WriteStop.{WriteStop}
use Rattle.job_devices.specs.Text.{Writes}
use Rattle.listing_definitions.specs.declared.Mark.{Mark}
use Rattle.listing_definitions.specs.declared.Mark.TheVariants.{Optimal, Infeasible, Unbounded}
use Rattle.control_definitions.specs.Cells.{Cells, steps_allowed}
use Rattle.run_definitions.specs.Moves.{Gain, gain_text}
use Rattle.run_machine.specs.declared.act.Act.{Act}
use Rattle.run_machine.specs.declared.act.Act.TheVariants.{Next, Jump, Ends}
use Rattle.run_machine.specs.declared.act.Halt.{Halt}
use Rattle.run_machine.specs.declared.act.Halt.TheVariants as halt
use Rattle.run_machine.specs.declared.end.End.{End}
use Rattle.run_machine.specs.declared.end.End.TheVariants as end
use Rattle.run_machine.specs.declared.finding.Finding.{Finding}
use Rattle.run_machine.specs.declared.finding.Finding.TheVariants.{Refused, Overflow, WrongPrices, Limit, Ended, Printed, RanThrough}
use Rattle.run_machine.specs.declared.selecting.Refusal.{Refusal}
use Rattle.run_machine.specs.declared.selecting.Refusal.TheVariants.{Fault, NoMemory}
use Rattle.run_machine.specs.declared.selecting.Refusal.TheVariants as refusals

-- ---- what stops a call

-- a refusal is found, or there is no memory
abbrev pub refused_finding : Refusal → Result Finding Halt
refused_finding (Fault fault) = Ok (Refused fault)
refused_finding (refusals.Overflow e) = Ok (Overflow e None)
refused_finding NoMemory = Err halt.NoMemory

-- ---- with what is printed

module _ (Holds : Gain → Finding → Type 0) (print_old print_new : SinkState) where
  -- this is found, with some gain, which is printed
  pub record HasReported (finding : Finding) : Type 0 where
    pub gain : Gain
    pub holds : Holds gain finding
    pub writes : Writes {T = Unit {0}} print_old print_new (Ok tt) (gain_text gain)

  -- something is found, and the print stops before all that it gains is printed
  pub record IsReportingCut (stop : WriteStop) : Type 0 where
    pub gain : Gain
    pub finding : Finding
    pub holds : Holds gain finding
    pub writes : Writes {T = Unit {0}} print_old print_new (Err stop) (gain_text gain)

  -- where there is no memory, nothing is printed
  abbrev pub ReportsFinding : Result Finding Halt → Type 0
  ReportsFinding (Ok finding) = HasReported finding
  ReportsFinding (Err (halt.Print stop)) = IsReportingCut stop
  ReportsFinding (Err (halt.Punch stop)) = ⊥
  ReportsFinding (Err halt.NoMemory) = print_new ≡ print_old

-- ---- what follows

-- the position of the demand, or the end where it isn't set
abbrev pub demanded_act : Option ℕ → End → Act
demanded_act (Some position) end = Jump position
demanded_act None end = Ends end

-- an optimal verdict, the lines of a basis and the intervals of a run go on with the next statement; any other verdict goes by its
-- demand, and what is none of these ends the run
abbrev pub act_of : Cells → ℕ → Finding → Act
act_of cells card (Refused fault) = Ends (end.Verb fault card)
act_of cells card (Overflow e place) = Ends (end.Overflow e place card)
act_of cells card (WrongPrices variable) = Ends (end.WrongPrices card variable)
act_of cells card Limit = Ends (end.Limit (steps_allowed cells) card)
act_of cells card (Ended Optimal) = Next
act_of cells card (Ended Infeasible) = demanded_act cells.xdonfs end.Infeasible
act_of cells card (Ended Unbounded) = demanded_act cells.xdounb end.Unbounded
act_of cells card Printed = Next
act_of cells card (RanThrough value) = Next

-- a verdict leaves its mark, and what ends the run leaves none
abbrev pub mark_left : Finding → Option Mark
mark_left (Ended mark) = Some mark
mark_left _ = None

-- this holds of the mark of a verdict
abbrev pub IfEnded : Finding → (Mark → Type 0) → Type 0
IfEnded (Ended mark) Fact = Fact mark
IfEnded _ Fact = Unit {0}
