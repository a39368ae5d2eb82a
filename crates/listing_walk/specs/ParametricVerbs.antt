-- The verbs that make a parametric run.
--     beginning from cells         the cells, with this value in XPARAM
--     IsNotLast cells stop         there is no last value, or it is less than the first
--     finding_of answer            what was found, in the machine's words
--     left_by finding machine      the machine after it
--     IsUnasked stop next_step          no run is asked for, and the walk goes so
use Rattle.std.specs.Prelude.{ℕ, [], None}
use Rattle.exact_values.specs.Rational.{ℚ}
use Rattle.control_definitions.specs.Cells.{Cells}
use Rattle.run_machine.specs.declared.act.Act.TheVariants as acts
use Rattle.run_machine.specs.declared.end.End.TheVariants as ends
use Rattle.run_machine.specs.declared.finding.Finding.{Finding}
use Rattle.run_machine.specs.declared.finding.Finding.TheVariants.{Ended, RanThrough as Reached}
use Rattle.run_machine.specs.declared.machine.Machine.{Machine}
use Rattle.parametric_request.specs.declared.request.RequestStop.{RequestStop}
use Rattle.parametric_request.specs.declared.request.RequestStop.TheVariants as stops
use Rattle.parametric_request.specs.Asking.{IsLastFault}
use Rattle.listing_answers.specs.declared.answer.ParametricRunAnswer.{ParametricRunAnswer}
use Rattle.listing_answers.specs.declared.answer.ParametricRunAnswer.TheVariants.{Opened, RanThrough}
use Rattle.listing_walk.specs.declared.chosen.Chosen.{Chosen}
use Rattle.listing_walk.specs.declared.place.ListingPlace.{ListingPlace}
use Rattle.listing_walk.specs.declared.walk_step.WalkStep.{WalkStep}
use Rattle.listing_walk.specs.Walking.{Passes}

abbrev pub beginning : ℚ → Cells → Cells
beginning from cells = record cells { xparam = from }

-- memory may run out at any time
abbrev pub IsNotLast : Cells → RequestStop → Type 0
IsNotLast cells (stops.Fault fault) = IsLastFault cells fault
IsNotLast cells stops.NoMemory = Unit {0}

abbrev pub finding_of : ParametricRunAnswer → Finding
finding_of (Opened mark) = Ended mark
finding_of (RanThrough last) = Reached last

-- no mark is left, and a last value stands in XPARAM
abbrev pub left_by : Finding → Machine Chosen → Machine Chosen
left_by (Reached last) machine = record machine { cells = record (machine.cells) { xparam = last }; mark = None }
left_by finding machine = record machine { mark = None }

abbrev pub IsUnasked : Machine Chosen → ListingPlace → ListingPlace → ℕ → RequestStop → WalkStep → Type 0
IsUnasked machine old new card (stops.Fault fault) next_step = Passes machine old new (acts.Ends (ends.Verb fault card)) [] next_step
IsUnasked machine old new card stops.NoMemory next_step = ⊥
