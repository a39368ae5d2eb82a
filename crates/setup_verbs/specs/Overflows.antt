-- What a refused operation comes to at a basis.
use Rattle.std.specs.Prelude.{◌≡◌, List, Some, Result, Ok, Err}
use Rattle.lp_definitions.specs.Basis.{Basics, basics_of}
use Rattle.lp_definitions.specs.Waypoints.{waypoint}
use Rattle.lp_definitions.specs.declared.Evidence.{Evidence}
use Rattle.question_definitions.specs.Answers.{Basis}
use Rattle.fitting_answers.specs.Fitting.{EvidenceFits}
use Rattle.run_machine.specs.declared.act.Halt.{Halt}
use Rattle.run_machine.specs.declared.act.Halt.TheVariants as halt
use Rattle.run_machine.specs.declared.end.Place.{Place as OwnPlace}
use Rattle.run_machine.specs.declared.finding.Finding.{Finding}
use Rattle.run_machine.specs.declared.finding.Finding.TheVariants.{Overflow}
use Rattle.run_machine.specs.Ends.{place_view}

-- an operation is refused, at this basis and this waypoint, and its evidence fits; or there is no memory
pub data IsOverflowAt (s : Basis) (after : List Basics) (e : Evidence) : Result Finding Halt → Type 0 where
  reported : (place : OwnPlace) →
      place_view place ≡ record { basis = s; way = waypoint (basics_of s) after e.way } → EvidenceFits e →
      IsOverflowAt s after e (Ok (Overflow e (Some place)))
  no_memory : IsOverflowAt s after e (Err halt.NoMemory)
