-- The machine of a run, as contracts see it, whichever engine has the rates.
use Rattle.run_machine.specs.declared.machine.Machine as machines
use Rattle.setup_verbs.specs.declared.setup.Opened as openings
use Rattle.setup_verbs.specs.Kept.{Setup}

abbrev pub Machine : Type 0
Machine = machines.Machine Setup

-- what SETUP opens with
abbrev pub Opened : Type 0
Opened = openings.Opened Setup
