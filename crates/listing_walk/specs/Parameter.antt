-- What a statement does with the value of the parameter in XPARAM.
--     use_of verb                  it begins a run there, sets it whatever stood there, or does neither
--     IsNoRun use                  it begins no run
--     as_next next_step                 where a statement leads that does neither
use Rattle.std.specs.Prelude.{ℕ}
use Rattle.control_definitions.specs.declared.NumberCell.{NumberCell}
use Rattle.control_definitions.specs.declared.NumberCell.TheVariants.{Xparam, Xparmax}
use Rattle.control_definitions.specs.Program.{Verb, Initialz, MoveNumber, Paraobj, Pararhs}
use Rattle.parametric_request.specs.declared.request.ParametricVerb.TheVariants as verbs
use Rattle.listing_walk.specs.declared.parameter.ParameterUse.{ParameterUse}
use Rattle.listing_walk.specs.declared.parameter.ParameterUse.TheVariants.{Reads, Sets, Neither}
use Rattle.listing_walk.specs.declared.walk_step.WalkStep.{WalkStep}
use Rattle.listing_walk.specs.declared.walk_step.WalkStep.TheVariants as walk_step

abbrev pub cell_use : NumberCell → ParameterUse
cell_use Xparam = Sets
cell_use Xparmax = Neither

abbrev pub use_of : Verb ℕ → ParameterUse
use_of Initialz = Sets
use_of (MoveNumber cell value) = cell_use cell
use_of Paraobj = Reads verbs.Paraobj
use_of Pararhs = Reads verbs.Pararhs
use_of verb = Neither

abbrev pub IsNoRun : ParameterUse → Type 0
IsNoRun (Reads verb) = ⊥
IsNoRun Sets = Unit {0}
IsNoRun Neither = Unit {0}

-- what stands in XPARAM stays there
abbrev pub as_next : WalkStep → WalkStep
as_next (walk_step.Leaves last) = walk_step.Next
as_next other = other
