-- What SETUP has chosen so far, and how one more choice adds to it.
use Rattle.std.specs.Prelude.{ℕ, List, [], ◌∷◌, Option, Some, None, is_some, is_none, drop, if◌then◌else◌, option_and_then, unwrap_or}
use Rattle.std.specs.Option.{option_or}
use Rattle.lp_definitions.specs.declared.Sense.TheVariants.{Min}
use Rattle.control_definitions.specs.Program.{SetupOptions}
use Rattle.control_definitions.specs.Arguments as arguments
use Rattle.control_verbs.specs.declared.options.SetKind.{SetKind}
use Rattle.control_verbs.specs.declared.options.SetKind.TheVariants.{Bound, Range}
use Rattle.control_verbs.specs.declared.options.SetupArgument.{SetupArgument}
use Rattle.control_verbs.specs.declared.options.SetupArgument.TheVariants.{BoundSet, RangeSet, Direction}
use Rattle.control_verbs.specs.declared.options.Chosen.{Chosen}

abbrev pub set_view : SetKind → List ℕ → arguments.SetupArgument
set_view Bound = arguments.BoundSet
set_view Range = arguments.RangeSet

abbrev pub choice_view : SetupArgument → arguments.SetupArgument
choice_view (BoundSet name) = arguments.BoundSet name
choice_view (RangeSet name) = arguments.RangeSet name
choice_view (Direction sense) = arguments.Direction sense

-- the choice that a list of arguments begins with: of a sense, or of a set with its name
abbrev pub first_choice : List (List ℕ) → Option arguments.SetupArgument
first_choice [] = None
first_choice (word ∷ []) = arguments.sense_choice word
first_choice (word ∷ next ∷ parts) = option_or (arguments.sense_choice word) (arguments.set_choice word next)

-- the arguments after it
abbrev pub after_first_word : List (List ℕ) → List (List ℕ)
after_first_word [] = []
after_first_word (word ∷ parts) = if is_some (arguments.sense_choice word) then parts else drop 1 parts

abbrev pub nothing_chosen : Chosen
nothing_chosen = record { bound = None; range = None; sense = None }

-- one more choice, of a kind that isn't chosen yet
abbrev pub added : Chosen → arguments.SetupArgument → Option Chosen
added so_far (arguments.BoundSet name) = if is_none so_far.bound then Some (record so_far { bound = Some name }) else None
added so_far (arguments.RangeSet name) = if is_none so_far.range then Some (record so_far { range = Some name }) else None
added so_far (arguments.Direction sense) = if is_none so_far.sense then Some (record so_far { sense = Some sense }) else None

abbrev pub all_added : Chosen → List arguments.SetupArgument → Option Chosen
all_added so_far [] = Some so_far
all_added so_far (choice ∷ choices) = option_and_then (λ more. all_added more choices) (added so_far choice)

-- the options, once all choices are made
abbrev pub chosen_options : Chosen → SetupOptions
chosen_options so_far = record { bound = so_far.bound; range = so_far.range; sense = unwrap_or so_far.sense Min }
