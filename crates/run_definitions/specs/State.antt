-- The state of a run.
--     Present               the setup, with the basis that SETUP or INSERT gave it and the path of bases since then
--     State, start          all that a statement may see and change
--     problem_of            the filed problem that a verb works on
use Rattle.std.specs.Prelude.{ℕ, List, [], ◌∷◌, ◌++◌, Option, Some, None, find}
use Rattle.card_definitions.specs.Cards.{Card}
use Rattle.problem_definitions.specs.Names.{Name, same}
use Rattle.problem_definitions.specs.Problem.{Problem}
use Rattle.control_definitions.specs.Program.{SetupOptions}
use Rattle.selection_definitions.specs.Choice.{Choice}
use Rattle.listing_definitions.specs.declared.Mark.{Mark}
use Rattle.simplex_definitions.specs.Path.{last_of}
use Rattle.question_definitions.specs.Answers.{Basis}
use Rattle.control_definitions.specs.Cells.{Cells, default_cells}

-- the problem and options that SETUP kept, the basis with which SETUP or the last INSERT opened, and the bases since then, one a step
pub record Present : Type 0 where
  pub problem : Problem ℕ
  pub options : SetupOptions
  pub opening : Basis
  pub steps : List Basis

-- the basis that was reached last
abbrev pub present_basis : Present → Basis
present_basis present = last_of present.opening present.steps

-- all bases since the last SETUP or INSERT, in order
abbrev pub path_of : Present → List Basis
path_of present = present.opening ∷ present.steps

-- the setup, after a path went through these bases
abbrev pub gone_through : List Basis → Present → Present
gone_through bases present = record present { steps = present.steps ++ bases }

-- The position of the next statement, the number of statements executed, cells and demands, the filed problems with the one put
-- last in front, the decks left, the setup, and the mark.
pub record State : Type 0 where
  pub position : ℕ
  pub executed : ℕ
  pub cells : Cells
  pub file : List (Problem ℕ)
  pub decks : List (List Card)
  pub setup : Option Present
  pub mark : Option Mark

-- A run starts at statement 1 with the defaults, an empty file, no setup and no mark.
abbrev pub start : List (List Card) → State
start decks = record { position = 1; executed = 0; cells = default_cells; file = []; decks = decks; setup = None; mark = None }

-- the problem put last under a name, or the one put last of all where no name is moved
abbrev pub problem_of : Option Name → List (Problem ℕ) → Option (Problem ℕ)
problem_of (Some name) file = find (λ problem. same name problem.name) file
problem_of None [] = None
problem_of None (problem ∷ file) = Some problem

-- what the present cells choose with a setup's options
abbrev pub choice_of : Cells → SetupOptions → Choice
choice_of cells options = record { objective = cells.xobj; rhs = cells.xrhs; options = options }
