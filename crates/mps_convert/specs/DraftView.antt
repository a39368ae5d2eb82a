-- The problem that a draft stands for, and its state.
use Rattle.std.specs.Prelude.{[]}
use Rattle.problem_definitions.specs.Names.{Name}
use Rattle.problem_definitions.specs.Problem.{Problem}
use Rattle.mps_convert.specs.State.{State}
use Rattle.mps_convert.specs.declared.draft.DeckDraft.{DeckDraft}

-- under this name
abbrev pub problem_named : Name → DeckDraft → Problem Name
problem_named name draft = record { name = name; rows = draft.rows; columns = draft.columns; rhs = draft.rhs; ranges = draft.ranges; bounds = draft.bounds }

abbrev pub problem_view : DeckDraft → Problem Name
problem_view draft = problem_named [] draft

-- the section that goes on, the style of the deck, and that problem
abbrev pub state_view : DeckDraft → State
state_view draft = record { section = draft.section; style = draft.style; problem = problem_view draft }
