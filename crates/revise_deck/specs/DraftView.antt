-- The state that a draft stands for, and its problem.
use Rattle.problem_definitions.specs.Names.{Name}
use Rattle.problem_definitions.specs.Problem.{Problem}
use Rattle.revise_deck.specs.State.{State}
use Rattle.revise_deck.specs.declared.draft.ReviseDraft.{ReviseDraft}

abbrev pub state_view : ReviseDraft → State
state_view draft = record { style = draft.style; section = draft.section; action = draft.action; under = draft.under; problem = draft.problem }

-- its problem under this name
abbrev pub problem_named : Name → ReviseDraft → Problem Name
problem_named name draft = record draft.problem { name = name }
