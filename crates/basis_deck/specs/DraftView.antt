-- The state that a draft stands for.
use Rattle.basis_deck.specs.Reading.{State}
use Rattle.basis_deck.specs.declared.draft.BasisDraft.{BasisDraft}

abbrev pub state_view : BasisDraft → State
state_view draft =
    record { problem = draft.problem.now; lp = draft.lp.now; section = draft.section; statuses = draft.statuses.items; marks = draft.marks.items }
