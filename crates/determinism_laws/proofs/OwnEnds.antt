-- How a job ends where no device and no memory fails.
use Rattle.std.proofs.Common.{ℕ, List, refl}
use Rattle.listing_definitions.specs.Report.{Report}
use Rattle.listing_definitions.specs.Ending.{Ending, Ended, WordsRefused, ControlStop, VerbStop, SingularStop, PriceStop, DeckStop, CardStop, LimitStop}
use Rattle.listing_definitions.specs.Ending.{StatementLimit, OverflowStop, ReadFault, PrintFault, PunchFault, Memory}
use Rattle.question_definitions.specs.Solving.{Solving}
use Rattle.run_definitions.specs.Answer.{IsJobRun, card_fault, control_fault, run}
use Rattle.determinism_laws.proofs.Stops.{IsEndOfRun, end_of_run}
use Rattle.determinism_laws.specs.Stands.{IsOwnEnd}

end_of_job : (reports : List Report) (cards : List (List ℕ)) (ending : Ending) → IsEndOfRun ending → IsOwnEnd reports cards ending
end_of_job reports cards (Ended code) own = own
end_of_job reports cards WordsRefused own = own
end_of_job reports cards (ControlStop fault) own = absurd own
end_of_job reports cards (VerbStop fault) own = own
end_of_job reports cards (SingularStop basis) own = own
end_of_job reports cards (PriceStop price) own = own
end_of_job reports cards (DeckStop fault) own = own
end_of_job reports cards (CardStop fault) own = absurd own
end_of_job reports cards (LimitStop reached) own = own
end_of_job reports cards StatementLimit own = own
end_of_job reports cards (OverflowStop overflow) own = own
end_of_job reports cards ReadFault own = own
end_of_job reports cards PrintFault own = own
end_of_job reports cards PunchFault own = own
end_of_job reports cards Memory own = own

pub own_end : (S : Solving) (bytes : List ℕ) (reports : List Report) (cards : List (List ℕ)) (ending : Ending) → IsJobRun S bytes reports cards ending →
    IsOwnEnd reports cards ending
own_end S bytes _ _ _ (card_fault fault is) = (refl, refl)
own_end S bytes _ _ _ (control_fault fault fine is) = (refl, refl)
own_end S bytes reports cards ending (run program is runs) = end_of_job reports cards ending (end_of_run S program _ reports cards ending runs)
