-- An answer to a job is decided by its own run.
use Rattle.std.proofs.Common.{◌≡◌, ◌⊎◌, inl, inr, ℕ, List}
use Rattle.listing_definitions.specs.Listing.{listing}
use Rattle.listing_definitions.specs.Ending.{status_of}
use Rattle.deck_definitions.specs.Written.{card_text}
use Rattle.question_definitions.specs.Solving.{Solving}
use Rattle.run_definitions.specs.Answer.{Job, Failures, IsAnswered}
use Rattle.determinism_laws.specs.Laws.{IsFunction}
use Rattle.determinism_laws.specs.Decided.{IsCutOff, IsBrokenOff}
use Rattle.determinism_laws.proofs.Decided.{answer_is_decided}
use Rattle.one_run_laws.specs.Laws.{OwnRun, HasOwnRun, IsOfRun, StoppedShort, IsAnsweredOnce}
use Rattle.one_run_laws.proofs.Stopping.{meets_evidence}

pub answered_once : (S : Solving) → IsFunction S → HasOwnRun S → (job : Job) (failures : Failures) (status : ℕ) (PrintGains PunchGains : List ℕ → Type 0) →
    IsAnswered S job failures status PrintGains PunchGains → IsAnsweredOnce S job failures status PrintGains PunchGains
answered_once S function owns job failures status PrintGains PunchGains answer bytes of_job = (own, by decided)
  where
    own : OwnRun S bytes
    own = owns bytes

    decided : ((status ≡ status_of own.ending) × PrintGains (listing own.reports own.ending) × PunchGains (card_text own.cards)) ⊎
        (IsBrokenOff S bytes own.reports own.cards status PrintGains PunchGains ⊎ IsCutOff failures status)
    decided =
        answer_is_decided S job failures status PrintGains PunchGains answer.0 answer.1 function answer.2 answer.3 answer.4 bytes own.reports own.cards
        own.ending of_job own.is_own.runs own.is_own.fits

    by : (((status ≡ status_of own.ending) × PrintGains (listing own.reports own.ending) × PunchGains (card_text own.cards)) ⊎
        (IsBrokenOff S bytes own.reports own.cards status PrintGains PunchGains ⊎ IsCutOff failures status)) →
        IsOfRun own.reports own.cards own.ending status PrintGains PunchGains ⊎
        (StoppedShort S bytes own status PrintGains PunchGains ⊎ IsCutOff failures status)
    by (inl is) = inl (record { is_status = is.0; print_gains = is.1; punch_gains = is.2 })
    by (inr (inl off)) = inr (inl (record { broken_off = off; meets = meets_evidence S bytes off.overflow off.first_reports off.first_cards off.runs }))
    by (inr (inr cut)) = inr (inr cut)
