-- What stands when a job has ended: what its print and its punch have gained.
--     IsOwnEnd reports cards ending     how a job ends where no device and no memory fails
--     StandsWhole, StandsAlone,         what may stand
--     StandsBrokenOff, StandsCutShort
--     StandsAfter job .. status ..      what stands after each status
--     StopLaws                          the law of the function of src/lib.rt
use Rattle.std.specs.Prelude.{◌≡◌, ℕ, ◌≤◌, List, [], ◌++◌, Some}
use Rattle.card_definitions.specs.declared.CardFault.{CardFault}
use Rattle.deck_definitions.specs.Written.{card_text}
use Rattle.control_definitions.specs.declared.ControlFault.{ControlFault}
use Rattle.listing_definitions.specs.Report.{Report}
use Rattle.listing_definitions.specs.Ending.{StatementFault, SingularBasis, WrongPrice, DeckCardFault, LimitReached, Overflow, Ending, Ended, WordsRefused}
use Rattle.listing_definitions.specs.Ending.{ControlStop, VerbStop, SingularStop, PriceStop, DeckStop, CardStop, LimitStop, StatementLimit, OverflowStop}
use Rattle.listing_definitions.specs.Ending.{ReadFault, PunchFault, Memory}
use Rattle.listing_definitions.specs.Listing.{ending_text, reports_text}
use Rattle.question_definitions.specs.Solving.{Solving}
use Rattle.answer_definitions.specs.Real.{linear_programming}
use Rattle.run_definitions.specs.Answer.{Job, WithoutBytes, Read, bytes_of, Failures, IsPunchedTo, IsJobRun, MayEnd, IsCutShort}

-- Where nothing fails a job ends with 0, 1 or 2, at a statement or a deck that is refused, at a singular
-- basis or wrong prices, at a limit, or with an overflow; or its cards or its control program are refused, before anything is reported.
abbrev pub IsOwnEnd : List Report → List (List ℕ) → Ending → Type 0
IsOwnEnd reports cards (Ended code) = code ≤ 2
IsOwnEnd reports cards (ControlStop fault) = (reports ≡ []) × (cards ≡ [])
IsOwnEnd reports cards (CardStop fault) = (reports ≡ []) × (cards ≡ [])
IsOwnEnd reports cards (VerbStop fault) = Unit {0}
IsOwnEnd reports cards (SingularStop basis) = Unit {0}
IsOwnEnd reports cards (PriceStop price) = Unit {0}
IsOwnEnd reports cards (DeckStop fault) = Unit {0}
IsOwnEnd reports cards (LimitStop reached) = Unit {0}
IsOwnEnd reports cards StatementLimit = Unit {0}
IsOwnEnd reports cards (OverflowStop overflow) = Unit {0}
IsOwnEnd reports cards _ = ⊥

module _ (S : Solving) (job : Job) (failures : Failures) (PrintGains PunchGains : List ℕ → Type 0) where
  -- The run of the job's bytes has this end, and its listing stands whole: the text of its reports and
  -- the lines of this end. So do all cards that it has punched.
  pub record StandsWhole (ending : Ending) : Type 0 where
    pub bytes : List ℕ
    pub of_job : bytes_of job ≡ Some bytes
    pub reports : List Report
    pub cards : List (List ℕ)
    pub runs : IsJobRun S bytes reports cards ending
    pub print_gains : PrintGains (reports_text reports ++ ending_text ending)
    pub punch_gains : PunchGains (card_text cards)

  -- The lines of this end stand alone, and nothing is punched.
  abbrev pub StandsAlone : Ending → Type 0
  StandsAlone ending = PrintGains (ending_text ending) × PunchGains []

  -- The run has been broken off. The text of its reports so far stands whole with the lines of this end,
  -- and so do all cards of those reports; then comes a prefix of the deck in hand, and no more.
  pub record StandsBrokenOff (ending : Ending) : Type 0 where
    pub reports : List Report
    pub cards : List (List ℕ)
    pub deck : List (List ℕ)
    pub may_end : MayEnd S job failures reports cards deck ending
    pub print_gains : PrintGains (reports_text reports ++ ending_text ending)
    pub punched : List ℕ
    pub is_punched : IsPunchedTo cards deck punched
    pub punch_gains : PunchGains punched

  -- The print has stopped in a report or in the lines of an end: all that comes before stands, with a
  -- prefix of this text, and the cards that are punched by then.
  pub record StandsCutShort (status : ℕ) : Type 0 where
    pub printed : List ℕ
    pub punched : List ℕ
    pub print_gains : PrintGains printed
    pub punch_gains : PunchGains punched
    pub is_cut_short : IsCutShort S job failures
        (record { status = status; printed = printed; punched = punched })

  -- WHAT STANDS AFTER EACH STATUS. A job of the words, of its cards or of its control program that is
  -- refused, and one of which a read fails, leaves the line of this stop alone. A job that ends by
  -- itself leaves its whole listing and all its cards. Where the punch fails, or memory runs out, it is
  -- broken off: the reports so far and the stop's line stand, and all cards of these reports, then a
  -- prefix of the deck in hand. Where the print fails, or runs out of memory itself, it has stopped in a
  -- report or in the lines of an end: all that comes before stands, with a prefix of this text, and the
  -- cards that are punched by then.
  pub data StandsAfter (status : ℕ) : Type 0 where
    ended : status ≤ 2 → StandsWhole (Ended status) → StandsAfter status
    words_refused : status ≡ 4 → job ≡ WithoutBytes → StandsAlone WordsRefused → StandsAfter status
    control_refused : (fault : ControlFault) → status ≡ 8 → StandsWhole (ControlStop fault) →
        StandsAlone (ControlStop fault) → StandsAfter status
    statement_refused : (fault : StatementFault) → status ≡ 10 → StandsWhole (VerbStop fault) →
        StandsAfter status
    basis_singular : (basis : SingularBasis) → status ≡ 10 → StandsWhole (SingularStop basis) →
        StandsAfter status
    prices_wrong : (price : WrongPrice) → status ≡ 10 → StandsWhole (PriceStop price) →
        StandsAfter status
    deck_refused : (fault : DeckCardFault) → status ≡ 12 → StandsWhole (DeckStop fault) →
        StandsAfter status
    cards_refused : (fault : CardFault) → status ≡ 13 → StandsWhole (CardStop fault) →
        StandsAlone (CardStop fault) → StandsAfter status
    iteration_limit : (reached : LimitReached) → status ≡ 16 → StandsWhole (LimitStop reached) →
        StandsAfter status
    statement_limit : status ≡ 17 → StandsWhole StatementLimit → StandsAfter status
    overflow : (overflow : Overflow) → status ≡ 20 → StandsWhole (OverflowStop overflow) →
        StandsAfter status
    read_fails : (bytes : List ℕ) → status ≡ 24 → job ≡ Read bytes → failures.read →
        StandsAlone ReadFault → StandsAfter status
    print_fails : status ≡ 25 → failures.print → StandsCutShort status → StandsAfter status
    punch_fails : status ≡ 26 → failures.punch → StandsBrokenOff PunchFault → StandsAfter status
    memory_wanted : status ≡ 28 → StandsBrokenOff Memory → StandsAfter status
    print_wants_memory : status ≡ 28 → failures.memory → StandsCutShort status → StandsAfter status

-- how a job ends where nothing fails
abbrev pub StopLaws : Type 0
StopLaws = (bytes : List ℕ) (reports : List Report) (cards : List (List ℕ)) (ending : Ending) →
    IsJobRun linear_programming bytes reports cards ending → IsOwnEnd reports cards ending
