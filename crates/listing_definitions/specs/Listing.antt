-- The text of a run's end, and the listing of a run.
--     ending_text ending            the end's own lines
--     listing reports ending        the whole listing
use Rattle.std.specs.Prelude.{ℕ, Bool, true, false, List, [], ◌∷◌, ◌++◌, Option, Some, None, codes, map}
use Rattle.std.specs.List.{concat, flat_map}
use Rattle.lp_definitions.specs.declared.Evidence.{Evidence}
use Rattle.lp_definitions.specs.declared.Status.{Status}
use Rattle.lp_definitions.specs.declared.Status.TheVariants.{Bs, Ll, Ul, Fr}
use Rattle.card_definitions.specs.declared.CardFault.{CardFault}
use Rattle.card_definitions.specs.declared.CardFault.TheVariants.{TooLong, NotPrintable, CardTooLong}
use Rattle.listing_definitions.specs.Numbers.{digits, rational_text}
use Rattle.listing_definitions.specs.Report.{Report}
use Rattle.listing_definitions.specs.Ending.{DeckCardFault, Place, Overflow, Ending, Ended, WordsRefused, ControlStop, VerbStop, SingularStop, PriceStop}
use Rattle.listing_definitions.specs.Ending.{DeckStop, CardStop, LimitStop, StatementLimit, OverflowStop, ReadFault, PrintFault, PunchFault, Memory}
use Rattle.listing_definitions.specs.Ending.{verb_fault_number}
use Rattle.listing_definitions.specs.declared.VerbFault.TheVariants.{Singular, WrongPrices}
use Rattle.listing_definitions.specs.Text.{table_text, refused_text, report_text}

-- the number of a fault and the card on which it stands
abbrev pub fault_text : ℕ → ℕ → List ℕ
fault_text number card = concat (codes "FAULT " ∷ digits number ∷ codes " CARD " ∷ digits card ∷ [])

-- a number after its word, where there is one
abbrev pub labelled : List ℕ → Option ℕ → List ℕ
labelled word None = []
labelled word (Some number) = word ++ digits number

abbrev pub deck_stop_text : DeckCardFault → List ℕ
deck_stop_text fault =
    concat (codes "STOP 12 DECK " ∷ fault_text fault.fault fault.card ∷ labelled (codes " NUMBER ") fault.number ∷ labelled
    (codes " COLUMN ") fault.column ∷ codes "\n" ∷ [])

-- a job that is too long has no card to be named
abbrev pub card_stop_text : CardFault → List ℕ
card_stop_text TooLong = codes "STOP 13 CARD FAULT 2\n"
card_stop_text (CardTooLong card) = concat (codes "STOP 13 CARD " ∷ fault_text 3 card ∷ codes "\n" ∷ [])
card_stop_text (NotPrintable card) = concat (codes "STOP 13 CARD " ∷ fault_text 4 card ∷ codes "\n" ∷ [])

-- a letter for the status of each variable: B, L, U or F
abbrev pub status_letter : Status → ℕ
status_letter Bs = 66
status_letter Ll = 76
status_letter Ul = 85
status_letter Fr = 70

-- B for a basic, and N for a nonbasic
abbrev pub basic_letter : Bool → ℕ
basic_letter true = 66
basic_letter false = 78

abbrev pub basis_text : Option Place → List ℕ
basis_text None = codes "NONE"
basis_text (Some place) = map status_letter place.basis

abbrev pub way_text : Option Place → List ℕ
way_text None = codes "NONE"
way_text (Some place) = map basic_letter place.way

-- what an evidence names: its formula, the refused operation, and its numbers
abbrev pub evidence_text : Evidence → List ℕ
evidence_text e =
    concat (codes "F" ∷ digits e.formula ∷ codes " " ∷ refused_text e.refused ∷
    codes " P " ∷ digits e.p ∷ codes " Q " ∷ digits e.q ∷ codes " I " ∷ digits e.i ∷ codes " J " ∷ digits e.j ∷
    codes " TERM " ∷ digits e.term ∷ codes " THETA " ∷ rational_text e.theta ∷ [])

abbrev pub overflow_text : Overflow → List ℕ
overflow_text overflow =
    concat (codes "STOP 20 OVERFLOW " ∷ evidence_text overflow.evidence ∷ codes " CARD " ∷ digits overflow.card ∷ codes "\n" ∷
    codes "BASIS " ∷ basis_text overflow.place ∷ codes "\n" ∷ codes "WAY " ∷ way_text overflow.place ∷ codes "\n" ∷ [])

-- After a fault of the print nothing is written.
abbrev pub ending_text : Ending → List ℕ
ending_text (Ended code) = concat (codes "END " ∷ digits code ∷ codes "\n" ∷ [])
ending_text WordsRefused = codes "STOP 4 WORDS\n"
ending_text (ControlStop fault) = concat (codes "STOP 8 CONTROL " ∷ fault_text fault.number fault.card ∷ codes "\n" ∷ [])
ending_text (VerbStop fault) = concat (codes "STOP 10 VERB " ∷ fault_text (verb_fault_number fault.fault) fault.card ∷ codes "\n" ∷ [])
ending_text (SingularStop basis) =
    concat (codes "STOP 10 VERB " ∷ fault_text (verb_fault_number Singular) basis.card ∷ codes "\n" ∷ []) ++ table_text basis.lines
ending_text (PriceStop price) =
    concat (codes "STOP 10 VERB " ∷ fault_text (verb_fault_number WrongPrices) price.card ∷ codes " VARIABLE " ∷ digits price.variable ∷ codes "\n" ∷ [])
ending_text (DeckStop fault) = deck_stop_text fault
ending_text (CardStop fault) = card_stop_text fault
ending_text (LimitStop reached) = concat (codes "STOP 16 ITERATION LIMIT " ∷ digits reached.limit ∷ codes " CARD " ∷ digits reached.card ∷ codes "\n" ∷ [])
ending_text StatementLimit = codes "STOP 17 STATEMENT LIMIT\n"
ending_text (OverflowStop overflow) = overflow_text overflow
ending_text ReadFault = codes "STOP 24 READ FAULT\n"
ending_text PrintFault = []
ending_text PunchFault = codes "STOP 26 PUNCH FAULT\n"
ending_text Memory = codes "STOP 28 MEMORY\n"

-- the text of some reports, in order
abbrev pub reports_text : List Report → List ℕ
reports_text reports = flat_map report_text reports

-- The listing of a run is the text of its reports and of its end.
abbrev pub listing : List Report → Ending → List ℕ
listing reports ending = reports_text reports ++ ending_text ending
