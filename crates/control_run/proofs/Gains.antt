-- The texts of gains, and what the punch gains by an end.
use Rattle.std.proofs.Common.{◌≡◌, ℕ, List, [], ◌∷◌, ◌++◌, Option, refl, sym, ap, ◌∙◌, append-nil}
use Rattle.std.specs.Io.KnownBytes.{Appends}
use Rattle.std.proofs.lemmas.List.Concat.{flat_map-append}
use Rattle.job_devices.proofs.TextLemmas.{Appends-then}
use Rattle.job_devices.specs.Text.{AppendsPrefix}
use Rattle.deck_definitions.specs.Written.{card_text}
use Rattle.listing_definitions.specs.Report.{Report}
use Rattle.listing_definitions.specs.Ending.{Ending, Ended, WordsRefused, ControlStop, VerbStop, SingularStop, PriceStop, DeckStop, CardStop, LimitStop}
use Rattle.listing_definitions.specs.Ending.{StatementLimit, OverflowStop, ReadFault, PrintFault, PunchFault, Memory}
use Rattle.listing_definitions.specs.Text.{report_text}
use Rattle.listing_definitions.specs.Listing.{reports_text}
use Rattle.run_definitions.specs.Moves.{Gain, Nothing, Prints, Punches, printed_by, gain_text}
use Rattle.run_definitions.specs.Answer.{IsPunchedTo, Gains}
use Rattle.control_run.specs.Running.{GainsBy}

pub printed_text : (gain : Gain) → reports_text (printed_by gain) ≡ gain_text gain
printed_text Nothing = refl
printed_text (Prints report) = append-nil (report_text report)
printed_text (Punches report cards) = append-nil (report_text report)

-- the reports so far, and what a gain adds
pub reports_text_more : (reports : List Report) (gain : Gain) → reports_text reports ++ gain_text gain ≡ reports_text (reports ++ printed_by gain)
reports_text_more reports gain = ap (λ t. reports_text reports ++ t) (sym (printed_text gain)) ∙ sym (flat_map-append report_text reports (printed_by gain))

-- the text of some cards and of more
pub card_text_more : (cards more : List (List ℕ)) → card_text cards ++ card_text more ≡ card_text (cards ++ more)
card_text_more cards more = sym (flat_map-append (λ (card : List ℕ). card ++ 10 ∷ []) cards more)

-- ---- the punch

-- where no deck is in hand all is gained
gains_all : (ending : Ending) (cards : List (List ℕ)) → Gains ending cards [] (card_text cards)
gains_all PunchFault cards = record { part = []; is_prefix = ([], refl); is_gained = sym (append-nil (card_text cards)) }
gains_all Memory cards = record { part = []; is_prefix = ([], refl); is_gained = sym (append-nil (card_text cards)) }
gains_all (Ended code) cards = refl
gains_all WordsRefused cards = refl
gains_all (ControlStop fault) cards = refl
gains_all (VerbStop fault) cards = refl
gains_all (SingularStop basis) cards = refl
gains_all (PriceStop price) cards = refl
gains_all (DeckStop fault) cards = refl
gains_all (CardStop fault) cards = refl
gains_all (LimitStop reached) cards = refl
gains_all StatementLimit cards = refl
gains_all (OverflowStop overflow) cards = refl
gains_all ReadFault cards = refl
gains_all PrintFault cards = refl

pub gains_whole : (ending : Ending) (old new : Option (List ℕ)) (cards : List (List ℕ)) → Appends old new (card_text cards) → GainsBy ending cards [] old new
gains_whole ending old new cards appends = (card_text cards, appends, gains_all ending cards)

-- where the punch stops in a deck, all cards before are gained, and a prefix of the deck
punched_to : (old now new : Option (List ℕ)) (cards deck : List (List ℕ)) → Appends old now (card_text cards) → AppendsPrefix now new (card_text deck) →
    (gained : List ℕ) × Appends old new gained × IsPunchedTo cards deck gained
punched_to old now new cards deck before prefix = (
  card_text cards ++ prefix.0,
  Appends-then old now new (card_text cards) prefix.0 before prefix.2,
  record { part = prefix.0; is_prefix = prefix.1; is_gained = refl },
)

pub gains_part_at_fault : (old now new : Option (List ℕ)) (cards deck : List (List ℕ)) → Appends old now (card_text cards) →
    AppendsPrefix now new (card_text deck) → GainsBy PunchFault cards deck old new
gains_part_at_fault old now new cards deck before prefix = punched_to old now new cards deck before prefix

pub gains_part_for_memory : (old now new : Option (List ℕ)) (cards deck : List (List ℕ)) → Appends old now (card_text cards) →
    AppendsPrefix now new (card_text deck) → GainsBy Memory cards deck old new
gains_part_for_memory old now new cards deck before prefix = punched_to old now new cards deck before prefix
