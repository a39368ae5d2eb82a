-- What a listing of a job is found to be.
--     Reaches C program decks listing w    the walk of a checker comes so far
--     EndsIn C bytes listing found          a listing of a job is found so
--     Answers C bytes listing answer       it is too long, or what it is found to be
--     line_number listing rest             the line that begins where so much is left
--     answer_text listing answer           what is printed of it
use Rattle.std.specs.Prelude.{◌≡◌, ℕ, ◌+◌, ◌-◌, ◌≤◌, ◌<◌, ◌==◌, List, [], ◌∷◌, Option, Some, None, Err, length, filter, codes}
use Rattle.std.specs.List.{concat}
use Rattle.card_definitions.specs.declared.CardFault.{CardFault}
use Rattle.card_definitions.specs.Cards.{Card, cards_of, job_fault}
use Rattle.control_definitions.specs.declared.ControlFault.{ControlFault}
use Rattle.control_definitions.specs.Program.{Program}
use Rattle.control_definitions.specs.Compiled.{compiled}
use Rattle.listing_definitions.specs.Numbers.{digits}
use Rattle.listing_definitions.specs.Ending.{ControlStop, CardStop}
use Rattle.run_definitions.specs.State.{start}
use Rattle.run_definitions.specs.Answer.{job_decks, IsProgramOf}
use Rattle.walk_definitions.specs.Checkers.{Checker}
use Rattle.walk_definitions.specs.Walker.{Walker, Found, Attested, Wrong, Open, Unchecked, Walks, Finds, closes, turn}

-- before the first statement
abbrev pub first_walker : List (List Card) → List ℕ → Walker
first_walker decks listing = record { state = start decks; pending = None; rest = listing; reports = 0 }

pub data Reaches (C : Checker) (program : Program) (decks : List (List Card)) (listing : List ℕ) : Walker → Type 0 where
  begun : Reaches C program decks listing (first_walker decks listing)
  walked : {w v : Walker} → Reaches C program decks listing w → turn C program w ≡ Walks v → Reaches C program decks listing v

-- a job whose cards or control program are refused has this one end
pub data EndsIn (C : Checker) (bytes listing : List ℕ) (found : Found) : Type 0 where
  of_cards : (fault : CardFault) → job_fault bytes ≡ Some fault → closes (first_walker [] listing) (CardStop fault) ≡ Finds found → EndsIn C bytes listing found
  of_control : (fault : ControlFault) → job_fault bytes ≡ None → compiled (cards_of bytes) ≡ Err fault →
      closes (first_walker [] listing) (ControlStop fault) ≡ Finds found → EndsIn C bytes listing found
  of_walk : (program : Program) (w : Walker) → IsProgramOf bytes program → Reaches C program (job_decks program bytes) listing w →
      turn C program w ≡ Finds found → EndsIn C bytes listing found

abbrev pub max_listing : ℕ
max_listing = 64000000

pub data Answers (C : Checker) (bytes listing : List ℕ) : Option Found → Type 0 where
  too_long : max_listing < length listing → Answers C bytes listing None
  is_found : {found : Found} → length listing ≤ max_listing → EndsIn C bytes listing found → Answers C bytes listing (Some found)

-- ---- what is printed

abbrev pub line_feeds : List ℕ → ℕ
line_feeds bytes = length (filter (λ byte. byte == 10) bytes)

abbrev pub line_number : List ℕ → List ℕ → ℕ
line_number listing rest = line_feeds listing - line_feeds rest + 1

abbrev pub line_text : List ℕ → List ℕ → List ℕ → List ℕ
line_text word listing rest = concat (word ∷ codes " LINE " ∷ digits (line_number listing rest) ∷ codes "\n" ∷ [])

abbrev pub answer_text : List ℕ → Option Found → List ℕ
answer_text listing None = codes "LONG LISTING\n"
answer_text listing (Some (Attested reports)) = concat (codes "ATTESTED " ∷ digits reports ∷ codes " REPORTS\n" ∷ [])
answer_text listing (Some (Wrong rest)) = line_text (codes "WRONG") listing rest
answer_text listing (Some (Open rest)) = line_text (codes "OPEN") listing rest
answer_text listing (Some (Unchecked rest)) = line_text (codes "UNCHECKED") listing rest

abbrev pub answer_status : Option Found → ℕ
answer_status None = 43
answer_status (Some (Attested reports)) = 0
answer_status (Some (Wrong rest)) = 40
answer_status (Some (Open rest)) = 41
answer_status (Some (Unchecked rest)) = 42
