-- What a check may answer to a job and a listing: the promise that each checker keeps.
--     words_text, ..               the lines that speak of no listing
--     MayPrint C bytes lines ..    what is printed, and the status with it
--     IsPrintCut C bytes lines ..  a prefix of it stands
--     IsCheckAnswer C bytes ..     what a call answers to a job and a listing, so far as its print tells what it gains
use Rattle.std.specs.Prelude.{◌≡◌, ℕ, List, [], Option, codes}
use Rattle.card_definitions.specs.Prefixes.{IsPrefix}
use Rattle.walk_definitions.specs.Checkers.{Checker}
use Rattle.walk_definitions.specs.Walker.{Found}
use Rattle.walk_definitions.specs.Found.{Answers, answer_text, answer_status}

abbrev pub words_text : List ℕ
words_text = codes "STOP 4 WORDS\n"

abbrev pub read_fault_text : List ℕ
read_fault_text = codes "STOP 24 READ FAULT\n"

abbrev pub listing_fault_text : List ℕ
listing_fault_text = codes "STOP 27 LISTING FAULT\n"

-- what has failed in a call: a read of the job, one of the listing, a write to the print; or the print has run out of memory
pub record CheckFailures : Type 1 where
  pub job : Type 0
  pub listing : Type 0
  pub print : Type 0
  pub memory : Type 0

module _ (C : Checker) (bytes lines : List ℕ) (failures : CheckFailures) where
  -- what is printed where the print takes it: that a read has failed, or what the listing is found to be
  pub data MayPrint : ℕ → List ℕ → Type 0 where
    job_fails : failures.job → MayPrint 24 read_fault_text
    listing_fails : failures.listing → MayPrint 27 listing_fault_text
    answers : (answer : Option Found) → Answers C bytes lines answer → MayPrint (answer_status answer) (answer_text lines answer)

  -- a prefix of such a text stands
  pub record IsPrintCut (Prints : List ℕ → Type 0) : Type 0 where
    pub own : ℕ
    pub text : List ℕ
    pub may_print : MayPrint own text
    pub part : List ℕ
    pub is_prefix : IsPrefix part text
    pub prints : Prints part

  -- THE ANSWER. The text stands whole, with its status; or there is no memory, and nothing stands; or the print has failed, or wanted
  -- memory itself, and a prefix stands.
  pub data IsCheckAnswer (status : ℕ) (Prints : List ℕ → Type 0) : Type 0 where
    whole : (text : List ℕ) → MayPrint status text → Prints text → IsCheckAnswer status Prints
    memory : status ≡ 28 → Prints [] → IsCheckAnswer status Prints
    print_fails : failures.print → status ≡ 25 → IsPrintCut Prints → IsCheckAnswer status Prints
    print_wants_memory : failures.memory → status ≡ 28 → IsPrintCut Prints → IsCheckAnswer status Prints
