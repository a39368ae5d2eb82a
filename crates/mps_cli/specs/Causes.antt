-- Why a job ends with a status, by what the words ask for and by what the devices count and gain.
--     HasCause request .. status     why a job ends with a status
--     IsPunched request .. status    nothing is punched but in a run
use Rattle.std.specs.Prelude.{◌≡◌, ℕ, List, Option, None, Some, IfSome}
use Rattle.deck_definitions.specs.Transport.{made_job}
use Rattle.control_definitions.specs.Program.{Program}
use Rattle.listing_definitions.specs.Ending.{WordsRefused}
use Rattle.listing_definitions.specs.Ending as endings
use Rattle.listing_definitions.specs.Listing.{ending_text}
use Rattle.run_definitions.specs.Answer.{IsProgramOf}
use Rattle.control_run.specs.Statuses.{IsStatusOfRun}
use Rattle.control_run.specs.declared.status.RunStatus.{RunStatus}
use Rattle.control_run.specs.declared.status.RunStatus.TheVariants.{Words, ReadFault, PrintFault, PunchFault, Memory}
use Rattle.command_line.specs.declared.request.Request.{Request}
use Rattle.command_line.specs.declared.request.Request.TheVariants as request

-- the whole job is at hand: it is read, or made
abbrev pub IsAtHand : Option Request → Type 0 → Type 0
IsAtHand None is_read = ⊥
IsAtHand (Some request.Read) is_read = is_read
IsAtHand (Some (request.Make size)) is_read = Unit {0}

-- Where a write to the print fails, the whole job is at hand before; unless what was being printed is that the words are refused, that a
-- read has failed, or that there is no memory: then all that the print has gained is a prefix of that line.
pub data IsPrintedAfter (asked : Option Request) (read_failed is_read : Type 0) (GainsPrefixOf : List ℕ → Type 0) : Type 0 where
  at_hand : IsAtHand asked is_read → IsPrintedAfter asked read_failed is_read GainsPrefixOf
  refused_words : asked ≡ None → GainsPrefixOf (ending_text WordsRefused) → IsPrintedAfter asked read_failed is_read GainsPrefixOf
  a_read_fault : asked ≡ Some request.Read → read_failed → GainsPrefixOf (ending_text endings.ReadFault) →
      IsPrintedAfter asked read_failed is_read GainsPrefixOf
  no_memory : GainsPrefixOf (ending_text endings.Memory) → IsPrintedAfter asked read_failed is_read GainsPrefixOf

-- The words may be refused. A job that they ask to read is read, and a read may fail; whatever else ends a job comes when the whole job
-- is at hand, and so does a write to the punch that fails. A write to the print may fail, and memory may be wanted, at any time.
abbrev pub HasCause : Option Request → Type 0 → Type 0 → Type 0 → Type 0 → (List ℕ → Type 0) → RunStatus → Type 0
HasCause asked read_failed is_read print_failed punch_failed GainsPrefixOf Words = asked ≡ None
HasCause asked read_failed is_read print_failed punch_failed GainsPrefixOf ReadFault = (asked ≡ Some request.Read) × read_failed
HasCause asked read_failed is_read print_failed punch_failed GainsPrefixOf PrintFault = print_failed × IsPrintedAfter asked read_failed is_read GainsPrefixOf
HasCause asked read_failed is_read print_failed punch_failed GainsPrefixOf PunchFault = IsAtHand asked is_read × punch_failed
HasCause asked read_failed is_read print_failed punch_failed GainsPrefixOf Memory = Unit {0}
HasCause asked read_failed is_read print_failed punch_failed GainsPrefixOf status = IsAtHand asked is_read

-- the bytes of the job, where they are known: those that the source tells, or those of the generated job
abbrev pub bytes_at_hand : Option Request → Option (List ℕ) → Option (List ℕ)
bytes_at_hand None reported = None
bytes_at_hand (Some request.Read) reported = reported
bytes_at_hand (Some (request.Make size)) reported = Some (made_job size)

-- The punch is as it was; or the whole job is at hand, its cards begin with a program, where they are known, and the status is one that
-- the run of a program may have.
pub data IsPunched (asked : Option Request) (reported : Option (List ℕ)) (is_read is_same : Type 0) (status : RunStatus) : Type 0 where
  nothing : is_same → IsPunched asked reported is_read is_same status
  in_run : (program : Program) → IsAtHand asked is_read → IfSome (bytes_at_hand asked reported) (λ bytes. IsProgramOf bytes program) →
      IsStatusOfRun status → IsPunched asked reported is_read is_same status
