-- What a check comes to, by what its reads have come to.
--     Reads                        what the reads of the job and of the listing have come to
--     IsDue C reads text status    this line is due, with this status
--     Tells C reads .. status      it is printed, or the print stops in it; or there is no memory, and nothing is printed
use Rattle.std.specs.Prelude.{◌≡◌, ℕ, List, Option}
use Rattle.job_devices.specs.States.{SinkState}
use Rattle.walk_definitions.specs.Checkers.{Checker}
use Rattle.walk_definitions.specs.Walker.{Found}
use Rattle.walk_definitions.specs.Found.{Answers, answer_text}
use Rattle.listing_check.specs.declared.status.CheckStatus.{CheckStatus}
use Rattle.listing_check.specs.declared.status.CheckStatus.TheVariants.{ReadFault, ListingFault, Memory}
use Rattle.listing_check.specs.Statuses.{status_of}
use Rattle.listing_check.specs.Devices.{EndsWith}
use Rattle.listing_check.specs.Answer.{read_fault_text, listing_fault_text}

-- Whether a read of the job has failed, its count of faults is as before, and it is read whole; and so of the listing, of which also
-- whether it wasn't touched. And which bytes are those of the job, and which those of the listing, so far as they are known.
pub record Reads : Type 1 where
  pub job_fails : Type 0
  pub job_quiet : Type 0
  pub job_read : Type 0
  pub listing_fails : Type 0
  pub listing_quiet : Type 0
  pub listing_read : Type 0
  pub listing_same : Type 0
  pub is_job : List ℕ → Type 0
  pub is_listing : List ℕ → Type 0

module _ (C : Checker) (reads : Reads) where
  -- the listing isn't touched before the job is read whole, and nothing is compared before the listing is
  pub data IsDue : List ℕ → CheckStatus → Type 0 where
    job_fault : reads.job_fails → reads.listing_same → IsDue read_fault_text ReadFault
    listing_fault : reads.job_quiet → reads.job_read → reads.listing_fails → IsDue listing_fault_text ListingFault
    found : (answer : Option Found) (text : List ℕ) → reads.job_quiet → reads.job_read → reads.listing_quiet → reads.listing_read →
        ((bytes lines : List ℕ) → reads.is_job bytes → reads.is_listing lines → Answers C bytes lines answer × (text ≡ answer_text lines answer)) →
        IsDue text (status_of answer)

  pub data Tells (old new : SinkState) (status : CheckStatus) : Type 0 where
    no_memory : status ≡ Memory → new ≡ old → reads.job_quiet → reads.listing_quiet → Tells old new status
    says : (text : List ℕ) (own : CheckStatus) → IsDue text own → EndsWith old new text own status →
        Tells old new status
