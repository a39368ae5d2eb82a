-- What an answer to a job says of the job's runs.
--     IsCutOff failures status        a device has failed or memory has run out, and the status says so
--     IsBrokenOff bytes status ..     the status is 20, and a run that stops with an overflow is the
--                                     beginning of another one
--     IsDecided job ..                each run that doesn't stop with an overflow decides the answer
use Rattle.std.specs.Prelude.{◌≡◌, ◌⊎◌, ℕ, List, Some}
use Rattle.deck_definitions.specs.Written.{card_text}
use Rattle.listing_definitions.specs.Report.{Report}
use Rattle.listing_definitions.specs.Ending.{Overflow, Ending, OverflowStop, ReadFault, PrintFault, PunchFault, Memory, status_of}
use Rattle.listing_definitions.specs.Listing.{listing}
use Rattle.question_definitions.specs.Solving.{Solving}
use Rattle.run_definitions.specs.Answer.{Job, bytes_of, Failures, IsJobRun}
use Rattle.determinism_laws.specs.Laws.{IsOverflow, Continues}

-- A read of the job has failed, and the status is 24; or a write to the print, and it is 25; or a
-- write to the punch, and it is 26; or it is 28: memory runs out.
pub data IsCutOff (failures : Failures) (status : ℕ) : Type 0 where
  read_failed : failures.read → status ≡ status_of ReadFault → IsCutOff failures status
  print_failed : failures.print → status ≡ status_of PrintFault → IsCutOff failures status
  punch_failed : failures.punch → status ≡ status_of PunchFault → IsCutOff failures status
  memory_wanted : status ≡ status_of Memory → IsCutOff failures status

module _ (S : Solving) where
  -- The status is 20. The print gains the whole listing of a run that stops with an overflow, and the
  -- punch all its cards; and the run with these reports and these cards goes on where it stops.
  pub record IsBrokenOff (bytes : List ℕ) (reports : List Report) (cards : List (List ℕ)) (status : ℕ)
      (PrintGains PunchGains : List ℕ → Type 0) : Type 0 where
    pub first_reports : List Report
    pub first_cards : List (List ℕ)
    pub overflow : Overflow
    pub runs : IsJobRun S bytes first_reports first_cards (OverflowStop overflow)
    pub goes_on : Continues first_reports reports first_cards cards
    pub is_status : status ≡ status_of (OverflowStop overflow)
    pub print_gains : PrintGains (listing first_reports (OverflowStop overflow))
    pub punch_gains : PunchGains (card_text first_cards)

  -- WHAT A STATUS DECIDES. Take any run of the job's bytes that doesn't stop with an overflow. The status
  -- is that of its end, the print gains its whole listing, and the punch all its cards; or the status is
  -- 20, and this run was broken off; or a device fails or memory runs out. So each of 0, 1, 2, 8, 10, 12,
  -- 13, 16 and 17 is answered exactly where the run ends so, and yields to nothing else.
  abbrev pub IsDecided : Job → Failures → ℕ → (List ℕ → Type 0) → (List ℕ → Type 0) → Type 0
  IsDecided job failures status PrintGains PunchGains = (bytes : List ℕ) (reports : List Report)
      (cards : List (List ℕ)) (ending : Ending) → bytes_of job ≡ Some bytes →
      IsJobRun S bytes reports cards ending → (IsOverflow ending → ⊥) →
      ((status ≡ status_of ending) × PrintGains (listing reports ending) × PunchGains (card_text cards)) ⊎
      (IsBrokenOff bytes reports cards status PrintGains PunchGains ⊎ IsCutOff failures status)
