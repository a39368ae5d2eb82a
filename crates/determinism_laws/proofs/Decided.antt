-- A run that doesn't stop with an overflow decides what its job is answered.
use Rattle.std.proofs.Common.{◌≡◌, ◌⊎◌, ℕ, List, [], Some, inl, inr, sym, ap, subst, ◌∙◌}
use Rattle.deck_definitions.specs.Written.{card_text}
use Rattle.listing_definitions.specs.Report.{Report}
use Rattle.listing_definitions.specs.Ending.{Ending, Ended, WordsRefused, ControlStop, VerbStop, SingularStop, PriceStop, DeckStop, CardStop, LimitStop}
use Rattle.listing_definitions.specs.Ending.{StatementLimit, OverflowStop, ReadFault, PrintFault, PunchFault, Memory, status_of}
use Rattle.listing_definitions.specs.Listing.{listing}
use Rattle.question_definitions.specs.Solving.{Solving}
use Rattle.run_definitions.specs.Answer.{Job, bytes_of, Failures, Gains, IsJobRun, MayEnd, words_refused, read_fails, by_itself, memory_at_start, memory_in_run}
use Rattle.run_definitions.specs.Answer.{memory_at_punch, punch_fails, IsAnswer, whole, print_fails, print_wants_memory}
use Rattle.determinism_laws.specs.Laws.{IsOverflow, AreSame, IsFunction}
use Rattle.determinism_laws.specs.Decided.{IsCutOff, read_failed, print_failed, punch_failed, memory_wanted, IsBrokenOff, IsDecided}
use Rattle.determinism_laws.proofs.Runs.{overflow_or_not}
use Rattle.determinism_laws.proofs.Stops.{IsOfItself, job_of_itself}

-- where a run ends by itself the punch gains all of its cards
all_gained : (ending : Ending) (cards deck : List (List ℕ)) (punched : List ℕ) → IsOfItself ending → Gains ending cards deck punched → punched ≡ card_text cards
all_gained (Ended code) cards deck punched own gains = gains
all_gained WordsRefused cards deck punched own gains = gains
all_gained (ControlStop fault) cards deck punched own gains = gains
all_gained (VerbStop fault) cards deck punched own gains = gains
all_gained (SingularStop basis) cards deck punched own gains = gains
all_gained (PriceStop price) cards deck punched own gains = gains
all_gained (DeckStop fault) cards deck punched own gains = gains
all_gained (CardStop fault) cards deck punched own gains = gains
all_gained (LimitStop reached) cards deck punched own gains = gains
all_gained StatementLimit cards deck punched own gains = gains
all_gained (OverflowStop overflow) cards deck punched own gains = gains
all_gained ReadFault cards deck punched own gains = absurd own
all_gained PrintFault cards deck punched own gains = absurd own
all_gained PunchFault cards deck punched own gains = absurd own
all_gained Memory cards deck punched own gains = absurd own

module _ (S : Solving) (function : IsFunction S) (job : Job) (failures : Failures) (status : ℕ) (PrintGains PunchGains : List ℕ → Type 0)
    (printed punched : List ℕ)
    (print_gains : PrintGains printed) (punch_gains : PunchGains punched) (bytes : List ℕ) (of_job : bytes_of job ≡ Some bytes)
    (reports : List Report) (cards : List (List ℕ)) (ending : Ending) (runs : IsJobRun S bytes reports cards ending) (nor : IsOverflow ending → ⊥) where
  -- the answer is that of this run; or it is broken off; or cut off
  abbrev IsOneOf : Type 0
  IsOneOf = ((status ≡ status_of ending) × PrintGains (listing reports ending) × PunchGains (card_text cards)) ⊎
      (IsBrokenOff S bytes reports cards status PrintGains PunchGains ⊎ IsCutOff failures status)

  -- the other run is the same, or stops with an overflow
  by_other : (others : List Report) (other_cards : List (List ℕ)) (other : Ending) → IsJobRun S bytes others other_cards other → status ≡ status_of other →
      printed ≡ listing others other →
      punched ≡ card_text other_cards → IsOverflow other ⊎ (IsOverflow other → ⊥) → IsOneOf
  by_other others other_cards other also is text all (inl stops) = inr (inl (record {
    first_reports = others;
    first_cards = other_cards;
    overflow = stops.0;
    runs = subst (λ e. IsJobRun S bytes others other_cards e) stops.1 also;
    goes_on = function.breaks_off bytes others reports other_cards cards other ending also runs nor;
    is_status = is ∙ ap status_of stops.1;
    print_gains = subst PrintGains (text ∙ ap (listing others) stops.1) print_gains;
    punch_gains = subst PunchGains all punch_gains;
  }))
  by_other others other_cards other also is text all (inr fits) =
      let same : AreSame others reports other_cards cards other ending = function.job bytes others reports other_cards cards other ending also runs fits nor in
      inl (
        is ∙ ap status_of same.same_ending,
        subst PrintGains (text ∙ ap (λ xs. listing xs other) same.same_reports ∙ ap (listing reports) same.same_ending) print_gains,
        subst PunchGains (all ∙ ap card_text same.same_cards) punch_gains,
      )

  decided_by_end : (others : List Report) (other_cards deck : List (List ℕ)) (other : Ending) → MayEnd S job failures others other_cards deck other →
      status ≡ status_of other → printed ≡ listing others other →
      Gains other other_cards deck punched → IsOneOf
  decided_by_end _ _ _ _ (words_refused refused) is text gains = let e = sym (ap bytes_of refused) ∙ of_job in absurd (cc e)
  decided_by_end _ _ _ _ (read_fails read is_read failed) is text gains = inr (inr (read_failed failed is))
  decided_by_end others other_cards _ other (by_itself known also runs_too) is text gains =
      let e = sym also ∙ of_job in
      let same : known ≡ bytes = cc e in
      let of_bytes = subst (λ (xs : List ℕ). IsJobRun S xs others other_cards other) same runs_too in
      by_other others other_cards other of_bytes is text
      (all_gained other other_cards [] punched (job_of_itself S bytes others other_cards other of_bytes) gains) (overflow_or_not other)
  decided_by_end _ _ _ _ memory_at_start is text gains = inr (inr (memory_wanted is))
  decided_by_end _ _ _ _ (memory_in_run known program state also so_far) is text gains = inr (inr (memory_wanted is))
  decided_by_end _ _ _ _ (memory_at_punch known program state deck also so_far punching) is text gains = inr (inr (memory_wanted is))
  decided_by_end _ _ _ _ (punch_fails known program state deck failed also so_far punching) is text gains = inr (inr (punch_failed failed is))

  decided_by_answer : IsAnswer S job failures (record { status = status; printed = printed; punched = punched }) → IsOneOf
  decided_by_answer (whole {reports} {cards} {deck} ending may_end is text gains) = decided_by_end reports cards deck ending may_end is text gains
  decided_by_answer (print_fails failed is cut) = inr (inr (print_failed failed is))
  decided_by_answer (print_wants_memory wanted is cut) = inr (inr (memory_wanted is))

-- a run that doesn't stop with an overflow decides the answer to a job, where a run is a function
pub answer_is_decided : (S : Solving) (job : Job) (failures : Failures) (status : ℕ) (PrintGains PunchGains : List ℕ → Type 0) (printed punched : List ℕ) →
    IsFunction S → PrintGains printed → PunchGains punched →
    IsAnswer S job failures (record { status = status; printed = printed; punched = punched }) → IsDecided S job failures status PrintGains PunchGains
answer_is_decided S job failures status PrintGains PunchGains printed punched function print_gains punch_gains is bytes reports cards ending of_job runs nor =
    decided_by_answer S function job failures status PrintGains PunchGains printed punched print_gains punch_gains bytes of_job reports cards ending runs nor is
