-- What stands of a job that is answered.
use Rattle.std.proofs.Common.{◌≡◌, ℕ, List, [], Some, sym, subst}
use Rattle.deck_definitions.specs.Written.{card_text}
use Rattle.listing_definitions.specs.Report.{Report}
use Rattle.listing_definitions.specs.Ending.{Ending, Ended, WordsRefused, ControlStop, VerbStop, SingularStop, PriceStop, DeckStop, CardStop, LimitStop}
use Rattle.listing_definitions.specs.Ending.{StatementLimit, OverflowStop, ReadFault, PrintFault, PunchFault, Memory, status_of}
use Rattle.listing_definitions.specs.Listing.{listing}
use Rattle.question_definitions.specs.Solving.{Solving}
use Rattle.run_definitions.specs.Answer as run
use Rattle.run_definitions.specs.Answer.{Job, bytes_of, Failures, IsPunchedTo, Gains, IsJobRun, MayEnd, IsAnswer, whole, print_fails, print_wants_memory}
use Rattle.soundness_laws.specs.Headline.{IsTrueAnswer}
use Rattle.determinism_laws.specs.Stands as stands
use Rattle.determinism_laws.specs.Stands.{IsOwnEnd, StandsWhole, StandsAlone, StandsBrokenOff, StandsAfter}
use Rattle.determinism_laws.proofs.OwnEnds.{own_end}

module _ (S : Solving) (job : Job) (failures : Failures) (status : ℕ) (PrintGains PunchGains : List ℕ → Type 0) (printed punched : List ℕ)
    (print_gains : PrintGains printed) (punch_gains : PunchGains punched) where
  -- the job's own end
  module _ (bytes : List ℕ) (of_job : bytes_of job ≡ Some bytes) (reports : List Report) (cards : List (List ℕ)) where
    all_stands : (ending : Ending) → IsJobRun S bytes reports cards ending → printed ≡ listing reports ending → punched ≡ card_text cards →
        StandsWhole S job failures PrintGains PunchGains ending
    all_stands ending runs text all = record {
      bytes = bytes;
      of_job = of_job;
      reports = reports;
      cards = cards;
      runs = runs;
      print_gains = subst PrintGains text print_gains;
      punch_gains = subst PunchGains all punch_gains;
    }

    alone : (ending : Ending) → printed ≡ listing reports ending → punched ≡ card_text cards → (reports ≡ []) × (cards ≡ []) →
        StandsAlone S job failures PrintGains PunchGains ending
    alone ending text all none = (
      subst (λ (xs : List Report). PrintGains (listing xs ending)) none.0 (subst PrintGains text print_gains),
      subst (λ (xs : List (List ℕ)). PunchGains (card_text xs)) none.1 (subst PunchGains all punch_gains),
    )

    by_itself : (ending : Ending) → IsOwnEnd reports cards ending → IsJobRun S bytes reports cards ending → status ≡ status_of ending →
        printed ≡ listing reports ending →
        Gains ending cards [] punched → StandsAfter S job failures PrintGains PunchGains status
    by_itself (Ended code) own runs is text gains =
        subst (StandsAfter S job failures PrintGains PunchGains) (sym is) (stands.ended own (all_stands (Ended code) runs text gains))
    by_itself WordsRefused own runs is text gains = absurd own
    by_itself (ControlStop fault) own runs is text gains =
        stands.control_refused fault is (all_stands (ControlStop fault) runs text gains) (alone (ControlStop fault) text gains own)
    by_itself (VerbStop fault) own runs is text gains = stands.statement_refused fault is (all_stands (VerbStop fault) runs text gains)
    by_itself (SingularStop basis) own runs is text gains = stands.basis_singular basis is (all_stands (SingularStop basis) runs text gains)
    by_itself (PriceStop price) own runs is text gains = stands.prices_wrong price is (all_stands (PriceStop price) runs text gains)
    by_itself (DeckStop fault) own runs is text gains = stands.deck_refused fault is (all_stands (DeckStop fault) runs text gains)
    by_itself (CardStop fault) own runs is text gains =
        stands.cards_refused fault is (all_stands (CardStop fault) runs text gains) (alone (CardStop fault) text gains own)
    by_itself (LimitStop reached) own runs is text gains = stands.iteration_limit reached is (all_stands (LimitStop reached) runs text gains)
    by_itself StatementLimit own runs is text gains = stands.statement_limit is (all_stands StatementLimit runs text gains)
    by_itself (OverflowStop overflow) own runs is text gains = stands.overflow overflow is (all_stands (OverflowStop overflow) runs text gains)
    by_itself ReadFault own runs is text gains = absurd own
    by_itself PrintFault own runs is text gains = absurd own
    by_itself PunchFault own runs is text gains = absurd own
    by_itself Memory own runs is text gains = absurd own

  -- a run that is broken off
  broken_off : (reports : List Report) (cards deck : List (List ℕ)) (ending : Ending) → MayEnd S job failures reports cards deck ending →
      printed ≡ listing reports ending → IsPunchedTo cards deck punched →
      StandsBrokenOff S job failures PrintGains PunchGains ending
  broken_off reports cards deck ending may_end text is_punched = record {
    reports = reports;
    cards = cards;
    deck = deck;
    may_end = may_end;
    print_gains = subst PrintGains text print_gains;
    punched = punched;
    is_punched = is_punched;
    punch_gains = punch_gains;
  }

  by_end : (reports : List Report) (cards deck : List (List ℕ)) (ending : Ending) → MayEnd S job failures reports cards deck ending →
      status ≡ status_of ending → printed ≡ listing reports ending →
      Gains ending cards deck punched → StandsAfter S job failures PrintGains PunchGains status
  by_end _ _ _ _ (run.words_refused refused) is text gains =
      stands.words_refused is refused (subst PrintGains text print_gains, subst PunchGains gains punch_gains)
  by_end _ _ _ _ (run.read_fails bytes is_read failed) is text gains =
      stands.read_fails bytes is is_read failed (subst PrintGains text print_gains, subst PunchGains gains punch_gains)
  by_end reports cards _ ending (run.by_itself bytes of_job runs) is text gains =
      by_itself bytes of_job reports cards ending (own_end S bytes reports cards ending runs) runs is text gains
  by_end _ _ _ _ run.memory_at_start is text gains = stands.memory_wanted is (broken_off _ _ _ Memory run.memory_at_start text gains)
  by_end _ _ _ _ (run.memory_in_run bytes program state of_job so_far) is text gains =
      stands.memory_wanted is (broken_off _ _ _ Memory (run.memory_in_run bytes program state of_job so_far) text gains)
  by_end _ _ _ _ (run.memory_at_punch bytes program state deck of_job so_far punching) is text gains =
      stands.memory_wanted is (broken_off _ _ _ Memory (run.memory_at_punch bytes program state deck of_job so_far punching) text gains)
  by_end _ _ _ _ (run.punch_fails bytes program state deck failed of_job so_far punching) is text gains =
      stands.punch_fails is failed (broken_off _ _ _ PunchFault (run.punch_fails bytes program state deck failed of_job so_far punching) text gains)

  by_answer : IsAnswer S job failures (record { status = status; printed = printed; punched = punched }) →
      StandsAfter S job failures PrintGains PunchGains status
  by_answer (whole {reports} {cards} {deck} ending may_end is text gains) = by_end reports cards deck ending may_end is text gains
  by_answer (print_fails failed is cut) =
      stands.print_fails is failed (record { printed = printed; punched = punched; print_gains = print_gains; punch_gains = punch_gains; is_cut_short = cut })
  by_answer (print_wants_memory wanted is cut) =
      stands.print_wants_memory is wanted
      (record { printed = printed; punched = punched; print_gains = print_gains; punch_gains = punch_gains; is_cut_short = cut })

-- what stands after the status of an answer
pub stands_after : (S : Solving) {job : Job} {failures : Failures} {status : ℕ} {PrintGains PunchGains : List ℕ → Type 0} →
    IsTrueAnswer S job failures status PrintGains PunchGains →
    StandsAfter S job failures PrintGains PunchGains status
stands_after S {job} {failures} {status} {PrintGains} {PunchGains} is =
    by_answer S job failures status PrintGains PunchGains is.printed is.punched is.print_gains is.punch_gains is.is_answer
