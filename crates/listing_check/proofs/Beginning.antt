-- What a check finds by what it begins with.
use Rattle.std.proofs.Common.{◌≡◌, ℕ, List, [], IfOk, Result, Ok, Err, subst}
use Rattle.card_definitions.specs.declared.CardFault.{CardFault}
use Rattle.control_definitions.specs.declared.ControlFault.{ControlFault}
use Rattle.std.specs.declared.alloc.AllocError.{AllocError as NoMemory}
use Rattle.listing_definitions.specs.Ending.{CardStop, ControlStop}
use Rattle.walk_definitions.specs.Checkers.{Checker}
use Rattle.walk_definitions.specs.Walker as walks
use Rattle.walk_definitions.specs.Found.{first_walker, Reaches, EndsIn, of_cards, of_control, of_walk}
use Rattle.job_program.specs.declared.reading.Prepared.{Prepared}
use Rattle.job_program.specs.declared.stop.EarlyStop.{EarlyStop}
use Rattle.job_program.specs.declared.stop.EarlyStop.TheVariants as stops
use Rattle.job_program.specs.Stops.{HasStopCause}
use Rattle.listing_walk.specs.declared.found.Found.{Found}
use Rattle.listing_walk.specs.Ended.{found_view, decks_after, IsFoundBy}
use Rattle.listing_check.specs.declared.start.Start.{Start}
use Rattle.listing_check.specs.declared.start.Start.TheVariants.{Program, Card, Control}
use Rattle.listing_check.specs.Starting.{IsStartOf, IsWhole}

module _ (C : Checker) (listing : List ℕ) (start : Start) where
  abbrev pub Finds : Result Found NoMemory → Type 0
  Finds result = IfOk result (λ found. (bytes : List ℕ) → IsStartOf bytes start → EndsIn C bytes listing (found_view found))

  pub by_walk : (prepared : Prepared) → start ≡ Program prepared → (result : Result Found NoMemory) →
      IfOk result (IsFoundBy C prepared.program prepared.cards listing) → Finds result
  by_walk prepared e (Ok found) f = λ bytes is.
      let are = subst (IsStartOf bytes) e is in
      of_walk prepared.program f.walker are.1
      (subst (λ (cards : List (List ℕ)). Reaches C prepared.program (decks_after prepared.program cards) listing f.walker) are.0 f.reaches) f.finds
  by_walk prepared e (Err none) f = tt

  pub by_card : (fault : CardFault) → start ≡ Card fault → (result : Result Found NoMemory) →
      IfOk result (λ found. walks.closes (first_walker [] listing) (CardStop fault) ≡ walks.Finds (found_view found)) → Finds result
  by_card fault e (Ok found) f = λ bytes is. of_cards fault (subst (IsStartOf bytes) e is) f
  by_card fault e (Err none) f = tt

  pub by_control : (fault : ControlFault) → start ≡ Control fault → (result : Result Found NoMemory) →
      IfOk result (λ found. walks.closes (first_walker [] listing) (ControlStop fault) ≡ walks.Finds (found_view found)) → Finds result
  by_control fault e (Ok found) f = λ bytes is. let are = subst (IsStartOf bytes) e is in of_control fault are.0 are.1 f
  by_control fault e (Err none) f = tt

-- ---- a job that is stopped

module _ (failed is_read : Type 0) where
  pub read_failed : (stop : EarlyStop) → stop ≡ stops.ReadFault → HasStopCause failed is_read stop → failed
  read_failed stop is cause = subst (HasStopCause failed is_read) is cause

  pub read_whole : (stop : EarlyStop) → IsWhole stop → HasStopCause failed is_read stop → is_read
  read_whole stops.Words whole cause = absurd whole
  read_whole stops.ReadFault whole cause = absurd whole
  read_whole (stops.Card fault) whole cause = cause
  read_whole (stops.Control fault) whole cause = cause
  read_whole stops.Memory whole cause = absurd whole
