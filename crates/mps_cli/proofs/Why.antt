-- Why a job ends with its status.
use Rattle.std.proofs.Common.{◌≡◌, ℕ, List, Option, None, Some, Err, refl, sym, ap, subst}
use Rattle.std.specs.Prelude.{IfSome}
use Rattle.deck_definitions.specs.Transport.{made_job}
use Rattle.run_definitions.specs.Answer.{IsProgramOf}
use Rattle.job_devices.specs.States.{SinkState}
use Rattle.job_devices.specs.Causes.{Rose}
use Rattle.job_devices.specs.Text.{AppendsPrefix}
use Rattle.job_devices.specs.declared.device.WriteStop.{WriteStop}
use Rattle.job_devices.specs.declared.device.WriteStop.TheVariants.{Failed, NoMemory}
use Rattle.listing_definitions.specs.Listing.{ending_text}
use Rattle.control_run.specs.declared.status.RunStatus.{RunStatus}
use Rattle.control_run.specs.declared.status.RunStatus.TheVariants as status
use Rattle.control_run.specs.Statuses.{IsStatusOfRun}
use Rattle.control_run.specs.Finishing.{cut_status}
use Rattle.command_line.specs.declared.request.Request.{Request}
use Rattle.command_line.specs.declared.request.Request.TheVariants as request
use Rattle.job_program.specs.declared.stop.EarlyStop.{EarlyStop}
use Rattle.job_program.specs.declared.stop.EarlyStop.TheVariants.{Words, ReadFault, Card, Control, Memory}
use Rattle.command_line.specs.declared.request.WordsStop.{WordsStop}
use Rattle.command_line.specs.declared.request.WordsStop.TheVariants as words
use Rattle.job_program.specs.Stops.{stop_view, stop_of_words, HasStopCause}
use Rattle.mps_cli.specs.Endings.{EndsWith, printed, cut_off, status_at}
use Rattle.mps_cli.specs.Causes.{IsAtHand, IsPrintedAfter, at_hand, refused_words, a_read_fault, no_memory, HasCause, IsPunched, nothing, in_run}

module _ (asked : Option Request) (read_failed is_read : Type 0) where
  -- why a job is stopped before its program runs
  abbrev pub IsWhy : EarlyStop → Type 0
  IsWhy Words = asked ≡ None
  IsWhy ReadFault = (asked ≡ Some request.Read) × read_failed
  IsWhy (Card fault) = IsAtHand asked is_read
  IsWhy (Control fault) = IsAtHand asked is_read
  IsWhy Memory = Unit {0}

  printed_cause : (print_failed punch_failed : Type 0) (GainsPrefixOf : List ℕ → Type 0) (stop : EarlyStop) → IsWhy stop →
      HasCause asked read_failed is_read print_failed punch_failed GainsPrefixOf (status_at stop)
  printed_cause print_failed punch_failed GainsPrefixOf Words is = is
  printed_cause print_failed punch_failed GainsPrefixOf ReadFault is = is
  printed_cause print_failed punch_failed GainsPrefixOf (Card fault) is = is
  printed_cause print_failed punch_failed GainsPrefixOf (Control fault) is = is
  printed_cause print_failed punch_failed GainsPrefixOf Memory is = tt

  after : (GainsPrefixOf : List ℕ → Type 0) (stop : EarlyStop) → IsWhy stop → GainsPrefixOf (ending_text (stop_view stop)) →
      IsPrintedAfter asked read_failed is_read GainsPrefixOf
  after GainsPrefixOf Words is prefix = refused_words is prefix
  after GainsPrefixOf ReadFault is prefix = a_read_fault is.0 is.1 prefix
  after GainsPrefixOf (Card fault) is prefix = at_hand is
  after GainsPrefixOf (Control fault) is prefix = at_hand is
  after GainsPrefixOf Memory is prefix = no_memory prefix

  cut_cause : (print_failed punch_failed : Type 0) (GainsPrefixOf : List ℕ → Type 0) (stop : EarlyStop) → IsWhy stop → (cause : WriteStop) →
      (cause ≡ Failed → print_failed) → GainsPrefixOf (ending_text (stop_view stop)) →
      HasCause asked read_failed is_read print_failed punch_failed GainsPrefixOf (cut_status cause)
  cut_cause print_failed punch_failed GainsPrefixOf stop is Failed failed prefix = (failed refl, after GainsPrefixOf stop is prefix)
  cut_cause print_failed punch_failed GainsPrefixOf stop is NoMemory failed prefix = tt

  -- of a job whose listing is the end of a stop alone
  pub ending_cause : (punch_failed : Type 0) {old new : SinkState} (stop : EarlyStop) (ended : RunStatus) → IsWhy stop → EndsWith old new stop ended →
      HasCause asked read_failed is_read (Rose old.faults new.faults) punch_failed (AppendsPrefix old.written new.written) ended
  ending_cause punch_failed {old} {new} stop ended is (printed same writes) =
      subst (HasCause asked read_failed is_read (Rose old.faults new.faults) punch_failed (AppendsPrefix old.written new.written)) (sym same)
      (printed_cause _ _ _ stop is)
  ending_cause punch_failed {old} {new} stop ended is (cut_off cause same writes) =
      subst (HasCause asked read_failed is_read (Rose old.faults new.faults) punch_failed (AppendsPrefix old.written new.written)) (sym same)
      (cut_cause _ _ _ stop is cause (λ e. writes.cause.failed (ap (λ s. Err s) e)) writes.bytes)

  -- of a job whose program has run
  pub run_cause : (print_failed punch_failed : Type 0) (GainsPrefixOf : List ℕ → Type 0) (ended : RunStatus) → IsAtHand asked is_read → IsStatusOfRun ended →
      (ended ≡ status.PrintFault → print_failed) → (ended ≡ status.PunchFault → punch_failed) →
      HasCause asked read_failed is_read print_failed punch_failed GainsPrefixOf ended
  run_cause print_failed punch_failed GainsPrefixOf status.Done is own failed stopped = is
  run_cause print_failed punch_failed GainsPrefixOf status.Infeasible is own failed stopped = is
  run_cause print_failed punch_failed GainsPrefixOf status.Unbounded is own failed stopped = is
  run_cause print_failed punch_failed GainsPrefixOf status.Words is own failed stopped = absurd own
  run_cause print_failed punch_failed GainsPrefixOf status.Control is own failed stopped = absurd own
  run_cause print_failed punch_failed GainsPrefixOf status.Verb is own failed stopped = is
  run_cause print_failed punch_failed GainsPrefixOf status.Deck is own failed stopped = is
  run_cause print_failed punch_failed GainsPrefixOf status.Card is own failed stopped = absurd own
  run_cause print_failed punch_failed GainsPrefixOf status.Limit is own failed stopped = is
  run_cause print_failed punch_failed GainsPrefixOf status.Statements is own failed stopped = is
  run_cause print_failed punch_failed GainsPrefixOf status.Overflow is own failed stopped = is
  run_cause print_failed punch_failed GainsPrefixOf status.ReadFault is own failed stopped = absurd own
  run_cause print_failed punch_failed GainsPrefixOf status.PrintFault is own failed stopped = (failed refl, at_hand is)
  run_cause print_failed punch_failed GainsPrefixOf status.PunchFault is own failed stopped = (is, stopped refl)
  run_cause print_failed punch_failed GainsPrefixOf status.Memory is own failed stopped = tt

-- of a job that is read
pub why : (read_failed is_read : Type 0) (stop : EarlyStop) → HasStopCause read_failed is_read stop → IsWhy (Some request.Read) read_failed is_read stop
why read_failed is_read Words cause = absurd cause
why read_failed is_read ReadFault cause = (refl, cause)
why read_failed is_read (Card fault) cause = cause
why read_failed is_read (Control fault) cause = cause
why read_failed is_read Memory cause = tt

-- ---- the cause of one job is that of another, which ends likewise

module _ (asked other : Option Request) (read_failed is_read other_failed other_read : Type 0) (none : asked ≡ None → other ≡ None)
    (read : asked ≡ Some request.Read → read_failed → (other ≡ Some request.Read) × other_failed) (hand : IsAtHand asked is_read → IsAtHand other other_read)
    (print_failed punch_failed : Type 0) (GainsPrefixOf : List ℕ → Type 0) where
  printed_likewise : IsPrintedAfter asked read_failed is_read GainsPrefixOf → IsPrintedAfter other other_failed other_read GainsPrefixOf
  printed_likewise (at_hand is) = at_hand (hand is)
  printed_likewise (refused_words is prefix) = refused_words (none is) prefix
  printed_likewise (a_read_fault is failed prefix) = let p = read is failed in a_read_fault p.0 p.1 prefix
  printed_likewise (no_memory prefix) = no_memory prefix

  pub likewise : (ended : RunStatus) → HasCause asked read_failed is_read print_failed punch_failed GainsPrefixOf ended →
      HasCause other other_failed other_read print_failed punch_failed GainsPrefixOf ended
  likewise status.Done is = hand is
  likewise status.Infeasible is = hand is
  likewise status.Unbounded is = hand is
  likewise status.Words is = none is
  likewise status.Control is = hand is
  likewise status.Verb is = hand is
  likewise status.Deck is = hand is
  likewise status.Card is = hand is
  likewise status.Limit is = hand is
  likewise status.Statements is = hand is
  likewise status.Overflow is = hand is
  likewise status.ReadFault is = read is.0 is.1
  likewise status.PrintFault is = (is.0, printed_likewise is.1)
  likewise status.PunchFault is = (hand is.0, is.1)
  likewise status.Memory is = tt

-- why the words ask for nothing
pub why_words : (asked : Option Request) (read_failed is_read : Type 0) (stop : WordsStop) → (stop ≡ words.Refused → asked ≡ None) →
    IsWhy asked read_failed is_read (stop_of_words stop)
why_words asked read_failed is_read words.Refused are_refused = are_refused refl
why_words asked read_failed is_read words.NoMemory are_refused = tt

-- ---- where something may be punched

-- the punch of a job that is asked for as a request is
pub same_punch : {asked : Option Request} (request : Request) (reported : Option (List ℕ)) (is_read is_same : Type 0) (ended : RunStatus) →
    asked ≡ Some request →
    IsPunched (Some request) reported is_read is_same ended → IsPunched asked reported is_read is_same ended
same_punch request reported is_read is_same ended is punched = subst (λ (o : Option Request). IsPunched o reported is_read is_same ended) (sym is) punched

pub read_punch : (reported : Option (List ℕ)) (is_read is_same : Type 0) (ended : RunStatus) {wanted : Request} → wanted ≡ request.Read →
    IsPunched (Some request.Read) reported is_read is_same ended → IsPunched (Some wanted) reported is_read is_same ended
read_punch reported is_read is_same ended is punched = same_punch request.Read reported is_read is_same ended (ap (λ (r : Request). Some r) is) punched

-- of a job that is made, whose source tells its bytes
pub source_punch : (size : ℕ) (source reported : Option (List ℕ)) (source_read is_read is_same : Type 0) (ended : RunStatus) → source ≡ Some (made_job size) →
    IsPunched (Some request.Read) source source_read is_same ended → IsPunched (Some (request.Make size)) reported is_read is_same ended
source_punch size source reported source_read is_read is_same ended tells (nothing same) = nothing same
source_punch size source reported source_read is_read is_same ended tells (in_run program here known own) =
    in_run program tt (subst (λ (o : Option (List ℕ)). IfSome o (λ bytes. IsProgramOf bytes program)) tells known) own

pub made_punch : (reported other : Option (List ℕ)) (is_read other_read is_same : Type 0) (ended : RunStatus) (size : ℕ) {wanted : Request} →
    wanted ≡ request.Make size →
    IsPunched (Some (request.Make size)) reported is_read is_same ended → IsPunched (Some wanted) other other_read is_same ended
made_punch reported other is_read other_read is_same ended size is punched =
    same_punch (request.Make size) other other_read is_same ended (ap (λ (r : Request). Some r) is) (moved punched)
  where
    moved : IsPunched (Some (request.Make size)) reported is_read is_same ended → IsPunched (Some (request.Make size)) other other_read is_same ended
    moved (nothing same) = nothing same
    moved (in_run program here known own) = in_run program tt known own
