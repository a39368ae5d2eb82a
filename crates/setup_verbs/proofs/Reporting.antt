-- What is found, with its report, and what a statement comes to by it.
use Rattle.std.proofs.Common.{◌≡◌, ℕ, List, [], Some, Result, Ok, Err, refl, sym, subst}
use Rattle.std.specs.Prelude.{MatchResult}
use Rattle.job_devices.proofs.TextLemmas.{writes_nothing}
use Rattle.job_devices.specs.States.{SinkState}
use Rattle.job_devices.specs.Text.{Writes}
use Rattle.lp_definitions.specs.Basis.{Basics, basics_of}
use Rattle.lp_definitions.specs.Waypoints.{waypoint}
use Rattle.lp_definitions.specs.declared.Evidence.{Evidence}
use Rattle.control_definitions.specs.Program.{Verb}
use Rattle.question_definitions.specs.Answers.{Basis}
use Rattle.run_definitions.specs.State.{State}
use Rattle.run_definitions.specs.Moves.{Gain, Nothing, punched_by, StatementOutcome, Ends as EndsRun, next, jump, StatementMove, Gives, gain_of, gain_text}
use Rattle.run_definitions.specs.Verbs.{verb_move}
use Rattle.run_machine.specs.declared.act.Act.{Act}
use Rattle.run_machine.specs.declared.act.Act.TheVariants as act
use Rattle.run_machine.specs.declared.act.Halt.{Halt}
use Rattle.run_machine.specs.declared.act.Halt.TheVariants as halt
use Rattle.run_machine.specs.declared.end.Place.{Place as OwnPlace}
use Rattle.run_machine.specs.declared.finding.Finding.{Finding}
use Rattle.run_machine.specs.declared.finding.Finding.TheVariants.{Overflow}
use Rattle.setup_verbs.specs.Machines.{Machine}
use Rattle.run_machine.specs.Ends.{end_view, place_view}
use Rattle.fitting_answers.specs.Fitting.{EvidenceFits}
use Rattle.fitting_answers.specs.Real.{linear_programming_of_128_bits}
use Rattle.setup_verbs.specs.Standing.{Represents}
use Rattle.setup_verbs.specs.Statements.{LeadsTo, Executes, Follows}
use Rattle.run_machine.specs.Findings.{ReportsFinding}
use Rattle.setup_verbs.specs.Overflows.{IsOverflowAt, reported, no_memory}

module _ where
  pub tells_more : (F G : Gain → Finding → Type 0) (print_old print_new : SinkState) → ((gain : Gain) (finding : Finding) → F gain finding → G gain finding) →
      (result : Result Finding Halt) →
      ReportsFinding F print_old print_new result → ReportsFinding G print_old print_new result
  tells_more F G print_old print_new more (Ok finding) t = record { gain = t.gain; holds = more t.gain finding t.holds; writes = t.writes }
  tells_more F G print_old print_new more (Err (halt.Print stop)) t =
      record { gain = t.gain; finding = t.finding; holds = more t.gain t.finding t.holds; writes = t.writes }
  tells_more F G print_old print_new more (Err (halt.Punch stop)) t = absurd t
  tells_more F G print_old print_new more (Err halt.NoMemory) t = t

  -- what is found prints nothing, or there is no memory
  pub tells_quietly : (F : Gain → Finding → Type 0) (print : SinkState) (result : Result Finding Halt) →
      MatchResult result (F Nothing) (λ h. h ≡ halt.NoMemory) → ReportsFinding F print print result
  tells_quietly F print (Ok finding) t = record { gain = Nothing; holds = t; writes = writes_nothing print tt }
  tells_quietly F print (Err (halt.Print stop)) t = absurd (by t)
    where
      by : halt.Print stop ≡ halt.NoMemory → ⊥
      by e = cc
  tells_quietly F print (Err (halt.Punch stop)) t = absurd (by t)
    where
      by : halt.Punch stop ≡ halt.NoMemory → ⊥
      by e = cc
  tells_quietly F print (Err halt.NoMemory) t = refl

  -- an operation is refused, or there is no memory
  pub overflow_tells : (F : Gain → Finding → Type 0) (print : SinkState) (s : Basis) (after : List Basics) (e : Evidence) (result : Result Finding Halt) →
      IsOverflowAt s after e result →
      ((place : OwnPlace) → place_view place ≡ record { basis = s; way = waypoint (basics_of s) after e.way } → EvidenceFits e →
      F Nothing (Overflow e (Some place))) → ReportsFinding F print print result
  overflow_tells F print s after e _ (reported place is fits) holds = record { gain = Nothing; holds = holds place is fits; writes = writes_nothing print tt }
  overflow_tells F print s after e _ no_memory holds = refl

-- the outcome of a statement that comes to an act
outcome_by : (card : ℕ) (move : StatementMove) (cards : List (List ℕ)) (new : Machine) (position executed : ℕ) (gain : Gain) (then : Act) →
    Follows linear_programming_of_128_bits card move cards new position executed gain then →
    (outcome : StatementOutcome) × Gives linear_programming_of_128_bits card move outcome × (gain_of outcome ≡ gain)
outcome_by card move cards new position executed gain act.Next f = (next gain f.0, f.1, refl)
outcome_by card move cards new position executed gain (act.Jump to) f = (jump gain to f.0, f.1, refl)
outcome_by card move cards new position executed gain (act.Ends end) f = (EndsRun gain (end_view end), f, refl)

-- what is found decides what the statement comes to
module _ (verb : Verb ℕ) (card : ℕ) (cards : List (List ℕ)) (old : Machine) (F : Gain → Finding → Type 0)
    (new : Finding → Machine) (then : Finding → Act) (no_cards : (gain : Gain) (finding : Finding) → F gain finding → punched_by gain ≡ [])
    (comes : (gain : Gain) (finding : Finding) → F gain finding → (position executed : ℕ) (state : State) → Represents cards old position executed state →
    LeadsTo linear_programming_of_128_bits verb card cards position executed state (new finding) gain (then finding)) where
  pub reported_executes : (print_old print_new : SinkState) (finding : Finding) → ReportsFinding F print_old print_new (Ok finding) →
      Executes linear_programming_of_128_bits verb card print_old print_new cards old (new finding) (Ok (then finding))
  reported_executes print_old print_new finding t = λ position executed state s. record {
    gain = t.gain;
    no_cards = no_cards t.gain finding t.holds;
    comes = comes t.gain finding t.holds position executed state s;
    writes = t.writes;
  }

  pub cut_executes : (print_old print_new : SinkState) (any : Machine) (h : Halt) → ReportsFinding F print_old print_new (Err h) →
      Executes linear_programming_of_128_bits verb card print_old print_new cards old any (Err h)
  cut_executes print_old print_new any (halt.Print stop) t = λ position executed state s.
      let o =
      outcome_by card (verb_move verb card state) cards (new t.finding) position executed t.gain (then t.finding)
      (comes t.gain t.finding t.holds position executed state s) in
      record {
        outcome = o.0;
        no_cards = subst (λ (g : Gain). punched_by g ≡ []) (sym o.2) (no_cards t.gain t.finding t.holds);
        gives = o.1;
        writes = subst (λ (g : Gain). Writes {T = Unit {0}} print_old print_new (Err stop) (gain_text g)) (sym o.2) t.writes;
      }
  cut_executes print_old print_new any (halt.Punch stop) t = absurd t
  cut_executes print_old print_new any halt.NoMemory t = t
