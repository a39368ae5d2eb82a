-- What TITLE comes to.
use Rattle.std.proofs.Common.{◌≡◌, ℕ, List, Ok, Err, refl, subst}
use Rattle.job_devices.specs.States.{SinkState}
use Rattle.job_devices.specs.declared.device.WriteStop.{WriteStop}
use Rattle.job_devices.specs.Text.{Writes}
use Rattle.control_definitions.specs.Program.{Title}
use Rattle.listing_definitions.specs.Report.{Titled}
use Rattle.listing_definitions.specs.Text.{report_text}
use Rattle.problem_file.specs.Filed.{Filed}
use Rattle.run_definitions.specs.State.{Present, State}
use Rattle.run_definitions.specs.Moves.{Prints, next, DecidesAlone}
use Rattle.run_definitions.specs.Verbs.{verb_move}
use Rattle.run_machine.specs.declared.act.Act.TheVariants.{Next}
use Rattle.run_machine.specs.declared.act.Halt.TheVariants as halt
use Rattle.run_machine.specs.declared.machine.Machine.{Machine}
use Rattle.run_machine.specs.Statements.{Executes}
use Rattle.run_machine.proofs.Giving.{loudly, cut_off}

titles : (text : List ℕ) (card : ℕ) (state : State) → DecidesAlone card (verb_move (Title text) card state) (next (Prints (Titled text)) state)
unfolding verb_move
titles text card state = refl

module _ {K : Type 0} (Shows : Filed → K → Present → Type 0) {print_old print_new : SinkState} (text : List ℕ) (card : ℕ) (cards : List (List ℕ))
    (machine : Machine K) where
  pub title_done : (printed : List ℕ) → printed ≡ text → Writes {T = Unit {0}} print_old print_new (Ok tt) (report_text (Titled printed)) →
      Executes Shows DecidesAlone (Title text) card print_old print_new cards machine machine (Ok Next)
  title_done printed same writes =
      loudly Shows DecidesAlone (Title text) card cards machine (Titled text) (λ position executed state s. (state, titles text card state, s))
      (subst (λ (t : List ℕ). Writes {T = Unit {0}} print_old print_new (Ok tt) (report_text (Titled t))) same writes)

  pub title_cut : (stop : WriteStop) (printed : List ℕ) → printed ≡ text → Writes {T = Unit {0}} print_old print_new (Err stop) (report_text (Titled printed)) →
      Executes Shows DecidesAlone (Title text) card print_old print_new cards machine machine (Err (halt.Print stop))
  title_cut stop printed same writes =
      cut_off Shows DecidesAlone (Title text) card cards machine machine stop (Titled text)
      (λ position executed state s. (next (Prints (Titled text)) state, titles text card state, refl))
      (subst (λ (t : List ℕ). Writes {T = Unit {0}} print_old print_new (Err stop) (report_text (Titled t))) same writes)
