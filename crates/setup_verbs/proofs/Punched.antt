-- What PUNCH comes to.
use Rattle.std.proofs.Common.{◌≡◌, ◌+◌, ℕ, List, Some, None, Result, Ok, Err, inl, refl, sym, ap, ◌∙◌}
use Rattle.std.specs.Prelude.{min, length}
use Rattle.job_devices.proofs.TextLemmas.{writes_same}
use Rattle.job_devices.specs.States.{SinkState}
use Rattle.job_devices.specs.declared.device.WriteStop.{WriteStop}
use Rattle.job_devices.specs.Text.{Writes}
use Rattle.lp_definitions.specs.LinearProgram.{LinearProgram}
use Rattle.problem_definitions.specs.Names.{Name}
use Rattle.problem_definitions.specs.Problem.{Problem}
use Rattle.problem_file.specs.Filed.{filed_under}
use Rattle.deck_definitions.specs.Written.{card_text}
use Rattle.basis_deck_definitions.specs.Writing.{basis_deck}
use Rattle.control_definitions.specs.Program.{Punch}
use Rattle.selection_definitions.specs.Selection.{selected}
use Rattle.listing_definitions.specs.declared.VerbFault.TheVariants.{NoSetup}
use Rattle.listing_definitions.specs.Report.{BasisOut}
use Rattle.listing_definitions.specs.Text.{report_text}
use Rattle.question_definitions.specs.Answers.{Basis, OfPunch}
use Rattle.fitting_answers.specs.Real.{linear_programming_of_128_bits}
use Rattle.run_definitions.specs.State.{Present, present_basis, State, choice_of}
use Rattle.run_definitions.specs.Moves.{Punches, StatementOutcome, next, StatementMove, Asks, Gives, or_fault}
use Rattle.run_definitions.specs.Verbs.{max_counted, selects_present, verb_move}
use Rattle.run_machine.specs.declared.act.Act.TheVariants.{Next}
use Rattle.run_machine.specs.declared.act.Halt.TheVariants as halt
use Rattle.run_machine.specs.declared.selecting.Refusal.{Refusal}
use Rattle.run_machine.specs.declared.selecting.Refusal.TheVariants.{Fault}
use Rattle.run_machine.specs.Choosing.{IsUnselected, refused_act}
use Rattle.setup_verbs.specs.Kept.{Setup}
use Rattle.setup_verbs.specs.Machines.{Machine}
use Rattle.setup_verbs.specs.Standing.{IsPresent, Represents}
use Rattle.setup_verbs.specs.Statements.{Performs}
use Rattle.run_machine.proofs.Punching.{punches_nothing, wrote, stopped}
use Rattle.setup_verbs.proofs.Selecting.{without_setup, viewed, selected_gives, unselected}

-- what PUNCH does with what is selected
abbrev go : State → Present → LinearProgram → StatementMove
go state present lp =
    Asks OfPunch (record { problem = present.problem; lp = lp }) (present_basis present) (λ cards.
    next (Punches (BasisOut present.problem.name (min (length cards) max_counted)) cards) state)

begins : (card : ℕ) (state : State) (outcome : StatementOutcome) →
    Gives linear_programming_of_128_bits card (or_fault card NoSetup state.setup (λ present. selects_present card state present (go state present))) outcome →
    Gives linear_programming_of_128_bits card (verb_move Punch card state) outcome
unfolding linear_programming_of_128_bits verb_move
begins card state outcome g = g

module _ (card : ℕ) (cards : List (List ℕ)) (machine : Machine) where
  pub no_setup : (print punch : SinkState) → machine.setup ≡ None →
      Performs linear_programming_of_128_bits Punch card print print punch punch cards machine machine (refused_act card (Fault NoSetup))
  no_setup print punch none =
      punches_nothing punch IsPresent (Gives linear_programming_of_128_bits) Punch card print print cards machine machine (refused_act card (Fault NoSetup))
      (without_setup Punch card go (begins card) cards machine print none)

  module _ (setup : Setup) (is_setup : machine.setup ≡ Some setup) (problem : Problem ℕ) (on_file : filed_under setup.name machine.file ≡ Some problem) where
    pub not_selected : (print punch : SinkState) (refusal : Refusal) → IsUnselected problem (choice_of machine.cells setup.options) refusal →
        Performs linear_programming_of_128_bits Punch card print print punch punch cards machine machine (refused_act card refusal)
    not_selected print punch refusal u =
        punches_nothing punch IsPresent (Gives linear_programming_of_128_bits) Punch card print print cards machine machine (refused_act card refusal)
        (unselected Punch card go (begins card) cards machine setup is_setup problem on_file print refusal u)

    module _ (lp : LinearProgram) (ok : selected problem (choice_of machine.cells setup.options) ≡ Ok lp) where
      abbrev deck : List (List ℕ)
      deck = basis_deck problem lp setup.basis

      abbrev punched : State → StatementOutcome
      punched state = next (Punches (BasisOut problem.name (min (length deck) max_counted)) deck) state

      gives : {position executed : ℕ} {state : State} → Represents cards machine position executed state →
          Gives linear_programming_of_128_bits card (verb_move Punch card state) (punched state)
      unfolding linear_programming_of_128_bits
      gives {state = state} s =
          selected_gives Punch card go (begins card) cards machine setup is_setup problem on_file s lp ok (punched state)
          (inl (
            deck,
            ap (λ (b : Basis). basis_deck problem lp b)
                (sym (viewed Punch card go (begins card) cards machine setup is_setup problem on_file s).reached),
            refl,
          ))

      -- the punch stops in the deck
      pub deck_cut : (print : SinkState) {punch_old punch_new : SinkState} {T : Type 0} (stop : WriteStop) →
          Writes {T = T} punch_old punch_new (Err stop) (card_text deck) →
          Performs linear_programming_of_128_bits Punch card print print punch_old punch_new cards machine machine (Err (halt.Punch stop))
      deck_cut print stop punches = λ position executed state s. record {
        report = BasisOut problem.name (min (length deck) max_counted);
        deck = deck;
        after = record state { position = state.position + 1 };
        gives = gives s;
        punches = stopped stop (card_text deck) punches;
        is_quiet = refl;
      }

      module _ {print_old print_new punch_old punch_new : SinkState} (name : Name) (is_name : name ≡ problem.name) (count : ℕ)
          (is_count : count ≡ min (length deck) max_counted)
          (punches : Writes {T = ℕ} punch_old punch_new (Ok count) (card_text deck)) where
        -- the line is that of the report
        own_line : (result : Result (Unit {0}) WriteStop) → Writes {T = Unit {0}} print_old print_new result (report_text (BasisOut name count)) →
            Writes {T = Unit {0}} print_old print_new result (report_text (BasisOut problem.name (min (length deck) max_counted)))
        own_line result prints =
            writes_same (ap (λ (n : Name). report_text (BasisOut n count)) is_name ∙ ap (λ (k : ℕ). report_text (BasisOut problem.name k)) is_count) prints

        pub deck_punched : Writes {T = Unit {0}} print_old print_new (Ok tt) (report_text (BasisOut name count)) →
            Performs linear_programming_of_128_bits Punch card print_old print_new punch_old punch_new cards machine machine (Ok Next)
        deck_punched prints = λ position executed state s. record {
          gain = Punches (BasisOut problem.name (min (length deck) max_counted)) deck;
          comes = (state, gives s, s);
          prints = own_line (Ok tt) prints;
          punches = wrote count (card_text deck) punches;
        }

        -- the deck is punched, and the print stops in its line
        pub deck_line_cut : (stop : WriteStop) → Writes {T = Unit {0}} print_old print_new (Err stop) (report_text (BasisOut name count)) →
            Performs linear_programming_of_128_bits Punch card print_old print_new punch_old punch_new cards machine machine (Err (halt.Print stop))
        deck_line_cut stop prints = λ position executed state s. record {
          outcome = punched state;
          gives = gives s;
          prints = own_line (Err stop) prints;
          punches = wrote count (card_text deck) punches;
        }
