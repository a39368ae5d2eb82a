-- What INSERT comes to.
use Rattle.std.proofs.Common.{◌≡◌, ℕ, ◌-◌, List, [], ◌∷◌, Option, Some, None, IfSome, Result, Ok, Err, inl, inr, refl, sym, ap, subst, ◌∙◌, arith, length, drop}
use Rattle.std.proofs.Common.{All}
use Rattle.exact_values.specs.Rational.{ℚ}
use Rattle.job_devices.specs.States.{SinkState}
use Rattle.job_devices.specs.declared.device.WriteStop.{WriteStop}
use Rattle.job_devices.specs.Text.{Writes}
use Rattle.card_definitions.specs.Cards.{Card, live, numbered_cards, cards_between}
use Rattle.problem_definitions.specs.Names.{Name}
use Rattle.problem_definitions.specs.Problem.{Problem}
use Rattle.problem_file.specs.Filed.{Filed, filed_under}
use Rattle.deck_definitions.specs.declared.DeckFault.{DeckFault}
use Rattle.deck_definitions.specs.Conversion.{deck_name}
use Rattle.deck_definitions.specs.Decks.{decks_of, deck_taken}
use Rattle.lp_definitions.specs.LinearProgram.{Matrix, LinearProgram, size, value_at}
use Rattle.lp_definitions.specs.Basis.{Basics, basics_of, IsNonsingular}
use Rattle.lp_definitions.specs.Waypoints.{HasColumnsWithin, waypoint}
use Rattle.lp_definitions.specs.declared.Evidence.{Evidence}
use Rattle.basis_deck_definitions.specs.Dependencies.{IsDependency, InstallRefused}
use Rattle.basis_deck_definitions.specs.Reading.{basis_reading}
use Rattle.basis_deck_definitions.specs.Writing.{basic_columns}
use Rattle.basis_values.specs.Calls.{HasRates, LieIn}
use Rattle.bounded_primal.proofs.SameChoices.{listed_is}
use Rattle.control_definitions.specs.Program.{Insert}
use Rattle.control_definitions.specs.Cells.{Cells}
use Rattle.selection_definitions.specs.Choice.{Choice}
use Rattle.selection_definitions.specs.Selection.{selected}
use Rattle.listing_definitions.specs.declared.Mark.{Mark}
use Rattle.listing_definitions.specs.declared.VerbFault.TheVariants.{NoSetup, DeckNotFound}
use Rattle.listing_definitions.specs.Report.{Inserted}
use Rattle.listing_definitions.specs.Text.{report_text}
use Rattle.listing_definitions.specs.Ending as endings
use Rattle.question_definitions.specs.Answers.{Basis, Sheet, OfInstall, Installed, DependsBy}
use Rattle.answer_definitions.specs.Lines.{ray_lines}
use Rattle.fitting_answers.specs.Fitting.{EvidenceFits}
use Rattle.fitting_answers.specs.Real.{linear_programming_of_128_bits}
use Rattle.run_definitions.specs.State.{Present, State, choice_of}
use Rattle.run_definitions.specs.Moves.{Prints, StatementOutcome, next, stops, StatementMove, Gives, or_fault}
use Rattle.run_definitions.specs.Verbs.{or_deck_fault, deck_stop, asks, after_install, selects_present, verb_move}
use Rattle.run_machine.specs.declared.act.Act.TheVariants as act
use Rattle.run_machine.specs.declared.act.Halt.{Halt}
use Rattle.run_machine.specs.declared.act.Halt.TheVariants as halt
use Rattle.run_machine.specs.declared.end.End.{End}
use Rattle.run_machine.specs.declared.end.End.TheVariants as ends
use Rattle.run_machine.specs.declared.selecting.Refusal.{Refusal}
use Rattle.run_machine.specs.declared.selecting.Refusal.TheVariants.{Fault, Overflow, NoMemory}
use Rattle.run_machine.specs.Choosing.{IsUnselected}
use Rattle.run_machine.specs.Ends.{end_view}
use Rattle.setup_verbs.specs.Kept.{Setup}
use Rattle.setup_verbs.specs.Machines.{Machine}
use Rattle.run_machine.specs.Singular.{IsSheetOf, lines_view}
use Rattle.setup_verbs.specs.Standing.{IsReady, IsSolved, IsPresent, Represents, IsSound}
use Rattle.setup_verbs.specs.Statements.{Executes}
use Rattle.run_machine.proofs.Giving.{quietly, loudly, cut_off}
use Rattle.setup_verbs.proofs.Giving.{gives_fault, gives_found}
use Rattle.setup_verbs.proofs.Selected.{same_matrix}
use Rattle.setup_verbs.proofs.Present.{ready_solved}
use Rattle.setup_verbs.specs.declared.insert.Found.TheVariants as found
use Rattle.setup_verbs.specs.Inserting.{Found, IsBasisOf, IsDeckEnd, overflow_ending, IsInstalledSetup, IsSingularFor, IsInstalledFor, IsInserted, EndsSo}
use Rattle.setup_verbs.specs.Inserting.{IsSingularAt, IsFound, refused_found}
use Rattle.setup_verbs.proofs.Selecting.{setup_gone, viewed, present, selected_gives, fault_gives, overflow_gives}

-- what INSERT does with what is selected
abbrev go : ℕ → State → Present → LinearProgram → StatementMove
go card state present lp =
    or_fault card DeckNotFound (deck_taken state.cells.xdata state.decks) (λ taken.
    or_deck_fault (basis_reading present.problem lp taken.0) (λ s.
    asks (OfInstall s) (record { problem = present.problem; lp = lp }) present (after_install card lp s taken present state)))

begins : (card : ℕ) (state : State) (outcome : StatementOutcome) →
    Gives linear_programming_of_128_bits card
    (or_fault card NoSetup state.setup (λ present. selects_present card state present (go card state present))) outcome →
    Gives linear_programming_of_128_bits card (verb_move Insert card state) outcome
unfolding linear_programming_of_128_bits verb_move
begins card state outcome g = g

gives_read : {X : Type 0} (card : ℕ) (read : Result X DeckFault) (move : X → StatementMove) (x : X) (outcome : StatementOutcome) → read ≡ Ok x →
    Gives linear_programming_of_128_bits card (move x) outcome → Gives linear_programming_of_128_bits card (or_deck_fault read move) outcome
gives_read card read move x outcome ok g = subst (λ r. Gives linear_programming_of_128_bits card (or_deck_fault r move) outcome) (sym ok) g

gives_deck_fault : {X : Type 0} (card : ℕ) (read : Result X DeckFault) (move : X → StatementMove) (fault : DeckFault) → read ≡ Err fault →
    Gives linear_programming_of_128_bits card (or_deck_fault read move) (stops (deck_stop fault))
gives_deck_fault card read move fault err =
    subst (λ r. Gives linear_programming_of_128_bits card (or_deck_fault r move) (stops (deck_stop fault))) (sym err) refl

-- the waypoints have no other columns than those of the basis
lies : (a : Matrix) (s : Basis) (ways : List Basics) → All (λ w. HasColumnsWithin a w (basics_of s)) ways → LieIn a ways (s ∷ [])
lies a s ways within = λ k way lt. inl (within k way lt)

-- the ending of a refused exchange, by the same setup, evidence and engine
pub ended_at : {N : Type 0} (basics : N → Basics) (ways : N → List Basics) (card : ℕ) (a b : Setup) → a ≡ b → (d e : Evidence) → d ≡ e → (m n : N) → m ≡ n →
    (end : End) →
    end_view end ≡ overflow_ending card a.basis (waypoint (basics m) (ways m) d.way) d →
    end_view end ≡ overflow_ending card b.basis (waypoint (basics n) (ways n) e.way) e
ended_at {N} basics ways card a b setup d e evidence m n engine end h =
    subst (λ (x : Setup). end_view end ≡ overflow_ending card x.basis (waypoint (basics n) (ways n) e.way) e) setup
    (subst (λ (y : Evidence). end_view end ≡ overflow_ending card a.basis (waypoint (basics n) (ways n) y.way) y) evidence
    (subst (λ (k : N). end_view end ≡ overflow_ending card a.basis (waypoint (basics k) (ways k) d.way) d) engine h))

module _ (card : ℕ) (cards : List (List ℕ)) (machine : Machine) where
  pub no_setup : machine.setup ≡ None → IsFound card cards machine (refused_found card (Fault NoSetup))
  no_setup none = λ position executed state s.
      begins card state (stops (endings.VerbStop (record { fault = NoSetup; card = card })))
      (gives_fault card NoSetup state.setup _ (setup_gone cards machine none s))

  module _ (setup : Setup) (is_setup : machine.setup ≡ Some setup) (problem : Problem ℕ) (on_file : filed_under setup.name machine.file ≡ Some problem) where
    pub not_selected : (refusal : Refusal) → IsUnselected problem (choice_of machine.cells setup.options) refusal →
        IsFound card cards machine (refused_found card refusal)
    not_selected (Fault fault) u =
        λ position executed state s. fault_gives Insert card (go card) (begins card) cards machine setup is_setup problem on_file s fault u
    not_selected (Overflow e) u =
        λ position executed state s. overflow_gives Insert card (go card) (begins card) cards machine setup is_setup problem on_file s e u
    not_selected NoMemory u = refl

    module _ (lp : LinearProgram) (ok : selected problem (choice_of machine.cells setup.options) ≡ Ok lp) (wanted : Option Name)
        (same_name : wanted ≡ machine.cells.xdata) where
      abbrev decks : List Card
      decks = drop (machine.decks_from - 1) (numbered_cards cards)

      module _ {position executed : ℕ} {state : State} (s : Represents cards machine position executed state) where
        -- the deck that the machine takes is the one that the state gives
        deck_view : deck_taken state.cells.xdata state.decks ≡ deck_taken wanted (decks_of decks)
        deck_view =
            ap (λ (c : Cells). deck_taken c.xdata state.decks) s.cells ∙ ap (deck_taken machine.cells.xdata) s.decks ∙
            ap (λ (w : Option Name). deck_taken w (decks_of decks)) (sym same_name)

        abbrev there : Present
        there = present Insert card (go card) (begins card) cards machine setup is_setup problem on_file s

        gives_deck : (outcome : StatementOutcome) → Gives linear_programming_of_128_bits card (go card state there lp) outcome →
            Gives linear_programming_of_128_bits card (verb_move Insert card state) outcome
        gives_deck outcome g = selected_gives Insert card (go card) (begins card) cards machine setup is_setup problem on_file s lp ok outcome (inl g)

        no_deck : deck_taken wanted (decks_of decks) ≡ None →
            Gives linear_programming_of_128_bits card (verb_move Insert card state) (stops (endings.VerbStop (record { fault = DeckNotFound; card = card })))
        no_deck none = gives_deck _ (gives_fault card DeckNotFound (deck_taken state.cells.xdata state.decks) _ (deck_view ∙ none))

        bad_deck : (deck : List Card) (rest : List (List Card)) (fault : DeckFault) → deck_taken wanted (decks_of decks) ≡ Some (deck, rest) →
            basis_reading problem lp deck ≡ Err fault →
            Gives linear_programming_of_128_bits card (verb_move Insert card state) (stops (deck_stop fault))
        bad_deck deck rest fault taken err =
            gives_deck _
            (gives_found card DeckNotFound (deck_taken state.cells.xdata state.decks) _ (deck, rest) _ (deck_view ∙ taken)
            (gives_deck_fault card (basis_reading problem lp deck) _ fault err))

        asked : (deck : List Card) (rest : List (List Card)) (t : Basis) (outcome : StatementOutcome) → deck_taken wanted (decks_of decks) ≡ Some (deck, rest) →
            basis_reading problem lp deck ≡ Ok t →
            Gives linear_programming_of_128_bits card
            (asks (OfInstall t) (record { problem = problem; lp = lp }) there (after_install card lp t (deck, rest) there state)) outcome →
            Gives linear_programming_of_128_bits card (verb_move Insert card state) outcome
        asked deck rest t outcome taken read g =
            gives_deck outcome (gives_found card DeckNotFound (deck_taken state.cells.xdata state.decks) _ (deck, rest) outcome (deck_view ∙ taken)
            (gives_read card (basis_reading problem lp deck) _ t outcome read g))

        gives_installed : (deck : List Card) (rest : List (List Card)) (t : Basis) → deck_taken wanted (decks_of decks) ≡ Some (deck, rest) →
            basis_reading problem lp deck ≡ Ok t → IsNonsingular lp.matrix (basics_of t) →
            Gives linear_programming_of_128_bits card (verb_move Insert card state)
            (next (Prints (Inserted (deck_name (live deck)) (length (basic_columns lp t))))
            (record state { decks = rest; setup = Some (record there { opening = t; steps = [] }); mark = None }))
        unfolding linear_programming_of_128_bits
        gives_installed deck rest t taken read nonsingular = asked deck rest t _ taken read (inl (Installed, nonsingular, refl))

        gives_dependency : (deck : List Card) (rest : List (List Card)) (t : Basis) (column : ℕ) (d : List ℚ) →
            deck_taken wanted (decks_of decks) ≡ Some (deck, rest) → basis_reading problem lp deck ≡ Ok t →
            length d ≡ size lp.matrix → IsDependency lp.matrix (basics_of t) column (value_at d) →
            Gives linear_programming_of_128_bits card (verb_move Insert card state)
            (stops (endings.SingularStop (record { card = card; lines = lines_view (Some problem) lp d })))
        unfolding linear_programming_of_128_bits
        gives_dependency deck rest t column d taken read full depends =
            let sheet : Sheet = record { problem = problem; lp = lp } in
            asked deck rest t _ taken read
            (inl (
              DependsBy (lines_view (Some problem) lp d),
              (column, value_at d, depends, ap (ray_lines sheet) (listed_is lp.matrix d (value_at d) full (λ k is. refl))),
              refl,
            ))

        gives_overflow : (deck : List Card) (rest : List (List Card)) (t : Basis) → deck_taken wanted (decks_of decks) ≡ Some (deck, rest) →
            basis_reading problem lp deck ≡ Ok t →
            (evidence : Evidence) (way : Basics) → InstallRefused lp.matrix (basics_of t) way evidence → EvidenceFits evidence →
            Gives linear_programming_of_128_bits card (verb_move Insert card state) (stops (overflow_ending card setup.basis way evidence))
        unfolding linear_programming_of_128_bits
        gives_overflow deck rest t taken read evidence way refused fits =
            asked deck rest t _ taken read
            (inr (
              evidence,
              Some (record { basis = setup.basis; way = way }),
              (
                record {
                  way = way;
                  is_refused = refused;
                  is_place =
                      ap (λ (b : Basis). Some (record { basis = b; way = way }))
                      (sym (viewed Insert card (go card) (begins card) cards machine setup is_setup problem on_file s).reached);
                },
                fits,
              ),
              refl,
            ))

      -- the deck ends the run
      pub deck_ends : (end : End) → IsDeckEnd problem lp wanted decks cards card end → EndsSo card cards machine (end_view end)
      deck_ends end (inl none) =
          λ position executed state s. subst (λ (e : End). Gives linear_programming_of_128_bits card (verb_move Insert card state) (stops (end_view e)))
          (sym none.1) (no_deck s none.0)
      deck_ends end (inr bad) =
          λ position executed state s. subst (λ (e : End). Gives linear_programming_of_128_bits card (verb_move Insert card state) (stops (end_view e)))
          (sym bad.5) (bad_deck s bad.0 bad.1 bad.2 bad.3 bad.4)

      module _ (ready : IsReady machine.file setup) (t : Basis) (first last : ℕ) (b : IsBasisOf problem lp wanted decks cards t first last) where
        inserted : (new : Setup) (deck : Name) (basic next_card : ℕ) →
            IsInstalledSetup card setup (choice_of machine.cells setup.options) lp t first last cards new deck basic next_card →
            IsInserted card cards machine new deck basic next_card
        inserted new deck basic next_card i = record {
          comes = λ position executed state s. (
            record state { decks = decks_of (drop last (numbered_cards cards)); setup = Some (record (there s) { opening = t; steps = [] }); mark = None },
            subst (λ (line : Name × ℕ). Gives linear_programming_of_128_bits card (verb_move Insert card state)
                (next (Prints (Inserted line.0 line.1))
                (record state {
                  decks = decks_of (drop last (numbered_cards cards));
                  setup = Some
                      (record (there s) { opening = t; steps = [] });
                  mark = None;
                })))
                (same_line i)
                (gives_installed s (cards_between first last cards) (decks_of (drop last (numbered_cards cards))) t b.taken b.is_read i.rates.nonsingular),
            record {
              is_position = s.is_position;
              is_executed = s.is_executed;
              cells = s.cells;
              file = s.file;
              decks = ap (λ (n : ℕ). decks_of (drop n (numbered_cards cards))) (one_before i);
              setup = (
                record (there s) { opening = t; steps = [] },
                refl,
                record {
                  on_file = ap (λ (n : Name). filed_under n machine.file) i.name ∙ on_file;
                  has_options = sym i.options;
                  reached = sym i.same_basis;
                  lie =
                      subst (λ (a : Matrix). LieIn a new.engine.waypoints (t ∷ [])) (sym (same_matrix problem (choice_of machine.cells setup.options) lp ok))
                      (lies lp.matrix t new.engine.waypoints i.within);
                },
              );
              mark = refl;
            },
          );
          ready =
              ready_solved machine.file setup ready problem on_file machine.cells lp ok new i.name i.is_chosen i.same_lp
              (subst (HasRates new.engine.matrix new.engine.basics lp) (sym i.same_basis) i.rates);
          first = omega (arith, i.is_next);
          last = omega (arith, i.is_next, b.within);
        }
          where
            same_line : {new : Setup} {deck : Name} {basic next_card : ℕ} →
                IsInstalledSetup card setup (choice_of machine.cells setup.options) lp t first last cards new deck basic next_card →
                ◌≡◌ {A = Name × ℕ} (deck_name (live (cards_between first last cards)), length (basic_columns lp t)) (deck, basic)
            same_line i = let d = i.is_deck in let n = i.is_basic in cc

            one_before : {new : Setup} {deck : Name} {basic next_card : ℕ} →
                IsInstalledSetup card setup (choice_of machine.cells setup.options) lp t first last cards new deck basic next_card → last ≡ next_card - 1
            one_before i = let e = i.is_next in omega (arith, e)

        singular : (name : Name) (p : LinearProgram) (d : List ℚ) →
            IsSingularFor card setup (choice_of machine.cells setup.options) lp t first last cards name p d → IsSingularAt card cards machine name p d
        singular name p d h =
            let filed : filed_under name machine.file ≡ Some problem = ap (λ (n : Name). filed_under n machine.file) h.same_name ∙ on_file in
            subst (λ (q : LinearProgram). IsSingularAt card cards machine name q d) (sym h.same_lp) (record {
              on_file = subst (λ (o : Option (Problem ℕ)). IsSheetOf o lp) (sym filed) (
                ap (λ (a : Matrix). a.rows) (same_matrix problem (choice_of machine.cells setup.options) lp ok),
                ap (λ (a : Matrix). a.cols) (same_matrix problem (choice_of machine.cells setup.options) lp ok),
              );
              full = h.full;
              ends = λ position executed state s.
                  subst (λ (o : Option (Problem ℕ)). Gives linear_programming_of_128_bits card (verb_move Insert card state)
                  (stops (endings.SingularStop (record { card = card; lines = lines_view o lp d })))) (sym filed)
                  (gives_dependency s (cards_between first last cards)
                  (decks_of (drop last (numbered_cards cards))) t h.column d b.taken b.is_read h.full h.is_dependency);
            })

        found_by : (result : Result Found Halt) → IsInstalledFor card setup (choice_of machine.cells setup.options) lp t first last cards result →
            IsFound card cards machine result
        found_by (Ok (found.Inserted new deck basic next_card)) h = inserted new deck basic next_card h
        found_by (Ok (found.Singular name p d)) h = singular name p d h
        found_by (Ok (found.Ends end)) h = λ position executed state s.
            subst (λ (e : endings.Ending). Gives linear_programming_of_128_bits card (verb_move Insert card state) (stops e)) (sym h.is_end)
            (gives_overflow s (cards_between first last cards)
            (decks_of (drop last (numbered_cards cards))) t b.taken b.is_read h.evidence h.way h.is_refused h.fits)
        found_by (Err halted) h = h

        pub basis_found : (choice : Choice) → choice ≡ choice_of machine.cells setup.options → (result : Result Found Halt) →
            IsInstalledFor card setup choice lp t first last cards result → IsFound card cards machine result
        basis_found choice same result h = found_by result (subst (λ (c : Choice). IsInstalledFor card setup c lp t first last cards result) same h)

-- ---- what is found decides what the statement does

-- without a setup nothing is solved
nothing_solved : (cells : Cells) (file : Filed) (mark : Option Mark) → IfSome mark (λ m. IfSome None (IsSolved m cells.xobj cells.xrhs file))
nothing_solved cells file None = tt
nothing_solved cells file (Some mark) = tt

pub sound_emptied : (cards : List (List ℕ)) (machine : Machine) (file : Filed) → IsSound cards machine →
    IsSound cards (record machine { setup = None; file = file })
sound_emptied cards machine file s =
    record { first = s.first; last = s.last; demands = s.demands; ready = tt; solved = nothing_solved machine.cells file machine.mark }

module _ (card : ℕ) (cards : List (List ℕ)) (machine : Machine) where
  pub ends_quietly : (print : SinkState) (new : Machine) (end : End) (ending : endings.Ending) → end_view end ≡ ending → EndsSo card cards machine ending →
      Executes linear_programming_of_128_bits Insert card print print cards machine new (Ok (act.Ends end))
  ends_quietly print new end ending is ends =
      quietly IsPresent (Gives linear_programming_of_128_bits) Insert card cards machine print
      (λ position executed state s. subst (λ (e : endings.Ending). Gives linear_programming_of_128_bits card (verb_move Insert card state) (stops e)) (sym is)
      (ends position executed state s))

  module _ (setup : Setup) (deck : Name) (basic next_card : ℕ) (i : IsInserted card cards machine setup deck basic next_card) where
    pub inserted_done : {from to : SinkState} → Writes {T = Unit {0}} from to (Ok tt) (report_text (Inserted deck basic)) →
        Executes linear_programming_of_128_bits Insert card from to cards machine (record machine { setup = Some setup; decks_from = next_card; mark = None })
        (Ok act.Next)
    inserted_done writes = loudly IsPresent (Gives linear_programming_of_128_bits) Insert card cards machine (Inserted deck basic) i.comes writes

    pub inserted_cut : {from to : SinkState} (new : Machine) (stop : WriteStop) → Writes {T = Unit {0}} from to (Err stop) (report_text (Inserted deck basic)) →
        Executes linear_programming_of_128_bits Insert card from to cards machine new (Err (halt.Print stop))
    inserted_cut new stop writes =
        cut_off IsPresent (Gives linear_programming_of_128_bits) Insert card cards machine new stop (Inserted deck basic)
        (λ position executed state s. let c = i.comes position executed state s in (next (Prints (Inserted deck basic)) c.0, c.1, refl)) writes

    pub sound_inserted : IsSound cards machine → IsSound cards (record machine { setup = Some setup; decks_from = next_card; mark = None })
    sound_inserted s = record { first = i.first; last = i.last; demands = s.demands; ready = i.ready; solved = tt }
