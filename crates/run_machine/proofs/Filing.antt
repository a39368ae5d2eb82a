-- What CONVERT and REVISE come to.
use Rattle.std.proofs.Common.{◌≡◌, ℕ, ◌+◌, ◌-◌, ◌≤◌, length, arith, Bool, true, List, ◌∷◌, Option, None, Some, Result, Ok, Err, IfOk, if◌then◌else◌, drop, refl}
use Rattle.std.proofs.Common.{sym, ap, subst, ◌∙◌}
use Rattle.std.specs.Prelude.{IfErr, option_and_then}
use Rattle.std.proofs.lemmas.Slice.Eq.{bytes_eq-Decides}
use Rattle.job_devices.specs.States.{SinkState}
use Rattle.job_devices.specs.declared.device.WriteStop.{WriteStop}
use Rattle.job_devices.specs.Text.{Writes}
use Rattle.card_definitions.specs.Cards.{Card, numbered_cards}
use Rattle.deck_definitions.specs.declared.DeckFault.{DeckFault}
use Rattle.deck_definitions.specs.Decks.{decks_of, deck_taken}
use Rattle.deck_definitions.specs.Conversion.{conversion}
use Rattle.card_reader.specs.declared.stop.CardStop.{CardStop}
use Rattle.card_reader.specs.declared.stop.CardStop.TheVariants.{Fault, NoMemory}
use Rattle.mps_convert.specs.Conversion.{Refuses}
use Rattle.problem_definitions.specs.Names.{Name, same}
use Rattle.problem_definitions.specs.Problem.{Problem}
use Rattle.problem_definitions.proofs.Names.{same_sym}
use Rattle.problem_file.specs.Filed.{Filed, filed_under}
use Rattle.control_definitions.specs.Cells.{Cells}
use Rattle.listing_definitions.specs.declared.VerbFault.TheVariants.{DeckNotFound}
use Rattle.listing_definitions.specs.Ending.{VerbStop}
use Rattle.listing_definitions.specs.Report as reports
use Rattle.listing_definitions.specs.Text.{report_text}
use Rattle.run_definitions.specs.State.{Present, State, problem_of}
use Rattle.run_definitions.specs.Moves.{Prints, StatementOutcome, next, stops, StatementMove, DecidesAlone, or_fault}
use Rattle.run_definitions.specs.Verbs.{deck_stop, or_deck_fault, size_of, files, verb_move}
use Rattle.run_machine.specs.declared.act.Act.TheVariants.{Next}
use Rattle.run_machine.specs.declared.act.Halt.TheVariants as halt
use Rattle.run_machine.specs.declared.taking.DeckVerb.{DeckVerb}
use Rattle.run_machine.specs.declared.taking.DeckVerb.TheVariants.{Convert}
use Rattle.run_machine.specs.declared.taking.Described.TheVariants as described
use Rattle.run_machine.specs.declared.end.End.TheVariants.{Verb}
use Rattle.run_machine.specs.declared.machine.Machine.{Machine}
use Rattle.run_machine.specs.Standing.{filed, Represents}
use Rattle.run_machine.specs.Statements.{LeadsTo, Executes}
use Rattle.run_machine.specs.Describing.{verb_of, report_of, decks_from, with_problem, IsDescribed, Describes, described_as}
use Rattle.run_machine.proofs.Giving.{settles_fault, settles_found, loudly, cut_off}

-- the problem put last stands in front of those that are on file
pub put_in_front : (old new : Filed) (problem : Problem ℕ) (problems : List (Problem ℕ)) →
    ((wanted : Option Name) → problem_of wanted problems ≡ filed wanted old) →
    ((name : Name) → filed_under name new ≡ (if same problem.name name then Some problem else filed_under name old)) → new.last ≡ Some problem.name →
    (wanted : Option Name) → problem_of wanted (problem ∷ problems) ≡ filed wanted new
put_in_front old new problem problems held put last None =
    let own : same problem.name problem.name ≡ true = (bytes_eq-Decides problem.name problem.name).1 refl in
    let choose : Bool → Option (Problem ℕ) = λ b. if b then Some problem else filed_under problem.name old in
    sym (ap (option_and_then (λ name. filed_under name new)) last ∙ put problem.name ∙ ap choose own)
put_in_front old new problem problems held put last (Some name) =
    let by_test : Bool → Option (Problem ℕ) = λ b. if b then Some problem else problem_of (Some name) problems in
    let by_rest : Option (Problem ℕ) → Option (Problem ℕ) = λ rest. if same problem.name name then Some problem else rest in
    ap by_test (same_sym name problem.name) ∙ ap by_rest (held (Some name)) ∙ sym (put name)

-- a deck fault
settles_deck_fault : (card : ℕ) (found : Result (Problem ℕ) DeckFault) (go : Problem ℕ → StatementMove) (fault : DeckFault) → found ≡ Err fault →
    DecidesAlone card (or_deck_fault found go) (stops (deck_stop fault))
settles_deck_fault card found go fault err = subst (λ r. DecidesAlone card (or_deck_fault r go) (stops (deck_stop fault))) (sym err) refl

settles_problem : (card : ℕ) (found : Result (Problem ℕ) DeckFault) (go : Problem ℕ → StatementMove) (problem : Problem ℕ) (outcome : StatementOutcome) →
    found ≡ Ok problem → DecidesAlone card (go problem) outcome →
    DecidesAlone card (or_deck_fault found go) outcome
settles_problem card found go problem outcome ok given = subst (λ r. DecidesAlone card (or_deck_fault r go) outcome) (sym ok) given

-- ---- a deck is taken

-- a deck is taken, and the problem that it gives is filed
abbrev pub takes : ℕ → (List Card → Result (Problem ℕ) DeckFault) → (reports.Filed → reports.Report) → State → StatementMove
takes card gives report state =
    or_fault card DeckNotFound (deck_taken state.cells.xdata state.decks) (λ taken. or_deck_fault (gives taken.0) (files report taken.1 state))

module _ {K : Type 0} (Shows : Filed → K → Present → Type 0) (card : ℕ) (cards : List (List ℕ)) (machine : Machine K) (wanted : Option Name)
    (same_name : wanted ≡ machine.cells.xdata) {position executed : ℕ} {state : State}
    (s : Represents Shows cards machine position executed state) (gives : List Card → Result (Problem ℕ) DeckFault)
    (report : reports.Filed → reports.Report) where
  -- the deck that the machine takes is the one that the state gives
  deck_view : deck_taken state.cells.xdata state.decks ≡ deck_taken wanted (decks_from machine.decks_from cards)
  deck_view =
      ap (λ (c : Cells). deck_taken c.xdata state.decks) s.cells ∙ ap (deck_taken machine.cells.xdata) s.decks ∙
      ap (λ (w : Option Name). deck_taken w (decks_from machine.decks_from cards)) (sym same_name)

  pub takes_nothing : deck_taken wanted (decks_from machine.decks_from cards) ≡ None →
      DecidesAlone card (takes card gives report state) (stops (VerbStop (record { fault = DeckNotFound; card = card })))
  takes_nothing none = settles_fault card DeckNotFound (deck_taken state.cells.xdata state.decks) _ (deck_view ∙ none)

  pub takes_refused : (deck : List Card) (rest : List (List Card)) (fault : DeckFault) →
      deck_taken wanted (decks_from machine.decks_from cards) ≡ Some (deck, rest) →
      gives deck ≡ Err fault → DecidesAlone card (takes card gives report state) (stops (deck_stop fault))
  takes_refused deck rest fault taken err =
      settles_found card DeckNotFound (deck_taken state.cells.xdata state.decks) _ (deck, rest) _ (deck_view ∙ taken)
      (settles_deck_fault card (gives deck) _ fault err)

  pub takes_problem : (deck : List Card) (rest : List (List Card)) (problem : Problem ℕ) →
      deck_taken wanted (decks_from machine.decks_from cards) ≡ Some (deck, rest) →
      gives deck ≡ Ok problem → DecidesAlone card (takes card gives report state) (next (Prints (report (size_of problem))) (with_problem problem rest state))
  takes_problem deck rest problem taken ok =
      settles_found card DeckNotFound (deck_taken state.cells.xdata state.decks) _ (deck, rest) _ (deck_view ∙ taken)
      (settles_problem card (gives deck) _ problem _ ok refl)

-- the decks after a card are those from the next card on
pub filed_after : {K : Type 0} (Shows : Filed → K → Present → Type 0) (verb : DeckVerb) (card : ℕ) (cards : List (List ℕ)) (machine : Machine K)
    (problem : Problem ℕ) (last from_card : ℕ) → last ≤ length cards → from_card ≡ last + 1 →
    ((position executed : ℕ) (state : State) → Represents Shows cards machine position executed state →
    DecidesAlone card (verb_move (verb_of verb) card state)
    (next (Prints (report_of verb (size_of problem))) (with_problem problem (decks_of (drop last (numbered_cards cards))) state))) →
    IsDescribed Shows verb card cards machine problem from_card
filed_after Shows verb card cards machine problem last from_card within is given =
    let one_before : last ≡ from_card - 1 = omega (arith, is) in
    record {
      files = λ position executed state s.
          subst (λ (n : ℕ). DecidesAlone card (verb_move (verb_of verb) card state)
          (next (Prints (report_of verb (size_of problem))) (with_problem problem (decks_of (drop n (numbered_cards cards))) state)))
          one_before (given position executed state s);
      first = omega (arith, is);
      last = omega (arith, is, within);
    }

-- ---- what CONVERT finds

module _ {K : Type 0} (Shows : Filed → K → Present → Type 0) (card : ℕ) (cards : List (List ℕ)) (machine : Machine K) (wanted : Option Name)
    (same_name : wanted ≡ machine.cells.xdata) where
  pub finds_no_deck : deck_taken wanted (decks_from machine.decks_from cards) ≡ None →
      Describes Shows Convert card cards machine (Ok (described.Ends (Verb DeckNotFound card)))
  unfolding verb_move
  finds_no_deck none =
      λ position executed state s. takes_nothing Shows card cards machine wanted same_name s
      (λ deck. conversion deck state.cells.xpbname) reports.Converted none

  pub finds_a_deck : (given : Result (Problem ℕ) (CardStop DeckFault)) (deck : List Card) (last from_card : ℕ) →
      deck_taken wanted (decks_from machine.decks_from cards) ≡ Some (deck, decks_of (drop last (numbered_cards cards))) →
      IfOk given (λ problem. conversion deck machine.cells.xpbname ≡ Ok problem) → IfErr given (Refuses deck machine.cells.xpbname) →
      last ≤ length cards → from_card ≡ last + 1 → Describes Shows Convert card cards machine (described_as given from_card)
  unfolding verb_move
  finds_a_deck (Ok problem) deck last from_card taken ok err within is =
      filed_after Shows Convert card cards machine problem last from_card within is
      (λ position executed state s.
      takes_problem Shows card cards machine wanted same_name s (λ deck. conversion deck state.cells.xpbname) reports.Converted deck
      (decks_of (drop last (numbered_cards cards))) problem taken
      (ap (λ (c : Cells). conversion deck c.xpbname) s.cells ∙ ok))
  finds_a_deck (Err (Fault fault)) deck last from_card taken ok err within is = λ position executed state s.
      takes_refused Shows card cards machine wanted same_name s (λ deck. conversion deck state.cells.xpbname) reports.Converted deck
      (decks_of (drop last (numbered_cards cards))) fault taken
      (ap (λ (c : Cells). conversion deck c.xpbname) s.cells ∙ err)
  finds_a_deck (Err NoMemory) deck last from_card taken ok err within is = refl

-- ---- the statement

module _ {K : Type 0} (Shows : Filed → K → Present → Type 0) (verb : DeckVerb) (card : ℕ) (cards : List (List ℕ)) (machine : Machine K) where
  module _ (problem : Problem ℕ) (from_card : ℕ) (file : Filed) (described : IsDescribed Shows verb card cards machine problem from_card)
      (put : (name : Name) → filed_under name file ≡ (if same problem.name name then Some problem else filed_under name machine.file))
      (last : file.last ≡ Some problem.name) where
    comes_filed : (position executed : ℕ) (state : State) → Represents Shows cards machine position executed state →
        LeadsTo Shows DecidesAlone (verb_of verb) card cards position executed state
        (record machine { file = file; decks_from = from_card; setup = None; mark = None }) (Prints (report_of verb (size_of problem))) Next
    comes_filed position executed state s = (
      with_problem problem (decks_from from_card cards) state,
      described.files position executed state s,
      record {
        is_position = s.is_position;
        is_executed = s.is_executed;
        cells = s.cells;
        file = put_in_front machine.file file problem state.file s.file put last;
        decks = refl;
        setup = refl;
        mark = refl;
      },
    )

    pub filed_done : {from to : SinkState} → Writes {T = Unit {0}} from to (Ok tt) (report_text (report_of verb (size_of problem))) →
        Executes Shows DecidesAlone (verb_of verb) card from to cards machine
        (record machine { file = file; decks_from = from_card; setup = None; mark = None }) (Ok Next)
    filed_done writes = loudly Shows DecidesAlone (verb_of verb) card cards machine (report_of verb (size_of problem)) comes_filed writes

    pub filed_cut : {from to : SinkState} (new : Machine K) (stop : WriteStop) →
        Writes {T = Unit {0}} from to (Err stop) (report_text (report_of verb (size_of problem))) →
        Executes Shows DecidesAlone (verb_of verb) card from to cards machine new (Err (halt.Print stop))
    filed_cut new stop writes =
        cut_off Shows DecidesAlone (verb_of verb) card cards machine new stop (report_of verb (size_of problem))
        (λ position executed state s. let c = comes_filed position executed state s in (next (Prints (report_of verb (size_of problem))) c.0, c.1, refl)) writes
