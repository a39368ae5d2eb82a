-- What INSERT finds before the machine changes, and what it comes to.
--     IsGiven .. result            the deck that is taken gives a status list of a basis, or ends the run
--     IsOverflowEnd .. result      the run ends with this evidence, the present basis and a set of basics
--     IsInstalledFor .. result     what comes of the basis of a deck, in the words of the linear program
--     IsInserted, IsSingularAt     INSERT comes to a new setup; or it ends the run at a singular basis
--     IsFound .. result            what INSERT finds with the setup of a machine
use Rattle.std.specs.Prelude.{◌≡◌, ◌⊎◌, ℕ, ◌+◌, ◌≤◌, List, All, Option, None, Some, Result, Ok, Err, drop, length}
use Rattle.std.specs.Result.{result_map_both}
use Rattle.exact_values.specs.Rational.{ℚ}
use Rattle.card_definitions.specs.Cards.{Card, live, numbered_cards, cards_between}
use Rattle.problem_definitions.specs.Names.{Name}
use Rattle.problem_definitions.specs.Problem.{Problem}
use Rattle.problem_file.specs.Filed.{filed_under}
use Rattle.deck_definitions.specs.declared.DeckFault.{DeckFault}
use Rattle.deck_definitions.specs.Conversion.{deck_name}
use Rattle.deck_definitions.specs.Decks.{decks_of, deck_taken}
use Rattle.lp_definitions.specs.LinearProgram.{LinearProgram, size, value_at}
use Rattle.lp_definitions.specs.Basis.{Basics, basics_of, IsBasis}
use Rattle.lp_definitions.specs.Waypoints.{HasColumnsWithin}
use Rattle.lp_definitions.specs.declared.Evidence.{Evidence}
use Rattle.basis_deck_definitions.specs.Dependencies.{IsDependency, InstallRefused}
use Rattle.basis_deck_definitions.specs.Reading.{basis_reading}
use Rattle.basis_deck_definitions.specs.Writing.{basic_columns}
use Rattle.basis_values.specs.Calls.{HasRates}
use Rattle.control_definitions.specs.Program.{Insert}
use Rattle.listing_definitions.specs.declared.VerbFault.TheVariants.{DeckNotFound}
use Rattle.listing_definitions.specs.Report.{Inserted}
use Rattle.listing_definitions.specs.Ending as endings
use Rattle.question_definitions.specs.Answers.{Basis}
use Rattle.fitting_answers.specs.Fitting.{EvidenceFits}
use Rattle.fitting_answers.specs.Real.{linear_programming_of_128_bits}
use Rattle.run_definitions.specs.State.{State}
use Rattle.run_definitions.specs.Moves.{Prints, stops, Gives}
use Rattle.run_definitions.specs.Verbs.{verb_move}
use Rattle.run_machine.specs.declared.act.Act.TheVariants as act
use Rattle.run_machine.specs.declared.act.Halt.{Halt}
use Rattle.run_machine.specs.declared.act.Halt.TheVariants as halt
use Rattle.run_machine.specs.declared.end.End.{End}
use Rattle.run_machine.specs.declared.end.End.TheVariants as ends
use Rattle.run_machine.specs.declared.selecting.Refusal.{Refusal}
use Rattle.run_machine.specs.Choosing.{refused_end}
use Rattle.run_machine.specs.Ends.{end_view}
use Rattle.selection_definitions.specs.Choice.{Choice}
use Rattle.setup_verbs.specs.Kept.{Setup, chosen}
use Rattle.setup_verbs.specs.Machines.{Machine}
use Rattle.run_machine.specs.Singular.{IsSheetOf, lines_view}
use Rattle.setup_verbs.specs.Standing.{IsReady, Represents}
use Rattle.setup_verbs.specs.Statements.{LeadsTo}
use Rattle.setup_verbs.specs.declared.insert.Given.{Given}
use Rattle.setup_verbs.specs.declared.insert.Given.TheVariants as given
use Rattle.setup_verbs.specs.declared.insert.Found as founds
use Rattle.setup_verbs.specs.declared.insert.Found.TheVariants as found

-- what INSERT finds, whichever engine has the rates
abbrev pub Found : Type 0
Found = founds.Found Setup

-- ---- the deck

module _ (problem : Problem ℕ) (lp : LinearProgram) (wanted : Option Name) (from : List Card) (cards : List (List ℕ)) where
  -- the deck with these cards is taken, and it stands for this status list
  pub record IsBasisOf (s : Basis) (first last : ℕ) : Type 0 where
    pub taken : deck_taken wanted (decks_of from) ≡ Some (cards_between first last cards, decks_of (drop last (numbered_cards cards)))
    pub is_read : basis_reading problem lp (cards_between first last cards) ≡ Ok s
    pub lawful : IsBasis lp s
    pub from_one : 1 ≤ first
    pub ordered : first ≤ last
    pub within : last ≤ length cards

  -- there is no deck; or it has this fault
  abbrev pub IsDeckEnd : ℕ → End → Type 0
  IsDeckEnd card end =
      ((deck_taken wanted (decks_of from) ≡ None) × (end ≡ ends.Verb DeckNotFound card)) ⊎
      ((deck : List Card) × (rest : List (List Card)) × (fault : DeckFault) × (deck_taken wanted (decks_of from) ≡ Some (deck, rest)) ×
      (basis_reading problem lp deck ≡ Err fault) × (end ≡ ends.Deck fault))

abbrev pub IsGiven : ℕ → Problem ℕ → LinearProgram → Option Name → List Card → List (List ℕ) → Result Given Halt → Type 0
IsGiven card problem lp wanted from cards (Ok (given.Basis read)) = IsBasisOf problem lp wanted from cards read.basis read.deck.first read.deck.last
IsGiven card problem lp wanted from cards (Ok (given.Ends end)) = IsDeckEnd problem lp wanted from cards card end
IsGiven card problem lp wanted from cards (Err h) = h ≡ halt.NoMemory

-- ---- the rates

-- how the run ends where an operation is refused
abbrev pub overflow_ending : ℕ → Basis → Basics → Evidence → endings.Ending
overflow_ending card present way e = endings.OverflowStop (record { evidence = e; place = Some (record { basis = present; way = way }); card = card })

-- its evidence fits
abbrev pub IsOverflowEnd : {X : Type 0} → ℕ → Basis → Basics → Evidence → Result End X → Type 0
IsOverflowEnd card present way e (Ok end) = (end_view end ≡ overflow_ending card present way e) × EvidenceFits e
IsOverflowEnd card present way e (Err refused) = Unit {0}

module _ (card : ℕ) (setup : Setup) (choice : Choice) (lp : LinearProgram) (s : Basis) (first last : ℕ) (cards : List (List ℕ)) where
  -- the setup goes on with the linear program, the basis and rates of it
  pub record IsInstalledSetup (new : Setup) (deck : Name) (basic next : ℕ) : Type 0 where
    pub name : new.name ≡ setup.name
    pub options : new.options ≡ setup.options
    pub is_chosen : chosen new ≡ record { objective = choice.objective; rhs = choice.rhs; options = setup.options }
    pub same_lp : new.lp ≡ lp
    pub same_basis : new.basis ≡ s
    pub rates : HasRates new.engine.matrix new.engine.basics lp s
    pub within : All (λ w. HasColumnsWithin lp.matrix w (basics_of s)) new.engine.waypoints
    pub is_deck : deck ≡ deck_name (live (cards_between first last cards))
    pub is_basic : basic ≡ length (basic_columns lp s)
    pub is_next : next ≡ last + 1

  -- its columns depend on each other
  pub record IsSingularFor (name : Name) (p : LinearProgram) (d : List ℚ) : Type 0 where
    pub same_name : name ≡ setup.name
    pub same_lp : p ≡ lp
    pub full : length d ≡ size lp.matrix
    pub column : ℕ
    pub is_dependency : IsDependency lp.matrix (basics_of s) column (value_at d)

  -- an exchange on the way to it is refused
  pub record IsRefusedFor (end : End) : Type 0 where
    pub evidence : Evidence
    pub way : Basics
    pub is_refused : InstallRefused lp.matrix (basics_of s) way evidence
    pub fits : EvidenceFits evidence
    pub is_end : end_view end ≡ overflow_ending card setup.basis way evidence

  abbrev pub IsInstalledFor : Result Found Halt → Type 0
  IsInstalledFor (Ok (found.Inserted new deck basic next)) = IsInstalledSetup new deck basic next
  IsInstalledFor (Ok (found.Singular name p d)) = IsSingularFor name p d
  IsInstalledFor (Ok (found.Ends end)) = IsRefusedFor end
  IsInstalledFor (Err h) = h ≡ halt.NoMemory

-- ---- the statement

-- a refused statement ends the run
abbrev pub refused_found : ℕ → Refusal → Result Found Halt
refused_found card refusal = result_map_both found.Ends (λ h. h) (refused_end card refusal)

module _ (card : ℕ) (cards : List (List ℕ)) (machine : Machine) where
  -- from each state that the machine shows, the statement prints this line and goes on with this setup
  pub record IsInserted (new : Setup) (deck : Name) (basic next : ℕ) : Type 0 where
    pub comes : (position executed : ℕ) (state : State) → Represents cards machine position executed state →
        LeadsTo linear_programming_of_128_bits Insert card cards position executed state (record machine { setup = Some new; decks_from = next; mark = None })
        (Prints (Inserted deck basic)) act.Next
    pub ready : IsReady machine.file new
    pub first : 1 ≤ next
    pub last : next ≤ length cards + 1

  -- from each state that the machine shows, the statement ends the run so
  abbrev pub EndsSo : endings.Ending → Type 0
  EndsSo ending =
      (position executed : ℕ) (state : State) → Represents cards machine position executed state →
      Gives linear_programming_of_128_bits card (verb_move Insert card state) (stops ending)

  -- the run ends with the lines of a dependency, and the problem that has their names is on file
  pub record IsSingularAt (name : Name) (p : LinearProgram) (d : List ℚ) : Type 0 where
    pub on_file : IsSheetOf (filed_under name machine.file) p
    pub full : length d ≡ size p.matrix
    pub ends : EndsSo (endings.SingularStop (record { card = card; lines = lines_view (filed_under name machine.file) p d }))

  abbrev pub IsFound : Result Found Halt → Type 0
  IsFound (Ok (found.Inserted new deck basic next)) = IsInserted new deck basic next
  IsFound (Ok (found.Singular name p d)) = IsSingularAt name p d
  IsFound (Ok (found.Ends end)) = EndsSo (end_view end)
  IsFound (Err h) = h ≡ halt.NoMemory
