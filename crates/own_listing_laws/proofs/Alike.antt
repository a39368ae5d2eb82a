-- What a statement does doesn't hang on the bases of the setup, as far as it asks nothing.
--     IsRebased v s                the states are the same but for the bases
--     AreAlike walked run          the outcomes are
--     MovesAlike walked run        the moves are, as far as they ask nothing
use Rattle.std.proofs.Common.{◌≡◌, ℕ, not, ◌||◌, List, [], Option, Some, None, Result, Ok, Err, refl, sym, ap₂, subst}
use Rattle.std.specs.Prelude.{option_and_then}
use Rattle.exact_values.specs.Rational.{ℚ}
use Rattle.lp_definitions.specs.LinearProgram.{LinearProgram}
use Rattle.lp_definitions.specs.Basis.{opening_statuses}
use Rattle.card_definitions.specs.Cards.{Card}
use Rattle.deck_definitions.specs.declared.DeckFault.{DeckFault}
use Rattle.deck_definitions.specs.Conversion.{conversion}
use Rattle.deck_definitions.specs.Decks.{deck_taken}
use Rattle.basis_deck_definitions.specs.Reading.{basis_reading}
use Rattle.revise_definitions.specs.Revision.{revision}
use Rattle.problem_definitions.specs.Names.{Name}
use Rattle.problem_definitions.specs.Problem.{Problem}
use Rattle.control_definitions.specs.Program.{SetupOptions, Verb, Initialz, Title, MoveName, MoveNumber, MoveLimit, Mvadr, Goto, Convert, Setup, Primal, Dual}
use Rattle.control_definitions.specs.Program.{Revise, Ranging, Paraobj, Pararhs, Solution as SolutionVerb, Bcdout, Punch, Insert, Exit}
use Rattle.selection_definitions.specs.declared.SelectionFault.{SelectionFault}
use Rattle.selection_definitions.specs.Choice.{Choice}
use Rattle.selection_definitions.specs.Selection.{selected}
use Rattle.selection_definitions.specs.Making.{is_made}
use Rattle.listing_definitions.specs.declared.Mark.{Mark}
use Rattle.listing_definitions.specs.declared.Solver.{Solver}
use Rattle.listing_definitions.specs.declared.VerbFault.{VerbFault}
use Rattle.listing_definitions.specs.Report.{Converted, Revised}
use Rattle.question_definitions.specs.Answers.{Basis, Changing}
use Rattle.run_definitions.specs.State.{Present, State, problem_of, choice_of}
use Rattle.run_definitions.specs.Moves.{StatementOutcome, Goes, Ends, gain_of, InSelection, InAnswer, StatementMove, Does, MayStop, Asks, DecidesAlone}
use Rattle.run_definitions.specs.Moves.{or_fault}
use Rattle.run_definitions.specs.Verbs.{or_deck_fault, or_selection_fault, selects, files, not_less, change_row, change_set, if_optimal, solves, shows, ranges}
use Rattle.run_definitions.specs.Verbs.{parametric_runs, converts, revises, sets_up, punches, punches_basis, inserts, verb_move}
use Rattle.run_definitions.specs.Run.{counted}
use Rattle.walk_definitions.specs.Walker.{refuses_selection}
use Rattle.own_listing_laws.proofs.Pace.{rebased}

pub record IsRebased (v s : State) : Type 0 where
  pub opening : Basis
  pub steps : List Basis
  pub is : v ≡ record s { setup = rebased opening steps s.setup }

abbrev pub AreAlike : StatementOutcome → StatementOutcome → Type 0
AreAlike (Goes gain after) (Goes own other) = (gain ≡ own) × IsRebased after other
AreAlike (Ends gain ending) (Ends own other) = (gain ≡ own) × (ending ≡ other)
AreAlike outcome other = ⊥

abbrev pub MovesAlike : StatementMove → StatementMove → Type 0
MovesAlike (Does walked) (Does run) = AreAlike walked run
MovesAlike (MayStop (InSelection problem choice) walked) (MayStop (InSelection own other) run) =
    (is_made problem choice ≡ is_made own other) × MovesAlike walked run
MovesAlike (MayStop (InAnswer question sheet bases) walked) (MayStop (InAnswer own other path) run) = MovesAlike walked run
MovesAlike walked (Asks question sheet s go) = Unit {0}
MovesAlike walked run = ⊥

pub gains_alike : (walked run : StatementOutcome) → AreAlike walked run → gain_of walked ≡ gain_of run
gains_alike (Goes gain after) (Goes own other) alike = alike.0
gains_alike (Ends gain ending) (Ends own other) alike = alike.0
gains_alike (Goes gain after) (Ends own other) alike = absurd alike
gains_alike (Ends gain ending) (Goes own other) alike = absurd alike

-- ---- what settles the one settles the other

pub record SettlesToo (card : ℕ) (walked run : StatementMove) (outcome : StatementOutcome) : Type 0 where
  pub own : StatementOutcome
  pub alike : AreAlike own outcome
  pub settles : DecidesAlone card walked own
  pub made : refuses_selection walked ≡ refuses_selection run

pub settles_too : (card : ℕ) (walked run : StatementMove) (outcome : StatementOutcome) → MovesAlike walked run → DecidesAlone card run outcome →
    SettlesToo card walked run outcome
settles_too card (Does own) (Does other) outcome alike settled =
    record { own = own; alike = subst (λ (o : StatementOutcome). AreAlike own o) (sym settled) alike; settles = refl; made = refl }
settles_too card (MayStop (InSelection problem choice) walked) (MayStop (InSelection own other) run) outcome alike settled =
    let too = settles_too card walked run outcome alike.1 settled in
    record { own = too.own; alike = too.alike; settles = too.settles; made = ap₂ (λ a b. not a || b) alike.0 too.made }
settles_too card (MayStop (InAnswer question sheet bases) walked) (MayStop (InAnswer own other path) run) outcome alike settled =
    let too = settles_too card walked run outcome alike settled in
    record { own = too.own; alike = too.alike; settles = too.settles; made = too.made }
settles_too card walked (Asks question sheet s go) outcome alike settled = absurd settled
settles_too card (Does own) (MayStop refusals run) outcome alike settled = absurd alike
settles_too card (MayStop (InSelection problem choice) walked) (Does other) outcome alike settled = absurd alike
settles_too card (MayStop (InAnswer question sheet bases) walked) (Does other) outcome alike settled = absurd alike
settles_too card (MayStop (InSelection problem choice) walked) (MayStop (InAnswer own other path) run) outcome alike settled = absurd alike
settles_too card (MayStop (InAnswer question sheet bases) walked) (MayStop (InSelection own other) run) outcome alike settled = absurd alike
settles_too card (Asks question sheet s go) (Does other) outcome alike settled = absurd alike
settles_too card (Asks question sheet s go) (MayStop refusals run) outcome alike settled = absurd alike

-- ---- faults

unless_fault : {X : Type 0} (card : ℕ) (fault : VerbFault) (o : Option X) (go own : X → StatementMove) → ((x : X) → MovesAlike (go x) (own x)) →
    MovesAlike (or_fault card fault o go) (or_fault card fault o own)
unless_fault card fault None go own alike = (refl, refl)
unless_fault card fault (Some x) go own alike = alike x

unless_no_setup : (card : ℕ) (fault : VerbFault) (opening : Basis) (steps : List Basis) (setup : Option Present) (go own : Present → StatementMove) →
    ((present : Present) → MovesAlike (go (record present { opening = opening; steps = steps })) (own present)) →
    MovesAlike (or_fault card fault (rebased opening steps setup) go) (or_fault card fault setup own)
unless_no_setup card fault opening steps None go own alike = (refl, refl)
unless_no_setup card fault opening steps (Some present) go own alike = alike present

unless_deck_fault : {X : Type 0} (r : Result X DeckFault) (go own : X → StatementMove) → ((x : X) → MovesAlike (go x) (own x)) →
    MovesAlike (or_deck_fault r go) (or_deck_fault r own)
unless_deck_fault (Err fault) go own alike = (refl, refl)
unless_deck_fault (Ok x) go own alike = alike x

unless_selection_fault : (card : ℕ) (r : Result LinearProgram SelectionFault) (go own : LinearProgram → StatementMove) →
    ((lp : LinearProgram) → MovesAlike (go lp) (own lp)) → MovesAlike (or_selection_fault card r go) (or_selection_fault card r own)
unless_selection_fault card (Err fault) go own alike = (refl, refl)
unless_selection_fault card (Ok lp) go own alike = alike lp

selecting : (card : ℕ) (problem : Problem ℕ) (choice : Choice) (go own : LinearProgram → StatementMove) → ((lp : LinearProgram) → MovesAlike (go lp) (own lp)) →
    MovesAlike (selects card problem choice go) (selects card problem choice own)
selecting card problem choice go own alike = unless_selection_fault card (selected problem choice) _ _ (λ lp. (refl, alike lp))

-- ---- verbs

module _ (s : State) (opening : Basis) (steps : List Basis) where
  abbrev walked : State
  walked = record s { setup = rebased opening steps s.setup }

  converts_alike : (card : ℕ) → MovesAlike (converts card (counted walked)) (converts card (counted s))
  converts_alike card =
      unless_fault {X = List Card × List (List Card)} card VerbFault.DeckNotFound (deck_taken s.cells.xdata s.decks) _ _ (λ taken.
      unless_deck_fault (conversion taken.0 s.cells.xpbname) (files Converted taken.1 (counted walked)) (files Converted taken.1 (counted s))
      (λ problem. (refl, record { opening = []; steps = []; is = refl })))

  revises_alike : (card : ℕ) → MovesAlike (revises card (counted walked)) (revises card (counted s))
  revises_alike card =
      unless_fault card VerbFault.NoProblem (problem_of s.cells.xoldname s.file) _ _ (λ old.
      unless_fault {X = List Card × List (List Card)} card VerbFault.DeckNotFound (deck_taken s.cells.xdata s.decks) _ _ (λ taken.
      unless_deck_fault (revision old taken.0 s.cells.xpbname) (files Revised taken.1 (counted walked)) (files Revised taken.1 (counted s))
      (λ problem. (refl, record { opening = []; steps = []; is = refl }))))

  sets_up_alike : (card : ℕ) (options : SetupOptions) → MovesAlike (sets_up card options (counted walked)) (sets_up card options (counted s))
  sets_up_alike card options =
      unless_fault card VerbFault.NoProblem (problem_of s.cells.xpbname s.file) _ _ (λ problem.
      selecting card problem (choice_of s.cells options) _ _ (λ lp. (refl, record { opening = opening_statuses lp; steps = []; is = refl })))

  punches_alike : (card : ℕ) → MovesAlike (punches card (counted walked)) (punches card (counted s))
  punches_alike card =
      unless_fault card VerbFault.NoProblem (problem_of s.cells.xpbname s.file) _ _ (λ problem. (refl, record { opening = opening; steps = steps; is = refl }))

  solves_alike : (solver : Solver) (limit : Option ℕ) (card : ℕ) → MovesAlike (solves solver limit card (counted walked)) (solves solver limit card (counted s))
  solves_alike solver limit card =
      unless_no_setup card VerbFault.NoSetup opening steps s.setup _ _
      (λ present. selecting card present.problem (choice_of s.cells present.options) _ _ (λ lp. tt))

  shows_alike : (card : ℕ) → MovesAlike (shows card (counted walked)) (shows card (counted s))
  shows_alike card =
      unless_no_setup card VerbFault.NoSetup opening steps s.setup _ _ (λ present.
      unless_fault card VerbFault.NotSolved s.mark _ _ (λ mark.
      unless_selection_fault card (selected present.problem (choice_of s.cells present.options)) _ _ (λ lp. tt)))

  ranges_alike : (card : ℕ) → MovesAlike (ranges card (counted walked)) (ranges card (counted s))
  ranges_alike card =
      unless_no_setup card VerbFault.NoSetup opening steps s.setup _ _ (λ present.
      unless_fault card VerbFault.NotSolved s.mark _ _ (λ mark.
      unless_fault {X = Mark} card VerbFault.NotOptimal (if_optimal mark) _ _ (λ optimal.
      unless_selection_fault card (selected present.problem (choice_of s.cells present.options)) _ _ (λ lp. tt))))

  punches_basis_alike : (card : ℕ) → MovesAlike (punches_basis card (counted walked)) (punches_basis card (counted s))
  punches_basis_alike card =
      unless_no_setup card VerbFault.NoSetup opening steps s.setup _ _
      (λ present. selecting card present.problem (choice_of s.cells present.options) _ _ (λ lp. tt))

  inserts_alike : (card : ℕ) → MovesAlike (inserts card (counted walked)) (inserts card (counted s))
  inserts_alike card =
      unless_no_setup card VerbFault.NoSetup opening steps s.setup _ _ (λ present.
      selecting card present.problem (choice_of s.cells present.options) _ _ (λ lp.
      unless_fault {X = List Card × List (List Card)} card VerbFault.DeckNotFound (deck_taken s.cells.xdata s.decks) _ _ (λ taken.
      unless_deck_fault (basis_reading present.problem lp taken.0) _ _ (λ b. tt))))

  parametric_runs_alike : (card : ℕ) (fault : VerbFault) (change : Problem ℕ → Name → Option Changing) (moved : Option Name) →
      MovesAlike (parametric_runs card fault change moved (counted walked)) (parametric_runs card fault change moved (counted s))
  parametric_runs_alike card fault change moved =
      unless_no_setup card VerbFault.NoSetup opening steps s.setup _ _ (λ present.
      selecting card present.problem (choice_of s.cells present.options) _ _ (λ lp.
      unless_fault {X = Changing} card fault (option_and_then (change present.problem) moved) _ _ (λ changing.
      unless_fault {X = ℚ} card VerbFault.NoParmax s.cells.xparmax _ _ (λ last.
      unless_fault {X = ℚ} card VerbFault.ParmaxBelow (not_less s.cells.xparam last) _ _ (λ to. tt)))))

  pub verbs_alike : (verb : Verb ℕ) (card : ℕ) → MovesAlike (verb_move verb card (counted walked)) (verb_move verb card (counted s))
  unfolding verb_move
  verbs_alike Initialz card = (refl, record { opening = opening; steps = steps; is = refl })
  verbs_alike (Title text) card = (refl, record { opening = opening; steps = steps; is = refl })
  verbs_alike (MoveName cell name) card = (refl, record { opening = opening; steps = steps; is = refl })
  verbs_alike (MoveNumber cell value) card = (refl, record { opening = opening; steps = steps; is = refl })
  verbs_alike (MoveLimit limit) card = (refl, record { opening = opening; steps = steps; is = refl })
  verbs_alike (Mvadr demand position) card = (refl, record { opening = opening; steps = steps; is = refl })
  verbs_alike (Goto position) card = (refl, record { opening = opening; steps = steps; is = refl })
  verbs_alike Convert card = converts_alike card
  verbs_alike Revise card = revises_alike card
  verbs_alike (Setup options) card = sets_up_alike card options
  verbs_alike Primal card = solves_alike _ _ card
  verbs_alike Dual card = solves_alike _ _ card
  verbs_alike SolutionVerb card = shows_alike card
  verbs_alike Ranging card = ranges_alike card
  verbs_alike Paraobj card = parametric_runs_alike card VerbFault.NoChangeRow change_row s.cells.xchrow
  verbs_alike Pararhs card = parametric_runs_alike card VerbFault.NoChangeSet change_set s.cells.xchcol
  verbs_alike Bcdout card = punches_alike card
  verbs_alike Punch card = punches_basis_alike card
  verbs_alike Insert card = inserts_alike card
  verbs_alike Exit card = (refl, refl)
