-- In the run of a job every problem that is filed keeps what `IsProblem` asks, and so does that of the setup.
--     AreLawful state              so they do, and the decks left and the cell XPBNAME give no other
--     IsLed S card move              every state to which a move goes on is such a one
use Rattle.std.proofs.Common.{◌≡◌, ℕ, Bool, true, false, cond, List, [], ◌∷◌, refl, sym, subst, inl, inr}
use Rattle.std.specs.Prelude.{Option, Some, None, Result, Ok, Err, option_and_then}
use Rattle.std.specs.List.{AllByRecursion, find}
use Rattle.std.specs.Option.{IfSome}
use Rattle.std.proofs.lemmas.Option.{same_Some}
use Rattle.exact_values.specs.Rational.{ℚ}
use Rattle.lp_definitions.specs.LinearProgram.{LinearProgram}
use Rattle.card_definitions.specs.Cards.{Card}
use Rattle.problem_definitions.specs.Names.{Name, same}
use Rattle.problem_definitions.specs.Problem.{Problem}
use Rattle.problem_definitions.specs.Valid.{IsName, IsProblem}
use Rattle.problem_definitions.proofs.Each.{each-all}
use Rattle.deck_definitions.specs.declared.DeckFault.{DeckFault}
use Rattle.deck_definitions.specs.Conversion.{conversion}
use Rattle.deck_definitions.specs.Decks.{deck_taken}
use Rattle.basis_deck_definitions.specs.Reading.{basis_reading}
use Rattle.deck_definitions.proofs.Converted.{conversion-problem}
use Rattle.deck_definitions.specs.Readings.{ArePrintableCards}
use Rattle.control_definitions.specs.declared.NameCell.{NameCell}
use Rattle.control_definitions.specs.declared.NameCell.TheVariants.{Xdata, Xpbname, Xobj, Xrhs, Xoldname, Xchrow, Xchcol}
use Rattle.control_definitions.specs.declared.NumberCell.{NumberCell}
use Rattle.control_definitions.specs.declared.NumberCell.TheVariants.{Xparam, Xparmax}
use Rattle.control_definitions.specs.declared.Demand.{Demand}
use Rattle.control_definitions.specs.declared.Demand.TheVariants.{Xdonfs, Xdounb}
use Rattle.control_definitions.specs.Program.{SetupOptions, Verb, Initialz, Title, MoveName, MoveNumber, MoveLimit, Mvadr, Goto, Convert, Setup, Primal, Dual}
use Rattle.control_definitions.specs.Program.{Revise, Ranging, Paraobj, Pararhs, Solution as SolutionVerb, Bcdout, Punch, Insert, Exit, Program}
use Rattle.selection_definitions.specs.declared.SelectionFault.{SelectionFault}
use Rattle.selection_definitions.specs.Choice.{Choice}
use Rattle.selection_definitions.specs.Selection.{selected}
use Rattle.listing_definitions.specs.declared.Mark.{Mark}
use Rattle.listing_definitions.specs.declared.Mark.TheVariants.{Optimal, Infeasible, Unbounded}
use Rattle.listing_definitions.specs.declared.Solver.{Solver}
use Rattle.listing_definitions.specs.declared.Solver.TheVariants.{Primal as ByPrimal, Dual as ByDual}
use Rattle.listing_definitions.specs.declared.VerbFault.{VerbFault}
use Rattle.listing_definitions.specs.Report.{Report, Converted, Revised, Solution, Ranges}
use Rattle.question_definitions.specs.Answers.{Basis, Sheet, Changing, ParametricRun, Question, AnswerTo, OfPath, OfSolution, OfRanges, OfParametricRun}
use Rattle.question_definitions.specs.Answers.{OfPunch, OfInstall, PathEnd, Reached, PathLimit, PricesWrong, ParametricRunEnd, Opening, Chained}
use Rattle.question_definitions.specs.Answers.{ParametricRunLimit, InstallEnd, Installed, DependsBy}
use Rattle.question_definitions.specs.Solving.{Solving}
use Rattle.control_definitions.specs.Cells.{Cells, move_name, move_number, steps_allowed, set_demand}
use Rattle.run_definitions.specs.State.{Present, gone_through, State, problem_of, choice_of}
use Rattle.run_definitions.specs.Moves.{StatementOutcome, Goes, Ends, Refusals, StatementMove, Does, MayStop, Asks, Gives, or_fault}
use Rattle.run_definitions.specs.Verbs.{revises, or_deck_fault, or_selection_fault, files, selects, not_less, change_row, change_set, asks, demanded}
use Rattle.run_definitions.specs.Verbs.{by_verdict, if_optimal, after_path, after_parametric_run, after_install, shows_present, solves, shows, ranges}
use Rattle.run_definitions.specs.Verbs.{parametric_runs, converts, sets_up, punches, punches_basis, inserts, verb_move}
use Rattle.run_definitions.specs.Run.{counted, Step, Reaches, begun, stepped}
use Rattle.run_definitions.specs.Answer.{IsSoFar}
use Rattle.soundness_laws.specs.Laws.{FilesProblems}
use Rattle.soundness_laws.proofs.Moves.{HasProblem}
use Rattle.revise_definitions.specs.Revision.{revision}
use Rattle.revise_laws.proofs.Revisions.{revision-problem}
use Rattle.soundness_laws.proofs.Decks.{job_printable, taken_printable}
use Rattle.soundness_laws.proofs.Named.{MovesName, HasNames, compiled_named, statement_at}

pub record AreLawful (state : State) : Type 0 where
  pub file : AllByRecursion IsProblem state.file
  pub setup : HasProblem state.setup
  pub decks : AllByRecursion ArePrintableCards state.decks
  pub name : IfSome state.cells.xpbname IsName

without_setup : HasProblem None
without_setup present e = absurd (cc e)

with_setup : (present : Present) → IsProblem present.problem → HasProblem (Some present)
with_setup present is other e = subst (λ (p : Present). IsProblem p.problem) (same_Some present other e) is

-- ---- moves

abbrev Leads : StatementOutcome → Type 0
Leads (Goes gain after) = AreLawful after
Leads (Ends gain ending) = Unit {0}

record IsLed (S : Solving) (card : ℕ) (move : StatementMove) : Type 0 where
  by : (outcome : StatementOutcome) → Gives S card move outcome → Leads outcome

does : (S : Solving) (card : ℕ) (outcome : StatementOutcome) → Leads outcome → IsLed S card (Does outcome)
does S card outcome leads = record { by = λ given e. subst Leads (sym e) leads }

may_stop : (S : Solving) (card : ℕ) (refusals : Refusals) (move : StatementMove) → IsLed S card move → IsLed S card (MayStop refusals move)
may_stop S card refusals move led = record { by = at }
  where
    at : (given : StatementOutcome) → Gives S card (MayStop refusals move) given → Leads given
    at given (inl gives) = led.by given gives
    at given (inr stop) = subst Leads (sym stop.3) tt

answered : (S : Solving) (card : ℕ) (question : Question) (sheet : Sheet) (s : Basis) (go : AnswerTo question → StatementOutcome) →
    ((answer : AnswerTo question) → Leads (go answer)) → IsLed S card (Asks question sheet s go)
answered S card question sheet s go leads = record { by = λ given a. subst Leads (sym a.2) (leads a.0) }

unless_fault : {X : Type 0} (S : Solving) (card : ℕ) (fault : VerbFault) (o : Option X) (go : X → StatementMove) →
    ((x : X) → o ≡ Some x → IsLed S card (go x)) → IsLed S card (or_fault card fault o go)
unless_fault S card fault None go led = does S card _ tt
unless_fault S card fault (Some x) go led = led x refl

unless_deck_fault : {X : Type 0} (S : Solving) (card : ℕ) (r : Result X DeckFault) (go : X → StatementMove) → ((x : X) → r ≡ Ok x → IsLed S card (go x)) →
    IsLed S card (or_deck_fault r go)
unless_deck_fault S card (Err fault) go led = does S card _ tt
unless_deck_fault S card (Ok x) go led = led x refl

unless_selection_fault : (S : Solving) (card : ℕ) (r : Result LinearProgram SelectionFault) (go : LinearProgram → StatementMove) →
    ((lp : LinearProgram) → IsLed S card (go lp)) → IsLed S card (or_selection_fault card r go)
unless_selection_fault S card (Err fault) go led = does S card _ tt
unless_selection_fault S card (Ok lp) go led = led lp

selecting : (S : Solving) (card : ℕ) (problem : Problem ℕ) (choice : Choice) (go : LinearProgram → StatementMove) →
    ((lp : LinearProgram) → IsLed S card (go lp)) → IsLed S card (selects card problem choice go)
selecting S card problem choice go led = unless_selection_fault S card (selected problem choice) _ (λ lp. may_stop S card _ (go lp) (led lp))

-- ---- states

demanded_leads : (position : Option ℕ) (code : ℕ) (report : Report) (state : State) → AreLawful state → Leads (demanded position code report state)
demanded_leads (Some position) code report state lawful = record { file = lawful.file; setup = lawful.setup; decks = lawful.decks; name = lawful.name }
demanded_leads None code report state lawful = tt

by_verdict_leads : (mark : Mark) (report : Report) (state : State) → AreLawful state → Leads (by_verdict mark report state)
by_verdict_leads Optimal report state lawful = record { file = lawful.file; setup = lawful.setup; decks = lawful.decks; name = lawful.name }
by_verdict_leads Infeasible report state lawful = demanded_leads state.cells.xdonfs 1 report state lawful
by_verdict_leads Unbounded report state lawful = demanded_leads state.cells.xdounb 2 report state lawful

found : (p : Problem ℕ → Bool) (file : List (Problem ℕ)) (problem : Problem ℕ) → AllByRecursion IsProblem file → find p file ≡ Some problem → IsProblem problem
found p [] problem each e = absurd (cc e)
found p (first ∷ file) problem each e = by (p first) e (found p file problem each.1)
  where
    by : (b : Bool) → cond b (Some first) (find p file) ≡ Some problem → (find p file ≡ Some problem → IsProblem problem) → IsProblem problem
    by true e rest = subst IsProblem (same_Some first problem e) each.0
    by false e rest = rest e

filed : (name : Option Name) (file : List (Problem ℕ)) (problem : Problem ℕ) → AllByRecursion IsProblem file → problem_of name file ≡ Some problem →
    IsProblem problem
filed (Some name) file problem each e = found (λ (other : Problem ℕ). same name other.name) file problem each e
filed None [] problem each e = absurd (cc e)
filed None (first ∷ file) problem each e = subst IsProblem (same_Some first problem e) each.0

named : (cell : NameCell) (name : Name) (cells : Cells) → IsName name → IfSome cells.xpbname IsName → IfSome (move_name cell name cells).xpbname IsName
named Xdata name cells is known = known
named Xpbname name cells is known = is
named Xobj name cells is known = known
named Xrhs name cells is known = known
named Xoldname name cells is known = known
named Xchrow name cells is known = known
named Xchcol name cells is known = known

numbered : (cell : NumberCell) (value : ℚ) (cells : Cells) → IfSome cells.xpbname IsName → IfSome (move_number cell value cells).xpbname IsName
numbered Xparam value cells known = known
numbered Xparmax value cells known = known

demanding : (demand : Demand) (position : ℕ) (cells : Cells) → IfSome cells.xpbname IsName → IfSome (set_demand demand position cells).xpbname IsName
demanding Xdonfs position cells known = known
demanding Xdounb position cells known = known

-- ---- verbs

converts_led : (S : Solving) (card : ℕ) (state : State) → AreLawful state → IsLed S card (converts card state)
converts_led S card state lawful =
    unless_fault {X = List Card × List (List Card)} S card VerbFault.DeckNotFound (deck_taken state.cells.xdata state.decks) _ (λ taken e.
    unless_deck_fault S card (conversion taken.0 state.cells.xpbname) (files Converted taken.1 state) (λ problem is. files_problem taken e problem is))
  where
    files_problem : (taken : List Card × List (List Card)) → deck_taken state.cells.xdata state.decks ≡ Some taken → (problem : Problem ℕ) →
        conversion taken.0 state.cells.xpbname ≡ Ok problem →
        IsLed S card (files Converted taken.1 state problem)
    files_problem taken e problem is =
        let printable = taken_printable state.cells.xdata state.decks taken lawful.decks e in
        does S card _ (record {
          file = (conversion-problem taken.0 state.cells.xpbname problem printable.0 lawful.name is, lawful.file);
          setup = without_setup;
          decks = printable.1;
          name = lawful.name;
        })

revises_led : (S : Solving) (card : ℕ) (state : State) → AreLawful state → IsLed S card (revises card state)
revises_led S card state lawful =
    unless_fault S card VerbFault.NoProblem (problem_of state.cells.xoldname state.file) _ (λ old o.
    unless_fault {X = List Card × List (List Card)} S card VerbFault.DeckNotFound (deck_taken state.cells.xdata state.decks) _ (λ taken e.
    unless_deck_fault S card (revision old taken.0 state.cells.xpbname) (files Revised taken.1 state) (λ problem is.
    files_revised old (filed state.cells.xoldname state.file old lawful.file o) taken e problem is)))
  where
    files_revised : (old : Problem ℕ) → IsProblem old → (taken : List Card × List (List Card)) → deck_taken state.cells.xdata state.decks ≡ Some taken →
        (problem : Problem ℕ) →
        revision old taken.0 state.cells.xpbname ≡ Ok problem → IsLed S card (files Revised taken.1 state problem)
    files_revised old was taken e problem is =
        let printable = taken_printable state.cells.xdata state.decks taken lawful.decks e in
        does S card _ (record {
          file = (revision-problem old taken.0 state.cells.xpbname problem was printable.0 lawful.name is, lawful.file);
          setup = without_setup;
          decks = printable.1;
          name = lawful.name;
        })

sets_up_led : (S : Solving) (card : ℕ) (options : SetupOptions) (state : State) → AreLawful state → IsLed S card (sets_up card options state)
sets_up_led S card options state lawful =
    unless_fault S card VerbFault.NoProblem (problem_of state.cells.xpbname state.file) _ (λ problem e.
    selecting S card problem (choice_of state.cells options) _ (λ lp. does S card _ (record {
      file = lawful.file;
      setup = with_setup _ (filed state.cells.xpbname state.file problem lawful.file e);
      decks = lawful.decks;
      name = lawful.name;
    })))

punches_led : (S : Solving) (card : ℕ) (state : State) → AreLawful state → IsLed S card (punches card state)
punches_led S card state lawful =
    unless_fault S card VerbFault.NoProblem (problem_of state.cells.xpbname state.file) _
    (λ problem e. does S card _ (record { file = lawful.file; setup = lawful.setup; decks = lawful.decks; name = lawful.name }))

module _ (S : Solving) where
  pathed : (solver : Solver) (card : ℕ) (present : Present) (state : State) → AreLawful state → IsProblem present.problem → (end : PathEnd) →
      Leads (after_path solver card present state end)
  pathed solver card present state lawful is (Reached bases verdict check) =
      by_verdict_leads _ _ _ (record { file = lawful.file; setup = with_setup (gone_through bases present) is; decks = lawful.decks; name = lawful.name })
  pathed solver card present state lawful is PathLimit = tt
  pathed solver card present state lawful is (PricesWrong j) = tt

  installed : (card : ℕ) (lp : LinearProgram) (s : Basis) (taken : List Card × List (List Card)) (present : Present) (state : State) → AreLawful state →
      AllByRecursion ArePrintableCards taken.1 →
      IsProblem present.problem → (end : InstallEnd) → Leads (after_install card lp s taken present state end)
  installed card lp s taken present state lawful printable is Installed =
      record { file = lawful.file; setup = with_setup (record present { opening = s; steps = [] }) is; decks = printable; name = lawful.name }
  installed card lp s taken present state lawful printable is (DependsBy lines) = tt

  run_through : (card : ℕ) (parametric_run : ParametricRun) (present : Present) (state : State) → AreLawful state → IsProblem present.problem →
      (end : ParametricRunEnd) → Leads (after_parametric_run card parametric_run present state end)
  run_through card parametric_run present state lawful is (Opening bases verdict check) =
      by_verdict_leads _ _ _ (record { file = lawful.file; setup = with_setup (gone_through bases present) is; decks = lawful.decks; name = lawful.name })
  run_through card parametric_run present state lawful is (Chained bases intervals end) =
      record { file = lawful.file; setup = with_setup (gone_through bases present) is; decks = lawful.decks; name = lawful.name }
  run_through card parametric_run present state lawful is ParametricRunLimit = tt

  solves_led : (solver : Solver) (limit : Option ℕ) (card : ℕ) (state : State) → AreLawful state → IsLed S card (solves solver limit card state)
  solves_led solver limit card state lawful =
      unless_fault S card VerbFault.NoSetup state.setup _ (λ present e.
      selecting S card present.problem _ _ (λ lp.
      may_stop S card _ _ (answered S card (OfPath solver limit) _ _ _ (pathed solver card present state lawful (lawful.setup present e)))))

  showing_led : (card : ℕ) (state : State) (present : Present) (question : Question) (report : AnswerTo question → Report) → AreLawful state →
      IsLed S card (shows_present card state present question report)
  showing_led card state present question report lawful =
      unless_selection_fault S card (selected present.problem (choice_of state.cells present.options)) _ (λ lp.
      may_stop S card _ _
      (answered S card question _ _ _ (λ lines. record { file = lawful.file; setup = lawful.setup; decks = lawful.decks; name = lawful.name })))

  shows_led : (card : ℕ) (state : State) → AreLawful state → IsLed S card (shows card state)
  shows_led card state lawful =
      unless_fault S card VerbFault.NoSetup state.setup _ (λ present e.
      unless_fault S card VerbFault.NotSolved state.mark _ (λ mark m.
      showing_led card state present (OfSolution mark) (Solution mark) lawful))

  ranges_led : (card : ℕ) (state : State) → AreLawful state → IsLed S card (ranges card state)
  ranges_led card state lawful =
      unless_fault S card VerbFault.NoSetup state.setup _ (λ present e.
      unless_fault S card VerbFault.NotSolved state.mark _ (λ mark m.
      unless_fault {X = Mark} S card VerbFault.NotOptimal (if_optimal mark) _ (λ optimal o.
      showing_led card state present OfRanges Ranges lawful)))

  asked_led : (card : ℕ) (present : Present) (state : State) (lp : LinearProgram) (parametric_run : ParametricRun) → AreLawful state →
      IsProblem present.problem →
      IsLed S card
      (asks (OfParametricRun parametric_run) (record { problem = present.problem; lp = lp }) present
      (after_parametric_run card parametric_run present state))
  asked_led card present state lp parametric_run lawful is =
      may_stop S card _ _ (answered S card (OfParametricRun parametric_run) _ _ _ (run_through card parametric_run present state lawful is))

  parametric_runs_led : (card : ℕ) (fault : VerbFault) (change : Problem ℕ → Name → Option Changing) (moved : Option Name) (state : State) → AreLawful state →
      IsLed S card (parametric_runs card fault change moved state)
  parametric_runs_led card fault change moved state lawful =
      unless_fault S card VerbFault.NoSetup state.setup _ (λ present e.
      selecting S card present.problem _ _ (λ lp.
      unless_fault {X = Changing} S card fault (option_and_then (change present.problem) moved) _ (λ changing c.
      unless_fault {X = ℚ} S card VerbFault.NoParmax state.cells.xparmax _ (λ last l.
      unless_fault {X = ℚ} S card VerbFault.ParmaxBelow (not_less state.cells.xparam last) _ (λ to t.
      asked_led card present state lp (record { changing = changing; from = state.cells.xparam; to = to; limit = steps_allowed state.cells }) lawful
      (lawful.setup present e))))))

  punches_basis_led : (card : ℕ) (state : State) → AreLawful state → IsLed S card (punches_basis card state)
  punches_basis_led card state lawful =
      unless_fault S card VerbFault.NoSetup state.setup _ (λ present e.
      selecting S card present.problem _ _ (λ lp.
      answered S card OfPunch _ _ _ (λ cards. record { file = lawful.file; setup = lawful.setup; decks = lawful.decks; name = lawful.name })))

  inserts_led : (card : ℕ) (state : State) → AreLawful state → IsLed S card (inserts card state)
  inserts_led card state lawful =
      unless_fault S card VerbFault.NoSetup state.setup _ (λ present e.
      selecting S card present.problem _ _ (λ lp.
      unless_fault {X = List Card × List (List Card)} S card VerbFault.DeckNotFound (deck_taken state.cells.xdata state.decks) _ (λ taken t.
      unless_deck_fault S card (basis_reading present.problem lp taken.0) _ (λ s read.
      may_stop S card _ _ (answered S card (OfInstall s) _ _ _
      (installed card lp s taken present state lawful (taken_printable state.cells.xdata state.decks taken lawful.decks t).1 (lawful.setup present e)))))))

  verb_led : (verb : Verb ℕ) (card : ℕ) (state : State) → MovesName verb → AreLawful state → IsLed S card (verb_move verb card state)
  unfolding verb_move
  verb_led Initialz card state names lawful = does S card _ (record { file = lawful.file; setup = lawful.setup; decks = lawful.decks; name = tt })
  verb_led (Title text) card state names lawful = does S card _ (record { file = lawful.file; setup = lawful.setup; decks = lawful.decks; name = lawful.name })
  verb_led (MoveName cell name) card state names lawful =
      does S card _ (record { file = lawful.file; setup = lawful.setup; decks = lawful.decks; name = named cell name state.cells names lawful.name })
  verb_led (MoveNumber cell value) card state names lawful =
      does S card _ (record { file = lawful.file; setup = lawful.setup; decks = lawful.decks; name = numbered cell value state.cells lawful.name })
  verb_led (MoveLimit limit) card state names lawful =
      does S card _ (record { file = lawful.file; setup = lawful.setup; decks = lawful.decks; name = lawful.name })
  verb_led (Mvadr demand position) card state names lawful =
      does S card _ (record { file = lawful.file; setup = lawful.setup; decks = lawful.decks; name = demanding demand position state.cells lawful.name })
  verb_led (Goto position) card state names lawful =
      does S card _ (record { file = lawful.file; setup = lawful.setup; decks = lawful.decks; name = lawful.name })
  verb_led Convert card state names lawful = converts_led S card state lawful
  verb_led Revise card state names lawful = revises_led S card state lawful
  verb_led (Setup options) card state names lawful = sets_up_led S card options state lawful
  verb_led Primal card state names lawful = solves_led ByPrimal state.cells.xiterlim card state lawful
  verb_led Dual card state names lawful = solves_led ByDual (Some (steps_allowed state.cells)) card state lawful
  verb_led SolutionVerb card state names lawful = shows_led card state lawful
  verb_led Ranging card state names lawful = ranges_led card state lawful
  verb_led Paraobj card state names lawful = parametric_runs_led card VerbFault.NoChangeRow change_row state.cells.xchrow state lawful
  verb_led Pararhs card state names lawful = parametric_runs_led card VerbFault.NoChangeSet change_set state.cells.xchcol state lawful
  verb_led Bcdout card state names lawful = punches_led S card state lawful
  verb_led Punch card state names lawful = punches_basis_led card state lawful
  verb_led Insert card state names lawful = inserts_led card state lawful
  verb_led Exit card state names lawful = does S card _ tt

  -- ---- runs

  step_leads : (program : Program) (state : State) (outcome : StatementOutcome) → HasNames program → AreLawful state → Step S program state outcome →
      Leads outcome
  step_leads program state outcome names lawful step =
      (verb_led step.statement.verb step.statement.card (counted state) (statement_at program _ step.statement names step.is_at_position)
      (record { file = lawful.file; setup = lawful.setup; decks = lawful.decks; name = lawful.name })).by outcome step.gives

  reaching : (program : Program) (decks : List (List Card)) (reports : List Report) (cards : List (List ℕ)) (state : State) → HasNames program →
      AllByRecursion ArePrintableCards decks →
      Reaches S program decks reports cards state → AreLawful state
  reaching program decks _ _ _ names printable begun = record { file = tt; setup = without_setup; decks = printable; name = tt }
  reaching program decks _ _ _ names printable (stepped {reports} {cards} {state} gain after before step) =
      step_leads program state (Goes gain after) names (reaching program decks reports cards state names printable before) step

  pub job_reaching : (bytes : List ℕ) (program : Program) (reports : List Report) (cards : List (List ℕ)) (state : State) →
      IsSoFar S bytes reports cards program state → AreLawful state
  job_reaching bytes program reports cards state so_far =
      reaching program _ reports cards state (compiled_named _ program so_far.is_program.is_compiled)
      (job_printable bytes program so_far.is_program.is_read) so_far.reaches

  pub files_problems : FilesProblems S
  files_problems = record {
    filed = λ bytes program reports cards state so_far. each-all IsProblem state.file (job_reaching bytes program reports cards state so_far).file;
    set_up = λ bytes program reports cards state present so_far is. (job_reaching bytes program reports cards state so_far).setup present is;
  }
