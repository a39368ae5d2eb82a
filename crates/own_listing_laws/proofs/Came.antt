-- What a statement of a run comes to, where no operation of a selection is refused.
--     IsAsked move outcome         the answer to a question that the move asks gives this
--     IsQuiet mark outcome         what is printed is no verdict and shows none, and no mark is left where there was none
--     Came s verb card outcome     nothing is asked; or a path, SOLUTION or a parametric run is; or what is printed is open; or the run stops
use Rattle.std.proofs.Common.{◌≡◌, ◌≤◌, inl, inr, ℕ, Bool, true, false, List, ◌++◌, Option, Some, None, Result, Ok, Err, refl, sym, subst}
use Rattle.std.specs.Prelude.{option_and_then}
use Rattle.exact_values.specs.Rational.{ℚ}
use Rattle.lp_definitions.specs.LinearProgram.{LinearProgram}
use Rattle.card_definitions.specs.Cards.{Card}
use Rattle.deck_definitions.specs.declared.DeckFault.{DeckFault}
use Rattle.deck_definitions.specs.Conversion.{conversion}
use Rattle.deck_definitions.specs.Decks.{deck_taken}
use Rattle.basis_deck_definitions.specs.Reading.{basis_reading}
use Rattle.revise_definitions.specs.Revision.{revision}
use Rattle.problem_definitions.specs.Names.{Name}
use Rattle.problem_definitions.specs.Problem.{Problem}
use Rattle.control_definitions.specs.declared.NameCell.{NameCell}
use Rattle.control_definitions.specs.declared.NameCell.TheVariants.{Xdata, Xpbname, Xobj, Xrhs, Xoldname, Xchrow, Xchcol}
use Rattle.control_definitions.specs.Program.{SetupOptions, Verb, Initialz, Title, MoveName, MoveNumber, MoveLimit, Mvadr, Goto, Convert, Setup, Primal, Dual}
use Rattle.control_definitions.specs.Program.{Revise, Ranging, Paraobj, Pararhs, Solution as SolutionVerb, Bcdout, Punch, Insert, Exit}
use Rattle.control_definitions.specs.Cells.{Cells, steps_allowed}
use Rattle.selection_definitions.specs.declared.SelectionFault.{SelectionFault}
use Rattle.selection_definitions.specs.Choice.{Choice}
use Rattle.selection_definitions.specs.Selection.{selected}
use Rattle.selection_definitions.specs.Making.{is_made}
use Rattle.selection_definitions.proofs.Making.{made_iff}
use Rattle.listing_definitions.specs.declared.Mark.{Mark}
use Rattle.listing_definitions.specs.declared.Solver.{Solver}
use Rattle.listing_definitions.specs.declared.Solver.TheVariants.{Primal as ByPrimal, Dual as ByDual}
use Rattle.listing_definitions.specs.declared.VerbFault.{VerbFault}
use Rattle.listing_definitions.specs.Report.{PathVerdict, Check, SolutionLines, ParametricInterval, ChainEnd, Report, Titled, Converted, Revised, SetUp, BcdOut}
use Rattle.listing_definitions.specs.Report.{BasisOut, Inserted, Solved, Solution, Ranges, Parametric}
use Rattle.listing_definitions.specs.Ending.{Overflow, Ending, LimitStop, SingularStop, PriceStop, OverflowStop}
use Rattle.listing_definitions.specs.Listing.{ending_text}
use Rattle.question_definitions.specs.Answers.{Basis, Sheet, Changing, ParametricRun, Question, AnswerTo, OfPath, OfSolution, OfParametricRun, PathEnd, Reached}
use Rattle.question_definitions.specs.Answers.{PathLimit, PricesWrong, ParametricRunEnd, Opening, Chained, ParametricRunLimit, InstallEnd, Installed, DependsBy}
use Rattle.question_definitions.specs.Solving.{IsRight}
use Rattle.answer_definitions.specs.Verdicts.{IsSolvedBy}
use Rattle.answer_definitions.specs.Sections.{IsSolutionOf}
use Rattle.answer_definitions.specs.ParametricRuns.{FailsToOpen, IsChained, IsParametricRun}
use Rattle.run_definitions.specs.State.{Present, present_basis, State, problem_of, choice_of}
use Rattle.run_definitions.specs.Moves.{Gain, Nothing, Prints, Punches, printed_by, StatementOutcome, Goes, Ends, next, stops, InSelection, InAnswer}
use Rattle.run_definitions.specs.Moves.{StatementMove, Does, MayStop, Asks, Gives, DecidesAlone, or_fault}
use Rattle.run_definitions.specs.Verbs.{or_deck_fault, or_selection_fault, selects, not_less, change_row, change_set, mark_after, if_optimal, after_path}
use Rattle.run_definitions.specs.Verbs.{after_parametric_run, after_install, solves, shows, ranges, parametric_runs, converts, revises, sets_up, punches}
use Rattle.run_definitions.specs.Verbs.{punches_basis, inserts, verb_move}
use Rattle.run_definitions.specs.Run.{counted}
use Rattle.soundness_laws.proofs.Moves.{HasProblem}
use Rattle.walk_definitions.specs.Forms.{is_open_stop}
use Rattle.walk_definitions.specs.Words.{max_count}
use Rattle.walk_definitions.specs.Walker.{refuses_selection}
use Rattle.fitting_answers.specs.Fitting.{LinesFit, VerdictFits, CheckFits, SolutionFits, IntervalsFit, EndFits, PathEndFits, ParametricRunEndFits}
use Rattle.fitting_answers.specs.Real.{linear_programming_of_128_bits}
use Rattle.own_listing_laws.specs.Attestable.{Selects, sheet_of, IsSolving, by_primal, by_dual}
use Rattle.own_listing_laws.specs.WholeRuns.{waits_after, ShowsAll}
use Rattle.own_listing_laws.proofs.Stops.{open_limit, open_singular, open_price, open_overflow}
use Rattle.own_listing_laws.proofs.Counted.{few_variables}
use Rattle.own_listing_laws.proofs.Pace.{shown_fits}
use Rattle.own_listing_laws.proofs.Paths.{IsPathSolver, wrong_variable}
use Rattle.own_listing_laws.proofs.Onward.{both_parts}

-- ---- what is asked

-- a right answer to a question gives this
record Answers (question : Question) (sheet : Sheet) (t : Basis) (go : AnswerTo question → StatementOutcome) (outcome : StatementOutcome) : Type 0 where
  answer : AnswerTo question
  right : IsRight linear_programming_of_128_bits question sheet t answer
  is : outcome ≡ go answer

abbrev Asked : StatementMove → StatementOutcome → Type 0
Asked (Does own) outcome = ⊥
Asked (MayStop refusals move) outcome = Asked move outcome
Asked (Asks question sheet t go) outcome = Answers question sheet t go outcome

record IsAsked (move : StatementMove) (outcome : StatementOutcome) : Type 0 where
  made : refuses_selection move ≡ false
  asked : Asked move outcome

-- the run stops, and where its numbers are small that is open
pub record IsStuck (card : ℕ) (limit : ℕ) (outcome : StatementOutcome) : Type 0 where
  pub ending : Ending
  pub is : outcome ≡ stops ending
  pub opens : card ≤ max_count → limit ≤ max_count → is_open_stop (ending_text ending) ≡ true

data Settles (card limit : ℕ) (move : StatementMove) (outcome : StatementOutcome) : Type 0 where
  by_itself : DecidesAlone card move outcome → Settles card limit move outcome
  by_answer : Asked move outcome → Settles card limit move outcome
  stuck : IsStuck card limit outcome → Settles card limit move outcome

module _ (card limit : ℕ) where
  further : (problem : Problem ℕ) (choice : Choice) (move : StatementMove) (outcome : StatementOutcome) → Settles card limit move outcome →
      Settles card limit (MayStop (InSelection problem choice) move) outcome
  further problem choice move outcome (by_itself given) = by_itself given
  further problem choice move outcome (by_answer given) = by_answer given
  further problem choice move outcome (stuck given) = stuck given

  onward : (question : Question) (sheet : Sheet) (path : List Basis) (move : StatementMove) (outcome : StatementOutcome) → Settles card limit move outcome →
      Settles card limit (MayStop (InAnswer question sheet path) move) outcome
  onward question sheet path move outcome (by_itself given) = by_itself given
  onward question sheet path move outcome (by_answer given) = by_answer given
  onward question sheet path move outcome (stuck given) = stuck given

  settles : (move : StatementMove) (outcome : StatementOutcome) → Gives linear_programming_of_128_bits card move outcome →
      refuses_selection move ≡ false → Settles card limit move outcome
  settles (Does own) outcome gives made = by_itself gives
  settles (MayStop (InSelection problem choice) move) outcome (inl gives) made =
      further problem choice move outcome (settles move outcome gives (both_parts (is_made problem choice) (refuses_selection move) made).1)
  settles (MayStop (InSelection problem choice) move) outcome (inr (evidence, place, shown, is)) made =
      absurd ((made_iff problem choice).0 (both_parts (is_made problem choice) (refuses_selection move) made).0 evidence shown.0)
  settles (MayStop (InAnswer question sheet path) move) outcome (inl gives) made =
      onward question sheet path move outcome (settles move outcome gives made)
  settles (MayStop (InAnswer question sheet path) move) outcome (inr (evidence, place, shown, is)) made =
      let own : Overflow = record { evidence = evidence; place = place; card = card } in
      stuck (record {
        ending = OverflowStop own;
        is = is;
        opens = λ small limits. open_overflow own (shown_fits question sheet path evidence place shown) small;
      })
  settles (Asks question sheet t go) outcome (answer, right, is) made = by_answer (record { answer = answer; right = right; is = is })

-- ---- through the tests of a verb

module _ (card : ℕ) (outcome : StatementOutcome) where
  record Got {X : Type 0} (o : Option X) (go : X → StatementMove) : Type 0 where
    x : X
    is : o ≡ Some x
    asked : IsAsked (go x) outcome

  got_fault : {X : Type 0} (fault : VerbFault) (o : Option X) (go : X → StatementMove) → IsAsked (or_fault card fault o go) outcome → Got o go
  got_fault fault None go given = absurd given.asked
  got_fault fault (Some x) go given = record { x = x; is = refl; asked = given }

  record GotDeck {X : Type 0} (r : Result X DeckFault) (go : X → StatementMove) : Type 0 where
    x : X
    asked : IsAsked (go x) outcome

  got_deck : {X : Type 0} (r : Result X DeckFault) (go : X → StatementMove) → IsAsked (or_deck_fault r go) outcome → GotDeck r go
  got_deck (Err fault) go given = absurd given.asked
  got_deck (Ok x) go given = record { x = x; asked = given }

  record GotProgram (r : Result LinearProgram SelectionFault) (go : LinearProgram → StatementMove) : Type 0 where
    lp : LinearProgram
    is : r ≡ Ok lp
    asked : IsAsked (go lp) outcome

  got_program : (r : Result LinearProgram SelectionFault) (go : LinearProgram → StatementMove) → IsAsked (or_selection_fault card r go) outcome →
      GotProgram r go
  got_program (Err fault) go given = absurd given.asked
  got_program (Ok lp) go given = record { lp = lp; is = refl; asked = given }

  record GotSelected (problem : Problem ℕ) (choice : Choice) (go : LinearProgram → StatementMove) : Type 0 where
    lp : LinearProgram
    is : selected problem choice ≡ Ok lp
    made : is_made problem choice ≡ true
    asked : IsAsked (go lp) outcome

  got_selected : (problem : Problem ℕ) (choice : Choice) (go : LinearProgram → StatementMove) → IsAsked (selects card problem choice go) outcome →
      GotSelected problem choice go
  got_selected problem choice go given =
      let got = got_program (selected problem choice) (λ lp. MayStop (InSelection problem choice) (go lp)) given in
      let parts = both_parts (is_made problem choice) (refuses_selection (go got.lp)) got.asked.made in
      record { lp = got.lp; is = got.is; made = parts.0; asked = record { made = parts.1; asked = got.asked.asked } }

-- ---- what is quiet

abbrev pub IsQuietReport : Report → Type 0
IsQuietReport (Titled text) = Unit {0}
IsQuietReport (Converted filed) = Unit {0}
IsQuietReport (Revised filed) = Unit {0}
IsQuietReport (SetUp name sense) = Unit {0}
IsQuietReport (BcdOut name cards) = Unit {0}
IsQuietReport report = ⊥

abbrev pub IsQuietGain : Gain → Type 0
IsQuietGain Nothing = Unit {0}
IsQuietGain (Prints report) = IsQuietReport report
IsQuietGain (Punches report cards) = IsQuietReport report

abbrev pub IsQuiet : Option Mark → StatementOutcome → Type 0
IsQuiet mark (Goes gain after) = IsQuietGain gain × (mark ≡ None → after.mark ≡ None)
IsQuiet mark (Ends gain ending) = IsQuietGain gain

quiet_waits : (waiting : Bool) (report : Report) → IsQuietReport report → waits_after waiting report ≡ waiting
quiet_waits waiting (Titled text) quiet = refl
quiet_waits waiting (Converted filed) quiet = refl
quiet_waits waiting (Revised filed) quiet = refl
quiet_waits waiting (SetUp name sense) quiet = refl
quiet_waits waiting (BcdOut name cards) quiet = refl
quiet_waits waiting (BasisOut name cards) quiet = absurd quiet
quiet_waits waiting (Inserted name basic) quiet = absurd quiet
quiet_waits waiting (Solved solver verdict check) quiet = absurd quiet
quiet_waits waiting (Solution mark lines) quiet = absurd quiet
quiet_waits waiting (Ranges lines) quiet = absurd quiet
quiet_waits waiting (Parametric solver chain) quiet = absurd quiet

pub quiet_shows : (waiting : Bool) (gain : Gain) (reports : List Report) → IsQuietGain gain → ShowsAll waiting (printed_by gain ++ reports) →
    ShowsAll waiting reports
quiet_shows waiting Nothing reports quiet shown = shown
quiet_shows waiting (Prints report) reports quiet shown = subst (λ b. ShowsAll b reports) (quiet_waits waiting report quiet) shown.1
quiet_shows waiting (Punches report cards) reports quiet shown = subst (λ b. ShowsAll b reports) (quiet_waits waiting report quiet) shown.1

abbrev Quiet : Option Mark → StatementMove → Type 0
Quiet mark (Does outcome) = IsQuiet mark outcome
Quiet mark (MayStop refusals move) = Quiet mark move
Quiet mark (Asks question sheet t go) = Unit {0}

quiet_alone : (mark : Option Mark) (card : ℕ) (move : StatementMove) (outcome : StatementOutcome) → Quiet mark move → DecidesAlone card move outcome →
    IsQuiet mark outcome
quiet_alone mark card (Does own) outcome quiet given = subst (IsQuiet mark) (sym given) quiet
quiet_alone mark card (MayStop refusals move) outcome quiet given = quiet_alone mark card move outcome quiet given
quiet_alone mark card (Asks question sheet t go) outcome quiet given = absurd given

module _ (mark : Option Mark) (card : ℕ) where
  quiet_fault : {X : Type 0} (fault : VerbFault) (o : Option X) (go : X → StatementMove) → ((x : X) → Quiet mark (go x)) →
      Quiet mark (or_fault card fault o go)
  quiet_fault fault None go quiet = tt
  quiet_fault fault (Some x) go quiet = quiet x

  quiet_deck : {X : Type 0} (r : Result X DeckFault) (go : X → StatementMove) → ((x : X) → Quiet mark (go x)) → Quiet mark (or_deck_fault r go)
  quiet_deck (Err fault) go quiet = tt
  quiet_deck (Ok x) go quiet = quiet x

  quiet_program : (r : Result LinearProgram SelectionFault) (go : LinearProgram → StatementMove) → ((lp : LinearProgram) → Quiet mark (go lp)) →
      Quiet mark (or_selection_fault card r go)
  quiet_program (Err fault) go quiet = tt
  quiet_program (Ok lp) go quiet = quiet lp

named_mark : (cell : NameCell) (mark : Option Mark) → mark ≡ None → mark_after cell mark ≡ None
named_mark Xdata mark none = none
named_mark Xpbname mark none = none
named_mark Xobj mark none = refl
named_mark Xrhs mark none = refl
named_mark Xoldname mark none = none
named_mark Xchrow mark none = none
named_mark Xchcol mark none = none

module _ (s : State) (card : ℕ) where
  converts_quiet : Quiet s.mark (converts card (counted s))
  converts_quiet =
      quiet_fault s.mark card {X = List Card × List (List Card)} VerbFault.DeckNotFound (deck_taken s.cells.xdata s.decks) _ (λ taken.
      quiet_deck s.mark card (conversion taken.0 s.cells.xpbname) _ (λ problem. (tt, λ none. refl)))

  revises_quiet : Quiet s.mark (revises card (counted s))
  revises_quiet =
      quiet_fault s.mark card VerbFault.NoProblem (problem_of s.cells.xoldname s.file) _ (λ old.
      quiet_fault s.mark card {X = List Card × List (List Card)} VerbFault.DeckNotFound (deck_taken s.cells.xdata s.decks) _ (λ taken.
      quiet_deck s.mark card (revision old taken.0 s.cells.xpbname) _ (λ problem. (tt, λ none. refl))))

  sets_up_quiet : (options : SetupOptions) → Quiet s.mark (sets_up card options (counted s))
  sets_up_quiet options =
      quiet_fault s.mark card VerbFault.NoProblem (problem_of s.cells.xpbname s.file) _ (λ problem.
      quiet_program s.mark card (selected problem (choice_of s.cells options)) _ (λ lp. (tt, λ none. refl)))

  punches_quiet : Quiet s.mark (punches card (counted s))
  punches_quiet = quiet_fault s.mark card VerbFault.NoProblem (problem_of s.cells.xpbname s.file) _ (λ problem. (tt, λ none. none))

  solves_quiet : (solver : Solver) (limit : Option ℕ) → Quiet s.mark (solves solver limit card (counted s))
  solves_quiet solver limit =
      quiet_fault s.mark card VerbFault.NoSetup s.setup _ (λ present.
      quiet_program s.mark card (selected present.problem (choice_of s.cells present.options)) _ (λ lp. tt))

  shows_quiet : Quiet s.mark (shows card (counted s))
  shows_quiet =
      quiet_fault s.mark card VerbFault.NoSetup s.setup _ (λ present.
      quiet_fault s.mark card VerbFault.NotSolved s.mark _ (λ mark.
      quiet_program s.mark card (selected present.problem (choice_of s.cells present.options)) _ (λ lp. tt)))

  ranges_quiet : Quiet s.mark (ranges card (counted s))
  ranges_quiet =
      quiet_fault s.mark card VerbFault.NoSetup s.setup _ (λ present.
      quiet_fault s.mark card VerbFault.NotSolved s.mark _ (λ mark.
      quiet_fault s.mark card {X = Mark} VerbFault.NotOptimal (if_optimal mark) _ (λ optimal.
      quiet_program s.mark card (selected present.problem (choice_of s.cells present.options)) _ (λ lp. tt))))

  punches_basis_quiet : Quiet s.mark (punches_basis card (counted s))
  punches_basis_quiet =
      quiet_fault s.mark card VerbFault.NoSetup s.setup _ (λ present.
      quiet_program s.mark card (selected present.problem (choice_of s.cells present.options)) _ (λ lp. tt))

  inserts_quiet : Quiet s.mark (inserts card (counted s))
  inserts_quiet =
      quiet_fault s.mark card VerbFault.NoSetup s.setup _ (λ present.
      quiet_program s.mark card (selected present.problem (choice_of s.cells present.options)) _ (λ lp.
      quiet_fault s.mark card {X = List Card × List (List Card)} VerbFault.DeckNotFound (deck_taken s.cells.xdata s.decks) _ (λ taken.
      quiet_deck s.mark card (basis_reading present.problem lp taken.0) _ (λ b. tt))))

  runs_quiet : (fault : VerbFault) (change : Problem ℕ → Name → Option Changing) (moved : Option Name) →
      Quiet s.mark (parametric_runs card fault change moved (counted s))
  runs_quiet fault change moved =
      quiet_fault s.mark card VerbFault.NoSetup s.setup _ (λ present.
      quiet_program s.mark card (selected present.problem (choice_of s.cells present.options)) _ (λ lp.
      quiet_fault s.mark card {X = Changing} fault (option_and_then (change present.problem) moved) _ (λ changing.
      quiet_fault s.mark card {X = ℚ} VerbFault.NoParmax s.cells.xparmax _ (λ last.
      quiet_fault s.mark card {X = ℚ} VerbFault.ParmaxBelow (not_less s.cells.xparam last) _ (λ to. tt)))))

  verb_quiet : (verb : Verb ℕ) → Quiet s.mark (verb_move verb card (counted s))
  unfolding verb_move
  verb_quiet Initialz = (tt, λ none. refl)
  verb_quiet (Title text) = (tt, λ none. none)
  verb_quiet (MoveName cell name) = (tt, named_mark cell s.mark)
  verb_quiet (MoveNumber cell value) = (tt, λ none. none)
  verb_quiet (MoveLimit limit) = (tt, λ none. none)
  verb_quiet (Mvadr demand position) = (tt, λ none. none)
  verb_quiet (Goto position) = (tt, λ none. none)
  verb_quiet Convert = converts_quiet
  verb_quiet Revise = revises_quiet
  verb_quiet (Setup options) = sets_up_quiet options
  verb_quiet Primal = solves_quiet _ _
  verb_quiet Dual = solves_quiet _ _
  verb_quiet SolutionVerb = shows_quiet
  verb_quiet Ranging = ranges_quiet
  verb_quiet Paraobj = runs_quiet VerbFault.NoChangeRow change_row s.cells.xchrow
  verb_quiet Pararhs = runs_quiet VerbFault.NoChangeSet change_set s.cells.xchcol
  verb_quiet Bcdout = punches_quiet
  verb_quiet Punch = punches_basis_quiet
  verb_quiet Insert = inserts_quiet
  verb_quiet Exit = tt

-- ---- what a statement comes to

-- the verbs of a parametric run: the fault where nothing changes, what may change, and the name that was moved
pub data IsChanging (cells : Cells) : Verb ℕ → VerbFault → (Problem ℕ → Name → Option Changing) → Option Name → Type 0 where
  of_objective : IsChanging cells Paraobj VerbFault.NoChangeRow change_row cells.xchrow
  of_rhs : IsChanging cells Pararhs VerbFault.NoChangeSet change_set cells.xchcol

module _ (s : State) (verb : Verb ℕ) (card : ℕ) (outcome : StatementOutcome) where
  pub record ComesOfPath : Type 0 where
    pub solver : Solver
    pub limit : Option ℕ
    pub is_solving : IsSolving s.cells verb solver limit
    pub selects : Selects s
    pub bases : List Basis
    pub verdict : PathVerdict
    pub check : Check
    pub is_solved : IsSolvedBy solver (sheet_of selects) (present_basis selects.present) limit (Reached bases verdict check)
    pub fits : VerdictFits verdict
    pub check_fits : CheckFits check
    pub is : outcome ≡ after_path solver card selects.present (counted s) (Reached bases verdict check)

  pub record ComesOfSolution : Type 0 where
    pub is_verb : verb ≡ SolutionVerb
    pub present : Present
    pub is_setup : s.setup ≡ Some present
    pub mark : Mark
    pub is_mark : s.mark ≡ Some mark
    pub lp : LinearProgram
    pub is_selected : selected present.problem (choice_of s.cells present.options) ≡ Ok lp
    pub lines : SolutionLines
    pub is_shown : IsSolutionOf (record { problem = present.problem; lp = lp }) (present_basis present) lines
    pub rows : LinesFit lines.rows
    pub columns : LinesFit lines.columns
    pub is : outcome ≡ next (Prints (Solution mark lines)) (counted s)

  -- what a parametric run begins with
  pub record BeginsRun : Type 0 where
    pub fault : VerbFault
    pub change : Problem ℕ → Name → Option Changing
    pub moved : Option Name
    pub is_verb : IsChanging s.cells verb fault change moved
    pub selects : Selects s
    pub changing : Changing
    pub is_changing : option_and_then (change selects.present.problem) moved ≡ Some changing
    pub last : ℚ
    pub is_last : s.cells.xparmax ≡ Some last
    pub to : ℚ
    pub is_to : not_less s.cells.xparam last ≡ Some to

  abbrev pub run_of : BeginsRun → ParametricRun
  run_of begins = record { changing = begins.changing; from = s.cells.xparam; to = begins.to; limit = steps_allowed s.cells }

  pub record ComesOfOpening : Type 0 where
    pub begins : BeginsRun
    pub bases : List Basis
    pub verdict : PathVerdict
    pub check : Check
    pub fails : FailsToOpen (sheet_of begins.selects) (present_basis begins.selects.present) (run_of begins) bases verdict check
    pub fits : VerdictFits verdict
    pub check_fits : CheckFits check
    pub is : outcome ≡ after_parametric_run card (run_of begins) begins.selects.present (counted s) (Opening bases verdict check)

  pub record ComesOfRun : Type 0 where
    pub begins : BeginsRun
    pub bases : List Basis
    pub intervals : List ParametricInterval
    pub end : ChainEnd
    pub is_chained : IsChained (sheet_of begins.selects) (present_basis begins.selects.present) (run_of begins) bases intervals end
    pub fits : IntervalsFit intervals
    pub end_fits : EndFits end
    pub is : outcome ≡ after_parametric_run card (run_of begins) begins.selects.present (counted s) (Chained bases intervals end)

  -- no listing with what is printed is attested
  pub record ComesOpen : Type 0 where
    pub gain : Gain
    pub after : State
    pub is : outcome ≡ Goes gain after
    pub never : (waiting : Bool) (reports : List Report) → ShowsAll waiting (printed_by gain ++ reports) → ⊥

  pub data Came : Type 0 where
    alone : DecidesAlone card (verb_move verb card (counted s)) outcome → IsQuiet s.mark outcome → Came
    of_path : ComesOfPath → Came
    of_solution : ComesOfSolution → Came
    of_opening : ComesOfOpening → Came
    of_run : ComesOfRun → Came
    opens : ComesOpen → Came
    stops_so : IsStuck card (steps_allowed s.cells) outcome → Came

-- ---- by the answer

module _ (sheet : Sheet) (t : Basis) where
  path_right : (solver : Solver) (limit : Option ℕ) (answer : PathEnd) → IsRight linear_programming_of_128_bits (OfPath solver limit) sheet t answer →
      IsSolvedBy solver sheet t limit answer × PathEndFits answer
  unfolding linear_programming_of_128_bits
  path_right solver limit answer right = right

  solution_right : (mark : Mark) (lines : SolutionLines) → IsRight linear_programming_of_128_bits (OfSolution mark) sheet t lines →
      IsSolutionOf sheet t lines × SolutionFits lines
  unfolding linear_programming_of_128_bits
  solution_right mark lines right = right

  run_right : (parametric_run : ParametricRun) (answer : ParametricRunEnd) →
      IsRight linear_programming_of_128_bits (OfParametricRun parametric_run) sheet t answer →
      IsParametricRun sheet t parametric_run answer × ParametricRunEndFits answer
  unfolding linear_programming_of_128_bits
  run_right parametric_run answer right = right

module _ (s : State) (card : ℕ) (outcome : StatementOutcome) where
  converts_never : IsAsked (converts card (counted s)) outcome → ⊥
  converts_never given =
      let taken = got_fault card outcome {X = List Card × List (List Card)} VerbFault.DeckNotFound (deck_taken s.cells.xdata s.decks) _ given in
      (got_deck card outcome (conversion taken.x.0 s.cells.xpbname) _ taken.asked).asked.asked

  revises_never : IsAsked (revises card (counted s)) outcome → ⊥
  revises_never given =
      let old = got_fault card outcome VerbFault.NoProblem (problem_of s.cells.xoldname s.file) _ given in
      let taken = got_fault card outcome {X = List Card × List (List Card)} VerbFault.DeckNotFound (deck_taken s.cells.xdata s.decks) _ old.asked in
      (got_deck card outcome (revision old.x taken.x.0 s.cells.xpbname) _ taken.asked).asked.asked

  sets_up_never : (options : SetupOptions) → IsAsked (sets_up card options (counted s)) outcome → ⊥
  sets_up_never options given =
      let problem = got_fault card outcome VerbFault.NoProblem (problem_of s.cells.xpbname s.file) _ given in
      (got_selected card outcome problem.x (choice_of s.cells options) _ problem.asked).asked.asked

  punches_never : IsAsked (punches card (counted s)) outcome → ⊥
  punches_never given = (got_fault card outcome VerbFault.NoProblem (problem_of s.cells.xpbname s.file) _ given).asked.asked

  -- ---- PRIMAL and DUAL

  solves_came : (verb : Verb ℕ) (solver : Solver) (limit : Option ℕ) → IsPathSolver solver → IsSolving s.cells verb solver limit → HasProblem s.setup →
      IsAsked (solves solver limit card (counted s)) outcome → Came s verb card outcome
  solves_came verb solver limit path solving lawful given =
      let got = got_fault card outcome VerbFault.NoSetup s.setup _ given in
      let found = got_selected card outcome got.x.problem (choice_of s.cells got.x.options) _ got.asked in
      let given_selected : Selects s = record { present = got.x; is_setup = got.is; lp = found.lp; is_selected = found.is; is_made = found.made } in
      let given_answer = found.asked.asked in
      by given_selected given_answer.answer (path_right (sheet_of given_selected) (present_basis got.x) solver limit given_answer.answer given_answer.right)
      given_answer.is
    where
      by : (sel : Selects s) (answer : PathEnd) → IsSolvedBy solver (sheet_of sel) (present_basis sel.present) limit answer × PathEndFits answer →
          outcome ≡ after_path solver card sel.present (counted s) answer → Came s verb card outcome
      by sel (Reached bases verdict check) right is = of_path (record {
        solver = solver;
        limit = limit;
        is_solving = solving;
        selects = sel;
        bases = bases;
        verdict = verdict;
        check = check;
        is_solved = right.0;
        fits = right.1.0;
        check_fits = right.1.1;
        is = is;
      })
      by sel PathLimit right is =
          stops_so (record {
            ending = LimitStop (record { limit = steps_allowed s.cells; card = card });
            is = is;
            opens = λ small limits. open_limit (record { limit = steps_allowed s.cells; card = card }) limits small;
          })
      by sel (PricesWrong j) right is =
          stops_so (record {
            ending = PriceStop (record { card = card; variable = j });
            is = is;
            opens = λ small limits. open_price (record { card = card; variable = j }) small
                (wrong_variable (sheet_of sel) (present_basis sel.present)
                (few_variables sel.present.problem (choice_of s.cells sel.present.options) sel.lp (lawful sel.present sel.is_setup)
                sel.is_selected) solver path limit j right.0);
          })

  -- ---- SOLUTION

  shows_came : IsAsked (shows card (counted s)) outcome → Came s SolutionVerb card outcome
  shows_came given =
      let got = got_fault card outcome VerbFault.NoSetup s.setup _ given in
      let marked = got_fault card outcome VerbFault.NotSolved s.mark _ got.asked in
      let found = got_program card outcome (selected got.x.problem (choice_of s.cells got.x.options)) _ marked.asked in
      let shown = found.asked.asked in
      let right = solution_right (record { problem = got.x.problem; lp = found.lp }) (present_basis got.x) marked.x shown.answer shown.right in
      of_solution (record {
        is_verb = refl;
        present = got.x;
        is_setup = got.is;
        mark = marked.x;
        is_mark = marked.is;
        lp = found.lp;
        is_selected = found.is;
        lines = shown.answer;
        is_shown = right.0;
        rows = right.1.0;
        columns = right.1.1;
        is = shown.is;
      })

  -- ---- RANGE, PUNCH and INSERT

  ranges_came : IsAsked (ranges card (counted s)) outcome → Came s Ranging card outcome
  ranges_came given =
      let got = got_fault card outcome VerbFault.NoSetup s.setup _ given in
      let marked = got_fault card outcome VerbFault.NotSolved s.mark _ got.asked in
      let optimal = got_fault card outcome {X = Mark} VerbFault.NotOptimal (if_optimal marked.x) _ marked.asked in
      let found = got_program card outcome (selected got.x.problem (choice_of s.cells got.x.options)) _ optimal.asked in
      opens (record { gain = Prints (Ranges found.asked.asked.answer); after = _; is = found.asked.asked.is; never = λ waiting reports shown. shown.0 })

  punches_basis_came : IsAsked (punches_basis card (counted s)) outcome → Came s Punch card outcome
  punches_basis_came given =
      let got = got_fault card outcome VerbFault.NoSetup s.setup _ given in
      let found = got_selected card outcome got.x.problem (choice_of s.cells got.x.options) _ got.asked in
      opens (record {
        gain = Punches (BasisOut got.x.problem.name _) found.asked.asked.answer;
        after = _;
        is = found.asked.asked.is;
        never = λ waiting reports shown. shown.0;
      })

  inserts_came : IsAsked (inserts card (counted s)) outcome → Came s Insert card outcome
  inserts_came given =
      let got = got_fault card outcome VerbFault.NoSetup s.setup _ given in
      let found = got_selected card outcome got.x.problem (choice_of s.cells got.x.options) _ got.asked in
      let taken = got_fault card outcome {X = List Card × List (List Card)} VerbFault.DeckNotFound (deck_taken s.cells.xdata s.decks) _ found.asked in
      let read = got_deck card outcome (basis_reading got.x.problem found.lp taken.x.0) _ taken.asked in
      by found.lp read.x taken.x got.x read.asked.asked.answer read.asked.asked.is
    where
      by : (lp : LinearProgram) (t : Basis) (taken : List Card × List (List Card)) (present : Present) (answer : InstallEnd) →
          outcome ≡ after_install card lp t taken present (counted s) answer → Came s Insert card outcome
      by lp t taken present Installed is = opens (record { gain = Prints (Inserted _ _); after = _; is = is; never = λ waiting reports shown. shown.0 })
      by lp t taken present (DependsBy lines) is =
          stops_so (record {
            ending = SingularStop (record { card = card; lines = lines });
            is = is;
            opens = λ small limits. open_singular (record { card = card; lines = lines }) small;
          })

  -- ---- PARAOBJ and PARARHS

  runs_came : (verb : Verb ℕ) (fault : VerbFault) (change : Problem ℕ → Name → Option Changing) (moved : Option Name) →
      IsChanging s.cells verb fault change moved →
      IsAsked (parametric_runs card fault change moved (counted s)) outcome → Came s verb card outcome
  runs_came verb fault change moved is_verb given =
      let got = got_fault card outcome VerbFault.NoSetup s.setup _ given in
      let found = got_selected card outcome got.x.problem (choice_of s.cells got.x.options) _ got.asked in
      let changing = got_fault card outcome {X = Changing} fault (option_and_then (change got.x.problem) moved) _ found.asked in
      let last = got_fault card outcome {X = ℚ} VerbFault.NoParmax s.cells.xparmax _ changing.asked in
      let to = got_fault card outcome {X = ℚ} VerbFault.ParmaxBelow (not_less s.cells.xparam last.x) _ last.asked in
      let begins : BeginsRun s verb card outcome = record {
        fault = fault;
        change = change;
        moved = moved;
        is_verb = is_verb;
        selects = record { present = got.x; is_setup = got.is; lp = found.lp; is_selected = found.is; is_made = found.made };
        changing = changing.x;
        is_changing = changing.is;
        last = last.x;
        is_last = last.is;
        to = to.x;
        is_to = to.is;
      } in
      by begins to.asked.asked.answer
      (run_right (sheet_of begins.selects) (present_basis got.x) (run_of s verb card outcome begins) to.asked.asked.answer to.asked.asked.right)
      to.asked.asked.is
    where
      by : (begins : BeginsRun s verb card outcome) (answer : ParametricRunEnd) →
          IsParametricRun (sheet_of begins.selects) (present_basis begins.selects.present) (run_of s verb card outcome begins) answer ×
          ParametricRunEndFits answer →
          outcome ≡ after_parametric_run card (run_of s verb card outcome begins) begins.selects.present (counted s) answer → Came s verb card outcome
      by begins (Opening bases verdict check) right is =
          of_opening (record {
            begins = begins;
            bases = bases;
            verdict = verdict;
            check = check;
            fails = right.0;
            fits = right.1.0;
            check_fits = right.1.1;
            is = is;
          })
      by begins (Chained bases intervals end) right is =
          of_run (record {
            begins = begins;
            bases = bases;
            intervals = intervals;
            end = end;
            is_chained = right.0;
            fits = right.1.0;
            end_fits = right.1.1;
            is = is;
          })
      by begins ParametricRunLimit right is =
          stops_so (record {
            ending = LimitStop (record { limit = steps_allowed s.cells; card = card });
            is = is;
            opens = λ small limits. open_limit (record { limit = steps_allowed s.cells; card = card }) limits small;
          })

  -- ---- each verb

  asked_came : (verb : Verb ℕ) → HasProblem s.setup → IsAsked (verb_move verb card (counted s)) outcome → Came s verb card outcome
  unfolding verb_move
  asked_came Initialz lawful given = absurd given.asked
  asked_came (Title text) lawful given = absurd given.asked
  asked_came (MoveName cell name) lawful given = absurd given.asked
  asked_came (MoveNumber cell value) lawful given = absurd given.asked
  asked_came (MoveLimit limit) lawful given = absurd given.asked
  asked_came (Mvadr demand position) lawful given = absurd given.asked
  asked_came (Goto position) lawful given = absurd given.asked
  asked_came Convert lawful given = absurd (converts_never given)
  asked_came Revise lawful given = absurd (revises_never given)
  asked_came (Setup options) lawful given = absurd (sets_up_never options given)
  asked_came Primal lawful given = solves_came Primal ByPrimal s.cells.xiterlim tt by_primal lawful given
  asked_came Dual lawful given = solves_came Dual ByDual (Some (steps_allowed s.cells)) tt by_dual lawful given
  asked_came SolutionVerb lawful given = shows_came given
  asked_came Ranging lawful given = ranges_came given
  asked_came Paraobj lawful given = runs_came Paraobj VerbFault.NoChangeRow change_row s.cells.xchrow of_objective given
  asked_came Pararhs lawful given = runs_came Pararhs VerbFault.NoChangeSet change_set s.cells.xchcol of_rhs given
  asked_came Bcdout lawful given = absurd (punches_never given)
  asked_came Punch lawful given = punches_basis_came given
  asked_came Insert lawful given = inserts_came given
  asked_came Exit lawful given = absurd given.asked

pub came : (s : State) (verb : Verb ℕ) (card : ℕ) (outcome : StatementOutcome) → HasProblem s.setup →
    Gives linear_programming_of_128_bits card (verb_move verb card (counted s)) outcome →
    refuses_selection (verb_move verb card (counted s)) ≡ false → Came s verb card outcome
came s verb card outcome lawful gives made =
    by (settles card (steps_allowed s.cells) (verb_move verb card (counted s)) outcome gives made)
  where
    by : Settles card (steps_allowed s.cells) (verb_move verb card (counted s)) outcome → Came s verb card outcome
    by (by_itself given) = alone given (quiet_alone s.mark card (verb_move verb card (counted s)) outcome (verb_quiet s card verb) given)
    by (by_answer given) = asked_came s card outcome verb lawful (record { made = made; asked = given })
    by (stuck given) = stops_so given
