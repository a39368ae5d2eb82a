-- Each verb keeps what a run knows, and what it reports holds.
use Rattle.std.proofs.Common.{◌≡◌, ℕ, List, [], refl, sym, ap, subst, ◌∙◌}
use Rattle.std.specs.Prelude.{Option, Some, None, Ok, option_and_then, min, length}
use Rattle.exact_values.specs.Rational.{ℚ}
use Rattle.lp_definitions.specs.LinearProgram.{LinearProgram}
use Rattle.lp_definitions.specs.Basis.{opening_statuses}
use Rattle.card_definitions.specs.Cards.{Card}
use Rattle.deck_definitions.specs.Conversion.{conversion}
use Rattle.deck_definitions.specs.Decks.{deck_taken}
use Rattle.basis_deck_definitions.specs.Reading.{basis_reading}
use Rattle.basis_deck_laws.proofs.Lawful.{lawful}
use Rattle.revise_definitions.specs.Revision.{revision}
use Rattle.problem_definitions.specs.Names.{Name}
use Rattle.problem_definitions.specs.Problem.{Problem}
use Rattle.control_definitions.specs.declared.NameCell.{NameCell}
use Rattle.control_definitions.specs.declared.NameCell.TheVariants.{Xdata, Xpbname, Xobj, Xrhs, Xoldname, Xchrow, Xchcol}
use Rattle.control_definitions.specs.declared.NumberCell.{NumberCell}
use Rattle.control_definitions.specs.declared.NumberCell.TheVariants.{Xparam, Xparmax}
use Rattle.control_definitions.specs.declared.Demand.{Demand}
use Rattle.control_definitions.specs.declared.Demand.TheVariants.{Xdonfs, Xdounb}
use Rattle.control_definitions.specs.Program.{SetupOptions, Verb, Initialz, Title, MoveName, MoveNumber, MoveLimit, Mvadr, Goto, Convert, Setup, Primal, Dual}
use Rattle.control_definitions.specs.Program.{Revise, Ranging, Paraobj, Pararhs, Solution as SolutionVerb, Bcdout, Punch, Insert, Exit}
use Rattle.simplex_definitions.specs.Path.{PathEnding, EndsOptimal, EndsCrossed, EndsInfeasible, EndsUnbounded, EndsAt, last_of}
use Rattle.simplex_definitions.specs.DualPath.{DualEndsAt}
use Rattle.simplex_laws.proofs.DualTurns.{dual_end, never_unbounded}
use Rattle.simplex_laws.proofs.OneDualPath.{dual_path_leads, path_right}
use Rattle.selection_definitions.specs.Selection.{selected}
use Rattle.listing_definitions.specs.declared.Mark.{Mark}
use Rattle.listing_definitions.specs.declared.Mark.TheVariants.{Optimal, Infeasible, Unbounded}
use Rattle.listing_definitions.specs.declared.Solver.TheVariants.{Primal as ByPrimal, Dual as ByDual}
use Rattle.listing_definitions.specs.declared.VerbFault.{VerbFault}
use Rattle.listing_definitions.specs.Report.{SolutionLines, RangeLines, PathVerdict, Check, Filed, Report, Converted, Revised, SetUp, BcdOut, Solved, Solution}
use Rattle.listing_definitions.specs.Report.{Ranges}
use Rattle.question_definitions.specs.Answers.{Basis, Sheet, Changing, Row, Set, changing_name, parametric_solver, ParametricRun, Question, AnswerTo, OfPath}
use Rattle.question_definitions.specs.Answers.{OfSolution, OfRanges, OfParametricRun, OfPunch, OfInstall, PathEnd, Reached, PathLimit, PricesWrong}
use Rattle.question_definitions.specs.Answers.{ParametricRunEnd, Opening, Chained, ParametricRunLimit, InstallEnd, Installed, DependsBy}
use Rattle.question_definitions.specs.Solving.{Solving, IsRight}
use Rattle.answer_definitions.specs.Verdicts.{verdict_of}
use Rattle.answer_definitions.specs.Sections.{IsSolutionOf, IsRanged}
use Rattle.control_definitions.specs.Cells.{Cells, move_name, move_number, steps_allowed, set_demand}
use Rattle.run_definitions.specs.State.{Present, present_basis, gone_through, State, problem_of, choice_of}
use Rattle.run_definitions.specs.Moves.{Prints, Punches, next, Does}
use Rattle.run_definitions.specs.Verbs.{size_of, files, not_less, change_row, change_set, asks, max_counted, mark_of, mark_after, demanded, by_verdict}
use Rattle.run_definitions.specs.Verbs.{after_path, after_parametric_run, after_install, if_optimal, shows_present, solves, shows, ranges, parametric_runs}
use Rattle.run_definitions.specs.Verbs.{converts, revises, sets_up, punches, punches_basis, inserts, verb_move}
use Rattle.simplex_laws.specs.Laws.{IsNonsingularBasis}
use Rattle.simplex_laws.proofs.Ends.{optimal_end}
use Rattle.simplex_laws.proofs.Steps.{opening_is}
use Rattle.simplex_laws.proofs.OnePath.{path_leads}
use Rattle.soundness_laws.specs.Truth.{PresentProgram, IsTrueOf, IsNotUnbounded, GivesBasis, ShowsBest, ShowsRanges, IsOfProblem, named_by, ReportsOfRun}
use Rattle.soundness_laws.specs.Truth.{ShowsOpening, ShowsChain, Holds}
use Rattle.soundness_laws.specs.ParametricRuns.{gone_over, IsTrueParametricRun}
use Rattle.soundness_laws.proofs.ParametricRuns.{run_through_leads, run_through_true}
use Rattle.soundness_laws.specs.Laws.{KnowsSolving}
use Rattle.soundness_laws.proofs.ChangeRow.{changes_freely, row_named, set_named, last_is}
use Rattle.soundness_laws.proofs.Ends.{IsProvedBest, reported_is_best, end_is_true, path_is_true}
use Rattle.selection_laws.proofs.Selected.{selected_is_lawful, selected_without_change}
use Rattle.soundness_laws.proofs.Selected.{selected_has_names, selected_has_no_change}
use Rattle.soundness_laws.proofs.Moves.{HasProblem, EndsOptimally, KnowsMark, Knows, Keeps, IsKept, unmarked, HasBases, KnowsBases, without_setup, with_basis}
use Rattle.soundness_laws.proofs.Moves.{does, may_stop, answered, unless_fault, unless_deck_fault, unless_selection_fault, selecting}
use Rattle.parametric_laws.proofs.Runs.{last_of-append}

-- ---- PRIMAL and DUAL

-- a path that leaves the mark OPTIMAL has ended optimal at the basis that it reached
marks : (present : Present) (lp : LinearProgram) (objective rhs : Option Name) (bases : List Basis) (verdict : PathVerdict) (steps : ℕ) (ending : PathEnding) →
    selected present.problem (record { objective = objective; rhs = rhs; options = present.options }) ≡ Ok lp →
    EndsAt lp (last_of (present_basis present) bases) ending →
    verdict ≡ verdict_of (record { problem = present.problem; lp = lp }) steps ending →
    KnowsMark (Some (mark_of verdict)) (Some (gone_through bases present)) objective rhs
marks present lp objective rhs bases verdict steps (EndsOptimal z y) is ends gives marked = record {
  present = gone_through bases present;
  is_setup = refl;
  lp = lp;
  is_selected = is;
  point = z;
  prices = y;
  ends = subst (λ s. EndsAt lp s (EndsOptimal z y)) (sym (last_of-append present.opening present.steps bases)) ends;
}
marks present lp objective rhs bases verdict steps (EndsCrossed k) is ends gives marked =
    let h : Some Infeasible ≡ Some Optimal = subst (λ v. Some (mark_of v) ≡ Some Optimal) gives marked in absurd (cc h)
marks present lp objective rhs bases verdict steps (EndsInfeasible w) is ends gives marked =
    let h : Some Infeasible ≡ Some Optimal = subst (λ v. Some (mark_of v) ≡ Some Optimal) gives marked in absurd (cc h)
marks present lp objective rhs bases verdict steps (EndsUnbounded z d) is ends gives marked =
    let h : Some Unbounded ≡ Some Optimal = subst (λ v. Some (mark_of v) ≡ Some Optimal) gives marked in absurd (cc h)

-- the setup after a path that has led to a nonsingular basis
goes_to : (present : Present) (objective rhs : Option Name) (lp : LinearProgram) (bases : List Basis) →
    selected present.problem (record { objective = objective; rhs = rhs; options = present.options }) ≡ Ok lp →
    IsNonsingularBasis lp (last_of (present_basis present) bases) → KnowsBases (Some (gone_through bases present))
goes_to present objective rhs lp bases is at =
    with_basis (gone_through bases present) objective rhs lp is (subst (IsNonsingularBasis lp) (sym (last_of-append present.opening present.steps bases)) at)

module _ (at : State) where
  demanded_keeps : (position : Option ℕ) (code : ℕ) (report : Report) (state : State) → Holds at report → Knows state →
      Keeps at (demanded position code report state)
  demanded_keeps (Some position) code report state holds knows = (holds, record { marked = knows.marked; bases = knows.bases })
  demanded_keeps None code report state holds knows = (holds, tt)

  by_verdict_keeps : (mark : Mark) (report : Report) (state : State) → Holds at report → Knows state → Keeps at (by_verdict mark report state)
  by_verdict_keeps Optimal report state holds knows = (holds, record { marked = knows.marked; bases = knows.bases })
  by_verdict_keeps Infeasible report state holds knows = demanded_keeps state.cells.xdonfs 1 report state holds knows
  by_verdict_keeps Unbounded report state holds knows = demanded_keeps state.cells.xdounb 2 report state holds knows

-- what the cells select of the setup is lawful
abbrev present_program : (setup : Option Present) (cells : Cells) (present : Present) (lp : LinearProgram) → HasProblem setup → setup ≡ Some present →
    selected present.problem (choice_of cells present.options) ≡ Ok lp →
    PresentProgram setup cells
present_program setup cells present lp lawful is_setup is = record {
  present = present;
  is_setup = is_setup;
  lp = lp;
  is_selected = is;
  is_problem = lawful present is_setup;
  is_linear_program = selected_is_lawful present.problem (choice_of cells present.options) lp (lawful present is_setup) is;
}

-- ---- SOLUTION and RANGE

-- where the mark is OPTIMAL, the path has ended at the present basis, in what the cells select now
module _ (present : Present) (lp : LinearProgram) (cells : Cells) (setup : Option Present) (known : EndsOptimally setup cells.xobj cells.xrhs)
    (is_setup : setup ≡ Some present)
    (is : selected present.problem (choice_of cells present.options) ≡ Ok lp) where
  same_present : known.present ≡ present
  same_present = let e = sym known.is_setup ∙ is_setup in cc

  moved : (selected present.problem (choice_of cells present.options) ≡ Ok known.lp) × EndsAt known.lp (present_basis present)
      (EndsOptimal known.point known.prices)
  moved =
      subst (λ (x : Present). (selected x.problem (choice_of cells x.options) ≡ Ok known.lp) × EndsAt known.lp (present_basis x)
      (EndsOptimal known.point known.prices))
      same_present (known.is_selected, known.ends)

  same_lp : known.lp ≡ lp
  same_lp = let e = sym moved.0 ∙ is in cc

  ends_here : EndsAt lp (present_basis present) (EndsOptimal known.point known.prices)
  ends_here = subst (λ p. EndsAt p (present_basis present) (EndsOptimal known.point known.prices)) same_lp moved.1

-- what is shown where the path ended optimal at the present basis is best
best_view : (present : Present) (lp : LinearProgram) (cells : Cells) (setup : Option Present) (lines : SolutionLines) → HasProblem setup →
    EndsOptimally setup cells.xobj cells.xrhs → IsNonsingularBasis lp (present_basis present) → setup ≡ Some present →
    selected present.problem (choice_of cells present.options) ≡ Ok lp →
    IsSolutionOf (record { problem = present.problem; lp = lp }) (present_basis present) lines → ShowsBest setup cells lines
best_view present lp cells setup lines lawful known at is_setup is viewed =
    let program : PresentProgram setup cells = present_program setup cells present lp lawful is_setup is in
    let proved : IsProvedBest lp (present_basis present) viewed.tableau =
    reported_is_best lp (present_basis present) viewed.tableau known.point known.prices viewed.is_tableau
    (ends_here present lp cells setup known is_setup is) at program.is_linear_program in
    record {
      program = program;
      is_basis = at;
      tableau = viewed.tableau;
      is_tableau = viewed.is_tableau;
      are_lines = viewed.are_lines;
      best = proved.best;
      certificate = proved.certificate;
    }

-- the basis is optimal, whose intervals are shown
ranges_view : (present : Present) (lp : LinearProgram) (cells : Cells) (setup : Option Present) (lines : RangeLines) → HasProblem setup →
    EndsOptimally setup cells.xobj cells.xrhs → IsNonsingularBasis lp (present_basis present) → setup ≡ Some present →
    selected present.problem (choice_of cells present.options) ≡ Ok lp →
    IsRanged (record { problem = present.problem; lp = lp }) (present_basis present) lines → ShowsRanges setup cells lines
ranges_view present lp cells setup lines lawful known at is_setup is ranged =
    let program : PresentProgram setup cells = present_program setup cells present lp lawful is_setup is in
    record {
      program = program;
      optimal =
          (optimal_end lp (present_basis present) known.point known.prices program.is_linear_program at
          (ends_here present lp cells setup known is_setup is)).optimal;
      tableau = ranged.tableau;
      is_tableau = ranged.is_tableau;
      report = ranged.report;
      is_report = ranged.is_report;
      are_lines = ranged.are_lines;
    }

-- no other mark lets RANGE go on
pub optimal_alone : (mark left : Mark) → if_optimal mark ≡ Some left → mark ≡ Optimal
optimal_alone Optimal left e = refl
optimal_alone Infeasible left e = absurd (cc e)
optimal_alone Unbounded left e = absurd (cc e)

-- ---- cells

named : (cell : NameCell) (name : Name) (cells : Cells) (mark : Option Mark) (setup : Option Present) → KnowsMark mark setup cells.xobj cells.xrhs →
    KnowsMark (mark_after cell mark) setup (move_name cell name cells).xobj (move_name cell name cells).xrhs
named Xdata name cells mark setup knows = knows
named Xpbname name cells mark setup knows = knows
named Xobj name cells mark setup knows = unmarked _ _ _
named Xrhs name cells mark setup knows = unmarked _ _ _
named Xoldname name cells mark setup knows = knows
named Xchrow name cells mark setup knows = knows
named Xchcol name cells mark setup knows = knows

moved_number : (cell : NumberCell) (value : ℚ) (cells : Cells) (mark : Option Mark) (setup : Option Present) → KnowsMark mark setup cells.xobj cells.xrhs →
    KnowsMark mark setup (move_number cell value cells).xobj (move_number cell value cells).xrhs
moved_number Xparam value cells mark setup knows = knows
moved_number Xparmax value cells mark setup knows = knows

moved_demand : (demand : Demand) (position : ℕ) (cells : Cells) (mark : Option Mark) (setup : Option Present) → KnowsMark mark setup cells.xobj cells.xrhs →
    KnowsMark mark setup (set_demand demand position cells).xobj (set_demand demand position cells).xrhs
moved_demand Xdonfs position cells mark setup knows = knows
moved_demand Xdounb position cells mark setup knows = knows

-- ---- parametric runs

-- what the opening path of a run prints holds, and so do its intervals
opening_holds : (state : State) (changing : Changing) (verdict : PathVerdict) (check : Check) →
    ReportsOfRun state.setup state.cells (parametric_solver changing) (ShowsOpening verdict check) →
    Holds state (Solved (parametric_solver changing) verdict check)
opening_holds state (Row name) verdict check reported = reported
opening_holds state (Set name) verdict check reported = reported

-- what is asked of a run by the cells
pub record IsAskedFor (state : State) (present : Present) (parametric_run : ParametricRun) : Type 0 where
  pub is_part : IsOfProblem parametric_run.changing present.problem
  pub is_named : named_by state.cells parametric_run.changing ≡ Some (changing_name parametric_run.changing)
  pub from_first : parametric_run.from ≡ state.cells.xparam
  pub to_last : state.cells.xparmax ≡ Some parametric_run.to

reported_of : (state : State) (present : Present) (lp : LinearProgram) (parametric_run : ParametricRun) (lawful : HasProblem state.setup)
    (set : state.setup ≡ Some present) (is : selected present.problem (choice_of state.cells present.options) ≡ Ok lp) →
    IsAskedFor state present parametric_run → (Tells : Sheet → ParametricRun → Type 0) → Tells (record { problem = present.problem; lp = lp }) parametric_run →
    ReportsOfRun state.setup state.cells (parametric_solver parametric_run.changing) Tells
reported_of state present lp parametric_run lawful set is asked Tells tells = record {
  program = present_program state.setup state.cells present lp lawful set is;
  parametric_run = parametric_run;
  is_solver = refl;
  is_part = asked.is_part;
  is_named = asked.is_named;
  from_first = asked.from_first;
  to_last = asked.to_last;
  tells = tells;
}

-- no end of a dual path is unbounded
bounded_verdict : (sheet : Sheet) (s : Basis) (steps : ℕ) (ending : PathEnding) → DualEndsAt sheet.lp s ending → IsNotUnbounded (verdict_of sheet steps ending)
bounded_verdict sheet s steps (EndsOptimal z y) ends = tt
bounded_verdict sheet s steps (EndsCrossed k) ends = tt
bounded_verdict sheet s steps (EndsInfeasible w) ends = tt
bounded_verdict sheet s steps (EndsUnbounded z d) ends = absurd (never_unbounded sheet.lp s z d ends)

module _ (S : Solving) (solving : KnowsSolving S) where
  pathed : (card : ℕ) (present : Present) (state : State) (lp : LinearProgram) → HasProblem state.setup →
      selected present.problem (choice_of state.cells present.options) ≡ Ok lp → state.setup ≡ Some present → HasBases present →
      (end : PathEnd) → S.Solves ByPrimal (record { problem = present.problem; lp = lp }) (present_basis present) state.cells.xiterlim end →
      Keeps state (after_path ByPrimal card present state end)
  pathed card present state lp lawful is set has (Reached bases verdict check) solved =
      let reaches =
      solving.solves ByPrimal (record { problem = present.problem; lp = lp }) (present_basis present) state.cells.xiterlim
      (Reached bases verdict check) solved in
      let at = has.in_each state.cells.xobj state.cells.xrhs lp is in
      let program = present_program state.setup state.cells present lp lawful set is in
      let plain = selected_has_no_change present.problem (choice_of state.cells present.options) lp is in
      let holds =
      path_is_true (record { problem = present.problem; lp = lp })
      (present_basis present) bases reaches.ending _ verdict program.is_linear_program plain at reaches.ends reaches.is_verdict.is_verdict in
      by_verdict_keeps state (mark_of verdict) (Solved ByPrimal verdict check) _ (program, holds)
      (record {
        marked = marks present lp state.cells.xobj state.cells.xrhs bases verdict _ reaches.ending is reaches.ends.ends reaches.is_verdict.is_verdict;
        bases = goes_to present state.cells.xobj state.cells.xrhs lp bases is (path_leads lp (present_basis present) bases at reaches.ends.is_path);
      })
  pathed card present state lp lawful is set has PathLimit solved = (tt, tt)
  pathed card present state lp lawful is set has (PricesWrong j) solved =
      absurd (solving.solves ByPrimal (record { problem = present.problem; lp = lp }) (present_basis present) state.cells.xiterlim (PricesWrong j) solved)

  -- an end of the dual path is one of the simplex path, since prices stay right
  dual_pathed : (limit : Option ℕ) (card : ℕ) (present : Present) (state : State) (lp : LinearProgram) → HasProblem state.setup →
      selected present.problem (choice_of state.cells present.options) ≡ Ok lp → state.setup ≡ Some present → HasBases present →
      (end : PathEnd) → S.Solves ByDual (record { problem = present.problem; lp = lp }) (present_basis present) limit end →
      Keeps state (after_path ByDual card present state end)
  dual_pathed limit card present state lp lawful is set has (Reached bases verdict check) solved =
      let sheet : Sheet = record { problem = present.problem; lp = lp } in
      let found = solving.solves ByDual sheet (present_basis present) limit (Reached bases verdict check) solved in
      let reaches = found.1 in
      let at = has.in_each state.cells.xobj state.cells.xrhs lp is in
      let program = present_program state.setup state.cells present lp lawful set is in
      let plain = selected_has_no_change present.problem (choice_of state.cells present.options) lp is in
      let still = selected_without_change present.problem (choice_of state.cells present.options) lp is in
      let there = dual_path_leads lp (present_basis present) bases at reaches.ends.is_path in
      let right = path_right lp program.is_linear_program still (present_basis present) bases at found.0 reaches.ends.is_path in
      let ends = dual_end lp (last_of (present_basis present) bases) reaches.ending program.is_linear_program there right reaches.ends.ends in
      let holds =
      subst (IsTrueOf sheet) (sym reaches.is_verdict.is_verdict)
      (end_is_true sheet (last_of (present_basis present) bases) _ program.is_linear_program plain there reaches.ending ends) in
      let bounded =
      subst IsNotUnbounded (sym reaches.is_verdict.is_verdict)
      (bounded_verdict sheet (last_of (present_basis present) bases) _ reaches.ending reaches.ends.ends) in
      by_verdict_keeps state (mark_of verdict) (Solved ByDual verdict check) _ (program, holds, bounded)
      (record {
        marked = marks present lp state.cells.xobj state.cells.xrhs bases verdict _ reaches.ending is ends reaches.is_verdict.is_verdict;
        bases = goes_to present state.cells.xobj state.cells.xrhs lp bases is there;
      })
  dual_pathed limit card present state lp lawful is set has PathLimit solved = (tt, tt)
  dual_pathed limit card present state lp lawful is set has (PricesWrong j) solved = (
    tt,
    record {
      program = present_program state.setup state.cells present lp lawful set is;
      is_wrong = solving.solves ByDual (record { problem = present.problem; lp = lp }) (present_basis present) limit (PricesWrong j) solved;
    },
  )

  dual_kept : (limit : Option ℕ) (card : ℕ) (state : State) → HasProblem state.setup → Knows state → IsKept S state card (solves ByDual limit card state)
  dual_kept limit card state lawful knows =
      unless_fault S state card VerbFault.NoSetup state.setup _ (λ present e.
      selecting S state card present.problem _ _ (λ lp is.
      may_stop S state card _ _
      (answered S state card (OfPath ByDual limit) _ _ _ (dual_pathed limit card present state lp lawful is e (knows.bases present e)))))

  -- ---- PUNCH and INSERT

  punches_basis_kept : (card : ℕ) (state : State) → HasProblem state.setup → Knows state → IsKept S state card (punches_basis card state)
  punches_basis_kept card state lawful knows =
      unless_fault S state card VerbFault.NoSetup state.setup _ (λ present e.
      selecting S state card present.problem _ _ (λ lp is.
      answered S state card OfPunch _ _ _ (λ cards punched. (
        record {
          program = present_program state.setup state.cells present lp lawful e is;
          is_basis = (knows.bases present e).in_each state.cells.xobj state.cells.xrhs lp is;
          is_name = refl;
          is_count =
              ap (λ (deck : List (List ℕ)). min (length deck) max_counted)
              (solving.punches (record { problem = present.problem; lp = lp }) (present_basis present) cards punched);
        },
        record { marked = knows.marked; bases = knows.bases },
      ))))

  installed : (card : ℕ) (lp : LinearProgram) (s : Basis) (taken : List Card × List (List Card)) (present : Present) (state : State) → HasProblem state.setup →
      state.setup ≡ Some present →
      selected present.problem (choice_of state.cells present.options) ≡ Ok lp → deck_taken state.cells.xdata state.decks ≡ Some taken →
      basis_reading present.problem lp taken.0 ≡ Ok s →
      (end : InstallEnd) → S.Installs (record { problem = present.problem; lp = lp }) s end → Keeps state (after_install card lp s taken present state end)
  installed card lp s taken present state held set is took read Installed installs =
      let gives : GivesBasis state.setup state.cells state.decks = record {
        program = present_program state.setup state.cells present lp held set is;
        taken = taken;
        is_taken = took;
        basis = s;
        is_read = read;
      } in
      let at : IsNonsingularBasis lp s = record {
        is_basis = lawful present.problem lp taken.0 s (selected_has_names present.problem (choice_of state.cells present.options) lp is) read;
        nonsingular = solving.installs (record { problem = present.problem; lp = lp }) s Installed installs;
      } in (
        record { gives = gives; is_basis = at; is_name = refl; is_count = refl },
        record { marked = unmarked _ _ _; bases = with_basis (record present { opening = s; steps = [] }) state.cells.xobj state.cells.xrhs lp is at },
      )
  installed card lp s taken present state held set is took read (DependsBy lines) installs =
      let depends = solving.installs (record { problem = present.problem; lp = lp }) s (DependsBy lines) installs in (
        tt,
        record {
          gives = record {
            program = present_program state.setup state.cells present lp held set is;
            taken = taken;
            is_taken = took;
            basis = s;
            is_read = read;
          };
          column = depends.0;
          coefficients = depends.1;
          is_dependency = depends.2;
          are_lines = depends.3;
        },
      )

  inserts_kept : (card : ℕ) (state : State) → HasProblem state.setup → Knows state → IsKept S state card (inserts card state)
  inserts_kept card state held knows =
      unless_fault S state card VerbFault.NoSetup state.setup _ (λ present e.
      selecting S state card present.problem _ _ (λ lp is.
      unless_fault {X = List Card × List (List Card)} S state card VerbFault.DeckNotFound (deck_taken state.cells.xdata state.decks) _ (λ taken t.
      unless_deck_fault S state card (basis_reading present.problem lp taken.0) _ (λ s read.
      may_stop S state card _ _ (answered S state card (OfInstall s) _ _ _ (installed card lp s taken present state held e is t read))))))

  solving_kept : (card : ℕ) (state : State) → HasProblem state.setup → Knows state → IsKept S state card (solves ByPrimal state.cells.xiterlim card state)
  solving_kept card state lawful knows =
      unless_fault S state card VerbFault.NoSetup state.setup _ (λ present e.
      selecting S state card present.problem _ _ (λ lp is.
      may_stop S state card _ _
      (answered S state card (OfPath ByPrimal state.cells.xiterlim) _ _ _ (pathed card present state lp lawful is e (knows.bases present e)))))

  showing : (card : ℕ) (state : State) (present : Present) (question : Question) (report : AnswerTo question → Report) → Knows state →
      ((lp : LinearProgram) → selected present.problem (choice_of state.cells present.options) ≡ Ok lp → (lines : AnswerTo question) →
      IsRight S question (record { problem = present.problem; lp = lp }) (present_basis present) lines →
      Holds state (report lines)) → IsKept S state card (shows_present card state present question report)
  showing card state present question report knows holds =
      unless_selection_fault S state card (selected present.problem (choice_of state.cells present.options)) _ (λ lp is.
      may_stop S state card _ _
      (answered S state card question _ _ _ (λ lines viewed. (holds lp is lines viewed, record { marked = knows.marked; bases = knows.bases }))))

  solution_holds : (mark : Mark) (state : State) (present : Present) (lp : LinearProgram) (lines : SolutionLines) → HasProblem state.setup → Knows state →
      state.mark ≡ Some mark → state.setup ≡ Some present →
      selected present.problem (choice_of state.cells present.options) ≡ Ok lp →
      IsSolutionOf (record { problem = present.problem; lp = lp }) (present_basis present) lines → Holds state (Solution mark lines)
  solution_holds Optimal state present lp lines lawful knows m e is viewed =
      best_view present lp state.cells state.setup lines lawful (knows.marked m)
      ((knows.bases present e).in_each state.cells.xobj state.cells.xrhs lp is) e is viewed
  solution_holds Infeasible state present lp lines lawful knows m e is viewed = tt
  solution_holds Unbounded state present lp lines lawful knows m e is viewed = tt

  shows_kept : (card : ℕ) (state : State) → HasProblem state.setup → Knows state → IsKept S state card (shows card state)
  shows_kept card state lawful knows =
      unless_fault S state card VerbFault.NoSetup state.setup _ (λ present e.
      unless_fault S state card VerbFault.NotSolved state.mark _ (λ mark m.
      showing card state present (OfSolution mark) (Solution mark) knows
      (λ lp is lines viewed. solution_holds mark state present lp lines lawful knows m e is (solving.shows _ _ _ lines viewed))))

  ranges_kept : (card : ℕ) (state : State) → HasProblem state.setup → Knows state → IsKept S state card (ranges card state)
  ranges_kept card state lawful knows =
      unless_fault S state card VerbFault.NoSetup state.setup _ (λ present e.
      unless_fault S state card VerbFault.NotSolved state.mark _ (λ mark m.
      unless_fault {X = Mark} S state card VerbFault.NotOptimal (if_optimal mark) _ (λ left o.
      showing card state present OfRanges Ranges knows (λ lp is lines viewed.
      ranges_view present lp state.cells state.setup lines lawful (knows.marked (m ∙ ap (λ (own : Mark). Some own) (optimal_alone mark left o)))
      ((knows.bases present e).in_each state.cells.xobj state.cells.xrhs lp is) e is (solving.ranges _ _ lines viewed)))))

  run_through : (card : ℕ) (parametric_run : ParametricRun) (present : Present) (state : State) (lp : LinearProgram) → HasProblem state.setup →
      state.setup ≡ Some present → selected present.problem (choice_of state.cells present.options) ≡ Ok lp →
      IsAskedFor state present parametric_run → (end : ParametricRunEnd) → IsNonsingularBasis lp (last_of (present_basis present) (gone_over end)) →
      IsTrueParametricRun (record { problem = present.problem; lp = lp }) parametric_run end →
      Keeps state (after_parametric_run card parametric_run present state end)
  run_through card parametric_run present state lp lawful set is asked (Opening bases verdict check) at truth =
      by_verdict_keeps state (mark_of verdict) (Solved (parametric_solver parametric_run.changing) verdict check) _
      (opening_holds state parametric_run.changing verdict check
      (reported_of state present lp parametric_run lawful set is asked (ShowsOpening verdict check) (record { bases = bases; is_true = truth })))
      (record { marked = unmarked _ _ _; bases = goes_to present state.cells.xobj state.cells.xrhs lp bases is at })
  run_through card parametric_run present state lp lawful set is asked (Chained bases intervals end) at truth = (
    reported_of state present lp parametric_run lawful set is asked
        (ShowsChain (record { from = parametric_run.from; change = changing_name parametric_run.changing; intervals = intervals; end = end }))
        (record { is_from = refl; is_change = refl; is_true = truth }),
    record { marked = unmarked _ _ _; bases = goes_to present state.cells.xobj state.cells.xrhs lp bases is at },
  )
  run_through card parametric_run present state lp lawful set is asked ParametricRunLimit at truth = (tt, tt)

  asked_kept : (card : ℕ) (present : Present) (state : State) (lp : LinearProgram) (parametric_run : ParametricRun) → HasProblem state.setup →
      HasBases present → state.setup ≡ Some present →
      selected present.problem (choice_of state.cells present.options) ≡ Ok lp → IsAskedFor state present parametric_run →
      IsKept S state card
      (asks (OfParametricRun parametric_run) (record { problem = present.problem; lp = lp }) present
      (after_parametric_run card parametric_run present state))
  asked_kept card present state lp parametric_run lawful has set is asked =
      may_stop S state card _ _ (answered S state card (OfParametricRun parametric_run) _ _ _ (λ end right.
      let sheet : Sheet = record { problem = present.problem; lp = lp } in
      let at = has.in_each state.cells.xobj state.cells.xrhs lp is in
      let ran = solving.parametric_runs sheet (present_basis present) parametric_run end right in
      let free = changes_freely sheet (choice_of state.cells present.options) parametric_run.changing (lawful present set) is asked.is_part in
      run_through card parametric_run present state lp lawful set is asked end (run_through_leads sheet (present_basis present) parametric_run end ran at)
      (run_through_true sheet (present_basis present) parametric_run end
      (selected_is_lawful present.problem (choice_of state.cells present.options) lp (lawful present set) is) free at ran)))

  parametric_runs_kept : (card : ℕ) (fault : VerbFault) (change : Problem ℕ → Name → Option Changing) (moved : Option Name) (state : State) →
      ((problem : Problem ℕ) (changing : Changing) → option_and_then (change problem) moved ≡ Some changing →
      IsOfProblem changing problem × (named_by state.cells changing ≡ Some (changing_name changing))) →
      HasProblem state.setup → Knows state → IsKept S state card (parametric_runs card fault change moved state)
  parametric_runs_kept card fault change moved state named lawful knows =
      unless_fault S state card VerbFault.NoSetup state.setup _ (λ present e.
      selecting S state card present.problem _ _ (λ lp is.
      unless_fault {X = Changing} S state card fault (option_and_then (change present.problem) moved) _ (λ changing c.
      unless_fault {X = ℚ} S state card VerbFault.NoParmax state.cells.xparmax _ (λ last l.
      unless_fault {X = ℚ} S state card VerbFault.ParmaxBelow (not_less state.cells.xparam last) _ (λ to t.
      asked_kept card present state lp (record { changing = changing; from = state.cells.xparam; to = to; limit = steps_allowed state.cells }) lawful
      (knows.bases present e) e is
      (record {
        is_part = (named present.problem changing c).0;
        is_named = (named present.problem changing c).1;
        from_first = refl;
        to_last = l
            ∙ ap (λ (x : ℚ). Some x) (last_is state.cells.xparam last to t);
      }))))))

  files_kept : (card : ℕ) (report : Filed → Report) (decks : List (List Card)) (state : State) → ((filed : Filed) → Holds state (report filed)) →
      (problem : Problem ℕ) →
      IsKept S state card (files report decks state problem)
  files_kept card report decks state holds problem = does S state card _ (holds (size_of problem), record { marked = unmarked _ _ _; bases = without_setup })

  converts_kept : (card : ℕ) (state : State) → IsKept S state card (converts card state)
  converts_kept card state =
      unless_fault {X = List Card × List (List Card)} S state card VerbFault.DeckNotFound (deck_taken state.cells.xdata state.decks) _ (λ taken e.
      unless_deck_fault S state card (conversion taken.0 state.cells.xpbname) (files Converted taken.1 state)
      (λ problem is. files_kept card Converted taken.1 state (λ filed. tt) problem))

  revises_kept : (card : ℕ) (state : State) → IsKept S state card (revises card state)
  revises_kept card state =
      unless_fault S state card VerbFault.NoProblem (problem_of state.cells.xoldname state.file) _ (λ old e.
      unless_fault {X = List Card × List (List Card)} S state card VerbFault.DeckNotFound (deck_taken state.cells.xdata state.decks) _ (λ taken f.
      unless_deck_fault S state card (revision old taken.0 state.cells.xpbname) (files Revised taken.1 state)
      (λ problem is. files_kept card Revised taken.1 state (λ filed. tt) problem)))

  opened : (card : ℕ) (options : SetupOptions) (state : State) (problem : Problem ℕ) (lp : LinearProgram) →
      selected problem (choice_of state.cells options) ≡ Ok lp →
      IsKept S state card
      (Does (next (Prints (SetUp problem.name options.sense))
      (record state { setup = Some (record { problem = problem; options = options; opening = opening_statuses lp; steps = [] }); mark = None })))
  opened card options state problem lp is = does S state card _ (
    tt,
    record {
      marked = unmarked _ _ _;
      bases =
          with_basis (record { problem = problem; options = options; opening = opening_statuses lp; steps = [] }) state.cells.xobj state.cells.xrhs lp is
          (opening_is lp);
    },
  )

  sets_up_kept : (card : ℕ) (options : SetupOptions) (state : State) → IsKept S state card (sets_up card options state)
  sets_up_kept card options state =
      unless_fault S state card VerbFault.NoProblem (problem_of state.cells.xpbname state.file) _ (λ problem e.
      selecting S state card problem (choice_of state.cells options) _ (λ lp is. opened card options state problem lp is))

  punched : (card : ℕ) (state : State) (name : Name) (count : ℕ) (cards : List (List ℕ)) → Knows state →
      IsKept S state card (Does (next (Punches (BcdOut name count) cards) state))
  punched card state name count cards knows = does S state card _ (tt, record { marked = knows.marked; bases = knows.bases })

  punches_kept : (card : ℕ) (state : State) → Knows state → IsKept S state card (punches card state)
  punches_kept card state knows =
      unless_fault S state card VerbFault.NoProblem (problem_of state.cells.xpbname state.file) _ (λ problem e. punched card state problem.name _ _ knows)

  pub verb_kept : (verb : Verb ℕ) (card : ℕ) (state : State) → HasProblem state.setup → Knows state → IsKept S state card (verb_move verb card state)
  unfolding verb_move
  verb_kept Initialz card state lawful knows = does S state card _ (tt, record { marked = unmarked _ _ _; bases = knows.bases })
  verb_kept (Title text) card state lawful knows = does S state card _ (tt, record { marked = knows.marked; bases = knows.bases })
  verb_kept (MoveName cell name) card state lawful knows =
      does S state card _ (tt, record { marked = named cell name state.cells state.mark state.setup knows.marked; bases = knows.bases })
  verb_kept (MoveNumber cell value) card state lawful knows =
      does S state card _ (tt, record { marked = moved_number cell value state.cells state.mark state.setup knows.marked; bases = knows.bases })
  verb_kept (MoveLimit limit) card state lawful knows = does S state card _ (tt, record { marked = knows.marked; bases = knows.bases })
  verb_kept (Mvadr demand position) card state lawful knows =
      does S state card _ (tt, record { marked = moved_demand demand position state.cells state.mark state.setup knows.marked; bases = knows.bases })
  verb_kept (Goto position) card state lawful knows = does S state card _ (tt, record { marked = knows.marked; bases = knows.bases })
  verb_kept Convert card state lawful knows = converts_kept card state
  verb_kept Revise card state lawful knows = revises_kept card state
  verb_kept (Setup options) card state lawful knows = sets_up_kept card options state
  verb_kept Primal card state lawful knows = solving_kept card state lawful knows
  verb_kept Dual card state lawful knows = dual_kept (Some (steps_allowed state.cells)) card state lawful knows
  verb_kept SolutionVerb card state lawful knows = shows_kept card state lawful knows
  verb_kept Ranging card state lawful knows = ranges_kept card state lawful knows
  verb_kept Paraobj card state lawful knows =
      parametric_runs_kept card VerbFault.NoChangeRow change_row state.cells.xchrow state (row_named state.cells) lawful knows
  verb_kept Pararhs card state lawful knows =
      parametric_runs_kept card VerbFault.NoChangeSet change_set state.cells.xchcol state (set_named state.cells) lawful knows
  verb_kept Bcdout card state lawful knows = punches_kept card state knows
  verb_kept Punch card state lawful knows = punches_basis_kept card state lawful knows
  verb_kept Insert card state lawful knows = inserts_kept card state lawful knows
  verb_kept Exit card state lawful knows = does S state card _ (tt, tt)
