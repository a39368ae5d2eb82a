-- Each statement of the walk lands where that of the run leads.
use Rattle.std.proofs.Common.{◌≡◌, ◌≤◌, arith, ℕ, false, List, [], Option, Some, Ok, refl, sym, ap, subst, ◌∙◌, None}
use Rattle.std.specs.Prelude.{is_none, option_and_then}
use Rattle.exact_values.specs.Rational.{ℚ}
use Rattle.lp_definitions.specs.LinearProgram.{LinearProgram, size}
use Rattle.lp_definitions.specs.Basis.{Tableau, IsTableau, opening_statuses}
use Rattle.simplex_definitions.specs.Path.{EndsOptimal, EndsAt}
use Rattle.card_definitions.specs.Cards.{Card}
use Rattle.deck_definitions.specs.Conversion.{conversion}
use Rattle.deck_definitions.specs.Decks.{deck_taken}
use Rattle.basis_deck_definitions.specs.Reading.{basis_reading}
use Rattle.revise_definitions.specs.Revision.{revision}
use Rattle.problem_definitions.specs.Names.{Name}
use Rattle.problem_definitions.specs.Problem.{Problem}
use Rattle.control_definitions.specs.declared.NameCell.{NameCell}
use Rattle.control_definitions.specs.declared.NameCell.TheVariants.{Xdata, Xpbname, Xobj, Xrhs, Xoldname, Xchrow, Xchcol}
use Rattle.control_definitions.specs.declared.NumberCell.{NumberCell}
use Rattle.control_definitions.specs.declared.NumberCell.TheVariants.{Xparam, Xparmax}
use Rattle.control_definitions.specs.declared.Demand.{Demand}
use Rattle.control_definitions.specs.declared.Demand.TheVariants.{Xdonfs, Xdounb}
use Rattle.control_definitions.specs.Program.{SetupOptions, Verb, Initialz, Title, MoveName, MoveNumber, MoveLimit, Mvadr, Goto, Convert, Setup, Primal, Dual}
use Rattle.control_definitions.specs.Program.{Revise, Ranging, Paraobj, Pararhs, Solution as SolutionVerb, Bcdout, Punch, Insert, Exit}
use Rattle.std.specs.Option.{IfSome}
use Rattle.control_definitions.specs.Cells.{Cells, move_name, move_number, steps_allowed, set_demand, default_cells, move_limit}
use Rattle.selection_definitions.specs.Selection.{selected}
use Rattle.listing_definitions.specs.declared.Mark.{Mark}
use Rattle.listing_definitions.specs.declared.Mark.TheVariants.{Optimal}
use Rattle.listing_definitions.specs.declared.Solver.{Solver}
use Rattle.listing_definitions.specs.declared.Solver.TheVariants.{Primal as ByPrimal, Dual as ByDual}
use Rattle.listing_definitions.specs.declared.VerbFault.{VerbFault}
use Rattle.listing_definitions.specs.Report.{Filed, Report, Titled, Converted, Revised, SetUp}
use Rattle.listing_definitions.specs.Ending.{Ended}
use Rattle.question_definitions.specs.Answers.{Basis, Changing, changing_name, ParametricRun}
use Rattle.run_definitions.specs.State.{Present, present_basis, State, problem_of, choice_of}
use Rattle.run_definitions.specs.Moves.{Gain, Nothing, Prints, Punches, Goes, Does}
use Rattle.run_definitions.specs.Verbs.{size_of, files, not_less, change_row, change_set, mark_after, if_optimal, solves, shows, ranges, parametric_runs}
use Rattle.run_definitions.specs.Verbs.{converts, revises, sets_up, punches, punches_basis, inserts, verb_move}
use Rattle.run_definitions.specs.Run.{counted}
use Rattle.soundness_laws.specs.Truth.{IsOfProblem, named_by}
use Rattle.soundness_laws.proofs.ChangeRow.{changes_freely, row_named, set_named}
use Rattle.soundness_laws.proofs.Moves.{HasProblem, EndsOptimally, Knows}
use Rattle.soundness_laws.proofs.Ends.{IsProvedBest, reported_is_best}
use Rattle.selection_laws.proofs.Selected.{selected_is_lawful}
use Rattle.walk_definitions.specs.Checkers.{Checker}
use Rattle.walk_definitions.specs.Walker.{Pending, Walker}
use Rattle.own_listing_laws.specs.Laws.{EndsBest}
use Rattle.own_listing_laws.proofs.Suiting.{SuitsRuns}
use Rattle.own_listing_laws.proofs.Pace.{rebased, IsLike, WaitsFor, WaitsAt, IsMatched, IsFollowed, does, does_stop, prints_looks, punches_looks, waits_on}
use Rattle.own_listing_laws.proofs.Pace.{unless_fault, unless_no_setup, unless_deck_fault, unless_selection_fault, selecting}
use Rattle.own_listing_laws.proofs.Paths.{IsPathSolver, path_followed}
use Rattle.own_listing_laws.proofs.Views.{reported_followed}
use Rattle.own_listing_laws.proofs.Openly.{ranges_followed, punch_followed, install_followed}
use Rattle.own_listing_laws.proofs.Openings.{parametric_run_followed}
use Rattle.walk_definitions.specs.Words.{max_count}
use Rattle.own_listing_laws.proofs.Counted.{MovesSmall, few_variables}
use Rattle.own_listing_laws.proofs.Chains.{chain_lands}

-- while the mark stands, the cells select the same
record SelectsSame (cells moved : Cells) : Type 0 where
  pub objectives : moved.xobj ≡ cells.xobj
  pub rhs : moved.xrhs ≡ cells.xrhs

named : (cell : NameCell) (name : Name) (cells : Cells) (mark : Option Mark) → is_none (mark_after cell mark) ≡ false →
    SelectsSame cells (move_name cell name cells)
named Xdata name cells mark stands = record { objectives = refl; rhs = refl }
named Xpbname name cells mark stands = record { objectives = refl; rhs = refl }
named Xobj name cells mark stands = absurd (cc stands)
named Xrhs name cells mark stands = absurd (cc stands)
named Xoldname name cells mark stands = record { objectives = refl; rhs = refl }
named Xchrow name cells mark stands = record { objectives = refl; rhs = refl }
named Xchcol name cells mark stands = record { objectives = refl; rhs = refl }

numbered : (cell : NumberCell) (value : ℚ) (cells : Cells) → SelectsSame cells (move_number cell value cells)
numbered Xparam value cells = record { objectives = refl; rhs = refl }
numbered Xparmax value cells = record { objectives = refl; rhs = refl }

demanding : (demand : Demand) (position : ℕ) (cells : Cells) → SelectsSame cells (set_demand demand position cells)
demanding Xdonfs position cells = record { objectives = refl; rhs = refl }
demanding Xdounb position cells = record { objectives = refl; rhs = refl }

-- the limit on steps stays small
named_limits : (cell : NameCell) (name : Name) (cells : Cells) → steps_allowed cells ≤ max_count → steps_allowed (move_name cell name cells) ≤ max_count
named_limits Xdata name cells limits = limits
named_limits Xpbname name cells limits = limits
named_limits Xobj name cells limits = limits
named_limits Xrhs name cells limits = limits
named_limits Xoldname name cells limits = limits
named_limits Xchrow name cells limits = limits
named_limits Xchcol name cells limits = limits

numbered_limits : (cell : NumberCell) (value : ℚ) (cells : Cells) → steps_allowed cells ≤ max_count → steps_allowed (move_number cell value cells) ≤ max_count
numbered_limits Xparam value cells limits = limits
numbered_limits Xparmax value cells limits = limits

demanded_limits : (demand : Demand) (position : ℕ) (cells : Cells) → steps_allowed cells ≤ max_count →
    steps_allowed (set_demand demand position cells) ≤ max_count
demanded_limits Xdonfs position cells limits = limits
demanded_limits Xdounb position cells limits = limits

pub default_limits : steps_allowed default_cells ≤ max_count
default_limits = omega arith

moved_limits : (limit : Option ℕ) (cells : Cells) → IfSome limit (λ steps. steps ≤ max_count) → steps_allowed (move_limit limit cells) ≤ max_count
moved_limits None cells small = omega arith
moved_limits (Some steps) cells small = small

waits_same : (pending : Option Pending) (setup : Option Present) (cells moved : Cells) → SelectsSame cells moved →
    WaitsFor pending setup cells.xobj cells.xrhs → WaitsFor pending setup moved.xobj moved.xrhs
waits_same pending setup cells moved same waits =
    subst (λ (objective : Option Name). WaitsFor pending setup objective moved.xrhs) (sym same.objectives)
    (subst (λ (rhs : Option Name). WaitsFor pending setup cells.xobj rhs) (sym same.rhs) waits)

-- where the mark is OPTIMAL, the path has ended optimal at the present basis, and what that shows is best
pub ends_here : (s : State) (present : Present) (lp : LinearProgram) → s.setup ≡ Some present →
    selected present.problem (choice_of s.cells present.options) ≡ Ok lp → Knows s →
    (mark : Mark) → s.mark ≡ Some mark → mark ≡ Optimal → EndsBest lp (present_basis present)
ends_here s present lp set is knows mark marked optimal =
    let known : EndsOptimally s.setup s.cells.xobj s.cells.xrhs = knows.marked (marked ∙ ap (λ (m : Mark). Some m) optimal) in
    let same : known.present ≡ present = (let e = sym known.is_setup ∙ set in cc) in
    let moved =
    subst (λ (x : Present). (selected x.problem (choice_of s.cells x.options) ≡ Ok known.lp) × EndsAt known.lp (present_basis x)
    (EndsOptimal known.point known.prices)) same (known.is_selected, known.ends) in
    let same_lp : known.lp ≡ lp = (let e = sym moved.0 ∙ is in cc) in
    record {
      point = known.point;
      prices = known.prices;
      ends = subst (λ (p : LinearProgram). EndsAt p (present_basis present) (EndsOptimal known.point known.prices)) same_lp moved.1;
    }

best_here : (s : State) (present : Present) (lp : LinearProgram) → s.setup ≡ Some present →
    selected present.problem (choice_of s.cells present.options) ≡ Ok lp → HasProblem s.setup → Knows s →
    (mark : Mark) → s.mark ≡ Some mark → mark ≡ Optimal → (t : Tableau) → IsTableau lp (present_basis present) t → IsProvedBest lp (present_basis present) t
best_here s present lp set is lawful knows mark marked optimal t tab =
    let ended = ends_here s present lp set is knows mark marked optimal in
    reported_is_best lp (present_basis present) t ended.point ended.prices tab ended.ends ((knows.bases present set).in_each s.cells.xobj s.cells.xrhs lp is)
    (selected_is_lawful present.problem (choice_of s.cells present.options) lp (lawful present set) is)

module _ (C : Checker) (suits : SuitsRuns C) (w : Walker) (s : State) (opening : Basis) (steps : List Basis)
    (limits : steps_allowed s.cells ≤ max_count) (waits : WaitsAt w.pending s)
    (lawful : HasProblem s.setup) (knows : Knows s) where
  abbrev walked : State
  walked = record s { setup = rebased opening steps s.setup }

  few : (present : Present) (lp : LinearProgram) → s.setup ≡ Some present → selected present.problem (choice_of s.cells present.options) ≡ Ok lp →
      size lp.matrix ≤ max_count
  few present lp set is = few_variables present.problem (choice_of s.cells present.options) lp (lawful present set) is

  -- the run goes on, with other cells or a setup
  goes : (card : ℕ) (gain : Gain) (after own : State) → IsLike after own → (is_none after.mark ≡ false → WaitsAt w.pending own) →
      IsMatched C w card (Does (Goes gain after)) (Does (Goes gain own))
  goes card gain after own like still =
      does C w card (Goes gain after) (Goes gain own) (refl, like)
      (λ none. waits_on C w gain after own.setup own.cells.xobj own.cells.xrhs w.pending refl none still)

  prints : (card : ℕ) (report : Report) (after own : State) → IsLike after own → (is_none after.mark ≡ false → WaitsAt w.pending own) →
      IsFollowed C w card (Does (Goes (Prints report) after)) (Does (Goes (Prints report) own))
  prints card report after own like still = record { matched = λ small. goes card (Prints report) after own like still; looks = prints_looks C w report after }

  punched : (card : ℕ) (report : Report) (cards : List (List ℕ)) (after own : State) → IsLike after own → (is_none after.mark ≡ false → WaitsAt w.pending own) →
      IsFollowed C w card (Does (Goes (Punches report cards) after)) (Does (Goes (Punches report cards) own))
  punched card report cards after own like still =
      record { matched = λ small. goes card (Punches report cards) after own like still; looks = punches_looks C w report cards after }

  -- ---- problems

  files_followed : (card : ℕ) (report : Filed → Report) (decks : List (List Card)) (problem : Problem ℕ) →
      IsFollowed C w card (files report decks (counted walked) problem) (files report decks (counted s) problem)
  files_followed card report decks problem =
      prints card (report (size_of problem)) _ _ (record { opening = []; steps = []; is = refl; limits = limits }) (λ stands. absurd (cc stands))

  converts_followed : (card : ℕ) → IsFollowed C w card (converts card (counted walked)) (converts card (counted s))
  converts_followed card =
      unless_fault C w {X = List Card × List (List Card)} card VerbFault.DeckNotFound (deck_taken s.cells.xdata s.decks) _ _ (λ taken e.
      unless_deck_fault C w card (conversion taken.0 s.cells.xpbname) (files Converted taken.1 (counted walked)) (files Converted taken.1 (counted s))
      (λ problem is. files_followed card Converted taken.1 problem))

  revises_followed : (card : ℕ) → IsFollowed C w card (revises card (counted walked)) (revises card (counted s))
  revises_followed card =
      unless_fault C w card VerbFault.NoProblem (problem_of s.cells.xoldname s.file) _ _ (λ old o.
      unless_fault C w {X = List Card × List (List Card)} card VerbFault.DeckNotFound (deck_taken s.cells.xdata s.decks) _ _ (λ taken e.
      unless_deck_fault C w card (revision old taken.0 s.cells.xpbname) (files Revised taken.1 (counted walked)) (files Revised taken.1 (counted s))
      (λ problem is. files_followed card Revised taken.1 problem)))

  sets_up_followed : (card : ℕ) (options : SetupOptions) → IsFollowed C w card (sets_up card options (counted walked)) (sets_up card options (counted s))
  sets_up_followed card options =
      unless_fault C w card VerbFault.NoProblem (problem_of s.cells.xpbname s.file) _ _ (λ problem e.
      selecting C w card problem (choice_of s.cells options) _ _ (λ lp is.
      prints card (SetUp problem.name options.sense) _ _ (record { opening = opening_statuses lp; steps = []; is = refl; limits = limits })
      (λ stands. absurd (cc stands))))

  punches_followed : (card : ℕ) → IsFollowed C w card (punches card (counted walked)) (punches card (counted s))
  punches_followed card =
      unless_fault C w card VerbFault.NoProblem (problem_of s.cells.xpbname s.file) _ _
      (λ problem e. punched card _ _ _ _ (record { opening = opening; steps = steps; is = refl; limits = limits }) (λ stands. waits))

  -- ---- what is asked

  solves_followed : (solver : Solver) → IsPathSolver solver → (limit : Option ℕ) (card : ℕ) →
      IsFollowed C w card (solves solver limit card (counted walked)) (solves solver limit card (counted s))
  solves_followed solver path limit card =
      unless_no_setup C w card VerbFault.NoSetup opening steps s.setup _ _ (λ present set.
      selecting C w card present.problem (choice_of s.cells present.options) _ _
      (λ lp is. path_followed C suits w s opening steps card solver path limit present lp set is limits (few present lp set is)
      (selected_is_lawful present.problem (choice_of s.cells present.options) lp (lawful present set) is)
      ((knows.bases present set).in_each s.cells.xobj s.cells.xrhs lp is)))

  shows_followed : (card : ℕ) → IsFollowed C w card (shows card (counted walked)) (shows card (counted s))
  shows_followed card =
      unless_no_setup C w card VerbFault.NoSetup opening steps s.setup _ _ (λ present set.
      unless_fault C w card VerbFault.NotSolved s.mark _ _ (λ mark m.
      unless_selection_fault C w card (selected present.problem (choice_of s.cells present.options)) _ _ (λ lp is.
      reported_followed C suits w s opening steps card mark present lp set is waits limits
      (selected_is_lawful present.problem (choice_of s.cells present.options) lp (lawful present set) is)
      ((knows.bases present set).in_each s.cells.xobj s.cells.xrhs lp is) (best_here s present lp set is lawful knows mark m))))

  ranges_all_followed : (card : ℕ) → IsFollowed C w card (ranges card (counted walked)) (ranges card (counted s))
  ranges_all_followed card =
      unless_no_setup C w card VerbFault.NoSetup opening steps s.setup _ _ (λ present set.
      unless_fault C w card VerbFault.NotSolved s.mark _ _ (λ mark m.
      unless_fault C w {X = Mark} card VerbFault.NotOptimal (if_optimal mark) _ _ (λ optimal o.
      unless_selection_fault C w card (selected present.problem (choice_of s.cells present.options)) _ _
      (λ lp is. ranges_followed C w s opening steps card present lp))))

  punches_basis_followed : (card : ℕ) → IsFollowed C w card (punches_basis card (counted walked)) (punches_basis card (counted s))
  punches_basis_followed card =
      unless_no_setup C w card VerbFault.NoSetup opening steps s.setup _ _ (λ present set.
      selecting C w card present.problem (choice_of s.cells present.options) _ _ (λ lp is. punch_followed C w s opening steps card present lp))

  inserts_followed : (card : ℕ) → IsFollowed C w card (inserts card (counted walked)) (inserts card (counted s))
  inserts_followed card =
      unless_no_setup C w card VerbFault.NoSetup opening steps s.setup _ _ (λ present set.
      selecting C w card present.problem (choice_of s.cells present.options) _ _ (λ lp is.
      unless_fault C w {X = List Card × List (List Card)} card VerbFault.DeckNotFound (deck_taken s.cells.xdata s.decks) _ _ (λ taken t.
      unless_deck_fault C w card (basis_reading present.problem lp taken.0) _ _
      (λ b read. install_followed C w s opening steps card present lp b taken (few present lp set is)))))

  parametric_runs_followed : (card : ℕ) (fault : VerbFault) (change : Problem ℕ → Name → Option Changing) (moved : Option Name) →
      ((problem : Problem ℕ) (changing : Changing) → option_and_then (change problem) moved ≡ Some changing →
      IsOfProblem changing problem × (named_by s.cells changing ≡ Some (changing_name changing))) →
      IsFollowed C w card (parametric_runs card fault change moved (counted walked)) (parametric_runs card fault change moved (counted s))
  parametric_runs_followed card fault change moved part =
      unless_no_setup C w card VerbFault.NoSetup opening steps s.setup _ _ (λ present set.
      selecting C w card present.problem (choice_of s.cells present.options) _ _ (λ lp is.
      unless_fault C w {X = Changing} card fault (option_and_then (change present.problem) moved) _ _ (λ changing c.
      unless_fault C w {X = ℚ} card VerbFault.NoParmax s.cells.xparmax _ _ (λ last l.
      unless_fault C w {X = ℚ} card VerbFault.ParmaxBelow (not_less s.cells.xparam last) _ _ (λ to t.
      let parametric_run : ParametricRun = record { changing = changing; from = s.cells.xparam; to = to; limit = steps_allowed s.cells } in
      let program = selected_is_lawful present.problem (choice_of s.cells present.options) lp (lawful present set) is in
      let free =
      changes_freely (record { problem = present.problem; lp = lp }) (choice_of s.cells present.options) changing (lawful present set) is
      (part present.problem changing c).0 in
      let at = (knows.bases present set).in_each s.cells.xobj s.cells.xrhs lp is in
      parametric_run_followed C suits w s opening steps limits card parametric_run present lp program free at
      (chain_lands C suits w s opening steps limits card parametric_run present lp program free at))))))

  pub verb_matched : (verb : Verb ℕ) (card : ℕ) → card ≤ max_count → MovesSmall verb →
      IsMatched C w card (verb_move verb card (counted walked)) (verb_move verb card (counted s))
  unfolding verb_move
  verb_matched Initialz card small moves =
      goes card Nothing _ _ (record { opening = opening; steps = steps; is = refl; limits = default_limits }) (λ stands. absurd (cc stands))
  verb_matched (Title text) card small moves =
      goes card (Prints (Titled text)) _ _ (record { opening = opening; steps = steps; is = refl; limits = limits }) (λ stands. waits)
  verb_matched (MoveName cell name) card small moves =
      goes card Nothing _ _ (record { opening = opening; steps = steps; is = refl; limits = named_limits cell name s.cells limits })
      (λ stands. waits_same w.pending s.setup s.cells (move_name cell name s.cells) (named cell name s.cells s.mark stands) waits)
  verb_matched (MoveNumber cell value) card small moves =
      goes card Nothing _ _ (record { opening = opening; steps = steps; is = refl; limits = numbered_limits cell value s.cells limits })
      (λ stands. waits_same w.pending s.setup s.cells (move_number cell value s.cells) (numbered cell value s.cells) waits)
  verb_matched (MoveLimit limit) card small moves =
      goes card Nothing _ _ (record { opening = opening; steps = steps; is = refl; limits = moved_limits limit s.cells moves }) (λ stands. waits)
  verb_matched (Mvadr demand position) card small moves =
      goes card Nothing _ _ (record { opening = opening; steps = steps; is = refl; limits = demanded_limits demand position s.cells limits })
      (λ stands. waits_same w.pending s.setup s.cells (set_demand demand position s.cells) (demanding demand position s.cells) waits)
  verb_matched (Goto position) card small moves =
      goes card Nothing _ _ (record { opening = opening; steps = steps; is = refl; limits = limits }) (λ stands. waits)
  verb_matched Convert card small moves = (converts_followed card).matched small
  verb_matched Revise card small moves = (revises_followed card).matched small
  verb_matched (Setup options) card small moves = (sets_up_followed card options).matched small
  verb_matched Primal card small moves = (solves_followed ByPrimal tt s.cells.xiterlim card).matched small
  verb_matched Dual card small moves = (solves_followed ByDual tt (Some (steps_allowed s.cells)) card).matched small
  verb_matched SolutionVerb card small moves = (shows_followed card).matched small
  verb_matched Ranging card small moves = (ranges_all_followed card).matched small
  verb_matched Paraobj card small moves = (parametric_runs_followed card VerbFault.NoChangeRow change_row s.cells.xchrow (row_named s.cells)).matched small
  verb_matched Pararhs card small moves = (parametric_runs_followed card VerbFault.NoChangeSet change_set s.cells.xchcol (set_named s.cells)).matched small
  verb_matched Bcdout card small moves = (punches_followed card).matched small
  verb_matched Punch card small moves = (punches_basis_followed card).matched small
  verb_matched Insert card small moves = (inserts_followed card).matched small
  verb_matched Exit card small moves = (does_stop C w card (Ended 0)).matched small
