-- What SOLUTION and RANGE find.
--     IsSameSetup setup new        what a statement leaves of the setup that it shows
--     StopsAfter e place           a statement may stop with this evidence, whatever bases came before
--     LinesFound gain finding      the lines of a basis are made, or their making is stopped so
--     RangesFound gain finding     the intervals of a basis are made, or their making is stopped so
--     ViewFound view gain finding  the one or the other
--     Shows view gain finding      SOLUTION or RANGE finds this with a setup, and has this to print
--     verb_of, view_of verb mark   the verb of a program, and what it shows with this mark, or why it is refused
use Rattle.std.specs.Prelude.{◌≡◌, ℕ, List, [], ◌∷◌, ◌++◌, Option, Some, None, Result, Ok, Err, option_map}
use Rattle.lp_definitions.specs.Basis.{Basics, basics_of}
use Rattle.lp_definitions.specs.Waypoints.{KeepsWaypoints}
use Rattle.lp_definitions.specs.declared.Evidence.{Evidence}
use Rattle.simplex_definitions.specs.Statements.{SolvingStatement, Solution as SolutionStatement, Range as RangeStatement}
use Rattle.problem_definitions.specs.Problem.{Problem}
use Rattle.control_definitions.specs.Program as program
use Rattle.listing_definitions.specs.declared.Mark.{Mark}
use Rattle.listing_definitions.specs.declared.Mark.TheVariants.{Optimal, Infeasible, Unbounded}
use Rattle.listing_definitions.specs.declared.VerbFault.{VerbFault}
use Rattle.listing_definitions.specs.declared.VerbFault.TheVariants.{NotSolved, NotOptimal}
use Rattle.listing_definitions.specs.Report.{Solution, SolutionLines, Ranges, RangeLines}
use Rattle.listing_definitions.specs.Ending.{Place}
use Rattle.question_definitions.specs.Answers.{Basis, Sheet}
use Rattle.answer_definitions.specs.Sections.{IsSolutionOf, IsRanged}
use Rattle.answer_definitions.specs.Evidence.{IsEvidence}
use Rattle.fitting_answers.specs.Fitting.{SolutionFits, EvidenceFits}
use Rattle.basis_values.specs.Calls.{LieIn}
use Rattle.run_definitions.specs.Moves.{Gain, Nothing, Prints}
use Rattle.run_machine.specs.declared.end.Place.{Place as OwnPlace}
use Rattle.run_machine.specs.declared.finding.Finding.{Finding}
use Rattle.run_machine.specs.declared.finding.Finding.TheVariants.{Overflow, Printed}
use Rattle.setup_verbs.specs.Kept.{Setup}
use Rattle.showing_verbs.specs.declared.present.ShowingVerb.{ShowingVerb}
use Rattle.showing_verbs.specs.declared.present.ShowingVerb.TheVariants as verbs
use Rattle.showing_verbs.specs.declared.present.View.{View}
use Rattle.showing_verbs.specs.declared.present.View.TheVariants.{Lines, Intervals}
use Rattle.run_machine.specs.Ends.{place_view}

-- ---- what stays of a setup

-- the setup keeps all but what its engine has passed through
pub record IsSameSetup (setup new : Setup) : Type 0 where
  pub name : new.name ≡ setup.name
  pub options : new.options ≡ setup.options
  pub lp : new.lp ≡ setup.lp
  pub basis : new.basis ≡ setup.basis
  pub keeps : KeepsWaypoints setup.lp.matrix (basics_of setup.basis) setup.engine.waypoints (basics_of setup.basis) new.engine.waypoints

-- for every list of bases that ends with s, in which the waypoints lay before, a statement at s may stop with this evidence
abbrev pub StopsAfter : SolvingStatement → Sheet → Basis → List Basics → Evidence → Option Place → Type 0
StopsAfter statement sheet s before e place =
    (earlier : List Basis) → LieIn sheet.lp.matrix before (earlier ++ s ∷ []) → IsEvidence statement None 0 (earlier ++ s ∷ []) [] e place

-- ---- the lines of a basis

module _ (sheet : Sheet) (s : Basis) (before : List Basics) where
  -- its lines are printed with the mark; or an operation is refused; the numbers that are printed fit
  pub data LinesFound (mark : Mark) : Gain → Finding → Type 0 where
    viewed : {lines : SolutionLines} → IsSolutionOf sheet s lines → SolutionFits lines →
        LinesFound mark (Prints (Solution mark lines)) Printed
    overflows : {e : Evidence} {place : Option OwnPlace} →
        StopsAfter (SolutionStatement sheet.lp) sheet s before e (option_map place_view place) → EvidenceFits e →
        LinesFound mark Nothing (Overflow e place)

-- ---- the intervals of a basis

module _ (sheet : Sheet) (s : Basis) (before : List Basics) where
  -- its intervals are printed; or an operation is refused, whose evidence fits
  pub data RangesFound : Gain → Finding → Type 0 where
    ranged : {lines : RangeLines} → IsRanged sheet s lines → RangesFound (Prints (Ranges lines)) Printed
    stopped : {e : Evidence} {place : Option OwnPlace} →
        StopsAfter (RangeStatement sheet.lp) sheet s before e (option_map place_view place) → EvidenceFits e →
        RangesFound Nothing (Overflow e place)

-- ---- what is shown

-- what is shown is found: the lines of a basis with a mark, or its intervals
abbrev pub ViewFound : View → Sheet → Basis → List Basics → Gain → Finding → Type 0
ViewFound (Lines mark) sheet s before = LinesFound sheet s before mark
ViewFound Intervals sheet s before = RangesFound sheet s before

-- of a setup's present basis, in the linear program that it keeps
abbrev pub Shows : View → Problem ℕ → Setup → Gain → Finding → Type 0
Shows view problem setup = ViewFound view (record { problem = problem; lp = setup.lp }) setup.basis setup.engine.waypoints

-- ---- the verbs

abbrev pub verb_of : ShowingVerb → program.Verb ℕ
verb_of verbs.Solution = program.Solution
verb_of verbs.Ranging = program.Ranging

-- each needs a mark, and RANGE no other than OPTIMAL
abbrev pub view_of : ShowingVerb → Option Mark → Result View VerbFault
view_of verbs.Solution None = Err NotSolved
view_of verbs.Solution (Some mark) = Ok (Lines mark)
view_of verbs.Ranging None = Err NotSolved
view_of verbs.Ranging (Some Optimal) = Ok Intervals
view_of verbs.Ranging (Some Infeasible) = Err NotOptimal
view_of verbs.Ranging (Some Unbounded) = Err NotOptimal
