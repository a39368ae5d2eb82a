-- When a solving statement may stop with an overflow.
--     OverflowsAt question sheet bases e place     the evidence holds at a basis that the path in hand has reached, where these are the
--                                                  bases of the path up to the statement
use Rattle.std.specs.Prelude.{◌≡◌, ℕ, ◌+◌, Bool, List, [], ◌∷◌, ◌++◌, length, Option, Some, None, IfSome}
use Rattle.exact_values.specs.Rational.{ℚ}
use Rattle.lp_definitions.specs.Basis.{basics_of}
use Rattle.lp_definitions.specs.declared.Evidence.{Evidence}
use Rattle.simplex_definitions.specs.Path.{Rule, turn, RulePath, last_of}
use Rattle.simplex_definitions.specs.DualPath.{dual_turn}
use Rattle.simplex_definitions.specs.Chain.{RunPlace, breakpoint_of, Reaches}
use Rattle.simplex_definitions.specs.Statements.{SolvingStatement, Primal, Dual, Solution, Range, Paraobj, Pararhs}
use Rattle.simplex_definitions.specs.Evidence.{EvidenceHolds, ShiftHolds}
use Rattle.basis_deck_definitions.specs.Dependencies.{InstallRefused}
use Rattle.listing_definitions.specs.declared.Solver.{Solver}
use Rattle.listing_definitions.specs.declared.Solver.TheVariants.{Primal as ByPrimal, Dual as ByDual, Paraobj as ByParaobj, Pararhs as ByPararhs}
use Rattle.listing_definitions.specs.Ending.{Place}
use Rattle.question_definitions.specs.Answers.{Basis, Sheet, Changing, Row, Set, ParametricRun, Question, OfPath, OfSolution, OfRanges, OfParametricRun}
use Rattle.question_definitions.specs.Answers.{OfPunch, OfInstall}
use Rattle.answer_definitions.specs.ParametricRuns.{row_of, shifts_of, family_of, IsFace}

-- the basis that a path has reached
abbrev pub last_basis : List Basis → Basis
last_basis [] = []
last_basis (first ∷ bases) = last_of first bases

-- evidence at a basis, which is printed with its basics and those of its waypoint
pub record IsEvidence (statement : SolvingStatement) (breakpoint : Option ℚ) (left : ℕ) (bases : List Basis) (ends : List ℚ) (e : Evidence)
    (place : Option Place) : Type 0 where
  pub basis : Basis
  pub way : List Bool
  pub holds : EvidenceHolds statement breakpoint left bases ends basis way e
  pub is_place : place ≡ Some (record { basis = basis; way = way })

-- a solving verb has gone over these bases in this statement, by its rule, and has so many steps left; without a limit any number is
-- left
pub record RuleOverflowsOnPath (rule : Rule) (statement : SolvingStatement) (sheet : Sheet) (bases : List Basis) (limit : Option ℕ) (e : Evidence)
    (place : Option Place) : Type 0 where
  pub steps : List Basis
  pub is_path : RulePath rule sheet.lp (last_basis bases) steps
  pub left : ℕ
  pub is_left : IfSome limit (λ most. length steps + left ≡ most)
  pub is_evidence : IsEvidence statement None left (bases ++ steps) [] e place

-- PRIMAL on its path
abbrev pub OverflowsOnPath : Sheet → List Basis → Option ℕ → Evidence → Option Place → Type 0
OverflowsOnPath sheet = RuleOverflowsOnPath turn (Primal sheet.lp) sheet

-- a path is that of PRIMAL or of DUAL; the parametric verbs ask for none alone
abbrev pub OverflowsBy : Solver → Sheet → List Basis → Option ℕ → Evidence → Option Place → Type 0
OverflowsBy ByPrimal = OverflowsOnPath
OverflowsBy ByDual = λ sheet. RuleOverflowsOnPath dual_turn (Dual sheet.lp) sheet
OverflowsBy ByParaobj = λ sheet bases limit e place. ⊥
OverflowsBy ByPararhs = λ sheet bases limit e place. ⊥

-- INSERT has met an exchange that is refused, on the way to the basis t; it prints the basis before the statement, and the set of
-- basics at which the exchange was to be made
pub record OverflowsOnInstall (sheet : Sheet) (t : Basis) (bases : List Basis) (e : Evidence) (place : Option Place) : Type 0 where
  pub way : List Bool
  pub is_refused : InstallRefused sheet.lp.matrix (basics_of t) way e
  pub is_place : place ≡ Some (record { basis = last_basis bases; way = way })

-- the statement of a parametric run
abbrev pub parametric_run_statement : Sheet → Changing → ℚ → SolvingStatement
parametric_run_statement sheet (Row name) from = Paraobj sheet.lp (row_of sheet.problem name) from
parametric_run_statement sheet (Set name) from = Pararhs sheet.lp (shifts_of sheet.problem name) from

-- a parametric run has gone over these bases, has so many steps left, and its intervals so far end at these values
pub record StandsAt (sheet : Sheet) (bases : List Basis) (parametric_run : ParametricRun) : Type 0 where
  pub standing : RunPlace
  pub steps : List Basis
  pub ends : List ℚ
  pub reaches : Reaches (family_of sheet parametric_run.changing) (IsFace sheet parametric_run.changing) parametric_run.from parametric_run.to
      (last_basis bases) standing steps ends
  pub left : ℕ
  pub is_left : length steps + left ≡ parametric_run.limit

-- evidence at a basis, or of a limit at a value, which has no place
pub data OverflowsOnParametricRun (sheet : Sheet) (bases : List Basis) (parametric_run : ParametricRun) (e : Evidence) (place : Option Place) : Type 0 where
  at_basis : (now : StandsAt sheet bases parametric_run) →
      IsEvidence (parametric_run_statement sheet parametric_run.changing parametric_run.from) (breakpoint_of now.standing) now.left
      (bases ++ now.steps) now.ends e place → OverflowsOnParametricRun sheet bases parametric_run e place
  of_limit : (now : StandsAt sheet bases parametric_run) →
      ShiftHolds (parametric_run_statement sheet parametric_run.changing parametric_run.from) now.ends e → place ≡ None →
      OverflowsOnParametricRun sheet bases parametric_run e place

abbrev pub OverflowsAt : Question → Sheet → List Basis → Evidence → Option Place → Type 0
OverflowsAt (OfPath solver limit) sheet bases e place = OverflowsBy solver sheet bases limit e place
OverflowsAt (OfSolution mark) sheet bases e place = IsEvidence (Solution sheet.lp) None 0 bases [] e place
OverflowsAt OfRanges sheet bases e place = IsEvidence (Range sheet.lp) None 0 bases [] e place
OverflowsAt (OfParametricRun parametric_run) sheet bases e place = OverflowsOnParametricRun sheet bases parametric_run e place
OverflowsAt OfPunch sheet bases e place = ⊥
OverflowsAt (OfInstall t) sheet bases e place = OverflowsOnInstall sheet t bases e place
