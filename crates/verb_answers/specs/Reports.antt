-- What the path from a basis answers, in the words of the definitions of runs.
--     sheet_view sheet                     the problem and the linear program
--     most_steps p limit                   how many steps a path may take
--     IsCheckedSo p outcome verdict        the verdict is that of the outcome's check
--     IsReached sheet s now limit report   the path from s ends at now, and the report shows its end and the check of it
--     PathStops sheet s now limit ..       the path from s has come to now, where this stops it
--     IsDualReached, DualPathStops         those of the dual path, which begins with right prices
use Rattle.std.specs.Prelude.{◌≡◌, ℕ, ◌≤◌, List, [], ◌∷◌, ◌++◌, length, Option, None, Some, unwrap_or}
use Rattle.lp_definitions.specs.LinearProgram.{LinearProgram, value_at}
use Rattle.lp_definitions.specs.Basis.{Basics, basics_of}
use Rattle.lp_definitions.specs.Waypoints.{waypoint}
use Rattle.lp_definitions.specs.declared.Evidence.{Evidence}
use Rattle.lp_model.specs.declared.reports.Outcome.{Outcome}
use Rattle.lp_model.specs.declared.reports.Outcome.TheVariants.{Optimal, Crossed, Infeasible, Unbounded}
use Rattle.check_definitions.specs.declared.Verdict.{Verdict}
use Rattle.check_definitions.specs.Checks.{optimal_check, crossed_check, infeasible_check, unbounded_check}
use Rattle.simplex_definitions.specs.Path.{Rule, turn, RulePath, last_of}
use Rattle.simplex_definitions.specs.DualPath.{dual_turn, IsDualPath, HasRightPrices, IsWrongAt}
use Rattle.simplex_definitions.specs.Statements.{SolvingStatement, Primal, Dual}
use Rattle.termination_laws.specs.Laws.{lists_of}
use Rattle.question_definitions.specs.Answers as answers
use Rattle.question_definitions.specs.Answers.{Basis}
use Rattle.answer_definitions.specs.Verdicts.{RuleReachesVerdict}
use Rattle.answer_definitions.specs.Evidence.{RuleOverflowsOnPath}
use Rattle.listing_tables.specs.declared.sheet.Sheet.{Sheet}
use Rattle.report_text.specs.Verdicts.{verdict_view, check_view}
use Rattle.basis_values.specs.Calls.{LieIn}
use Rattle.bounded_primal.specs.Calls.{PathGoesOn, RuleCallGoesOn}
use Rattle.bounded_primal.specs.Stops.{PathFrom}
use Rattle.bounded_primal.specs.declared.moves.PrimalStop.{PrimalStop}
use Rattle.bounded_primal.specs.declared.moves.PrimalStop.TheVariants.{Limit, Overflow, NoMemory}
use Rattle.bounded_dual.specs.declared.moves.DualStop.{DualStop}
use Rattle.bounded_dual.specs.declared.moves.DualStop.TheVariants as dual_stop
use Rattle.verb_answers.specs.declared.path.PathReport.{PathReport}

-- how many steps a path of p may take: as many as its limit says, and else as many as there are status lists, which none has
abbrev pub most_steps : LinearProgram → Option ℕ → ℕ
most_steps p limit = unwrap_or limit (lists_of p)

abbrev pub sheet_view : Sheet → answers.Sheet
sheet_view sheet = record { problem = sheet.problem.now; lp = sheet.lp.now }

-- each kind of outcome has its own check, of all that the outcome shows
abbrev pub IsCheckedSo : LinearProgram → Outcome → Verdict → Type 0
IsCheckedSo p (Optimal steps point prices) verdict = verdict ≡ optimal_check p (value_at point) (value_at prices)
IsCheckedSo p (Crossed k) verdict = verdict ≡ crossed_check p k
IsCheckedSo p (Infeasible steps ray) verdict = verdict ≡ infeasible_check p (value_at ray)
IsCheckedSo p (Unbounded steps point direction) verdict = verdict ≡ unbounded_check p (value_at point) (value_at direction)

-- the path by this rule goes over these bases, of which the last is now, and its end has the verdict and the check that are reported
pub record RuleIsReached (rule : Rule) (sheet : Sheet) (s now : Basis) (limit : Option ℕ) (report : PathReport) : Type 0 where
  pub bases : List Basis
  pub leads : last_of s bases ≡ now
  pub reaches : RuleReachesVerdict rule (sheet_view sheet) s limit bases (verdict_view sheet report.outcome) (check_view report.refused)

-- The path by this rule goes over these bases, of which the last is now. For every list of bases that ends with s, in which the
-- waypoints lay before the call, the statement may stop with this evidence at now, and at one of the waypoints that are there after the
-- call.
pub record RuleOverflowsThere (rule : Rule) (statement : SolvingStatement) (sheet : Sheet) (s now : Basis) (limit : Option ℕ) (before after : List Basics)
    (e : Evidence) : Type 0 where
  pub bases : List Basis
  pub goes : RulePath rule sheet.lp.now s bases × (last_of s bases ≡ now)
  pub is_way : e.way ≤ length after
  pub overflows : (earlier : List Basis) → LieIn sheet.lp.now.matrix before (earlier ++ s ∷ []) →
      RuleOverflowsOnPath rule statement (sheet_view sheet) (earlier ++ s ∷ []) limit e
      (Some (record { basis = now; way = waypoint (basics_of now) after e.way }))

-- ---- the simplex path

abbrev pub IsReached : Sheet → Basis → Basis → Option ℕ → PathReport → Type 0
IsReached = RuleIsReached turn

abbrev pub OverflowsThere : Sheet → Basis → Basis → Option ℕ → List Basics → List Basics → Evidence → Type 0
OverflowsThere sheet = RuleOverflowsThere turn (Primal sheet.lp.now) sheet

-- a path goes on after as many steps as its limit allows, and now is where it is then
abbrev pub PassesLimit : Sheet → Basis → Basis → Option ℕ → Type 0
PassesLimit sheet s now (Some limit) = PathGoesOn sheet.lp.now s now limit
PassesLimit sheet s now None = ⊥

-- the limit, if there is one, stops only a path that goes on; memory may run out anywhere
abbrev pub PathStops : Sheet → Basis → Basis → Option ℕ → List Basics → List Basics → PrimalStop → Type 0
PathStops sheet s now limit before after Limit = PassesLimit sheet s now limit
PathStops sheet s now limit before after (Overflow e) = OverflowsThere sheet s now limit before after e
PathStops sheet s now limit before after NoMemory = (bases : List Basis) × PathFrom sheet.lp.now s now bases

-- ---- the dual path

-- the prices of s are right, and the dual path from there is reached
abbrev pub IsDualReached : Sheet → Basis → Basis → ℕ → PathReport → Type 0
IsDualReached sheet s now limit report = HasRightPrices sheet.lp.now s × RuleIsReached dual_turn sheet s now (Some limit) report

-- a wrong price stops it before any step; its limit stops only a path that goes on from right prices; memory may run out anywhere
abbrev pub DualPathStops : Sheet → Basis → Basis → ℕ → List Basics → List Basics → DualStop → Type 0
DualPathStops sheet s now limit before after (dual_stop.NotDualFeasible j) = IsWrongAt sheet.lp.now s j × (now ≡ s)
DualPathStops sheet s now limit before after (dual_stop.Path Limit) = HasRightPrices sheet.lp.now s × RuleCallGoesOn dual_turn sheet.lp.now s now limit
DualPathStops sheet s now limit before after (dual_stop.Path (Overflow e)) =
    RuleOverflowsThere dual_turn (Dual sheet.lp.now) sheet s now (Some limit) before after e
DualPathStops sheet s now limit before after (dual_stop.Path NoMemory) = (bases : List Basis) × (IsDualPath sheet.lp.now s bases × (last_of s bases ≡ now))
