-- The path of the dual simplex method, which begins at a basis whose prices are right: the least-numbered basic outside its limits is
-- brought back by the nonbasic that the ratio test chooses.
--     dual_turn p s t              what is done at the basis s with the point and the rates t
--     HasRightPrices p s           no nonbasic may move so as to improve the objective
--     IsWrongAt p s j              j is the least-numbered nonbasic that may
--     IsDualStep, DualEndsAt, IsDualPath, DualPathEnds, DualGoesOnFor      steps and paths by this rule
use Rattle.std.specs.Prelude.{◌≡◌, ℕ, List, Option, Some, None}
use Rattle.lp_definitions.specs.LinearProgram.{LinearProgram}
use Rattle.lp_definitions.specs.Basis.{Tableau, IsTableau}
use Rattle.lp_definitions.specs.declared.Status.{Status}
use Rattle.simplex_definitions.specs.Moves.{is_below}
use Rattle.simplex_definitions.specs.Path.{PathEnding, EndsCrossed, Turn, Ends, crossed, outside, entering_variable, restore_feasibility, improve, RuleStep}
use Rattle.simplex_definitions.specs.Path.{RuleEnd, RulePath, RulePathEnds, RuleGoesOn}
use Rattle.simplex_definitions.specs.DualRatio.{cheapest}

module _ (p : LinearProgram) (s : List Status) (t : Tableau) where
  -- a crossed variable ends the path; else a basic outside its limits is brought back at the least loss, if anything may bring it
  -- back; else the path ends at the point, with the prices
  abbrev pub dual_for : Option ℕ → Option ℕ → Turn
  dual_for (Some k) out = Ends (EndsCrossed k)
  dual_for None (Some r) = restore_feasibility p s t r (cheapest p s t r (is_below p t.point r))
  dual_for None None = improve p s t None

  unfoldable pub dual_turn : Turn
  dual_turn = dual_for (crossed p s t) (outside p s t)

-- the objective's rate at each nonbasic is right, or it can't move
pub record HasRightPrices (p : LinearProgram) (s : List Status) : Type 0 where
  pub tableau : Tableau
  pub is_tableau : IsTableau p s tableau
  pub right : entering_variable p s tableau None ≡ None

pub record IsWrongAt (p : LinearProgram) (s : List Status) (j : ℕ) : Type 0 where
  pub tableau : Tableau
  pub is_tableau : IsTableau p s tableau
  pub wrong : entering_variable p s tableau None ≡ Some j

abbrev pub IsDualStep : LinearProgram → List Status → List Status → Type 0
IsDualStep = RuleStep dual_turn

abbrev pub DualEndsAt : LinearProgram → List Status → PathEnding → Type 0
DualEndsAt = RuleEnd dual_turn

abbrev pub IsDualPath : LinearProgram → List Status → List (List Status) → Type 0
IsDualPath = RulePath dual_turn

abbrev pub DualPathEnds : LinearProgram → List Status → List (List Status) → PathEnding → Type 0
DualPathEnds = RulePathEnds dual_turn

abbrev pub DualGoesOnFor : LinearProgram → List Status → ℕ → Type 0
DualGoesOnFor = RuleGoesOn dual_turn
