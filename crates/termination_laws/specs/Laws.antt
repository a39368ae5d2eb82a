-- The laws of the path's end, as the function of src/lib.rt promises them.
--     lists_of p                   how many status lists there are
--     basis_at s bases n           the basis that the path from s has reached after n steps
--     NeverReturns s bases         no basis comes twice on a path
--     TerminationLaws              a path never returns to a basis, and so it ends
--     DualTerminationLaws          so it is with the dual path
use Rattle.std.specs.Prelude.{◌≡◌, ◌≢◌, ℕ, ◌+◌, ◌<◌, ◌≤◌, ◌^◌, List, length, take, None}
use Rattle.lp_definitions.specs.LinearProgram.{LinearProgram, size, IsLinearProgram}
use Rattle.lp_definitions.specs.Basis.{opening_statuses}
use Rattle.lp_definitions.specs.declared.Status.{Status}
use Rattle.simplex_definitions.specs.Path.{IsPath, last_of, GoesOnFor}
use Rattle.simplex_definitions.specs.DualPath.{dual_turn, HasRightPrices, IsDualPath, DualGoesOnFor}
use Rattle.simplex_laws.specs.Laws.{IsNonsingularBasis, HasTableau, EndsWithin, RuleEndsWithin}

-- a variable is basic, at its upper limit, or at the third place that its limits leave it: its lower limit, or 0 where it is free
unfoldable pub lists_of : LinearProgram → ℕ
lists_of p = 3 ^ size p.matrix

abbrev pub basis_at : List Status → List (List Status) → ℕ → List Status
basis_at s bases n = last_of s (take n bases)

-- the bases that a path has reached after different numbers of steps are different
abbrev pub NeverReturns : List Status → List (List Status) → Type 0
NeverReturns s bases = (i j : ℕ) → i < j → j ≤ length bases → basis_at s bases i ≢ basis_at s bases j

pub record TerminationLaws : Type 0 where
  -- no basis comes twice on a path
  pub apart : (p : LinearProgram) (s : List Status) (bases : List (List Status)) →
      IsLinearProgram p → IsNonsingularBasis p s → IsPath p s bases → NeverReturns s bases
  -- so a path has fewer steps than there are status lists
  pub short : (p : LinearProgram) (s : List Status) (bases : List (List Status)) →
      IsLinearProgram p → IsNonsingularBasis p s → IsPath p s bases → length bases < lists_of p
  -- it goes on after so many steps only where one step more is still fewer
  pub limited : (p : LinearProgram) (s : List Status) (steps : ℕ) →
      IsLinearProgram p → IsNonsingularBasis p s → GoesOnFor p s steps → steps + 1 < lists_of p
  -- and it ends, from each basis that has a point and rates, and so from the opening one
  pub ends : (p : LinearProgram) (s : List Status) →
      IsLinearProgram p → IsNonsingularBasis p s → HasTableau p s → EndsWithin p s (lists_of p)
  pub opening_ends : (p : LinearProgram) →
      IsLinearProgram p → EndsWithin p (opening_statuses p) (lists_of p)

pub record DualTerminationLaws : Type 0 where
  -- no basis comes twice on a dual path from right prices; so it has fewer steps than there are status lists, and goes on after so many
  -- only where one more is still fewer; and it ends
  pub apart : (p : LinearProgram) (s : List Status) (bases : List (List Status)) →
      IsLinearProgram p → p.change ≡ None → IsNonsingularBasis p s → HasRightPrices p s → IsDualPath p s bases → NeverReturns s bases
  pub short : (p : LinearProgram) (s : List Status) (bases : List (List Status)) →
      IsLinearProgram p → p.change ≡ None → IsNonsingularBasis p s → HasRightPrices p s → IsDualPath p s bases → length bases < lists_of p
  pub limited : (p : LinearProgram) (s : List Status) (steps : ℕ) →
      IsLinearProgram p → p.change ≡ None → IsNonsingularBasis p s → HasRightPrices p s → DualGoesOnFor p s steps → steps + 1 < lists_of p
  pub ends : (p : LinearProgram) (s : List Status) →
      IsLinearProgram p → p.change ≡ None → IsNonsingularBasis p s → HasRightPrices p s → RuleEndsWithin dual_turn p s (lists_of p)
