-- A chain of intervals in the making: intervals are added at its end.
--     IsBegun parts theta now path    the intervals so far; the next one begins at theta with the basis now, which the face steps
--                                     over the bases of path have reached
use Rattle.std.specs.Prelude.{List, [], ◌∷◌, ◌++◌}
use Rattle.exact_values.specs.Rational.{ℚ}
use Rattle.lp_definitions.specs.LinearProgram.{LinearProgram}
use Rattle.lp_definitions.specs.declared.Status.{Status}
use Rattle.simplex_definitions.specs.Path.{last_of}
use Rattle.simplex_definitions.specs.Chain.{Part, FaceTurn, FaceDone, IsPart, FacesTo}

module _ (family : ℚ → LinearProgram) (Face : ℚ → List Status → FaceTurn → Type 0) (from max : ℚ) (s : List Status) where
  -- no interval yet; or an interval whose breakpoint has no face step left
  pub data IsBegun : List Part → ℚ → List Status → List (List Status) → Type 0 where
    nothing : IsBegun [] from s []
    then : {parts : List Part} {theta : ℚ} {now : List Status} {path : List (List Status)} {part : Part} {bases : List (List Status)} →
        IsBegun parts theta now path → IsPart family theta max now part → FacesTo family Face max part.to now bases FaceDone →
        IsBegun (parts ++ part ∷ []) part.to (last_of now bases) (path ++ bases)
