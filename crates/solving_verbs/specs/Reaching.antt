-- Where a run of bases has come to.
use Rattle.std.specs.Prelude.{◌≡◌, List, [], ◌∷◌, ◌++◌}
use Rattle.lp_definitions.specs.Basis.{Basics}
use Rattle.simplex_definitions.specs.Path.{last_of}
use Rattle.question_definitions.specs.Answers.{Basis, Sheet}
use Rattle.basis_values.specs.Calls.{LieIn}

-- A run of bases goes from s over these bases to now, and ends there so. For every list of bases that ends with s, in which the waypoints lay before,
-- they lie after in that list followed by these bases.
pub record ReachesBy (Ends : Type 0) (sheet : Sheet) (s now : Basis) (before after : List Basics) (bases : List Basis) : Type 0 where
  pub reaches : Ends
  pub leads : last_of s bases ≡ now
  pub lie : (earlier : List Basis) → LieIn sheet.lp.matrix before (earlier ++ s ∷ []) →
      LieIn sheet.lp.matrix after (earlier ++ s ∷ bases)
