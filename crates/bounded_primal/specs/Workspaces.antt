-- The vectors of a path.
--     AreSized n w                 each has n places
use Rattle.std.specs.Prelude.{◌≡◌, ℕ, length}
use Rattle.bounded_primal.specs.declared.workspace.Workspace.{Workspace}

pub record AreSized (n : ℕ) (w : Workspace) : Type 0 where
  pub point : length w.point.items ≡ n
  pub prices : length w.prices.items ≡ n
  pub row : length w.row.items ≡ n
  pub direction : length w.direction ≡ n
