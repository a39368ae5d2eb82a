-- Rates that are made anew, column by column, and what a stop shows.
--     IsOnWay a b w c              w is on the way from the rows to b, and the columns before c are through
--     IsUnderWay a b w ways c      and the waypoints have no other columns than those of b
--     IsLeaver a b xs p            row p may leave: it is nonbasic in b, and xs isn't 0 there
--     HasNoLeaver a b xs           no row may
--     RefusesWay a b now ways e    an exchange is refused at the waypoint that the evidence numbers
--     FillStops, InstallStops      what a stop shows: a dependency, or an exchange that is refused
use Rattle.std.specs.Prelude.{◌≡◌, ◌≢◌, ℕ, ◌<◌, ◌≤◌, true, false, List, length, All}
use Rattle.exact_values.specs.Rational.{ℚ, zero_ℚ}
use Rattle.lp_definitions.specs.LinearProgram.{Matrix, LinearProgram, size, IsRow, IsVariable, value_at}
use Rattle.lp_definitions.specs.Basis.{Basics, is_in, basics_of, IsNonsingular}
use Rattle.lp_definitions.specs.Waypoints.{HasColumnsWithin, waypoint}
use Rattle.lp_definitions.specs.declared.Evidence.{Evidence}
use Rattle.lp_definitions.specs.declared.Status.{Status}
use Rattle.lp_model.specs.RatesState.{RatesState}
use Rattle.lp_model.specs.declared.Stop.{Stop}
use Rattle.lp_model.specs.declared.Stop.TheVariants as stops
use Rattle.basis_deck_definitions.specs.Dependencies.{IsDependency, InstallRefused}
use Rattle.basis_deck.specs.declared.installing.InstallStop.{InstallStop}
use Rattle.basis_deck.specs.declared.installing.InstallStop.TheVariants as installs
use Rattle.basis_deck.specs.declared.installing.FillStop.{FillStop}
use Rattle.basis_deck.specs.declared.installing.FillStop.TheVariants as fills

-- its rows are those of b and others, and of the columns of b it has those before c
pub record IsOnWay (a : Matrix) (b w : Basics) (c : ℕ) : Type 0 where
  pub nonsingular : IsNonsingular a w
  pub rows : (k : ℕ) → IsVariable a k → k ≤ a.rows → is_in b k ≡ true → is_in w k ≡ true
  pub done : (k : ℕ) → IsVariable a k → a.rows < k → k < c → is_in w k ≡ is_in b k
  pub ahead : (k : ℕ) → IsVariable a k → c ≤ k → is_in w k ≡ false

pub record IsUnderWay (a : Matrix) (b w : Basics) (ways : List Basics) (c : ℕ) : Type 0 where
  pub on_way : IsOnWay a b w c
  pub within : All (λ way. HasColumnsWithin a way b) ways

pub record IsLeaver (a : Matrix) (b : Basics) (xs : List ℚ) (p : ℕ) : Type 0 where
  pub is_row : IsRow a p
  pub is_out : is_in b p ≡ false
  pub apart : value_at xs p ≢ zero_ℚ

abbrev pub HasNoLeaver : Matrix → Basics → List ℚ → Type 0
HasNoLeaver a b xs = (p : ℕ) → IsLeaver a b xs p → ⊥

pub record RefusesWay (a : Matrix) (b now : Basics) (ways : List Basics) (e : Evidence) : Type 0 where
  pub is_way : e.way ≤ length ways
  pub refused : InstallRefused a b (waypoint now ways e.way) e

abbrev pub fill_stop : Stop → FillStop
fill_stop (stops.Overflow e) = fills.Overflow e
fill_stop stops.NoMemory = fills.NoMemory

abbrev pub FillStops : Matrix → Basics → List ℚ → Basics → List Basics → FillStop → Type 0
FillStops a b xs now ways fills.Singular = (c : ℕ) × IsDependency a b c (value_at xs)
FillStops a b xs now ways (fills.Overflow e) = RefusesWay a b now ways e
FillStops a b xs now ways fills.NoMemory = Unit {0}

-- an engine of the same matrix, which knows the waypoint
pub record IsAtRefusal (r : RatesState) (a : Matrix) (b : Basics) (e : Evidence) : Type 0 where
  pub same_matrix : r.matrix ≡ a
  pub refuses : RefusesWay a b r.basics r.waypoints e

module _ {E : Type 0} (state : E → RatesState) (p : LinearProgram) (s : List Status) where
  abbrev pub InstallStops : InstallStop E → Type 0
  InstallStops (installs.Singular d) = (length d ≡ size p.matrix) × ((c : ℕ) × IsDependency p.matrix (basics_of s) c (value_at d))
  InstallStops (installs.Overflow e engine) = IsAtRefusal (state engine) p.matrix (basics_of s) e
  InstallStops installs.NoMemory = Unit {0}
