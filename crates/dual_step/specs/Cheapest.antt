-- The ratio test of a dual step, variable by variable.
--     brings p s row below q       q may move so as to bring a basic back whose rates are row
--     ratio_of prices row q        what the objective loses for each unit of it
--     cheapest_by                  the least-numbered of those with the least ratio that may bring it back
--     ratio_if                     the ratio of those that may
--     reach_by c                   a candidate with its ratio
--     IsCandidate                  a candidate has its price and its rate, and may bring the basic back
--     IsBest n best                the candidate with the least ratio of the first n variables, if there is one
--     ratio_formula r q            formula 14 of the basic r and the nonbasic q
--     KeptRefused                  the ratio of one of two candidates is refused
--     SomeRatioRefused             that of some variable which may bring the basic back
use Rattle.std.specs.Prelude.{◌≡◌, ℕ, Bool, true, not, ◌&&◌, ◌||◌, List, Option, Some, None, IfSome, option_map, if◌then◌else◌}
use Rattle.std.specs.List.{list_all}
use Rattle.exact_values.specs.Rational.{ℚ, ◌/ℚ◌}
use Rattle.exact_values.specs.Tests.{le_ℚ, magnitude}
use Rattle.frac128.specs.declared.Op.TheVariants.{Div}
use Rattle.lp_definitions.specs.LinearProgram.{LinearProgram, Vector, IsVariable, variables}
use Rattle.lp_definitions.specs.declared.Evidence.{Evidence}
use Rattle.lp_definitions.specs.declared.Status.{Status}
use Rattle.simplex_definitions.specs.Moves.{least, lowers, signed}
use Rattle.basis_values.specs.Formulas.{formula_of_rate, IsRefusal}
use Rattle.basis_values.specs.Reach.{IsNearest}
use Rattle.basis_values.specs.declared.formula.Formula.{Formula}
use Rattle.basis_values.specs.declared.reach.Reach.{Reach}
use Rattle.dual_step.specs.declared.ratios.Candidate.{Candidate}

abbrev pub brings : LinearProgram → List Status → Vector → Bool → ℕ → Bool
brings p s row below q = lowers p s (λ k. signed (not below) (row k)) q

abbrev pub ratio_of : Vector → Vector → ℕ → ℚ
ratio_of prices row q = magnitude (prices q /ℚ row q)

abbrev pub cheapest_by : LinearProgram → List Status → Vector → Vector → Bool → Option ℕ
cheapest_by p s prices row below =
    least p (λ q. brings p s row below q && list_all (λ j. not (brings p s row below j) || le_ℚ (ratio_of prices row q) (ratio_of prices row j))
    (variables p.matrix))

abbrev pub ratio_if : LinearProgram → List Status → Vector → Vector → Bool → ℕ → Option ℚ
ratio_if p s prices row below q = if brings p s row below q then Some (ratio_of prices row q) else None

abbrev pub ratio_at : Candidate → ℚ
ratio_at c = magnitude (c.price /ℚ c.rate)

abbrev pub reach_by : Candidate → Reach
reach_by c = record { p = c.q; length = ratio_at c }

pub record IsCandidate (p : LinearProgram) (s : List Status) (prices row : Vector) (below : Bool) (c : Candidate) : Type 0 where
  pub is_variable : IsVariable p.matrix c.q
  pub is_price : c.price ≡ prices c.q
  pub is_rate : c.rate ≡ row c.q
  pub restores_feasibility : brings p s row below c.q ≡ true

pub record IsBest (p : LinearProgram) (s : List Status) (prices row : Vector) (below : Bool) (n : ℕ) (best : Option Candidate) : Type 0 where
  pub candidate : IfSome best (IsCandidate p s prices row below)
  pub nearest : IsNearest (ratio_if p s prices row below) n (option_map reach_by best)

abbrev pub ratio_formula : ℕ → ℕ → Formula
ratio_formula r q = formula_of_rate 14 r q 0

pub data KeptRefused (r : ℕ) (best other : Candidate) (e : Evidence) : Type 0 where
  of_best : IsRefusal (ratio_formula r best.q) Div best.price best.rate e → KeptRefused r best other e
  of_other : IsRefusal (ratio_formula r other.q) Div other.price other.rate e → KeptRefused r best other e

pub record SomeRatioRefused (p : LinearProgram) (s : List Status) (prices row : Vector) (r : ℕ) (below : Bool) (e : Evidence) : Type 0 where
  pub j : ℕ
  pub is_variable : IsVariable p.matrix j
  pub restores_feasibility : brings p s row below j ≡ true
  pub refused : IsRefusal (ratio_formula r j) Div (prices j) (row j) e
