-- The least-numbered variable at which a row has a rate that is wanted.
--     is_wanted w v                whether a rate is wanted where this sign is
--     turned up v                  v, or its opposite where up is false
--     wanted_at ws k               the sign that is wanted at the variable k
--     meets ws up xs k             the rate of k, turned so, is wanted
--     IsLeastWanted ws up xs q     q is the least-numbered variable whose rate is, or none is
--     IsGiven q k                  k is the variable q that was found; where none was, any
--     IsFirstWanted a b i ws up xs q     q is the least-numbered variable whose rate in the row of the basic i is wanted, and xs has that rate; where
--                                  there is none, xs has the row
use Rattle.std.specs.Prelude.{◌≡◌, ℕ, ◌-◌, ◌<◌, ◌≤◌, Bool, true, false, ◌||◌, List, length, slice_index_or, Option, Some, None, if◌then◌else◌}
use Rattle.exact_values.specs.Rational.{ℚ, zero_ℚ, neg_ℚ}
use Rattle.exact_values.specs.Tests.{lt_ℚ}
use Rattle.lp_definitions.specs.LinearProgram.{Matrix, Vector, IsVariable}
use Rattle.lp_definitions.specs.Basis.{Basics}
use Rattle.lp_model.specs.RatesCalls.{IsRowOf}
use Rattle.lp_model.specs.declared.wanted.Wanted.{Wanted}
use Rattle.lp_model.specs.declared.wanted.Wanted.TheVariants.{Nothing, Below, Above, Apart}

abbrev pub is_wanted : Wanted → ℚ → Bool
is_wanted Nothing v = false
is_wanted Below v = lt_ℚ v zero_ℚ
is_wanted Above v = lt_ℚ zero_ℚ v
is_wanted Apart v = lt_ℚ v zero_ℚ || lt_ℚ zero_ℚ v

abbrev pub turned : Bool → ℚ → ℚ
turned up v = if up then v else neg_ℚ v

abbrev pub wanted_at : List Wanted → ℕ → Wanted
wanted_at ws k = slice_index_or ws (k - 1) Nothing

abbrev pub meets : List Wanted → Bool → Vector → ℕ → Bool
meets ws up xs k = is_wanted (wanted_at ws k) (turned up (xs k))

-- none of the first n is wanted
abbrev pub NoneMeets : List Wanted → Bool → Vector → ℕ → Type 0
NoneMeets ws up xs n = (k : ℕ) → 1 ≤ k → k ≤ n → meets ws up xs k ≡ false

pub record IsLeastMet (ws : List Wanted) (up : Bool) (xs : Vector) (q : ℕ) : Type 0 where
  pub low : 1 ≤ q
  pub high : q ≤ length ws
  pub met : meets ws up xs q ≡ true
  pub before : (k : ℕ) → 1 ≤ k → k < q → meets ws up xs k ≡ false

abbrev pub IsLeastWanted : List Wanted → Bool → Vector → Option ℕ → Type 0
IsLeastWanted ws up xs None = NoneMeets ws up xs (length ws)
IsLeastWanted ws up xs (Some q) = IsLeastMet ws up xs q

-- k is what was found, if anything was
abbrev pub IsGiven : Option ℕ → ℕ → Type 0
IsGiven None k = Unit {0}
IsGiven (Some q) k = k ≡ q

pub record IsFirstWanted (a : Matrix) (b : Basics) (i : ℕ) (ws : List Wanted) (up : Bool) (xs : Vector) (found : Option ℕ) : Type 0 where
  pub rates : Vector
  pub is_row : IsRowOf a b i rates
  pub least : IsLeastWanted ws up rates found
  pub given : (k : ℕ) → IsVariable a k → IsGiven found k → xs k ≡ rates k
