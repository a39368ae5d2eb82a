-- Which variable moves, which way, and what stops it.
--     least p test                         the least-numbered variable that passes a test
--     is_below p z k, is_above p z k       k lies below its lower limit, or above its upper one; is_outside: one of the two
--     may_rise p s k, may_fall p s k       a nonbasic that is not fixed may leave the place at which it stands, upward or downward
--     entering p s f                       the least-numbered nonbasic that may move so as to lower a quantity; f has its rates
--     step_length p z v k                  how long it is until k, which moves at the speed v k, reaches the limit ahead of it
--     blocking_variable p z v              the least-numbered of the variables that reach a limit first
use Rattle.std.specs.Prelude.{ℕ, Bool, true, false, not, ◌&&◌, ◌||◌, List, Option, Some, None, if◌then◌else◌, find, option_map}
use Rattle.std.specs.List.{list_all}
use Rattle.exact_values.specs.Rational.{ℚ, zero_ℚ, neg_ℚ, ◌-ℚ◌, ◌/ℚ◌}
use Rattle.exact_values.specs.Tests.{le_ℚ, lt_ℚ}
use Rattle.lp_definitions.specs.LinearProgram.{LinearProgram, Vector, variables, lower_of, upper_of}
use Rattle.lp_definitions.specs.Basis.{status_of}
pub use Rattle.lp_definitions.specs.Limits.{on_limits, is_fixed, is_crossed}
use Rattle.lp_definitions.specs.declared.Status.{Status}
use Rattle.lp_definitions.specs.declared.Status.TheVariants.{Bs, Ll, Ul, Fr}

abbrev pub least : LinearProgram → (ℕ → Bool) → Option ℕ
least p test = find test (variables p.matrix)

-- there is a limit, and the test holds of it
abbrev pub on_limit : (ℚ → Bool) → Option ℚ → Bool
on_limit test None = false
on_limit test (Some l) = test l

abbrev pub is_below : LinearProgram → Vector → ℕ → Bool
is_below p z k = on_limit (λ l. lt_ℚ (z k) l) (lower_of p k)

abbrev pub is_above : LinearProgram → Vector → ℕ → Bool
is_above p z k = on_limit (λ u. lt_ℚ u (z k)) (upper_of p k)

abbrev pub is_outside : LinearProgram → Vector → ℕ → Bool
is_outside p z k = is_below p z k || is_above p z k

-- from its lower limit, or from 0 where it is free, a nonbasic may rise; from its upper limit, or from 0, it may fall
abbrev pub rises_from : Status → Bool
rises_from Bs = false
rises_from Ll = true
rises_from Ul = false
rises_from Fr = true

abbrev pub falls_from : Status → Bool
falls_from Bs = false
falls_from Ll = false
falls_from Ul = true
falls_from Fr = true

abbrev pub may_rise : LinearProgram → List Status → ℕ → Bool
may_rise p s k = rises_from (status_of s k) && not (is_fixed p k)

abbrev pub may_fall : LinearProgram → List Status → ℕ → Bool
may_fall p s k = falls_from (status_of s k) && not (is_fixed p k)

-- v where it counts upward, and -v where it counts downward
abbrev pub signed : Bool → ℚ → ℚ
signed up v = if up then v else neg_ℚ v

-- to lower a quantity, a variable rises where its rate is negative, and falls where it is positive
abbrev pub goes_up : Vector → ℕ → Bool
goes_up f q = lt_ℚ (f q) zero_ℚ

abbrev pub lowers : LinearProgram → List Status → Vector → ℕ → Bool
lowers p s f q = (lt_ℚ (f q) zero_ℚ && may_rise p s q) || (lt_ℚ zero_ℚ (f q) && may_fall p s q)

abbrev pub entering : LinearProgram → List Status → Vector → Option ℕ
entering p s f = least p (lowers p s f)

-- the limit ahead of k: the upper one where it rises, the lower one where it falls
abbrev pub limit_ahead : LinearProgram → Vector → ℕ → Option ℚ
limit_ahead p v k = if lt_ℚ zero_ℚ (v k) then upper_of p k else (if lt_ℚ (v k) zero_ℚ then lower_of p k else None)

abbrev pub step_length : LinearProgram → Vector → Vector → ℕ → Option ℚ
step_length p z v k = option_map (λ l. (l -ℚ z k) /ℚ v k) (limit_ahead p v k)

-- the one reaches a limit, and the other reaches none sooner
abbrev pub is_no_later : Option ℚ → Option ℚ → Bool
is_no_later None other = false
is_no_later (Some a) None = true
is_no_later (Some a) (Some b) = le_ℚ a b

abbrev pub reaches_first : LinearProgram → Vector → Vector → ℕ → Bool
reaches_first p z v k = list_all (λ i. is_no_later (step_length p z v k) (step_length p z v i)) (variables p.matrix)

abbrev pub blocking_variable : LinearProgram → Vector → Vector → Option ℕ
blocking_variable p z v = least p (reaches_first p z v)

-- the limit that a variable reaches, as the status that it has there
abbrev pub reached : Vector → ℕ → Status
reached v k = if lt_ℚ zero_ℚ (v k) then Ul else Ll
