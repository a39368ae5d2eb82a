-- The prices of a basis over a step.
--     IsTaken t x w n v            the first n values of v are those of w, less t times those of x
--     ArePricesOver w x r q n v    the first n values of v are the prices after q has taken the place of r: w are the prices before,
--                                  and x the rates of r
--     SomeTakenRefused, OverRefused        an operation of theirs is refused
use Rattle.std.specs.Prelude.{◌≡◌, ◌≢◌, ℕ, ◌≤◌, ◌||◌, IsTrue}
use Rattle.exact_values.specs.Rational.{ℚ, zero_ℚ, ◌-ℚ◌, ◌*ℚ◌, ◌/ℚ◌}
use Rattle.frac128.specs.Operations.{refuses}
use Rattle.frac128.specs.declared.Op.TheVariants.{Sub, Mul, Div}
use Rattle.lp_definitions.specs.LinearProgram.{Vector}

abbrev pub IsTaken : ℚ → Vector → Vector → ℕ → Vector → Type 0
IsTaken t x w n v = (k : ℕ) → 1 ≤ k → k ≤ n → v k ≡ w k -ℚ t *ℚ x k

-- r has what q had, over the rate of r at q; q, which is basic then, has none; each other loses as much as r moves with it
pub record ArePricesOver (w x : Vector) (r q n : ℕ) (v : Vector) : Type 0 where
  pub leaver : v r ≡ w q /ℚ x q
  pub entering_variable : v q ≡ zero_ℚ
  pub others : (k : ℕ) → 1 ≤ k → k ≤ n → k ≢ r → k ≢ q → v k ≡ w k -ℚ (w q /ℚ x q) *ℚ x k

-- the product of t with some rate is refused, or the difference of that from the price there
pub record SomeTakenRefused (t : ℚ) (x w : Vector) (n : ℕ) : Type 0 where
  pub k : ℕ
  pub low : 1 ≤ k
  pub high : k ≤ n
  pub refused : IsTrue (refuses Mul t (x k) || refuses Sub (w k) (t *ℚ x k))

-- or the price of q over the rate of r at q
pub data OverRefused (w x : Vector) (q n : ℕ) : Type 0 where
  of_quotient : IsTrue (refuses Div (w q) (x q)) → OverRefused w x q n
  of_others : SomeTakenRefused (w q /ℚ x q) x w n → OverRefused w x q n
