-- Formulas at the basis itself, and their refused operations.
--     formula_of_rate n i j term   formula n, of the rate of i at j, with its term
--     IsRefusal f op left right e  the evidence has the formula with its numbers, and the operation with its operands
--     IsTermRefusal f sum x y e    the product of x and y is refused, or the sum with it
use Rattle.std.specs.Prelude.{◌≡◌, ℕ}
use Rattle.exact_values.specs.Rational.{ℚ, zero_ℚ, ◌*ℚ◌}
use Rattle.frac128.specs.declared.Op.{Op}
use Rattle.frac128.specs.declared.Op.TheVariants.{Add, Mul}
use Rattle.lp_definitions.specs.RatesEvidence.{Names, Refuses}
use Rattle.lp_definitions.specs.declared.Evidence.{Evidence}
use Rattle.basis_values.specs.declared.formula.Formula.{Formula}

-- it speaks of no variable that leaves or enters, and of no value of the parameter
abbrev pub formula_of_rate : ℕ → ℕ → ℕ → ℕ → Formula
formula_of_rate number i j term = record { number = number; p = 0; q = 0; i = i; j = j; term = term; theta = zero_ℚ }

pub record IsRefusal (f : Formula) (op : Op) (left right : ℚ) (e : Evidence) : Type 0 where
  pub names : Names e f.number f.p f.q f.i f.j f.term
  pub no_way : e.way ≡ 0
  pub is_theta : e.theta ≡ f.theta
  pub refuses : Refuses e op left right

pub data IsTermRefusal (f : Formula) (sum x y : ℚ) (e : Evidence) : Type 0 where
  of_product : IsRefusal f Mul x y e → IsTermRefusal f sum x y e
  of_sum : IsRefusal f Add sum (x *ℚ y) e → IsTermRefusal f sum x y e
