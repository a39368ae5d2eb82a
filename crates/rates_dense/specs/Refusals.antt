-- The refusals of an exchange, in the numbers that the table has.
--     IsRefusal formula p q i j op left right e    evidence of a formula at the present basics
--     QuotientRefused p q rates e      a quotient of the leaver's rates is refused
--     StayingRefused i p q quotients rates e       a rate of the basic i is refused
--     SomeLineRefused p q quotients lines e        a rate of the basic of some line is refused
--     LinesRefused p q lines slot e    a quotient of the leaver's line, or a rate of another
--     IsOwn p q e                      the evidence is of one of the formulas of an exchange, at the present basics, for these p and q
--     IsOwnOverflow p q stop           the stop is an overflow with such evidence
use Rattle.std.specs.Prelude.{◌≡◌, ◌≢◌, ℕ, ◌<◌, ◌≤◌, List, length, slice_index_or}
use Rattle.exact_values.specs.Rational.{ℚ, zero_ℚ, one_ℚ, ◌*ℚ◌}
use Rattle.frac128.specs.declared.Op.{Op}
use Rattle.frac128.specs.declared.Op.TheVariants.{Sub, Mul, Div}
use Rattle.lp_definitions.specs.LinearProgram.{value_at}
use Rattle.lp_definitions.specs.RatesEvidence.{Names, Refuses}
use Rattle.lp_definitions.specs.declared.Evidence.{Evidence}
use Rattle.std.specs.List.{HoldsAt}
use Rattle.rates_dense.specs.Lines.{AreQuotients}
use Rattle.rates_dense.specs.declared.line.Line.{Line}
use Rattle.lp_model.specs.declared.Stop.{Stop}
use Rattle.lp_model.specs.declared.Stop.TheVariants.{Overflow, NoMemory}

pub record IsRefusal (formula p q i j : ℕ) (op : Op) (left right : ℚ) (e : Evidence) : Type 0 where
  pub names : Names e formula p q i j 0
  pub present : e.way ≡ 0
  pub no_theta : e.theta ≡ zero_ℚ
  pub refuses : Refuses e op left right

-- the product is refused, or the difference
pub data IsDifferenceRefused (p q i j : ℕ) (rate quotient factor : ℚ) (e : Evidence) : Type 0 where
  by_product : quotient ≢ zero_ℚ → IsRefusal 2 p q i j Mul quotient factor e → IsDifferenceRefused p q i j rate quotient factor e
  by_difference : quotient ≢ zero_ℚ → IsRefusal 3 p q i j Sub rate (quotient *ℚ factor) e → IsDifferenceRefused p q i j rate quotient factor e

pub data QuotientRefused (p q : ℕ) (rates : List ℚ) (e : Evidence) : Type 0 where
  of_rate : (j : ℕ) → 1 ≤ j → j ≤ length rates → value_at rates j ≢ zero_ℚ →
      IsRefusal 1 p q 0 j Div (value_at rates j) (value_at rates q) e → QuotientRefused p q rates e
  of_one : IsRefusal 4 p q 0 0 Div one_ℚ (value_at rates q) e → QuotientRefused p q rates e

pub data StayingRefused (i p q : ℕ) (quotients rates : List ℚ) (e : Evidence) : Type 0 where
  of_product : (j : ℕ) → 1 ≤ j → j ≤ length rates → j ≢ p → value_at quotients j ≢ zero_ℚ →
      IsRefusal 2 p q i j Mul (value_at quotients j) (value_at rates q) e → StayingRefused i p q quotients rates e
  of_difference : (j : ℕ) → 1 ≤ j → j ≤ length rates → j ≢ p → value_at quotients j ≢ zero_ℚ →
      IsRefusal 3 p q i j Sub (value_at rates j) (value_at quotients j *ℚ value_at rates q) e → StayingRefused i p q quotients rates e
  of_multiple : IsRefusal 5 p q i 0 Mul (value_at quotients p) (value_at rates q) e → StayingRefused i p q quotients rates e

pub record IsOwn (p q : ℕ) (e : Evidence) : Type 0 where
  pub formula_low : 1 ≤ e.formula
  pub formula_high : e.formula ≤ 5
  pub present : e.way ≡ 0
  pub same_p : e.p ≡ p
  pub same_q : e.q ≡ q

abbrev pub IsOwnOverflow : ℕ → ℕ → Stop → Type 0
IsOwnOverflow p q (Overflow e) = IsOwn p q e
IsOwnOverflow p q NoMemory = ⊥

-- a rate of the basic of some line is refused
pub record SomeLineRefused (p q : ℕ) (quotients : List ℚ) (lines : List Line) (e : Evidence) : Type 0 where
  pub slot : ℕ
  pub within : slot < length lines
  pub stays : (d : Line) → (slice_index_or lines slot d).basic ≢ p
  pub refused : (d : Line) → let line = slice_index_or lines slot d in StayingRefused line.basic p q quotients line.rates.items e

pub data LinesRefused (p q : ℕ) (lines : List Line) (slot : ℕ) (e : Evidence) : Type 0 where
  at_leaver : HoldsAt (λ leaver. QuotientRefused p q leaver.rates.items e) lines slot → LinesRefused p q lines slot e
  at_another : (quotients : List ℚ) → HoldsAt (λ leaver. AreQuotients p q leaver.rates.items quotients) lines slot →
      SomeLineRefused p q quotients lines e → LinesRefused p q lines slot e
