-- The directions of the nonbasics, from the lines.
use Rattle.std.specs.Prelude.{eqb}
use Rattle.std.proofs.Common.{◌≡◌, ◌≢◌, ℕ, ◌-◌, ◌<◌, ◌≤◌, ◌⊎◌, inl, inr, List, length, get_or, set, replicate, refl, sym, ◌∙◌, ap, Bool, true, false, cond}
use Rattle.std.proofs.Common.{subst, All, arith}
use Rattle.std.proofs.lemmas.Bool.Decides.{eqb_tells}
use Rattle.std.proofs.lemmas.List.{get_or-set_same, get_or-set_other, get_or-map, length-map, get_or-replicate, length-replicate}
use Rattle.exact_values.specs.Rational.{ℚ, zero_ℚ, one_ℚ}
use Rattle.lp_definitions.specs.LinearProgram.{Matrix, Vector, size, IsVariable, value_at}
use Rattle.lp_definitions.specs.Basis.{Basics, is_in, IsBasic, IsNonbasic, IsDirectionOf}
use Rattle.rates_dense.specs.declared.line.Line.{Line}
use Rattle.rates_dense.specs.Lines.{AreNumbers, HasPlaces, basics_of, HaveRatesAt, IsTakenOver}
use Rattle.rates_dense.specs.Table.{IsTableOf}
use Rattle.rates_dense.proofs.LineSteps.{some_line}
use Rattle.lp_laws.proofs.Alike.{direction_same}

module _ (a : Matrix) (b : Basics) (slots : List ℕ) (lines : List Line) (quotients : List ℚ) (table : IsTableOf a b slots lines quotients) where
  pub basics_are : AreNumbers (size a) (basics_of lines)
  basics_are place within =
      let below : place < length lines = omega (arith, length-map lines (λ (x : Line). x.basic), within) in
      numbered place below
    where
      numbered : (place : ℕ) → place < length lines → (1 ≤ get_or (basics_of lines) place 0) × (get_or (basics_of lines) place 0 ≤ size a)
      numbered place below =
          let d : Line = some_line lines place below in
          let is : get_or (basics_of lines) place 0 ≡ (get_or lines place d).basic = get_or-map (λ (x : Line). x.basic) lines place d 0 below in
          subst (λ (k : ℕ). (1 ≤ k) × (k ≤ size a)) (sym is) (table.each_line place d below).is_basic.0

  pub have_places : All (HasPlaces (size a)) lines
  have_places k d below = let is = table.each_line k d below in record { places = is.places; room = is.room }

  -- zeros, with the rate of each basic at the nonbasic j, and 1 at j itself
  pub direction_written : (j : ℕ) (zeros out : List ℚ) (one : ℚ) → IsNonbasic a b j → zeros ≡ replicate (size a) zero_ℚ → length out ≡ size a → one ≡ one_ℚ
      → ((f : Vector) → HaveRatesAt j lines f → IsTakenOver (basics_of lines) zeros out f) → IsDirectionOf a b j (value_at (set out (j - 1) one))
  direction_written j zeros out one nonbasic are_zeros counted is_one written =
      direction_same a b j d (value_at (set out (j - 1) one)) nonbasic.0 (λ k var. at k var (eqb_tells k j) (is_in b k) refl) direction
    where
      d : Vector
      d i = table.rate i j

      direction : IsDirectionOf a b j d
      direction = table.are_rates j nonbasic

      have : HaveRatesAt j lines d
      have k e below =
          let is = table.each_line k e below in is.entries j nonbasic.0 ∙ ap (λ m. cond m zero_ℚ (table.rate (get_or lines k e).basic j)) nonbasic.1

      taken : IsTakenOver (basics_of lines) zeros out d
      taken = written d have

      zero_there : (k : ℕ) → IsVariable a k → value_at zeros k ≡ zero_ℚ
      zero_there k var =
          let within : k - 1 < size a = omega (arith, var.0, var.1) in ap (λ (xs : List ℚ). value_at xs k) are_zeros
          ∙ get_or-replicate (size a) (k - 1) zero_ℚ zero_ℚ within

      own : value_at (set out (j - 1) one) j ≡ one
      own = let within : j - 1 < length out = omega (arith, counted, nonbasic.0.0, nonbasic.0.1) in get_or-set_same out (j - 1) one zero_ℚ within

      kept : (k : ℕ) → IsVariable a k → k ≢ j → value_at (set out (j - 1) one) k ≡ value_at out k
      kept k var other =
          let elsewhere : k - 1 ≢ j - 1 = λ e. other (omega (arith, e, var.0, nonbasic.0.0)) in
          get_or-set_other out (j - 1) (k - 1) one zero_ℚ elsewhere

      at_basic : (k : ℕ) → IsBasic a b k → value_at out k ≡ d k
      at_basic k basic =
          let was = table.placed k basic in
          let place : ℕ = get_or slots (k - 1) 0 in
          let line : Line = some_line lines place was.within in
          let is : get_or (basics_of lines) place 0 ≡ k = get_or-map (λ (x : Line). x.basic) lines place line 0 was.within ∙ was.own line in
          let listed : place < length (basics_of lines) = omega (arith, length-map lines (λ (x : Line). x.basic), was.within) in
          subst (λ (n : ℕ). value_at out n ≡ d n) is (taken.listed place listed)

      elsewhere : (k : ℕ) → IsVariable a k → d k ≡ zero_ℚ → (value_at out k ≡ d k) ⊎ (value_at out k ≡ value_at zeros k) → value_at out k ≡ d k
      elsewhere k var none (inl e) = e
      elsewhere k var none (inr e) = e ∙ zero_there k var ∙ sym none

      at : (k : ℕ) → IsVariable a k → ((eqb k j ≡ true) × (k ≡ j)) ⊎ ((eqb k j ≡ false) × (k ≢ j)) → (m : Bool) → is_in b k ≡ m →
          value_at (set out (j - 1) one) k ≡ d k
      at k var (inl same) m is = ap (value_at (set out (j - 1) one)) same.1 ∙ own ∙ is_one ∙ sym direction.own ∙ ap d (sym same.1)
      at k var (inr other) true is = kept k var other.1 ∙ at_basic k (var, is)
      at k var (inr other) false is =
          let high : k ≤ length zeros = omega (arith, ap length are_zeros, length-replicate (size a) zero_ℚ, var.1) in
          kept k var other.1 ∙ elsewhere k var (direction.others k (var, is) other.1) (taken.others k var.0 high)
