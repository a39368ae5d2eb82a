-- What the first wanted rate of a row shows: which nonbasic brings a basic back, and which one improves the objective.
use Rattle.std.proofs.Common.{◌≡◌, ℕ, List, Bool, refl, sym, ap, ◌∙◌, subst, arith}
use Rattle.std.specs.Prelude.{Option, Some, None, not, option_map}
use Rattle.exact_values.specs.Rational.{ℚ}
use Rattle.lp_definitions.specs.LinearProgram.{LinearProgram, Vector, IsVariable, for_min}
use Rattle.lp_definitions.specs.Basis.{basics_of, IsBasis, ArePricesOf}
use Rattle.lp_definitions.specs.declared.Status.{Status}
use Rattle.lp_model.specs.Wanted.{IsFirstWanted, IsGiven}
use Rattle.lp_model.specs.declared.wanted.Wanted.{Wanted}
use Rattle.simplex_definitions.specs.Moves.{signed, entering}
use Rattle.simplex_definitions.specs.Path.{after}
use Rattle.basis_values.specs.Motions.{motion}
use Rattle.basis_values.specs.Prices.{worth_by}
use Rattle.basis_values.specs.Wants.{AreWants, AreWantsBut}
use Rattle.basis_values.proofs.PriceLaws.{plain_prices}
use Rattle.basis_values.proofs.WantLaws.{wanted_enters, wants_after}
use Rattle.bounded_primal.specs.Moves.{move_by}
use Rattle.bounded_primal.specs.Turns.{IsRestoring, moved_by, entering_variable_by, Improves, IsEnteringVariableFound, MovesOn}
use Rattle.bounded_primal.specs.declared.moves.BlockingVariable.{BlockingVariable}
use Rattle.bounded_primal.specs.declared.turns.EnteringVariable.{EnteringVariable}
use Rattle.bounded_primal.proofs.SameChoices.{entering_same}
use Rattle.bounded_primal.proofs.StepFacts.{step_reaches}

-- where nothing is found, all of the row is given
given_all : (found : Option ℕ) (k : ℕ) → found ≡ None → IsGiven found k
given_all found k none = subst (λ (o : Option ℕ). IsGiven o k) (sym none) tt

-- vectors with the same values are both prices
pub prices_same : (p : LinearProgram) (s : List Status) (x y : Vector) → ArePricesOf p s y → ((k : ℕ) → IsVariable p.matrix k → x k ≡ y k) → ArePricesOf p s x
prices_same p s x y h same = record { rate = h.rate; are_rates = h.are_rates; prices = λ k is. same k is ∙ h.prices k is }

module _ (p : LinearProgram) (s : List Status) (basis : IsBasis p s) (ws : List Wanted) (wants : AreWants p s ws) where
  pub restoring_found : (r : ℕ) (below : Bool) (xs : Vector) (found : Option ℕ) → IsFirstWanted p.matrix (basics_of s) r ws (not below) xs found →
      IsRestoring p s r below xs found
  restoring_found r below xs found h = record {
    rates = h.rates;
    is_row = h.is_row;
    enters = wanted_enters p s ws wants (not below) h.rates found h.least;
    at_end = λ none k is. h.given k is (given_all found k none);
  }

  -- there is no change row, and min says how the objective counts
  module _ (plain : p.change ≡ None) (min : Bool) (counts : (v : ℚ) → for_min p.sense v ≡ signed min v) (xs : Vector) where
    worth_is : (ys : Vector) → entering p s (worth_by p ys) ≡ entering p s (motion ys min)
    worth_is ys = entering_same p s basis (worth_by p ys) (motion ys min) (λ k out. counts (ys k))

    pub none_improves : (found : Option ℕ) → found ≡ None → IsFirstWanted p.matrix (basics_of s) p.objective ws min xs found →
        IsEnteringVariableFound p s xs None
    none_improves found none h =
        let same : (k : ℕ) → IsVariable p.matrix k → xs k ≡ h.rates k = λ k is. h.given k is (given_all found k none) in
        let enters : None ≡ entering p s (motion h.rates min) = sym none ∙ wanted_enters p s ws wants min h.rates found h.least in
        let moved : entering p s (motion h.rates min) ≡ entering p s (motion xs min) =
        entering_same p s basis (motion h.rates min) (motion xs min) (λ k out. ap (signed min) (sym (same k out.0))) in (
          prices_same p s xs h.rates (plain_prices p s h.rates plain h.is_row) same,
          ap (option_map (moved_by p xs)) (enters ∙ moved ∙ sym (worth_is xs)),
        )

    found_one : (q : ℕ) → IsFirstWanted p.matrix (basics_of s) p.objective ws min xs (Some q) → Improves p s (moved_by p xs q)
    found_one q h =
        let enters : Some q ≡ entering p s (motion h.rates min) = wanted_enters p s ws wants min h.rates (Some q) h.least in
        let same : xs q ≡ h.rates q = h.given q (h.least.low, omega (arith, h.least.high, wants.places)) refl in
        let moved : moved_by p xs q ≡ moved_by p h.rates q = ap (λ (v : ℚ). moved_by p (λ k. v) q) same in
        record {
          price = h.rates;
          prices = plain_prices p s h.rates plain h.is_row;
          chosen = ap (λ (m : EnteringVariable). Some m) moved ∙ ap (option_map (moved_by p h.rates)) (enters ∙ sym (worth_is h.rates));
        }

    pub one_improves : (found : Option ℕ) (q : ℕ) (m : EnteringVariable) → found ≡ Some q → m ≡ moved_by p xs q →
        IsFirstWanted p.matrix (basics_of s) p.objective ws min xs found → Improves p s m
    one_improves found q m is m_is h = subst (Improves p s) (sym m_is) (found_one q (subst (IsFirstWanted p.matrix (basics_of s) p.objective ws min xs) is h))

-- what is wanted after a step, but for what is renewed
pub wants_moved : (p : LinearProgram) (s : List Status) (basis : IsBasis p s) (ws : List Wanted) (wants : AreWants p s ws) (d : Vector) (q : ℕ)
    (by : BlockingVariable)
    (left : ℕ) (h : MovesOn p s d q by left) (next : List Status)
    → next ≡ after s (move_by q by) → AreWantsBut p next by.p q ws
wants_moved p s basis ws wants d q by left h next is =
    wants_after p s ws wants basis (move_by q by) next h.nonbasic.0 (step_reaches p s h.step.point d q by h.step.is_step h.pivot).is_variable is

-- what leaves is a variable
pub leaves_variable : (p : LinearProgram) (s : List Status) (d : Vector) (q : ℕ) (by : BlockingVariable) (left : ℕ) → MovesOn p s d q by left →
    IsVariable p.matrix by.p
leaves_variable p s d q by left h = (step_reaches p s h.step.point d q by h.step.is_step h.pivot).is_variable

-- what improves the objective by all prices
pub entering_variable_found : (p : LinearProgram) (s : List Status) (y : Vector) (o : Option EnteringVariable) → ArePricesOf p s y →
    o ≡ entering_variable_by p s y → IsEnteringVariableFound p s y o
entering_variable_found p s y None prices is = (prices, is)
entering_variable_found p s y (Some m) prices is = record { price = y; prices = prices; chosen = is }
