-- The table where all rows are basic.
use Rattle.std.proofs.Common.{◌≡◌, ℕ, ◌+◌, ◌-◌, ◌<◌, ◌≤◌, ◌^◌, List, length, get_or, refl, sym, ◌∙◌, ap, Bool, true, false, cond, leb, subst, arith}
use Rattle.exact_values.specs.Rational.{ℚ, zero_ℚ}
use Rattle.lp_definitions.specs.LinearProgram.{Matrix, size, IsVariable}
use Rattle.lp_definitions.specs.Basis.{is_in, IsBasic, row_basics}
use Rattle.lp_laws.specs.Rates.{opening_rate}
use Rattle.lp_laws.proofs.Opening.{IsNonsingular-row_basics, AreRates-opening, is_in-row_basics}
use Rattle.lp_laws.proofs.Values.{clash}
use Rattle.rates_dense.specs.declared.line.Line.{Line}
use Rattle.rates_dense.specs.Opening.{opening_entry, IsOpeningLine, AreOpeningLines, AreInOrder}
use Rattle.rates_dense.specs.Table.{IsLine, IsTableOf}
use Rattle.rates_dense.proofs.Fills.{filled_at}

module _ (a : Matrix) (small : size a < 2 ^ 32) (slots : List ℕ) (lines : List Line) (room : List ℚ) (in_order : AreInOrder (size a) slots)
    (are : AreOpeningLines a a.rows lines) (counted : length room ≡ size a) where
  -- a row's line, at its slot
  line_is : (k : ℕ) (d : Line) → k < length lines → IsOpeningLine a (k + 1) (get_or lines k d)
  line_is k d below = are.each k d (omega (arith, are.counted, below))

  row_of : (k : ℕ) → IsBasic a (row_basics a) k → k ≤ a.rows
  row_of k basic = at (leb k a.rows) refl
    where
      at : (low : Bool) → leb k a.rows ≡ low → k ≤ a.rows
      at true low = grind arith
      at false high = absurd (clash (sym basic.1 ∙ is_in-row_basics a k basic.0 ∙ high))

  opening_is_line : (k : ℕ) (line : Line) → k < a.rows → IsOpeningLine a (k + 1) line → IsLine a (row_basics a) (opening_rate a) line
  opening_is_line k line below is = record {
    is_basic = subst (λ n. IsBasic a (row_basics a) n) (sym is.own) basic;
    places = is.places.places;
    room = is.places.room;
    entries = λ j var.
        let high : j ≤ length line.rates.items = omega (arith, is.places.places, var.1) in
        filled_at line.rates.items (opening_entry a (k + 1)) is.filled j var.0 high
        ∙ at_entry j var (leb j a.rows) refl
        ∙ ap (λ i. cond (is_in (row_basics a) j) zero_ℚ (opening_rate a i j)) (sym is.own);
  }
    where
      var_of : IsVariable a (k + 1)
      var_of = (omega arith, omega arith)

      basic : IsBasic a (row_basics a) (k + 1)
      basic = (var_of, is_in-row_basics a (k + 1) var_of ∙ grind arith)

      row : leb (k + 1) a.rows ≡ true
      row = grind arith

      at_entry : (j : ℕ) → IsVariable a j → (low : Bool) → leb j a.rows ≡ low →
          opening_entry a (k + 1) j ≡ cond (is_in (row_basics a) j) zero_ℚ (opening_rate a (k + 1) j)
      at_entry j var low is = rw (is_in-row_basics a j var, row) refl

  pub opening_table : IsTableOf a (row_basics a) slots lines room
  opening_table = record {
    small = small;
    nonsingular = IsNonsingular-row_basics a;
    rate = opening_rate a;
    are_rates = AreRates-opening a;
    each_line = λ k d below. opening_is_line k (get_or lines k d) (omega (arith, are.counted, below)) (line_is k d below);
    slots_counted = in_order.counted;
    placed = λ k basic.
        let low : k ≤ a.rows = row_of k basic in
        let before : k - 1 < length lines = omega (arith, are.counted, low, basic.0.0) in
        let is_slot : get_or slots (k - 1) 0 ≡ k - 1 = in_order.each (k - 1) (omega (arith, low, basic.0.0)) in
        let number : k - 1 + 1 ≡ k = omega (arith, basic.0.0) in
        record {
          within = subst (λ n. n < length lines) (sym is_slot) before;
          own = λ d. ap (λ n. (get_or lines n d).basic) is_slot ∙ (line_is (k - 1) d before).own ∙ number;
        };
    room = counted;
  }
