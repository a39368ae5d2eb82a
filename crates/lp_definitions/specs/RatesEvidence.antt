-- The formulas of an inverse that a fraction of 128 bits may refuse, and when evidence of them holds.
--     Names e f p q i j term       the evidence names formula f and these numbers; a number that is not used is 0
--     Refuses e op left right      its operation is this one, with these operands, and is refused
--     ExchangeFormula              an exchange of p for q at the basics w, by formulas 1 to 5
--     EntryFormula, CarriedFormula the row of a basic at the basics b, by formulas 11 and 12
--     ExchangeRefused a around b ways e    an inverse with the basics b and the waypoints ways stops by formulas 1 to 5
--     RowRefused a around b ways e         the same, or by formulas 11 and 12
use Rattle.std.specs.Prelude.{◌≡◌, ◌≢◌, ℕ, ◌-◌, ◌≤◌, ◌⊎◌, not, ◌&&◌, List, [], ◌∷◌, length, filter, take, map, IsTrue, if◌then◌else◌, nat_eq, slice_get, Some}
use Rattle.exact_values.specs.Rational.{ℚ, zero_ℚ, one_ℚ, neg_ℚ, ◌+ℚ◌, ◌*ℚ◌, ◌/ℚ◌}
use Rattle.frac128.specs.declared.Op.{Op}
use Rattle.frac128.specs.declared.Op.TheVariants.{Add, Sub, Mul, Div}
use Rattle.frac128.specs.Operations.{refuses}
use Rattle.lp_definitions.specs.LinearProgram.{Matrix, Vector, IsColumn, column, variables}
use Rattle.lp_definitions.specs.Basis.{Basics, is_in, IsBasic, IsNonbasic, IsNonsingular, exchanged, AreRates}
use Rattle.lp_definitions.specs.Waypoints.{IsWaypoint, waypoint}
use Rattle.lp_definitions.specs.declared.Entry.{Entry}
use Rattle.lp_definitions.specs.declared.Evidence.{Evidence}

-- the evidence has this formula and these numbers
pub record Names (e : Evidence) (formula p q i j term : ℕ) : Type 0 where
  pub is_formula : e.formula ≡ formula
  pub is_p : e.p ≡ p
  pub is_q : e.q ≡ q
  pub is_i : e.i ≡ i
  pub is_j : e.j ≡ j
  pub is_term : e.term ≡ term

-- the operation of the evidence is this one, on these operands, and it refuses them
pub record Refuses (e : Evidence) (op : Op) (left right : ℚ) : Type 0 where
  pub is_op : e.refused.op ≡ op
  pub is_left : e.refused.left ≡ left
  pub is_right : e.refused.right ≡ right
  pub refused : IsTrue (refuses op left right)

-- a list of values, added from the left to what the sum began with
abbrev pub sum_from : ℚ → List ℚ → ℚ
sum_from start [] = start
sum_from start (v ∷ vs) = sum_from (start +ℚ v) vs

-- p may go for q at the basics w: p is basic, q is not, and the rate is not 0
pub record IsExchange (a : Matrix) (w : Basics) (rate : ℕ → ℕ → ℚ) (p q : ℕ) : Type 0 where
  pub leaves : IsBasic a w p
  pub enters : IsNonbasic a w q
  pub pivot : rate p q ≢ zero_ℚ

module _ (a : Matrix) (w : Basics) (rate : ℕ → ℕ → ℚ) (e : Evidence) where
  -- the rates after an exchange of p for q, entry by entry: at p for each j, at each other i and j, and in the column of p
  pub data ExchangeFormula : Type 0 where
    f1 : (p q j : ℕ) → Names e 1 p q 0 j 0 → IsExchange a w rate p q → IsNonbasic a w j →
        Refuses e Div (rate p j) (rate p q) → ExchangeFormula
    f2 : (p q i j : ℕ) → Names e 2 p q i j 0 → IsExchange a w rate p q → IsBasic a w i → i ≢ p → IsNonbasic a w j →
        Refuses e Mul (rate p j /ℚ rate p q) (rate i q) → ExchangeFormula
    f3 : (p q i j : ℕ) → Names e 3 p q i j 0 → IsExchange a w rate p q → IsBasic a w i → i ≢ p → IsNonbasic a w j →
        Refuses e Sub (rate i j) (rate p j /ℚ rate p q *ℚ rate i q) → ExchangeFormula
    f4 : (p q : ℕ) → Names e 4 p q 0 0 0 → IsExchange a w rate p q →
        Refuses e Div one_ℚ (rate p q) → ExchangeFormula
    f5 : (p q i : ℕ) → Names e 5 p q i 0 0 → IsExchange a w rate p q → IsBasic a w i → i ≢ p →
        Refuses e Mul (one_ℚ /ℚ rate p q) (rate i q) → ExchangeFormula

-- the multiplier of variable k in the row of the basic r: 1 at r, 0 at the other basics, and the opposite of the rate at a nonbasic
abbrev pub multiplier : Basics → (ℕ → ℕ → ℚ) → ℕ → Vector
multiplier b rate r k = if is_in b k then (if nat_eq k r then one_ℚ else zero_ℚ) else neg_ℚ (rate r k)

-- the basics of w other than p, in ascending order
abbrev pub other_basics : Matrix → Basics → ℕ → List ℕ
other_basics a w p = filter (λ k. is_in w k && not (nat_eq k p)) (variables a)

module _ (a : Matrix) (b : Basics) (rate : ℕ → ℕ → ℚ) where
  -- a number in a column, times the multiplier of its row
  abbrev pub entry_product : ℕ → Entry → ℚ
  entry_product r x = multiplier b rate r x.row *ℚ x.value

  -- the sum of the first so many products of a column's entries
  abbrev pub entry_sum : ℕ → ℕ → ℕ → ℚ
  entry_sum r j term = sum_from zero_ℚ (map (entry_product r) (take term (column a (j - a.rows))))

  -- the row of the basic i at the variable j of a column, number by number: each product, and each sum, after so many products
  pub data EntryFormula (e : Evidence) : Type 0 where
    f11_product : (i j term : ℕ) (x : Entry) → Names e 11 0 0 i j term → IsBasic a b i → IsColumn a (j - a.rows) →
        slice_get (column a (j - a.rows)) term ≡ Some x →
        Refuses e Mul (multiplier b rate i x.row) x.value → EntryFormula e
    f11_sum : (i j term : ℕ) (x : Entry) → Names e 11 0 0 i j term → IsBasic a b i → IsColumn a (j - a.rows) →
        slice_get (column a (j - a.rows)) term ≡ Some x →
        Refuses e Add (entry_sum i j term) (entry_product i x) → EntryFormula e

  module _ (w : Basics) (way_rate : ℕ → ℕ → ℚ) where
    -- the rate of i at q, times the multiplier of i
    abbrev pub rate_product : ℕ → ℕ → ℕ → ℚ
    rate_product r q i = multiplier b rate r i *ℚ way_rate i q

    -- the multiplier of q, and the first so many products over the basics of w other than p
    abbrev pub rate_sum : ℕ → ℕ → ℕ → ℕ → ℚ
    rate_sum r p q term = sum_from (multiplier b rate r q) (map (rate_product r q) (take term (other_basics a w p)))

    -- the row of the basic j, carried back over an exchange of p for q at the basics w: each product, each sum after so many products,
    -- and the quotient at the end
    pub data CarriedFormula (e : Evidence) : Type 0 where
      f12_product : (p q i j term : ℕ) → Names e 12 p q i j term → IsBasic a b j → IsExchange a w way_rate p q →
          slice_get (other_basics a w p) term ≡ Some i →
          Refuses e Mul (multiplier b rate j i) (way_rate i q) → CarriedFormula e
      f12_sum : (p q i j term : ℕ) → Names e 12 p q i j term → IsBasic a b j → IsExchange a w way_rate p q →
          slice_get (other_basics a w p) term ≡ Some i →
          Refuses e Add (rate_sum j p q term) (rate_product j q i) → CarriedFormula e
      f12_quotient : (p q j : ℕ) → Names e 12 p q 0 j 0 → IsBasic a b j → IsExchange a w way_rate p q →
          Refuses e Div (rate_sum j p q (length (other_basics a w p))) (way_rate p q) → CarriedFormula e

-- w is the set that the evidence numbers, and `rate` its rates; the exchange that the evidence speaks of leads to a waypoint too;
-- an inverse knows of no parameter
pub record IsAtWay (a : Matrix) (around : List Basics) (b : Basics) (ways : List Basics) (e : Evidence) (w : Basics) (rate : ℕ → ℕ → ℚ) : Type 0 where
  pub is_way : e.way ≤ length ways
  pub is_waypoint : w ≡ waypoint b ways e.way
  pub nonsingular : IsNonsingular a w
  pub are_rates : AreRates a w rate
  pub reaches : IsWaypoint a around (exchanged w e.p e.q)
  pub no_theta : e.theta ≡ zero_ℚ

-- an exchange at one of the inverse's waypoints is refused
pub record ExchangeRefused (a : Matrix) (around : List Basics) (b : Basics) (ways : List Basics) (e : Evidence) : Type 0 where
  pub way : Basics
  pub rate : ℕ → ℕ → ℚ
  pub at : IsAtWay a around b ways e way rate
  pub formula : ExchangeFormula a way rate e

-- the row of a basic is refused at an exchange that it is carried over
pub record CarriedRefused (a : Matrix) (around : List Basics) (b : Basics) (ways : List Basics) (e : Evidence) : Type 0 where
  pub rate : ℕ → ℕ → ℚ
  pub are_rates : AreRates a b rate
  pub way : Basics
  pub way_rate : ℕ → ℕ → ℚ
  pub at : IsAtWay a around b ways e way way_rate
  pub formula : CarriedFormula a b rate way way_rate e

-- the row of a basic is refused at the entries of a column
pub record EntryRefused (a : Matrix) (b : Basics) (e : Evidence) : Type 0 where
  pub rate : ℕ → ℕ → ℚ
  pub are_rates : AreRates a b rate
  pub no_way : e.way ≡ 0
  pub no_theta : e.theta ≡ zero_ℚ
  pub formula : EntryFormula a b rate e

-- evidence of an inverse with the basics b: an exchange, or the row of a basic
abbrev pub RowRefused : Matrix → List Basics → Basics → List Basics → Evidence → Type 0
RowRefused a around b ways e = ExchangeRefused a around b ways e ⊎ CarriedRefused a around b ways e ⊎ EntryRefused a b e
