-- What a refusal at the lines shows: evidence of a formula of the exchange, at the present basics.
use Rattle.std.specs.Prelude.{eqb}
use Rattle.std.proofs.Common.{◌≡◌, ◌≢◌, ℕ, ◌<◌, ◌≤◌, inl, inr, List, [], ◌∷◌, length, get_or, refl, sym, ◌∙◌, ap, Bool, true, false, cond, subst, arith}
use Rattle.std.proofs.lemmas.Bool.{eq-eqb, ne_eqb}
use Rattle.exact_values.specs.Rational.{ℚ, zero_ℚ, one_ℚ, ◌*ℚ◌, ◌/ℚ◌}
use Rattle.frac128.specs.declared.Op.{Op}
use Rattle.frac128.specs.declared.Op.TheVariants.{Sub, Mul, Div}
use Rattle.lp_definitions.specs.LinearProgram.{Matrix, Vector, size, IsVariable, value_at}
use Rattle.lp_definitions.specs.Basis.{Basics, is_in, IsBasic, IsNonbasic, exchanged}
use Rattle.lp_definitions.specs.Waypoints.{waypoint, IsWaypoint}
use Rattle.lp_definitions.specs.RatesEvidence.{IsExchange, ExchangeFormula, f1, f2, f3, f4, f5, IsAtWay, ExchangeRefused}
use Rattle.lp_definitions.specs.declared.Evidence.{Evidence}
use Rattle.lp_model.specs.RatesCalls.{HasPivot}
use Rattle.rates_dense.specs.declared.line.Line.{Line}
use Rattle.rates_dense.specs.Lines.{AreQuotients}
use Rattle.rates_dense.specs.Table.{IsLine, IsTableOf}
use Rattle.rates_dense.specs.Refusals.{IsRefusal, QuotientRefused, of_rate, of_one, StayingRefused, of_product, of_difference, of_multiple, LinesRefused}
use Rattle.rates_dense.specs.Refusals.{at_leaver, at_another, IsOwn}
use Rattle.rates_dense.proofs.LineSteps.{some_line}
use Rattle.rates_dense.proofs.NewLines.{line_entry, quotient_at_basic, quotient_at_nonbasic, quotient_at_leaver}
use Rattle.rates_dense.proofs.Exchanges.{slot, slot_within, rate_apart, leaver_entry, leaver_at_entering, nonsingular_then, are_quotients}
use Rattle.lp_laws.proofs.Refusals.{refuses_at}

-- an entry that is not 0 is no basic's
entry_out : (b : Basics) (rate : ℕ → ℕ → ℚ) (i k : ℕ) → line_entry b rate i k ≢ zero_ℚ → is_in b k ≡ false
entry_out b rate i k apart = at (is_in b k) refl
  where
    at : (mark : Bool) → is_in b k ≡ mark → is_in b k ≡ false
    at true is = absurd (apart (ap (λ m. cond m zero_ℚ (rate i k)) is))
    at false is = is

own_of : (formula p q i j : ℕ) (op : Op) (left right : ℚ) (e : Evidence) → 1 ≤ formula → formula ≤ 5 → IsRefusal formula p q i j op left right e → IsOwn p q e
own_of formula p q i j op left right e low high h = record {
  formula_low = subst (λ n. 1 ≤ n) (sym h.names.is_formula) low;
  formula_high = subst (λ n. n ≤ 5) (sym h.names.is_formula) high;
  present = h.present;
  same_p = h.names.is_p;
  same_q = h.names.is_q;
}

pub lines_own : (p q : ℕ) (lines : List Line) (at : ℕ) (e : Evidence) → at < length lines → LinesRefused p q lines at e → IsOwn p q e
lines_own p q lines at e within (at_leaver h) = leaver (h d)
  where
    d : Line
    d = some_line lines at within

    leaver : QuotientRefused p q (get_or lines at d).rates.items e → IsOwn p q e
    leaver (of_rate j low high apart h) =
        own_of 1 p q 0 j Div (value_at (get_or lines at d).rates.items j) (value_at (get_or lines at d).rates.items q) e (omega arith) (omega arith) h
    leaver (of_one h) = own_of 4 p q 0 0 Div one_ℚ (value_at (get_or lines at d).rates.items q) e (omega arith) (omega arith) h
lines_own p q lines at e within (at_another quotients are h) = another (h.refused d)
  where
    d : Line
    d = some_line lines at within

    another : StayingRefused (get_or lines h.slot d).basic p q quotients (get_or lines h.slot d).rates.items e → IsOwn p q e
    another (of_product j low high other apart h) = own_of 2 p q _ j Mul _ _ e (omega arith) (omega arith) h
    another (of_difference j low high other apart h) = own_of 3 p q _ j Sub _ _ e (omega arith) (omega arith) h
    another (of_multiple h) = own_of 5 p q _ 0 Mul _ _ e (omega arith) (omega arith) h

module _ (a : Matrix) (b : Basics) (slots : List ℕ) (lines : List Line) (room : List ℚ) (table : IsTableOf a b slots lines room) (p q : ℕ)
    (leaves : IsBasic a b p) (enters : IsNonbasic a b q) (pivot : HasPivot a b p q) (e : Evidence) where
  abbrev around : List Basics
  around = b ∷ exchanged b p q ∷ []

  exchange : IsExchange a b table.rate p q
  exchange = record { leaves = leaves; enters = enters; pivot = rate_apart a b slots lines room table p q leaves enters pivot }

  way : (formula i j : ℕ) (op : Op) (left right : ℚ) → IsRefusal formula p q i j op left right e → IsAtWay a around b [] e b table.rate
  way formula i j op left right h = record {
    is_way = subst (λ n. n ≤ 0) (sym h.present) (omega arith);
    is_waypoint = sym (ap (waypoint b []) h.present);
    nonsingular = table.nonsingular;
    are_rates = table.are_rates;
    reaches =
        subst (λ x. IsWaypoint a around (exchanged b x e.q)) (sym h.names.is_p) (subst (λ y. IsWaypoint a around (exchanged b p y)) (sym h.names.is_q) reach);
    no_theta = h.no_theta;
  }
    where
      reach : IsWaypoint a around (exchanged b p q)
      reach = (nonsingular_then a b slots lines room table p q leaves enters pivot, inr (inl (λ k proper basic. basic.1)))

  refused_by : (formula i j : ℕ) (op : Op) (left right : ℚ) → IsRefusal formula p q i j op left right e → ExchangeFormula a b table.rate e →
      ExchangeRefused a around b [] e
  refused_by formula i j op left right h named = record { way = b; rate = table.rate; at = way formula i j op left right h; formula = named }

  abbrev place : ℕ
  place = slot a b slots lines room table p q leaves enters pivot

  at_entry : (d : Line) (j : ℕ) → IsVariable a j → value_at (get_or lines place d).rates.items j ≡ line_entry b table.rate p j
  at_entry = leaver_entry a b slots lines room table p q leaves enters pivot

  leaver_refused : (d : Line) → QuotientRefused p q (get_or lines place d).rates.items e → ExchangeRefused a around b [] e
  leaver_refused d (of_rate j low high apart h) =
      let rates = (get_or lines place d).rates.items in
      let places : length rates ≡ size a = (table.each_line place d (slot_within a b slots lines room table p q leaves enters pivot)).places in
      let var : IsVariable a j = (low, omega (arith, places, high)) in
      let out : is_in b j ≡ false = entry_out b table.rate p j (λ none. apart (at_entry d j var ∙ none)) in
      let is_rate : value_at rates j ≡ table.rate p j = at_entry d j var ∙ ap (λ m. cond m zero_ℚ (table.rate p j)) out in
      refused_by 1 0 j Div (value_at rates j) (value_at rates q) h
      (f1 p q j h.names exchange (var, out)
      (refuses_at e Div (value_at rates j) (value_at rates q) (table.rate p j) (table.rate p q) is_rate
      (leaver_at_entering a b slots lines room table p q leaves enters pivot d) h.refuses))
  leaver_refused d (of_one h) =
      let rates = (get_or lines place d).rates.items in
      refused_by 4 0 0 Div one_ℚ (value_at rates q) h
      (f4 p q h.names exchange
      (refuses_at e Div one_ℚ (value_at rates q) one_ℚ (table.rate p q) refl
      (leaver_at_entering a b slots lines room table p q leaves enters pivot d) h.refuses))

  module _ (quotients : List ℚ) (counted_too : length quotients ≡ size a) (are : (d : Line) → AreQuotients p q (get_or lines place d).rates.items quotients)
      (line : Line) (is : IsLine a b table.rate line) (other : line.basic ≢ p) where
    abbrev leaver : Vector
    leaver k = value_at (get_or lines place line).rates.items k

    quotients_are : (k : ℕ) → IsVariable a k → value_at quotients k ≡ cond (eqb k p) one_ℚ (leaver k) /ℚ leaver q
    quotients_are = are_quotients a b slots lines room table p q leaves enters pivot quotients counted_too are line

    whole_length : length b ≡ size a
    whole_length = table.nonsingular.counted

    factor : value_at line.rates.items q ≡ table.rate line.basic q
    factor = is.entries q enters.0 ∙ ap (λ m. cond m zero_ℚ (table.rate line.basic q)) enters.1

    -- a quotient that is not 0 is a nonbasic's
    nonbasic : (j : ℕ) → IsVariable a j → j ≢ p → value_at quotients j ≢ zero_ℚ → is_in b j ≡ false
    nonbasic j var not_p apart = at (is_in b j) refl
      where
        at : (mark : Bool) → is_in b j ≡ mark → is_in b j ≡ false
        at true in_b =
            absurd (apart
            (quotient_at_basic a b whole_length table.rate table.are_rates p q leaves enters leaver (value_at quotients) (at_entry line) quotients_are j var
            (ne_eqb j p not_p) in_b))
        at false out = out

    is_quotient : (j : ℕ) → IsVariable a j → j ≢ p → is_in b j ≡ false → value_at quotients j ≡ table.rate p j /ℚ table.rate p q
    is_quotient j var not_p out =
        quotient_at_nonbasic a b whole_length table.rate table.are_rates p q leaves enters leaver (value_at quotients) (at_entry line) quotients_are j var
        (ne_eqb j p not_p) out

    line_refused : StayingRefused line.basic p q quotients line.rates.items e → ExchangeRefused a around b [] e
    line_refused (of_product j low high not_p apart h) =
        let var : IsVariable a j = (low, omega (arith, is.places, high)) in
        let out : is_in b j ≡ false = nonbasic j var not_p apart in
        refused_by 2 line.basic j Mul (value_at quotients j) (value_at line.rates.items q) h
        (f2 p q line.basic j h.names exchange is.is_basic other (var, out)
        (refuses_at e Mul (value_at quotients j) (value_at line.rates.items q) (table.rate p j /ℚ table.rate p q) (table.rate line.basic q)
        (is_quotient j var not_p out) factor h.refuses))
    line_refused (of_difference j low high not_p apart h) =
        let var : IsVariable a j = (low, omega (arith, is.places, high)) in
        let out : is_in b j ≡ false = nonbasic j var not_p apart in
        let is_rate : value_at line.rates.items j ≡ table.rate line.basic j = is.entries j var ∙ ap (λ m. cond m zero_ℚ (table.rate line.basic j)) out in
        let is_product : value_at quotients j *ℚ value_at line.rates.items q ≡ table.rate p j /ℚ table.rate p q *ℚ table.rate line.basic q =
        ap (λ x. x *ℚ value_at line.rates.items q) (is_quotient j var not_p out) ∙ ap (λ y. table.rate p j /ℚ table.rate p q *ℚ y) factor in
        refused_by 3 line.basic j Sub (value_at line.rates.items j) (value_at quotients j *ℚ value_at line.rates.items q) h
        (f3 p q line.basic j h.names exchange is.is_basic other (var, out)
        (refuses_at e Sub (value_at line.rates.items j) (value_at quotients j *ℚ value_at line.rates.items q) (table.rate line.basic j)
        (table.rate p j /ℚ table.rate p q *ℚ table.rate line.basic q) is_rate is_product h.refuses))
    line_refused (of_multiple h) =
        let at_p : value_at quotients p ≡ one_ℚ /ℚ table.rate p q =
        quotient_at_leaver a b whole_length table.rate table.are_rates p q leaves enters leaver (value_at quotients) (at_entry line) quotients_are p leaves.0
        (eq-eqb p p refl) in
        refused_by 5 line.basic 0 Mul (value_at quotients p) (value_at line.rates.items q) h
        (f5 p q line.basic h.names exchange is.is_basic other
        (refuses_at e Mul (value_at quotients p) (value_at line.rates.items q) (one_ℚ /ℚ table.rate p q) (table.rate line.basic q) at_p factor h.refuses))

  pub lines_refused : LinesRefused p q lines place e → ExchangeRefused a around b [] e
  lines_refused (at_leaver h) =
      leaver_refused (some_line lines place (slot_within a b slots lines room table p q leaves enters pivot))
      (h (some_line lines place (slot_within a b slots lines room table p q leaves enters pivot)))
  lines_refused (at_another quotients are h) =
      let d : Line = some_line lines place (slot_within a b slots lines room table p q leaves enters pivot) in
      let places : length (get_or lines place d).rates.items ≡ size a =
      (table.each_line place d (slot_within a b slots lines room table p q leaves enters pivot)).places in
      line_refused quotients ((are d).counted ∙ places) are (get_or lines h.slot d) (table.each_line h.slot d h.within) (h.stays d) (h.refused d)
