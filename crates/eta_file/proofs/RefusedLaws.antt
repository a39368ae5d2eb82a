-- A refusal at an eta is evidence at the set before it.
use Rattle.std.proofs.Common.{◌≡◌, ◌≢◌, ℕ, suc, ◌+◌, ◌<◌, List, ◌∷◌, inr, length, take, get_or, refl, sym, ◌∙◌, ap, ap₂, subst, arith, add-one}
use Rattle.exact_values.specs.Rational.{ℚ, zero_ℚ, one_ℚ, ◌-ℚ◌, ◌*ℚ◌, ◌/ℚ◌}
use Rattle.exact_values.proofs.RingLaws.{mul-zero}
use Rattle.frac128.specs.declared.Op.{Op}
use Rattle.frac128.specs.declared.Op.TheVariants.{Sub, Mul, Div}
use Rattle.lp_definitions.specs.LinearProgram.{Matrix, size, IsVariable, value_at}
use Rattle.lp_definitions.specs.Basis.{Basics, IsBasic, IsNonbasic, IsNonsingular, IsDirectionOf, exchanged}
use Rattle.lp_definitions.specs.Waypoints.{waypoint, IsWaypoint, IsWithinOne}
use Rattle.lp_definitions.specs.RatesEvidence.{IsExchange, ExchangeFormula, f1, f2, f3, f4, f5, IsAtWay, ExchangeRefused}
use Rattle.lp_definitions.specs.declared.Evidence.{Evidence}
use Rattle.lp_laws.proofs.Values.{sub-zero}
use Rattle.lp_laws.proofs.Refusals.{refuses_at}
use Rattle.eta_file.specs.declared.eta.EtaEntry.{EtaEntry}
use Rattle.eta_file.specs.declared.eta.StoredEta.{StoredEta}
use Rattle.eta_file.specs.Entries.{sum_rate}
use Rattle.eta_file.specs.Refusals.{IsRefusal, IsRestRefused, by_product, by_difference, TransformRefused, of_quotient, of_entry, LeaveRefused, of_one}
use Rattle.eta_file.specs.Refusals.{of_multiple}
use Rattle.eta_file.specs.Prefixes.{IsEta, Passed, after, prefixes}
use Rattle.eta_file.proofs.RateEntries.{IsOne, rate_entry, rate_entries_apart}
use Rattle.eta_file.proofs.PrefixLaws.{after-take_next, length-prefixes, prefixes-at, eta_at, Passed-take, eta_nonsingular, nonsingular_after, prefix_within}
use Rattle.eta_file.proofs.Directions.{old_is, ratio_is}

module _ (a : Matrix) (r : Basics) (one : IsNonsingular a r) (etas : List StoredEta) (passed : Passed a r etas) (k : ℕ) (d : StoredEta)
    (below : k < length etas) (e : Evidence) where
  abbrev b : Basics
  b = after r etas

  abbrev ways : List Basics
  ways = prefixes r etas

  abbrev w : Basics
  w = after r (take k etas)

  abbrev eta : StoredEta
  eta = get_or etas k d

  is : IsEta a w eta
  is = eta_at a r etas k d passed below

  w_one : IsNonsingular a w
  w_one = nonsingular_after a r (take k etas) one (Passed-take a r etas k passed)

  exchange : IsExchange a w is.rate eta.p eta.q
  exchange = record { leaves = is.leaves; enters = is.enters; pivot = is.apart }

  reach : IsWaypoint a (b ∷ ways) (exchanged w eta.p eta.q)
  reach = (
    eta_nonsingular a w eta w_one is,
    inr (subst (λ x. IsWithinOne a x ways) (after-take_next r etas k d below) (prefix_within a r etas (suc k) (omega (arith, below)))),
  )

  way : (formula i j : ℕ) (op : Op) (left right : ℚ) → IsRefusal (k + 1) formula eta.p eta.q i j op left right e → IsAtWay a (b ∷ ways) b ways e w is.rate
  way formula i j op left right h = record {
    is_way = let counted = length-prefixes r etas in omega (arith, counted, h.is_way, below);
    is_waypoint = sym (ap (waypoint b ways) (h.is_way ∙ add-one k) ∙ prefixes-at r etas k b (omega (arith, below)));
    nonsingular = w_one;
    are_rates = is.are_rates;
    reaches =
        subst (λ x. IsWaypoint a (b ∷ ways) (exchanged w x e.q)) (sym h.names.is_p)
        (subst (λ y. IsWaypoint a (b ∷ ways) (exchanged w eta.p y)) (sym h.names.is_q) reach);
    no_theta = h.no_theta;
  }

  refused_by : (formula i j : ℕ) (op : Op) (left right : ℚ) → IsRefusal (k + 1) formula eta.p eta.q i j op left right e → ExchangeFormula a w is.rate e →
      ExchangeRefused a (b ∷ ways) b ways e
  refused_by formula i j op left right h named = record { way = w; rate = is.rate; at = way formula i j op left right h; formula = named }

  -- an entry is at a basic, and has its rate
  one_entry : (place : ℕ) (x : EtaEntry) → place < length eta.entries.items → ((y : EtaEntry) → get_or eta.entries.items place y ≡ x) →
      IsOne w (λ i. is.rate i eta.q) 1 (size a) x
  one_entry place x within is_x =
      subst (λ (y : EtaEntry). IsOne w (λ i. is.rate i eta.q) 1 (size a) y) (ap (λ es. get_or es place x) (sym is.are_entries) ∙ is_x x)
      (rate_entry a w (λ i. is.rate i eta.q) place x (subst (λ es. place < length es) is.are_entries within))

  none_before : (place : ℕ) (x : EtaEntry) → place < length eta.entries.items → ((y : EtaEntry) → get_or eta.entries.items place y ≡ x) →
      sum_rate (take place eta.entries.items) x.i ≡ zero_ℚ
  none_before place x within is_x =
      ap (λ (y : EtaEntry). sum_rate (take place eta.entries.items) y.i) (sym (is_x x))
      ∙ ap (λ es. sum_rate (take place es) (get_or es place x).i) is.are_entries
      ∙ rate_entries_apart a w (λ i. is.rate i eta.q) place x (subst (λ es. place < length es) is.are_entries within)

  basic_of : (x : EtaEntry) → IsOne w (λ i. is.rate i eta.q) 1 (size a) x → IsBasic a w x.i
  basic_of x h = ((h.low, omega (arith, h.high)), h.basic)

  module _ (j : ℕ) (before : IsNonbasic a w j) (then : IsNonbasic a (exchanged w eta.p eta.q) j) (apart_p : j ≢ eta.p) (apart_q : j ≢ eta.q) (old : List ℚ)
      (counted : length old ≡ size a) (direction : IsDirectionOf a w j (value_at old)) where
    at_old : (i : ℕ) → IsVariable a i → value_at old i ≡ is.rate i j
    at_old = old_is a w w_one eta is j before then apart_p apart_q old counted direction

    at_ratio : value_at old eta.p /ℚ eta.pivot ≡ is.rate eta.p j /ℚ is.rate eta.p eta.q
    at_ratio = ratio_is a w w_one eta is j before then apart_p apart_q old counted direction

    rest_refused : (x : EtaEntry) → IsOne w (λ i. is.rate i eta.q) 1 (size a) x → x.i ≢ eta.p → (left : ℚ) → left ≡ is.rate x.i j
        → IsRestRefused (k + 1) eta.p eta.q x.i j left (value_at old eta.p /ℚ eta.pivot) x.rate e → ExchangeRefused a (b ∷ ways) b ways e
    rest_refused x h stays left at_left (by_product refusal) =
        refused_by 2 x.i j Mul (value_at old eta.p /ℚ eta.pivot) x.rate refusal
        (f2 eta.p eta.q x.i j refusal.names exchange (basic_of x h) stays before
        (refuses_at e Mul (value_at old eta.p /ℚ eta.pivot) x.rate (is.rate eta.p j /ℚ is.rate eta.p eta.q)
        (is.rate x.i eta.q) at_ratio h.is_rate refusal.refuses))
    rest_refused x h stays left at_left (by_difference refusal) =
        refused_by 3 x.i j Sub left ((value_at old eta.p /ℚ eta.pivot) *ℚ x.rate) refusal
        (f3 eta.p eta.q x.i j refusal.names exchange (basic_of x h) stays before
        (refuses_at e Sub left ((value_at old eta.p /ℚ eta.pivot) *ℚ x.rate) (is.rate x.i j)
        ((is.rate eta.p j /ℚ is.rate eta.p eta.q) *ℚ is.rate x.i eta.q) at_left
        (ap₂ (λ u v. u *ℚ v) at_ratio h.is_rate) refusal.refuses))

    pub transform_refused : TransformRefused eta (k + 1) j old e → ExchangeRefused a (b ∷ ways) b ways e
    transform_refused (of_quotient refusal) =
        refused_by 1 0 j Div (value_at old eta.p) eta.pivot refusal
        (f1 eta.p eta.q j refusal.names exchange before
        (refuses_at e Div (value_at old eta.p) eta.pivot (is.rate eta.p j) (is.rate eta.p eta.q) (at_old eta.p is.leaves.0) is.is_pivot refusal.refuses))
    transform_refused (of_entry h) =
        let x : IsOne w (λ i. is.rate i eta.q) 1 (size a) h.entry = one_entry h.place h.entry h.within h.is_entry in
        rest_refused h.entry x h.stays (value_at old h.entry.i -ℚ (value_at old eta.p /ℚ eta.pivot) *ℚ sum_rate (take h.place eta.entries.items) h.entry.i)
        (ap (λ s. value_at old h.entry.i -ℚ (value_at old eta.p /ℚ eta.pivot) *ℚ s) (none_before h.place h.entry h.within h.is_entry)
        ∙ ap (λ s. value_at old h.entry.i -ℚ s) (mul-zero (value_at old eta.p /ℚ eta.pivot)) ∙ sub-zero (value_at old h.entry.i)
        ∙ at_old h.entry.i (basic_of h.entry x).0)
        h.refused

  pub leave_refused : LeaveRefused eta (k + 1) e → ExchangeRefused a (b ∷ ways) b ways e
  leave_refused (of_one refusal) =
      refused_by 4 0 0 Div one_ℚ eta.pivot refusal
      (f4 eta.p eta.q refusal.names exchange (refuses_at e Div one_ℚ eta.pivot one_ℚ (is.rate eta.p eta.q) refl is.is_pivot refusal.refuses))
  leave_refused (of_multiple h) =
      let x : IsOne w (λ i. is.rate i eta.q) 1 (size a) h.entry = one_entry h.place h.entry h.within h.is_entry in
      refused_by 5 h.entry.i 0 Mul (one_ℚ /ℚ eta.pivot) h.entry.rate h.refused
      (f5 eta.p eta.q h.entry.i h.refused.names exchange (basic_of h.entry x) h.stays
      (refuses_at e Mul (one_ℚ /ℚ eta.pivot) h.entry.rate (one_ℚ /ℚ is.rate eta.p eta.q) (is.rate h.entry.i eta.q)
      (ap (λ v. one_ℚ /ℚ v) is.is_pivot) x.is_rate h.refused.refuses))
