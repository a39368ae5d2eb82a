-- From lists of prices, rates and values to the tableau of the basis.
use Rattle.std.proofs.Common.{◌≡◌, ◌≢◌, ℕ, ◌+◌, ◌<◌, ◌≤◌, ◌⊎◌, inl, inr, List, length, set, refl, sym, ap, ap₂, subst, subst₂, ◌∙◌, Bool, true, false, Option}
use Rattle.std.proofs.Common.{Some, None, arith, cond, pos}
use Rattle.std.specs.Prelude.{◌↔◌, IfSome, ◌&&◌, not, eqb, nat_eq}
use Rattle.std.proofs.lemmas.Bool.Decides.{eqb_tells}
use Rattle.exact_values.specs.Rational.{ℚ, zero_ℚ, neg_ℚ, ◌-ℚ◌, ◌/ℚ◌, ◌≤ℚ◌}
use Rattle.exact_values.proofs.Ring.{by_ring2, number, ◌⊕◌, ◌⊗◌, ◌≐◌}
use Rattle.affine_laws.specs.Ends.{IsBetweenEnds}
use Rattle.affine_laws.specs.declared.tightening.Endpoint.{Endpoint}
use Rattle.affine_laws.specs.declared.tightening.Ends.{Ends}
use Rattle.sensitivity_laws.specs.Changes.{SidesHold, value_sides, limit_sides, rate_sides, sign_sides, RatesStay}
use Rattle.sensitivity_laws.specs.Laws.{IsPresent}
use Rattle.sensitivity_laws.proofs.Rows.{rows_of, feasible_now}
use Rattle.sensitivity_laws.proofs.Tableaus.{by_tableau}
use Rattle.sensitivity_laws.proofs.Signs.{sides_of_rate}
use Rattle.sensitivity_laws.proofs.Limits.{out_of_basis}
use Rattle.simplex_definitions.specs.Formulas.{limit_numbered}
use Rattle.lp_definitions.specs.LinearProgram.{LinearProgram, Vector, size, IsRow, IsVariable, IsLinearProgram, lower_of, upper_of, for_min, with_change_row}
use Rattle.lp_definitions.specs.Basis.{basics_of, is_in, is_basic, status_of, IsBasic, IsNonbasic, AreRates, IsPointOf, ArePricesOf, IsOptimalBasis, Tableau}
use Rattle.lp_definitions.specs.Basis.{IsTableau, objective_rate}
use Rattle.lp_definitions.specs.declared.Change.{Change}
use Rattle.lp_definitions.specs.declared.Status.{Status}
use Rattle.lp_definitions.specs.declared.Status.TheVariants.{Bs}
use Rattle.lp_laws.proofs.Values.{clash}
use Rattle.lp_laws.proofs.Statuses.{status_of_basic}
use Rattle.lp_laws.proofs.Uniqueness.{one_table, is_in-basics_of}
use Rattle.lp_model.specs.RatesCalls.{IsRowOf}
use Rattle.simplex_definitions.specs.Moves.{is_fixed, may_rise, may_fall, rises_from, falls_from}
use Rattle.simplex_definitions.specs.Path.{worth_rate}
use Rattle.simplex_definitions.specs.Ranges.{stands_at_limit}
use Rattle.ranging.specs.RowEnds.{sides_of, RatesStayTo, IsRateEnd, AreEnds, AreRowEnds}
use Rattle.ranging.specs.LimitEnds.{no_ends, ends_at, IsKeptOr, IsLimitEnd, IsMet, AreMet}
use Rattle.ranging.specs.Tables.{IsBasicsEnd, AreLimitEnds, AllMet, IsRowEnd, AreEndsOfRow, AllFound}
use Rattle.ranging.proofs.Distances.{ends_written, ends_unwritten}
use Rattle.basis_values.proofs.Skips.{and_next}

-- a basic has no conditions
pub no_sides : (rises falls : Bool) (a b : ℚ) (x : ℚ) → rises ≡ false → falls ≡ false → SidesHold (sign_sides rises falls a b) x
no_sides rises falls a b x no_rise no_fall = subst₂ (λ r f. SidesHold (sign_sides r f a b) x) (sym no_rise) (sym no_fall) (tt, tt)

module _ (p : LinearProgram) (s : List Status) (lawful : IsLinearProgram p) (no_change : p.change ≡ None) (optimal : IsOptimalBasis p s) (z : Vector)
    (point : IsPointOf p s z) where
  -- the tableau with these rates
  abbrev pub tableau_with : (ℕ → ℕ → ℚ) → Tableau
  tableau_with rate = record { point = z; rate = rate }

  pub is_tableau : (rate : ℕ → ℕ → ℚ) → AreRates p.matrix (basics_of s) rate → IsTableau p s (tableau_with rate)
  is_tableau rate are = record { is_point = point; are_rates = are }

  pub present : (rate : ℕ → ℕ → ℚ) → AreRates p.matrix (basics_of s) rate → IsPresent p s (tableau_with rate)
  present rate are = record { lawful = lawful; no_change = no_change; optimal = optimal; is_tableau = is_tableau rate are }

  abbrev own : ℕ → ℕ → ℚ
  own = optimal.tableau.rate

  own_rates : AreRates p.matrix (basics_of s) optimal.tableau.rate
  own_rates = optimal.is_tableau.are_rates

  pub within : (i : ℕ) → IsVariable p.matrix i → IfSome (lower_of p i) (λ l. l ≤ℚ z i) × IfSome (upper_of p i) (λ u. z i ≤ℚ u)
  within i is = (feasible_now p s (tableau_with optimal.tableau.rate) (present optimal.tableau.rate own_rates)).within i is

  among : (k : ℕ) → IsVariable p.matrix k → is_in (basics_of s) k ≡ is_basic (status_of s k)
  among k is = is_in-basics_of s k is.0 (omega (arith, is.1, optimal.is_basis.counted))

  pub nonbasic_at_limit : (k : ℕ) → IsVariable p.matrix k → stands_at_limit (status_of s k) ≡ true → IsNonbasic p.matrix (basics_of s) k
  nonbasic_at_limit k is stands = (is, among k is ∙ out_of_basis (status_of s k) stands)

  basic_status : (k : ℕ) → IsVariable p.matrix k → is_in (basics_of s) k ≡ true → status_of s k ≡ Bs
  basic_status k is mark = status_of_basic p s optimal.is_basis k (is, mark)

  pub still : (k : ℕ) → IsVariable p.matrix k → is_in (basics_of s) k ≡ true → (may_rise p s k ≡ false) × (may_fall p s k ≡ false)
  still k is mark =
      (ap (λ st. rises_from st && not (is_fixed p k)) (basic_status k is mark), ap (λ st. falls_from st && not (is_fixed p k)) (basic_status k is mark))

  -- a row that is free is a variable
  row_variable : (i : ℕ) → IsRow p.matrix i → IsVariable p.matrix i
  row_variable i is = (is.0, omega (arith, is.1))

  module _ (prices : Vector) (priced : ArePricesOf p s prices) where
    -- a price at a nonbasic is the objective's rate
    pub price_is : (rate : ℕ → ℕ → ℚ) → AreRates p.matrix (basics_of s) rate → (k : ℕ) → IsNonbasic p.matrix (basics_of s) k → prices k ≡ rate p.objective k
    price_is rate are k out =
        priced.prices k out.0
        ∙ ap (λ m. cond m zero_ℚ (objective_rate p priced.rate k)) out.1
        ∙ ap (λ (c : Option Change). with_change_row c (λ i. priced.rate i k) (priced.rate p.objective k)) no_change
        ∙ one_table p.matrix (basics_of s) priced.rate rate optimal.nonsingular priced.are_rates are p.objective k
        (row_variable p.objective lawful.objective_row) out

    module _ (i : ℕ) (is_i : IsVariable p.matrix i) (row : Vector) (of_row : IsRowOf p.matrix (basics_of s) i row) where
      pub rate_is : (rate : ℕ → ℕ → ℚ) → AreRates p.matrix (basics_of s) rate → (k : ℕ) → IsNonbasic p.matrix (basics_of s) k → row k ≡ rate i k
      rate_is rate are k out =
          of_row.entries k out.0 ∙ ap (λ m. cond m zero_ℚ (of_row.rate i k)) out.1
          ∙ one_table p.matrix (basics_of s) of_row.rate rate optimal.nonsingular of_row.are_rates are i k is_i out

      pub moves_out : (k : ℕ) → IsVariable p.matrix k → row k ≢ zero_ℚ → IsNonbasic p.matrix (basics_of s) k
      moves_out k is moves = (is, at (is_in (basics_of s) k) refl)
        where
          at : (m : Bool) → is_in (basics_of s) k ≡ m → is_in (basics_of s) k ≡ false
          at false e = e
          at true e = absurd (moves (of_row.entries k is ∙ ap (λ m. cond m zero_ℚ (of_row.rate i k)) e))

      -- now all prices have their signs
      pub holds_now : RatesStayTo p s prices row (size p.matrix) zero_ℚ
      holds_now k low high = at (is_in (basics_of s) k) refl
        where
          is : IsVariable p.matrix k
          is = (low, high)

          at : (m : Bool) → is_in (basics_of s) k ≡ m → SidesHold (sides_of p s (prices k) (row k) k) zero_ℚ
          at true mark = let none = still k is mark in no_sides (may_rise p s k) (may_fall p s k) _ _ zero_ℚ none.0 none.1
          at false mark =
              (sides_of_rate (worth_rate p s (tableau_with priced.rate) k) (for_min p.sense (prices k)) (for_min p.sense (row k)) zero_ℚ (may_rise p s k)
              (may_fall p s k)
              (ap (for_min p.sense) (sym (priced.prices k is ∙ ap (λ m. cond m zero_ℚ (objective_rate p priced.rate k)) mark))
              ∙ by_ring2 (for_min p.sense (prices k)) (for_min p.sense (row k)) (λ w v. w ≐ w ⊕ number (pos 0) ⊗ v) refl)).0
              (((by_tableau p s optimal.is_basis optimal.nonsingular (rows_of p s (tableau_with priced.rate) (present priced.rate priced.are_rates))
              (tableau_with priced.rate) (is_tableau priced.rate priced.are_rates)).0 optimal).right k is)

      -- the ends of the row are those of the tableau
      pub ends_of_row : (ends : Ends) → AreRowEnds p s prices row (size p.matrix) ends → AreEndsOfRow p s i ends
      ends_of_row ends h = record { exact = exact; made = λ rate are. (made rate are ends.low h.made.0, made rate are ends.high h.made.1) }
        where
          same : (rate : ℕ → ℕ → ℚ) → AreRates p.matrix (basics_of s) rate → (x : ℚ) → (k : ℕ) → IsVariable p.matrix k
              → SidesHold (sides_of p s (prices k) (row k) k) x ↔ SidesHold
              (rate_sides p s (λ k. for_min p.sense (rate p.objective k)) (λ k. for_min p.sense (rate i k)) k) x
          same rate are x k is = at (is_in (basics_of s) k) refl
            where
              at : (m : Bool) → is_in (basics_of s) k ≡ m
                  → SidesHold (sides_of p s (prices k) (row k) k) x ↔ SidesHold
                  (rate_sides p s (λ k. for_min p.sense (rate p.objective k)) (λ k. for_min p.sense (rate i k)) k) x
              at true mark =
                  let none = still k is mark in
                  (λ _. no_sides (may_rise p s k) (may_fall p s k) _ _ x none.0 none.1, λ _. no_sides (may_rise p s k) (may_fall p s k) _ _ x none.0 none.1)
              at false mark =
                  subst₂ (λ a b. SidesHold (sides_of p s (prices k) (row k) k) x ↔ SidesHold (sides_of p s a b k) x) (price_is rate are k (is, mark))
                  (rate_is rate are k (is, mark)) (λ h. h, λ h. h)

          exact : (rate : ℕ → ℕ → ℚ) → AreRates p.matrix (basics_of s) rate → (y : ℚ)
              → IsBetweenEnds ends y ↔ RatesStay p s (λ k. for_min p.sense (rate p.objective k)) (λ k. for_min p.sense (rate i k)) (neg_ℚ y)
          exact rate are y = (
            λ b k is. (same rate are (neg_ℚ y) k is).0 ((h.exact y).0 b k is.0 is.1),
            λ r. (h.exact y).1
                (λ k low high. (same rate are (neg_ℚ y) k (low, high)).1 (r k (low, high))),
          )

          made : (rate : ℕ → ℕ → ℚ) → AreRates p.matrix (basics_of s) rate → (end : Option Endpoint) → IfSome end (IsRateEnd prices row (size p.matrix)) →
              IfSome end (IsRowEnd p s rate i)
          made rate are None m = tt
          made rate are (Some e) m =
              let out = moves_out e.by (m.low, m.high) m.moves in
              record {
                is_nonbasic = out;
                moves = λ zero. m.moves (rate_is rate are e.by out ∙ zero);
                is_quotient = m.is_quotient ∙ ap₂ ◌/ℚ◌ (price_is rate are e.by out) (rate_is rate are e.by out);
              }

      -- one basic more
      pub met_more : (n : ℕ) → i ≡ n + 1 → is_in (basics_of s) i ≡ true → (before now : List Ends) → AllMet p s z n before →
          AreMet p s (z i) row i (size p.matrix) before now → AllMet p s z i now
      met_more n is_next basic before now h met k is stands = record { exact = exact; made = made }
        where
          old : AreLimitEnds p s z n k (ends_at before k)
          old = h k is stands

          step : IsMet p (z i) (row k) i (ends_at before k) (ends_at now k)
          step = met k is.0 is.1 stands

          row_is : (rate : ℕ → ℕ → ℚ) → AreRates p.matrix (basics_of s) rate → row k ≡ rate i k
          row_is rate are = rate_is rate are k (nonbasic_at_limit k is stands)

          exact : (rate : ℕ → ℕ → ℚ) → AreRates p.matrix (basics_of s) rate → (x : ℚ)
              → IsBetweenEnds (ends_at now k) x ↔ ((j : ℕ) → 1 ≤ j → j ≤ i → is_in (basics_of s) j ≡ true → SidesHold (limit_sides p z (λ j. rate j k) j) x)
          exact rate are x = (to, back)
            where
              to : IsBetweenEnds (ends_at now k) x → (j : ℕ) → 1 ≤ j → j ≤ i → is_in (basics_of s) j ≡ true → SidesHold (limit_sides p z (λ j. rate j k) j) x
              to b =
                  let both = (step.exact x).0 b in
                  let earlier = (old.exact rate are x).0 both.0 in
                  λ j low high. and_next (λ j. is_in (basics_of s) j ≡ true → SidesHold (limit_sides p z (λ j. rate j k) j) x) n earlier
                  (subst (λ j. is_in (basics_of s) j ≡ true → SidesHold (limit_sides p z (λ j. rate j k) j) x) is_next
                  (λ _. subst (λ v. SidesHold (value_sides (lower_of p i) (upper_of p i) (z i) v) x) (row_is rate are) both.1))
                  j low (omega (arith, high, is_next))

              back : ((j : ℕ) → 1 ≤ j → j ≤ i → is_in (basics_of s) j ≡ true → SidesHold (limit_sides p z (λ j. rate j k) j) x) →
                  IsBetweenEnds (ends_at now k) x
              back all =
                  (step.exact x).1 (
                    (old.exact rate are x).1 (λ j low high. all j low (omega (arith, high, is_next))),
                    subst (λ v. SidesHold (value_sides (lower_of p i) (upper_of p i) (z i) v) x) (sym (row_is rate are)) (all i is_i.0 (omega arith) basic),
                  )

          made : (rate : ℕ → ℕ → ℚ) → AreRates p.matrix (basics_of s) rate → AreEnds (IsBasicsEnd p s z rate k) (ends_at now k)
          made rate are =
              let kept = old.made rate are in
              (at (ends_at before k).low (ends_at now k).low step.made.low kept.0, at (ends_at before k).high (ends_at now k).high step.made.high kept.1)
            where
              at : (a b : Option Endpoint) → IsKeptOr (IsLimitEnd p (z i) (row k) i) a b → IfSome a (IsBasicsEnd p s z rate k) →
                  IfSome b (IsBasicsEnd p s z rate k)
              at a b (inl same) m = subst (λ o. IfSome o (IsBasicsEnd p s z rate k)) (sym same) m
              at a b (inr new) m =
                  let f = new.2 in
                  subst (λ o. IfSome o (IsBasicsEnd p s z rate k)) (sym new.1) (record {
                    is_basic = subst (IsBasic p.matrix (basics_of s)) (sym f.is_i) (is_i, basic);
                    limit = f.limit;
                    is_limit = subst (λ j. limit_numbered p j new.0.which ≡ Some f.limit) (sym f.is_i) f.is_limit;
                    moves = λ zero. f.moves (row_is rate are ∙ ap (λ j. rate j k) (sym f.is_i) ∙ zero);
                    is_quotient = f.is_quotient ∙ ap₂ (λ j v. (f.limit -ℚ z j) /ℚ v) (sym f.is_i) (row_is rate are ∙ ap (λ j. rate j k) (sym f.is_i));
                  })

  -- a nonbasic asks for nothing
  pub met_skipped : (n i : ℕ) → i ≡ n + 1 → is_in (basics_of s) i ≡ false → (ends : List Ends) → AllMet p s z n ends → AllMet p s z i ends
  met_skipped n i is_next out ends h k is stands = record {
    exact = λ rate are x. (
      λ b j low high basic. and_next (λ j. is_in (basics_of s) j ≡ true → SidesHold (limit_sides p z (λ j. rate j k) j) x) n
          (((h k is stands).exact rate are x).0 b)
          (λ e. absurd (clash (sym e ∙ ap (is_in (basics_of s)) (sym is_next) ∙ out))) j low (omega (arith, high, is_next)) basic,
      λ all. ((h k is stands).exact rate are x).1 (λ j low high basic. all j low (omega (arith, high, is_next)) basic),
    );
    made = (h k is stands).made;
  }

  pub met_begins : (ends : List Ends) → ((k : ℕ) → IsVariable p.matrix k → ends_at ends k ≡ no_ends) → AllMet p s z 0 ends
  met_begins ends none k is stands = subst (AreLimitEnds p s z 0 k) (sym (none k is)) (record {
    exact = λ rate are x. (λ b j low high basic. absurd (omega (arith, low, high)), λ all. (tt, tt));
    made = λ rate are. (tt, tt);
  })

  -- nor does a row without limits
  pub met_free : (n i : ℕ) → i ≡ n + 1 → lower_of p i ≡ None → upper_of p i ≡ None → (ends : List Ends) → AllMet p s z n ends → AllMet p s z i ends
  met_free n i is_next no_lower no_upper ends h k is stands = record {
    exact = λ rate are x. (
      λ b j low high basic. and_next (λ j. is_in (basics_of s) j ≡ true → SidesHold (limit_sides p z (λ j. rate j k) j) x) n
          (((h k is stands).exact rate are x).0 b)
          (λ _. subst (λ j. SidesHold (limit_sides p z (λ j. rate j k) j) x) is_next (nothing rate x)) j low (omega (arith, high, is_next)) basic,
      λ all. ((h k is stands).exact rate are x).1 (λ j low high basic. all j low (omega (arith, high, is_next)) basic),
    );
    made = (h k is stands).made;
  }
    where
      nothing : (rate : ℕ → ℕ → ℚ) (x : ℚ) → SidesHold (limit_sides p z (λ j. rate j k) i) x
      nothing rate x = subst₂ (λ a b. SidesHold (value_sides a b (z i) (rate i k)) x) (sym no_lower) (sym no_upper) (tt, tt)

-- ---- the ends of rows

module _ (p : LinearProgram) (s : List Status) where
  pub found_none : (found : List Ends) → AllFound p s 0 found
  found_none found i low high = absurd (omega (arith, low, high))

  -- i has no ends of its own
  pub found_skipped : (n i : ℕ) → i ≡ n + 1 → (is_in (basics_of s) i ≡ true → i ≢ p.objective → ⊥) → (found : List Ends) → AllFound p s n found →
      AllFound p s i found
  found_skipped n i is_next none found h j low high =
      and_next (λ j. is_in (basics_of s) j ≡ true → j ≢ p.objective → AreEndsOfRow p s j (ends_at found j)) n h
      (subst (λ j. is_in (basics_of s) j ≡ true → j ≢ p.objective → AreEndsOfRow p s j (ends_at found j)) is_next (λ basic other. absurd (none basic other)))
      j low (omega (arith, high, is_next))

  pub found_more : (n : ℕ) (found : List Ends) (own : Ends) → n < length found → AreEndsOfRow p s (n + 1) own → AllFound p s n found →
      AllFound p s (n + 1) (set found n own)
  found_more n found own below of_own h j low high = at (eqb_tells j (n + 1))
    where
      at : (((eqb j (n + 1) ≡ true) × (j ≡ n + 1)) ⊎ ((eqb j (n + 1) ≡ false) × (j ≢ n + 1))) → is_in (basics_of s) j ≡ true → j ≢ p.objective →
          AreEndsOfRow p s j (ends_at (set found n own) j)
      at (inl same) basic other =
          subst (λ j. AreEndsOfRow p s j (ends_at (set found n own) j)) (sym same.1)
          (subst (AreEndsOfRow p s (n + 1)) (sym (ends_written found n own below)) of_own)
      at (inr apart) basic other =
          let far = apart.1 in
          subst (AreEndsOfRow p s j) (sym (ends_unwritten found n j own low far)) (h j low (omega (arith, high, far)) basic other)

-- ---- tests of a variable

pub nonbasic_by_test : (p : LinearProgram) (s : List Status) (i : ℕ) (test : Bool) → length s ≡ size p.matrix → IsVariable p.matrix i →
    test ≡ is_basic (status_of s i) → test ≡ false → is_in (basics_of s) i ≡ false
nonbasic_by_test p s i test counted is same fails = is_in-basics_of s i is.0 (omega (arith, is.1, counted)) ∙ sym same ∙ fails

pub basic_by_test : (p : LinearProgram) (s : List Status) (i : ℕ) (test : Bool) → length s ≡ size p.matrix → IsVariable p.matrix i →
    test ≡ is_basic (status_of s i) → test ≡ true → is_in (basics_of s) i ≡ true
basic_by_test p s i test counted is same holds = is_in-basics_of s i is.0 (omega (arith, is.1, counted)) ∙ sym same ∙ holds

-- a basic other than the objective
pub intermediate_is : (p : LinearProgram) (s : List Status) (i : ℕ) → length s ≡ size p.matrix → IsVariable p.matrix i
    → (is_basic (status_of s i) && not (nat_eq i p.objective)) ≡ true
    → (is_in (basics_of s) i ≡ true) × (i ≢ p.objective)
intermediate_is p s i counted is passes = at (is_basic (status_of s i)) refl passes
  where
    other : not (nat_eq i p.objective) ≡ true → i ≢ p.objective
    other e same = let h : nat_eq i p.objective ≡ true = grind (arith, same) in clash (sym e ∙ ap not h)

    at : (b : Bool) → is_basic (status_of s i) ≡ b → (b && not (nat_eq i p.objective)) ≡ true → (is_in (basics_of s) i ≡ true) × (i ≢ p.objective)
    at true e h = (is_in-basics_of s i is.0 (omega (arith, is.1, counted)) ∙ e, other h)
    at false e h = absurd (clash (sym h))
