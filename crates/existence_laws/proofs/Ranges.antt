-- Each optimal basis has the three lists of intervals. At the present value the conditions of a change hold, as the basis is optimal; so
-- there are ends between which they do, and these, moved by the present value, are the interval's.
use Rattle.std.proofs.Common.{◌≡◌, ℕ, zero, suc, ◌+◌, ◌-◌, ◌<◌, ◌≤◌, List, [], ◌∷◌, Option, None, Bool, true, false, refl, sym, ap, subst, ◌∙◌, arith, cond}
use Rattle.std.proofs.Common.{pos}
use Rattle.std.specs.Prelude.{◌↔◌, IfSome, IsTrue, ◌&&◌, not, nat_eq, All, filter, ◌++◌}
use Rattle.std.proofs.lemmas.List.Elements.{All-nil, All-cons, All-head, All-tail}
use Rattle.exact_values.specs.Rational.{ℚ, zero_ℚ, one_ℚ, ◌+ℚ◌, ◌*ℚ◌, ◌≤ℚ◌}
use Rattle.exact_values.proofs.Ring.{by_ring2, number, ◌⊕◌, ◌⊗◌, ◌≐◌}
use Rattle.affine_laws.specs.Conditions.{Condition, AllHold}
use Rattle.lp_definitions.specs.LinearProgram.{LinearProgram, Vector, size, IsRow, IsColumn, IsVariable, numbers_from, variables, lower_of, upper_of, cost}
use Rattle.lp_definitions.specs.LinearProgram.{for_min, with_change_row}
use Rattle.lp_definitions.specs.Basis.{is_basic, is_in, basics_of, status_of, IsOptimalBasis, Tableau}
use Rattle.lp_definitions.specs.declared.Change.{Change}
use Rattle.lp_definitions.specs.declared.Status.{Status}
use Rattle.lp_definitions.specs.declared.Status.TheVariants.{Bs, Ll, Ul, Fr}
use Rattle.lp_laws.proofs.Values.{clash}
use Rattle.simplex_definitions.specs.Moves.{is_fixed, may_rise, may_fall}
use Rattle.simplex_definitions.specs.Path.{worth_rate}
use Rattle.simplex_definitions.specs.Ranges.{Interval, IsBetween, with_limit, with_cost, with_row, stands_at_limit, at_limits, columns_of, intermediate_rows}
use Rattle.simplex_definitions.specs.Ranges.{AreIntervals}
use Rattle.sensitivity_laws.specs.Changes.{Sides, SidesHold, rate_sides, RatesStay, limit_sides, sides_at, own_sides, LimitStays, worths, slopes}
use Rattle.sensitivity_laws.specs.Laws.{IsPresent}
use Rattle.sensitivity_laws.proofs.Tableaus.{by_tableau}
use Rattle.sensitivity_laws.proofs.Signs.{sides_of_rate}
use Rattle.sensitivity_laws.proofs.Rows.{rows_of, feasible_now, row}
use Rattle.sensitivity_laws.proofs.Costs.{cost_changes}
use Rattle.sensitivity_laws.proofs.Limits.{sides_of_value, limit}
use Rattle.existence_laws.specs.Intervals.{HasEnds}
use Rattle.existence_laws.specs.Ranges.{RangesExist}
use Rattle.existence_laws.proofs.Conditions.{conditions_of, conditions_up_to, append_holds, sides_hold, each_holds, ends_of, moved_ends}

-- ---- lists of intervals

-- where each of the numbers has an interval, they have a list of them
pub listed_intervals : (Claim : ℕ → ℚ → Type 0) (numbers : List ℕ) → All (λ k. HasEnds (Claim k)) numbers →
    (list : List Interval) × AreIntervals numbers Claim list
listed_intervals Claim [] ends = ([], record { whole = refl; exact = All-nil (λ (e : Interval). (t : ℚ) → IsBetween e t ↔ Claim e.variable t) })
listed_intervals Claim (k ∷ numbers) ends =
    with (All-head (λ k. HasEnds (Claim k)) k numbers ends) (listed_intervals Claim numbers (All-tail (λ k. HasEnds (Claim k)) k numbers ends))
  where
    with : HasEnds (Claim k) → (list : List Interval) × AreIntervals numbers Claim list → (list : List Interval) × AreIntervals (k ∷ numbers) Claim list
    with own rest =
        let first : Interval = record { variable = k; low = own.low; high = own.high } in (
          first ∷ rest.0,
          record {
            whole = ap (λ ks. k ∷ ks) rest.1.whole;
            exact = All-cons (λ (e : Interval). (t : ℚ) → IsBetween e t ↔ Claim e.variable t) first rest.0 own.exact rest.1.exact;
          },
        )

numbers_between : (P : ℕ → Type 0) (first n : ℕ) → ((k : ℕ) → first ≤ k → k < first + n → P k) → All P (numbers_from first n)
numbers_between P first zero each = All-nil P
numbers_between P first (suc n) each =
    All-cons P first (numbers_from (suc first) n) (each first (omega arith) (omega arith))
    (numbers_between P (suc first) n (λ k low high. each k (omega (arith, low)) (omega (arith, high))))

-- of those that pass a test
passed : (P : ℕ → Type 0) (test : ℕ → Bool) (numbers : List ℕ) → All (λ k. test k ≡ true → P k) numbers → All P (filter test numbers)
passed P test [] each = All-nil P
passed P test (k ∷ numbers) each =
    at (test k) refl (passed P test numbers (All-tail (λ k. test k ≡ true → P k) k numbers each))
  where
    at : (keeps : Bool) → test k ≡ keeps → All P (filter test numbers) → All P (cond keeps (k ∷ filter test numbers) (filter test numbers))
    at true is rest = All-cons P k (filter test numbers) (All-head (λ k. test k ≡ true → P k) k numbers each is) rest
    at false is rest = rest

-- ---- the conditions of a change

no_sides : Sides
no_sides = record { first = None; second = None }

module _ (p : LinearProgram) (s : List Status) (t : Tableau) (present : IsPresent p s t) where
  -- each rate is right now
  rates_now : (v : Vector) → RatesStay p s (worths p t) v zero_ℚ
  rates_now v k is =
      (sides_of_rate (worth_rate p s t k) (worths p t k) (v k) zero_ℚ (may_rise p s k) (may_fall p s k) same).0
      (((by_tableau p s present.optimal.is_basis present.optimal.nonsingular (rows_of p s t present) t present.is_tableau).0 present.optimal).right k is)
    where
      same : worth_rate p s t k ≡ worths p t k +ℚ zero_ℚ *ℚ v k
      same =
          ap (λ (c : Option Change). for_min p.sense (with_change_row c (λ i. t.rate i k) (t.rate p.objective k))) present.no_change
          ∙ by_ring2 (worths p t k) (v k) (λ w v. w ≐ w ⊕ number (pos 0) ⊗ v) refl

  pub rates_have_ends : (v : Vector) → HasEnds (RatesStay p s (worths p t) v)
  rates_have_ends v =
      ends_of (RatesStay p s (worths p t) v) (conditions_up_to (rate_sides p s (worths p t) v) (size p.matrix))
      (λ x. each_holds (rate_sides p s (worths p t) v) x p.matrix) zero_ℚ (rates_now v)

  -- ---- rows and costs

  row_has : (i : ℕ) → IsRow p.matrix i → HasEnds (λ x. IsOptimalBasis (with_row p i x) s)
  row_has i is =
      let stay = rates_have_ends (slopes p t i) in
      record {
        low = stay.low;
        high = stay.high;
        exact = λ x. let law = row p s t present i is x in ((λ within. law.1 ((stay.exact x).0 within)), (λ optimal. (stay.exact x).1 (law.0 optimal)));
      }

  cost_has : (j : ℕ) → IsColumn p.matrix j → HasEnds (λ x. IsOptimalBasis (with_cost p (p.rows + j) x) s)
  cost_has j is =
      moved_ends (RatesStay p s (worths p t) (slopes p t (p.rows + j))) (λ x. IsOptimalBasis (with_cost p (p.rows + j) x) s) (cost p j)
      (λ x. cost_changes p s t present j is x) (rates_have_ends (slopes p t (p.rows + j)))

  -- ---- limits

  module _ (k : ℕ) (is : IsVariable p.matrix k) (stands : stands_at_limit (status_of s k) ≡ true) where
    basic_sides : Bool → ℕ → Sides
    basic_sides mark i = cond mark (limit_sides p t.point (λ j. t.rate j k) i) no_sides

    -- those of the basics, and of k itself
    limit_conditions : List Condition
    limit_conditions = conditions_of (own_sides p s t.point k) ++ conditions_up_to (λ i. basic_sides (is_in (basics_of s) i) i) (size p.matrix)

    same_basic : (i : ℕ) (x : ℚ) (mark : Bool) → SidesHold (basic_sides mark i) x ↔ (IsTrue mark → SidesHold (limit_sides p t.point (λ j. t.rate j k) i) x)
    unfolding basic_sides no_sides
    same_basic i x true = ((λ hold _. hold), (λ hold. hold refl))
    same_basic i x false = ((λ _ no. absurd (clash (sym no))), (λ _. (tt, tt)))

    same_limits : (x : ℚ) → AllHold limit_conditions x ↔ LimitStays p s t k x
    unfolding limit_conditions
    same_limits x =
        let split = append_holds (conditions_of (own_sides p s t.point k)) (conditions_up_to (λ i. basic_sides (is_in (basics_of s) i) i) (size p.matrix)) x in
        let own = sides_hold (own_sides p s t.point k) x in
        let each = each_holds (λ i. basic_sides (is_in (basics_of s) i) i) x p.matrix in (
          (λ all. let both = split.0 all in record {
            basics = λ i basic. (same_basic i x (is_in (basics_of s) i)).0
                (each.0 both.1 i basic.0) basic.1;
            own = own.0 both.0;
          }),
          (λ stay. split.1 (own.1 stay.own, each.1 (λ i is. (same_basic i x (is_in (basics_of s) i)).1 (λ mark. stay.basics i (is, mark))))),
        )

    own_now : (fixed : Bool) (st : Status) (low high : Option ℚ) (z : ℚ) → IfSome low (λ l. l ≤ℚ z) → IfSome high (λ u. z ≤ℚ u) →
        SidesHold (cond fixed no_sides (sides_at st low high z)) zero_ℚ
    unfolding no_sides
    own_now true st low high z above below = (tt, tt)
    own_now false Bs low high z above below = (tt, tt)
    own_now false Ll low high z above below =
        (sides_of_value None high z z one_ℚ zero_ℚ (by_ring2 z one_ℚ (λ z v. z ≐ z ⊕ number (pos 0) ⊗ v) refl)).0 (tt, below)
    own_now false Ul low high z above below =
        (sides_of_value low None z z one_ℚ zero_ℚ (by_ring2 z one_ℚ (λ z v. z ≐ z ⊕ number (pos 0) ⊗ v) refl)).0 (above, tt)
    own_now false Fr low high z above below = (tt, tt)

    limit_now : LimitStays p s t k zero_ℚ
    unfolding no_sides
    limit_now =
        let within = (feasible_now p s t present).within in
        record {
          basics = λ i basic. (sides_of_value (lower_of p i) (upper_of p i) (t.point i) (t.point i) (t.rate i k) zero_ℚ
              (by_ring2 (t.point i) (t.rate i k) (λ z v. z ≐ z ⊕ number (pos 0) ⊗ v) refl)).0 (within i basic.0);
          own = own_now (is_fixed p k) (status_of s k) (lower_of p k) (upper_of p k) (t.point k) (within k is).0 (within k is).1;
        }

    limit_has : HasEnds (λ x. IsOptimalBasis (with_limit p s k x) s)
    limit_has =
        moved_ends (LimitStays p s t k) (λ x. IsOptimalBasis (with_limit p s k x) s) (t.point k) (λ x. limit p s t present k is stands x)
        (ends_of (LimitStays p s t k) limit_conditions same_limits zero_ℚ limit_now)

-- ---- the report

pub ranges_exist : RangesExist
ranges_exist p s lawful no_change optimal = (
  record { limits = limits.0; costs = costs.0; rows = rows.0 },
  record { limits = limits.1; costs = costs.1; rows = rows.1 },
)
  where
    present : IsPresent p s optimal.tableau
    present = record { lawful = lawful; no_change = no_change; optimal = optimal; is_tableau = optimal.is_tableau }

    limits : (list : List Interval) × AreIntervals (at_limits p s) (λ k t. IsOptimalBasis (with_limit p s k t) s) list
    limits =
        listed_intervals (λ k t. IsOptimalBasis (with_limit p s k t) s) (at_limits p s)
        (passed (λ k. HasEnds (λ t. IsOptimalBasis (with_limit p s k t) s)) (λ k. stands_at_limit (status_of s k)) (variables p.matrix)
        (numbers_between (λ k. stands_at_limit (status_of s k) ≡ true → HasEnds (λ t. IsOptimalBasis (with_limit p s k t) s)) 1 (size p.matrix)
        (λ k low high stands. limit_has p s optimal.tableau present k (low, omega (arith, high)) stands)))

    costs : (list : List Interval) × AreIntervals (columns_of p) (λ k t. IsOptimalBasis (with_cost p k t) s) list
    costs =
        listed_intervals (λ k t. IsOptimalBasis (with_cost p k t) s) (columns_of p)
        (numbers_between (λ k. HasEnds (λ t. IsOptimalBasis (with_cost p k t) s)) (p.rows + 1) p.cols (λ k low high. column k low high))
      where
        column : (k : ℕ) → p.rows + 1 ≤ k → k < p.rows + 1 + p.cols → HasEnds (λ t. IsOptimalBasis (with_cost p k t) s)
        column k low high =
            let there : p.rows + (k - p.rows) ≡ k = omega (arith, low) in
            subst (λ k. HasEnds (λ t. IsOptimalBasis (with_cost p k t) s)) there
            (cost_has p s optimal.tableau present (k - p.rows) (omega (arith, low), omega (arith, low, high)))

    rows : (list : List Interval) × AreIntervals (intermediate_rows p s) (λ i t. IsOptimalBasis (with_row p i t) s) list
    rows =
        listed_intervals (λ i t. IsOptimalBasis (with_row p i t) s) (intermediate_rows p s)
        (passed (λ i. HasEnds (λ t. IsOptimalBasis (with_row p i t) s)) (λ i. is_basic (status_of s i) && not (nat_eq i p.objective)) (numbers_from 1 p.rows)
        (numbers_between (λ i. is_basic (status_of s i) && not (nat_eq i p.objective) ≡ true → HasEnds (λ t. IsOptimalBasis (with_row p i t) s)) 1 p.rows
        (λ i low high _. row_has p s optimal.tableau present i (low, omega (arith, high)))))
