-- RANGE prints one list of lines of an optimal basis.
use Rattle.std.proofs.Common.{◌≡◌, ℕ, zero, suc, ◌+◌, ◌-◌, ◌≤◌, ◌<◌, List, ◌∷◌, ◌++◌, map, cond, refl, sym, ap, ap₂, subst, ◌∙◌, arith, Bool, true, false}
use Rattle.std.specs.Prelude.{Option, Some, None, filter, not, ◌&&◌, nat_eq, slice_set, if◌then◌else◌}
use Rattle.std.specs.List.{AllByRecursion}
use Rattle.std.proofs.lemmas.List.{set-get_or}
use Rattle.exact_values.specs.Rational.{ℚ, zero_ℚ, ◌+ℚ◌}
use Rattle.exact_values.specs.Tests.{eq_ℚ}
use Rattle.exact_values.proofs.RingLaws.{add-zero, zero-mul}
use Rattle.exact_values.proofs.TestsLaws.{same_from_test}
use Rattle.lp_definitions.specs.LinearProgram.{LinearProgram, Vector, IsVariable, IsLinearProgram, lower_of, upper_of, cost, for_min, with_change_row}
use Rattle.lp_definitions.specs.LinearProgram.{numbers_from}
use Rattle.lp_definitions.specs.Basis.{is_basic, status_of, StandsAt, IsOptimalBasis, Tableau}
use Rattle.lp_definitions.specs.declared.Status.{Status}
use Rattle.lp_definitions.specs.declared.Status.TheVariants.{Bs, Ll, Ul, Fr}
use Rattle.lp_laws.proofs.Uniqueness.{one_point}
use Rattle.simplex_definitions.specs.Moves.{is_fixed, on_limits, may_rise, may_fall}
use Rattle.simplex_definitions.specs.Ranges.{with_lower, with_upper, with_limit, with_limit_at, with_cost, with_row, stands_at_limit, at_limits, columns_of}
use Rattle.simplex_definitions.specs.Ranges.{intermediate_rows, RangeReport, IsRangeReport}
use Rattle.sensitivity_laws.specs.Changes.{IsRightTableau, RatesStay, worths, slopes}
use Rattle.sensitivity_laws.specs.Laws.{IsPresent}
use Rattle.simplex_laws.proofs.Booleans.{improves}
use Rattle.sensitivity_laws.proofs.Tableaus.{by_tableau}
use Rattle.sensitivity_laws.proofs.Signs.{sides_of_rate}
use Rattle.sensitivity_laws.proofs.Rows.{rows_of, row}
use Rattle.sensitivity_laws.proofs.Costs.{cost_changes}
use Rattle.listing_definitions.specs.Report.{Value, Line, RangeLines}
use Rattle.question_definitions.specs.Answers.{Basis, Sheet}
use Rattle.answer_definitions.specs.Lines.{row_numbers, column_numbers, name_of, lines_of}
use Rattle.answer_definitions.specs.Sections.{placed, ends_of, cost_and_ends, range_lines, IsRanged}
use Rattle.determinism_laws.proofs.OneAnswer.{placed_at}
use Rattle.determinism_laws.proofs.Intervals.{lists_same}

-- ---- lists of numbers that pass a test

module _ (test : ℕ → Bool) where
  passing : (P : ℕ → Type 0) (n first : ℕ) → ((k : ℕ) → first ≤ k → k < first + n → test k ≡ true → P k) → AllByRecursion P (filter test (numbers_from first n))
  passing P zero first h = tt
  passing P (suc n) first h = by (test first) refl (passing P n (suc first) (λ k low high. h k (omega (arith, low)) (omega (arith, high))))
    where
      by : (b : Bool) → test first ≡ b → AllByRecursion P (filter test (numbers_from (suc first) n)) →
          AllByRecursion P (cond b (first ∷ filter test (numbers_from (suc first) n)) (filter test (numbers_from (suc first) n)))
      by true is rest = (h first (omega arith) (omega arith) is, rest)
      by false is rest = rest

  map_passing : {X : Type 0} (f g : ℕ → X) (n first : ℕ) → ((k : ℕ) → first ≤ k → k < first + n → f k ≡ g k) →
      map f (filter test (numbers_from first n)) ≡ map g (filter test (numbers_from first n))
  map_passing f g zero first h = refl
  map_passing {X} f g (suc n) first h = by (test first) (map_passing f g n (suc first) (λ k low high. h k (omega (arith, low)) (omega (arith, high))))
    where
      rest : List ℕ
      rest = filter test (numbers_from (suc first) n)

      by : (b : Bool) → map f (filter test (numbers_from (suc first) n)) ≡ map g (filter test (numbers_from (suc first) n)) →
          map f (cond b (first ∷ filter test (numbers_from (suc first) n)) (filter test (numbers_from (suc first) n))) ≡ map g
          (cond b (first ∷ filter test (numbers_from (suc first) n)) (filter test (numbers_from (suc first) n)))
      by true same = ap₂ (λ x xs. x ∷ xs) (h first (omega arith) (omega arith)) same
      by false same = same

each_number : (P : ℕ → Type 0) (n first : ℕ) → ((k : ℕ) → first ≤ k → k < first + n → P k) → AllByRecursion P (numbers_from first n)
each_number P zero first h = tt
each_number P (suc n) first h =
    (h first (omega arith) (omega arith), each_number P n (suc first) (λ k low high. h k (omega (arith, low)) (omega (arith, high))))

-- ---- each interval has a value: the present one

-- a limit that is set to itself
same_lower : (p : LinearProgram) (k : ℕ) (v : ℚ) → lower_of p k ≡ Some v → with_lower p k v ≡ p
same_lower p k v is =
    let set : slice_set p.lower (k - 1) (Some v) ≡ p.lower = ap (λ o. slice_set p.lower (k - 1) o) (sym is) ∙ set-get_or p.lower (k - 1) None in
    ap (λ (xs : List (Option ℚ)). record p { lower = xs }) set

same_upper : (p : LinearProgram) (k : ℕ) (v : ℚ) → upper_of p k ≡ Some v → with_upper p k v ≡ p
same_upper p k v is =
    let set : slice_set p.upper (k - 1) (Some v) ≡ p.upper = ap (λ o. slice_set p.upper (k - 1) o) (sym is) ∙ set-get_or p.upper (k - 1) None in
    ap (λ (xs : List (Option ℚ)). record p { upper = xs }) set

-- a fixed variable that stands at a limit stands at both
both_limits : (st : Status) (low high : Option ℚ) (v : ℚ) → on_limits eq_ℚ low high ≡ true → stands_at_limit st ≡ true → StandsAt st low high v →
    (low ≡ Some v) × (high ≡ Some v)
both_limits st None high v fixed limit stands = absurd (cc fixed)
both_limits st (Some l) None v fixed limit stands = absurd (cc fixed)
both_limits Bs (Some l) (Some u) v fixed limit stands = absurd (cc limit)
both_limits Ll (Some l) (Some u) v fixed limit stands = (stands, ap (λ x. Some x) (sym (same_from_test l u fixed)) ∙ stands)
both_limits Ul (Some l) (Some u) v fixed limit stands = (ap (λ x. Some x) (same_from_test l u fixed) ∙ stands, stands)
both_limits Fr (Some l) (Some u) v fixed limit stands = absurd (cc limit)

same_limit : (p : LinearProgram) (s : Basis) (k : ℕ) (v : ℚ) → stands_at_limit (status_of s k) ≡ true →
    StandsAt (status_of s k) (lower_of p k) (upper_of p k) v → with_limit p s k v ≡ p
same_limit p s k v limit stands = by (is_fixed p k) refl (status_of s k) limit stands
  where
    by : (fixed : Bool) → is_fixed p k ≡ fixed → (st : Status) → stands_at_limit st ≡ true → StandsAt st (lower_of p k) (upper_of p k) v →
        (if fixed then with_upper (with_lower p k v) k v else with_limit_at st p k v) ≡ p
    by true is st limit stands =
        let both = both_limits st (lower_of p k) (upper_of p k) v is limit stands in ap (λ q. with_upper q k v) (same_lower p k v both.0)
        ∙ same_upper p k v both.1
    by false is Bs limit stands = absurd (cc limit)
    by false is Ll limit stands = same_lower p k v stands
    by false is Ul limit stands = same_upper p k v stands
    by false is Fr limit stands = absurd (cc limit)

module _ (p : LinearProgram) (s : Basis) (t : Tableau) (present : IsPresent p s t) where
  -- a rate that isn't changed keeps its sign
  rates_now : (v : Vector) → RatesStay p s (worths p t) v zero_ℚ
  rates_now v k is =
      (sides_of_rate (worths p t k) (worths p t k) (v k) zero_ℚ (may_rise p s k) (may_fall p s k)
      (sym (ap (λ x. worths p t k +ℚ x) (zero-mul (v k)) ∙ add-zero (worths p t k)))).0
      (subst (λ r. improves r (may_rise p s k) (may_fall p s k) ≡ false)
      (ap (λ c. for_min p.sense (with_change_row c (λ i. t.rate i k) (t.rate p.objective k))) present.no_change) (right.right k is))
    where
      right : IsRightTableau p s t
      right = (by_tableau p s present.optimal.is_basis present.optimal.nonsingular (rows_of p s t present) t present.is_tableau).0 present.optimal

  limits_now : AllByRecursion (λ k. (x : ℚ) × IsOptimalBasis (with_limit p s k x) s) (at_limits p s)
  limits_now = passing (λ k. stands_at_limit (status_of s k)) (λ k. (x : ℚ) × IsOptimalBasis (with_limit p s k x) s) (p.rows + p.cols) 1 (λ k low high limit. (
    t.point k,
    subst (λ q. IsOptimalBasis q s)
        (sym (same_limit p s k (t.point k) limit (present.is_tableau.is_point.placed k (low, omega (arith, high))))) present.optimal,
  ))

  costs_now : AllByRecursion (λ k. (x : ℚ) × IsOptimalBasis (with_cost p k x) s) (columns_of p)
  costs_now = each_number (λ k. (x : ℚ) × IsOptimalBasis (with_cost p k x) s) p.cols (p.rows + 1) (λ k low high.
      let j : ℕ = k - p.rows in
      let here : p.rows + j ≡ k = omega (arith, low) in (
        cost p j +ℚ zero_ℚ,
        subst (λ i. IsOptimalBasis (with_cost p i (cost p j +ℚ zero_ℚ)) s) here
            ((cost_changes p s t present j (omega (arith, low), omega (arith, low, high)) zero_ℚ).1 (rates_now (slopes p t (p.rows + j)))),
      ))

  rows_now : AllByRecursion (λ i. (x : ℚ) × IsOptimalBasis (with_row p i x) s) (intermediate_rows p s)
  rows_now =
      passing (λ i. is_basic (status_of s i) && not (nat_eq i p.objective)) (λ i. (x : ℚ) × IsOptimalBasis (with_row p i x) s) p.rows 1 (λ i low high among.
      (zero_ℚ, (row p s t present i (low, omega (arith, high)) zero_ℚ).1 (rates_now (slopes p t i))))

  report_same : (r q : RangeReport) → IsRangeReport p s r → IsRangeReport p s q → r ≡ q
  report_same r q first second =
      let limits : r.limits ≡ q.limits =
      lists_same (λ k x. IsOptimalBasis (with_limit p s k x) s)
      (at_limits p s) r.limits q.limits first.limits.whole second.limits.whole limits_now first.limits.exact second.limits.exact in
      let costs : r.costs ≡ q.costs =
      lists_same (λ k x. IsOptimalBasis (with_cost p k x) s)
      (columns_of p) r.costs q.costs first.costs.whole second.costs.whole costs_now first.costs.exact second.costs.exact in
      let rows : r.rows ≡ q.rows =
      lists_same (λ i x. IsOptimalBasis (with_row p i x) s)
      (intermediate_rows p s) r.rows q.rows first.rows.whole second.rows.whole rows_now first.rows.exact second.rows.exact in
      λ i. record { limits = limits i; costs = costs i; rows = rows i }

-- ---- the lines

-- the line of a variable, from its activity and what follows it
abbrev line_with : Sheet → Basis → (ℕ → List Value) → ℕ → ℚ → Line
line_with sheet s tail k v = record { number = k; name = name_of sheet k; values = placed_at sheet s k v ++ tail k }

module _ (sheet : Sheet) (s : Basis) (t u : Tableau) (points : (k : ℕ) → IsVariable sheet.lp.matrix k → t.point k ≡ u.point k) (r : RangeReport) where
  rows_same : (test : ℕ → Bool) (tail : ℕ → List Value) →
      lines_of sheet (λ k. placed sheet s t k ++ tail k) (filter test (row_numbers sheet.lp)) ≡ lines_of sheet (λ k. placed sheet s u k ++ tail k)
      (filter test (row_numbers sheet.lp))
  rows_same test tail = map_passing test (λ k. line_with sheet s tail k (t.point k)) (λ k. line_with sheet s tail k (u.point k)) sheet.lp.rows 1 (λ k low high.
      ap (line_with sheet s tail k) (points k (low, omega (arith, high))))

  columns_same : (test : ℕ → Bool) (tail : ℕ → List Value) →
      lines_of sheet (λ k. placed sheet s t k ++ tail k) (filter test (column_numbers sheet.lp)) ≡ lines_of sheet (λ k. placed sheet s u k ++ tail k)
      (filter test (column_numbers sheet.lp))
  columns_same test tail =
      map_passing test (λ k. line_with sheet s tail k (t.point k)) (λ k. line_with sheet s tail k (u.point k)) sheet.lp.cols (sheet.lp.rows + 1) (λ k low high.
      ap (line_with sheet s tail k) (points k (omega (arith, low), omega (arith, high))))

  ranges_same : range_lines sheet s t r ≡ range_lines sheet s u r
  ranges_same =
      let a = rows_same (λ k. not (is_basic (status_of s k))) (ends_of r.limits) in
      let b = columns_same (λ k. not (is_basic (status_of s k))) (λ k. ends_of r.limits k ++ cost_and_ends sheet s t r k) in
      let c = rows_same (λ k. is_basic (status_of s k) && not (nat_eq k sheet.lp.objective)) (ends_of r.rows) in
      let d = columns_same (λ k. is_basic (status_of s k) && not (nat_eq k sheet.lp.objective)) (cost_and_ends sheet s t r) in
      λ i. record { rows_at_limit = a i; columns_at_limit = b i; rows_between = c i; columns_between = d i }

pub ranged_once : (sheet : Sheet) (s : Basis) (a b : RangeLines) → IsLinearProgram sheet.lp → sheet.lp.change ≡ None → IsOptimalBasis sheet.lp s →
    IsRanged sheet s a → IsRanged sheet s b → a ≡ b
ranged_once sheet s a b lawful no_change optimal first second =
    let points =
    one_point sheet.lp s first.tableau.point second.tableau.point optimal.is_basis.counted optimal.nonsingular first.is_tableau.is_point
    second.is_tableau.is_point in
    let present : IsPresent sheet.lp s first.tableau = record { lawful = lawful; no_change = no_change; optimal = optimal; is_tableau = first.is_tableau } in
    let reports = report_same sheet.lp s first.tableau present first.report second.report first.is_report second.is_report in
    first.are_lines ∙ ranges_same sheet s first.tableau second.tableau points first.report ∙ ap (λ r. range_lines sheet s second.tableau r) reports
    ∙ sym second.are_lines
