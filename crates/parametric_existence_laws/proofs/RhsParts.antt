-- The parts of a run of the right-hand side: the point of a basis moves with its slope, and its prices stand still. A face step is one of
-- the dual method, so the prices stay right; and the point at the breakpoint doesn't move, since what leaves stands at its limit.
use Rattle.std.proofs.Common.{◌≡◌, ℕ, Bool, true, false, List, refl, sym, subst, ◌∙◌, pos, arith}
use Rattle.std.specs.Prelude.{◌↔◌, Option, Some, None, ◌&&◌, ◌||◌, not, if◌then◌else◌}
use Rattle.std.proofs.lemmas.Bool.{and_parts}
use Rattle.exact_values.specs.Rational.{ℚ, zero_ℚ, ◌≤ℚ◌}
use Rattle.exact_values.specs.Tests.{eq_ℚ, le_ℚ}
use Rattle.exact_values.proofs.Ring.{by_ring2, ◌⊕◌, ◌⊗◌, ◌≐◌, number}
use Rattle.exact_values.proofs.TestsLaws.{same_from_test, le_from_test}
use Rattle.affine_laws.specs.Conditions.{Condition, AllHold, reach_of}
use Rattle.lp_definitions.specs.LinearProgram.{LinearProgram, Vector, size, IsVariable, IsLinearProgram, lower_of, upper_of}
use Rattle.lp_definitions.specs.Basis.{is_in, basics_of, StandsAt, IsBasic, IsNonbasic, IsPointOf, IsOptimalBasis, ArePricesOf, Tableau, IsTableau, price_at}
use Rattle.lp_definitions.specs.declared.Status.{Status}
use Rattle.lp_definitions.specs.declared.Status.TheVariants.{Ll, Ul}
use Rattle.lp_laws.specs.Rates.{combination, exchanged_rate}
use Rattle.lp_laws.proofs.Combination.{combination_keeps, combination_at}
use Rattle.lp_laws.proofs.Points.{IsPointOf-replaced}
use Rattle.simplex_definitions.specs.Moves.{on_limit}
use Rattle.simplex_definitions.specs.Path.{Move, after, listed}
use Rattle.simplex_definitions.specs.DualRatio.{restores_feasibility, ratio, is_cheapest, cheapest}
use Rattle.simplex_definitions.specs.Chain.{Part, FaceTurn, FaceMoves, along, IsPart}
use Rattle.simplex_definitions.specs.RhsRun.{shift_of, rhs_family, IsSlope, leaves_below, leaves_above, leaving, face_exchange, face_at, rhs_face, IsRhsFace}
use Rattle.simplex_laws.specs.Laws.{IsNonsingularBasis, HasTableau}
use Rattle.simplex_laws.proofs.Numbered.{list_all_true}
use Rattle.simplex_laws.proofs.Searches.{found_passes}
use Rattle.sensitivity_laws.specs.Changes.{HasRows, IsRightTableau, shift_sides}
use Rattle.sensitivity_laws.specs.Laws.{IsDualFeasibleBasis}
use Rattle.sensitivity_laws.proofs.RightHandSides.{points, dual_feasible, right_hand_sides}
use Rattle.sensitivity_laws.proofs.Rows.{lawful_rows}
use Rattle.sensitivity_laws.proofs.Tableaus.{by_tableau}
use Rattle.simplex_laws.proofs.DualStep.{enters, rates_after, right_after}
use Rattle.parametric_laws.proofs.Rhs.{to_rhs, rhs_leads}
use Rattle.parametric_laws.proofs.OneRhs.{lawful_rhs}
use Rattle.parametric_laws.proofs.RhsGrowth.{rhs_grows}
use Rattle.parametric_laws.proofs.Runs.{rhs_keeps}
use Rattle.existence_laws.proofs.Conditions.{conditions_up_to, each_holds}
use Rattle.existence_laws.proofs.Reaching.{tableau_of}
use Rattle.parametric_existence_laws.specs.Laws.{HasReports}
use Rattle.parametric_existence_laws.proofs.Reaches.{reaches_to, are_counted, along_listed, point_same}
use Rattle.parametric_existence_laws.proofs.Runs.{HasParts, has_reports}

-- ---- a face step

stands_on : (y : ℚ) (o : Option ℚ) → on_limit (λ l. eq_ℚ y l) o ≡ true → o ≡ Some y
stands_on y None e = cc
stands_on y (Some l) e = λ i. Some (sym (same_from_test y l e) i)

passes_left : (a b : Bool) → (not a || b) ≡ true → a ≡ true → b ≡ true
passes_left true b e own = e
passes_left false b e own = cc

other_of : (a b : Bool) → a ≡ false → (a || b) ≡ true → b ≡ true
other_of true b e h = cc
other_of false b e h = h

module _ (p : LinearProgram) (shift : List ℚ) (theta : ℚ) (s : List Status) (t : Tableau) (v : Vector) where
  -- r leaves, and q, which is cheapest, takes its place
  record IsFaceExchange (m : Move) : Type 0 where
    r : ℕ
    q : ℕ
    leaves : leaving p shift theta s t v ≡ Some r
    chosen : cheapest p s t r (leaves_below p shift theta s t v r) ≡ Some q
    gives : record { enters = q; leaves = r; to = if leaves_below p shift theta s t v r then Ll else Ul } ≡ m

  exchanging : (m : Move) (r : ℕ) → leaving p shift theta s t v ≡ Some r → (o : Option ℕ) → cheapest p s t r (leaves_below p shift theta s t v r) ≡ o →
      face_exchange p shift theta s t v r (leaves_below p shift theta s t v r) o ≡ FaceMoves m → IsFaceExchange m
  exchanging m r leaves (Some q) chosen e = record {
    r = r;
    q = q;
    leaves = leaves;
    chosen = chosen;
    gives = let same : record { enters = q; leaves = r; to = if leaves_below p shift theta s t v r then Ll else Ul } ≡ m = cc in same;
  }
  exchanging m r leaves None chosen e = cc

  leaving_by : (m : Move) (o : Option ℕ) → leaving p shift theta s t v ≡ o → face_at p shift theta s t v o ≡ FaceMoves m → IsFaceExchange m
  leaving_by m (Some r) leaves e = exchanging m r leaves (cheapest p s t r (leaves_below p shift theta s t v r)) refl e
  leaving_by m None leaves e = cc

  is_exchange : (m : Move) → rhs_face p shift theta s t v ≡ FaceMoves m → IsFaceExchange m
  unfolding rhs_face
  is_exchange m e = leaving_by m (leaving p shift theta s t v) refl e

module _ (p : LinearProgram) (shift : List ℚ) (lawful : IsLinearProgram p) (no_change : p.change ≡ None) (theta : ℚ) (s : List Status)
    (at : IsNonsingularBasis p s)
    (optimal : IsOptimalBasis (rhs_family p shift theta) s) (t : Tableau) (tab : IsTableau (rhs_family p shift theta) s t) (v : Vector)
    (m : Move) (move : IsFaceExchange (rhs_family p shift theta) shift theta s t v m) where
  abbrev now : LinearProgram
  now = rhs_family p shift theta

  abbrev below : Bool
  below = leaves_below (rhs_family p shift theta) shift theta s t v move.r

  abbrev to : Status
  to = if leaves_below (rhs_family p shift theta) shift theta s t v move.r then Ll else Ul

  abbrev exchange : Move
  exchange = record { enters = move.q; leaves = move.r; to = to }

  there : IsNonsingularBasis now s
  there = to_rhs p shift theta s at

  rows : HasRows now
  rows = let rows = lawful_rows p lawful in record { objective = rows.objective; change = rows.change }

  right_now : IsRightTableau now s t
  right_now = (by_tableau now s there.is_basis there.nonsingular rows t tab).0 optimal

  leaver : IsVariable p.matrix move.r × ((is_in (basics_of s) move.r && (below || leaves_above now shift theta s t v move.r)) ≡ true)
  leaver = found_passes now (λ k. is_in (basics_of s) k && (leaves_below now shift theta s t v k || leaves_above now shift theta s t v k)) move.r move.leaves

  marks : (is_in (basics_of s) move.r ≡ true) × ((below || leaves_above now shift theta s t v move.r) ≡ true)
  marks = and_parts (is_in (basics_of s) move.r) (below || leaves_above now shift theta s t v move.r) leaver.1

  basic : IsBasic p.matrix (basics_of s) move.r
  basic = (leaver.0, marks.0)

  found : IsVariable p.matrix move.q × ((restores_feasibility now s t move.r below move.q && is_cheapest now s t move.r below move.q) ≡ true)
  found = found_passes now (λ q. restores_feasibility now s t move.r below q && is_cheapest now s t move.r below q) move.q move.chosen

  tests : (restores_feasibility now s t move.r below move.q ≡ true) × (is_cheapest now s t move.r below move.q ≡ true)
  tests = and_parts (restores_feasibility now s t move.r below move.q) (is_cheapest now s t move.r below move.q) found.1

  least : (j : ℕ) → IsVariable p.matrix j → restores_feasibility now s t move.r below j ≡ true → ratio now s t move.r move.q ≤ℚ ratio now s t move.r j
  least j is own =
      le_from_test (ratio now s t move.r move.q) (ratio now s t move.r j)
      (passes_left (restores_feasibility now s t move.r below j) _
      (list_all_true (λ j. not (restores_feasibility now s t move.r below j) || le_ℚ (ratio now s t move.r move.q) (ratio now s t move.r j))
      (size p.matrix) 1 tests.1 j is.0 (omega (arith, is.1))) own)

  -- what leaves stands at the limit to which it goes
  stands : (b : Bool) → leaves_below now shift theta s t v move.r ≡ b →
      StandsAt (if b then Ll else Ul) (lower_of now move.r) (upper_of now move.r) (t.point move.r)
  stands true e = stands_on (t.point move.r) (lower_of now move.r) (and_parts _ _ e).0
  stands false e = stands_on (t.point move.r) (upper_of now move.r) (and_parts _ _ (other_of _ _ e marks.1)).0

  enters_now : IsNonbasic p.matrix (basics_of s) move.q
  enters_now = enters now no_change s there t tab right_now.right move.r move.q below basic found.0 tests.0 least

  -- so the point is that of the next basis too
  point_after : IsPointOf now (after s exchange) t.point
  point_after =
      subst (IsPointOf now (after s exchange)) (λ i k. by_ring2 (t.point k) (t.rate k move.q) (λ y d. y ⊕ number (pos 0) ⊗ d ≐ y) refl i)
      (IsPointOf-replaced now s there.is_basis t.point tab.is_point move.q enters_now.0 (λ i. t.rate i move.q)
      (tab.are_rates move.q enters_now) zero_ℚ move.r to basic.0
      (subst (λ y. StandsAt to (lower_of now move.r) (upper_of now move.r) y)
      (sym (by_ring2 (t.point move.r) (t.rate move.r move.q) (λ y d. y ⊕ number (pos 0) ⊗ d ≐ y) refl))
      (stands below refl)))

  exchanged_optimal : IsNonsingularBasis p (after s exchange) → IsOptimalBasis now (after s exchange)
  exchanged_optimal leads =
      let next = to_rhs p shift theta (after s exchange) leads in
      (by_tableau now (after s exchange) next.is_basis next.nonsingular rows (record { point = t.point; rate = exchanged_rate t.rate move.r move.q })
      (record {
        is_point = point_after;
        are_rates = rates_after now no_change s there t tab right_now.right move.r move.q below basic found.0 tests.0 least;
      })).1
      (record {
        feasible = right_now.feasible;
        right = right_after now no_change s there t tab right_now.right move.r move.q below basic found.0 tests.0 least
            next;
      })

rhs_stays : (p : LinearProgram) (shift : List ℚ) → IsLinearProgram p → p.change ≡ None → (theta : ℚ) (s : List Status) (m : Move) → IsNonsingularBasis p s →
    IsOptimalBasis (rhs_family p shift theta) s → IsRhsFace p shift theta s (FaceMoves m) → IsOptimalBasis (rhs_family p shift theta) (after s m)
rhs_stays p shift lawful no_change theta s m at optimal face =
    let move = is_exchange (rhs_family p shift theta) shift theta s face.0 face.1 m face.4 in
    subst (λ m. IsOptimalBasis (rhs_family p shift theta) (after s m)) move.gives
    (exchanged_optimal p shift lawful no_change theta s at optimal face.0 face.2 face.1 m move
    (subst (λ m. IsNonsingularBasis p (after s m)) (sym move.gives) (rhs_leads p shift theta s m at face)))

-- ---- the interval of a basis

module _ (p : LinearProgram) (shift : List ℚ) (lawful : IsLinearProgram p) (no_change : p.change ≡ None) where
  -- the directions of the nonbasics, each times its shift, make the slope
  slope_by : (rate : ℕ → ℕ → ℚ) → List Status → Vector
  slope_by rate s = combination p.matrix (basics_of s) rate (shift_of p.matrix shift)

  face_of : (theta : ℚ) (s : List Status) → IsNonsingularBasis p s → (turn : FaceTurn) × IsRhsFace p shift theta s turn
  unfolding slope_by
  face_of theta s at =
      let has = tableau_of (rhs_family p shift theta) s (to_rhs p shift theta s at) in
      let v = slope_by has.tableau.rate s in (
        rhs_face (rhs_family p shift theta) shift theta s has.tableau v,
        (
          has.tableau,
          v,
          has.is_tableau,
          record {
            keeps = combination_keeps p.matrix (basics_of s) has.tableau.rate has.is_tableau.are_rates (shift_of p.matrix shift);
            placed = combination_at p.matrix (basics_of s) has.tableau.rate has.is_tableau.are_rates (shift_of p.matrix shift);
          },
          refl,
        ),
      )

  module _ (from max : ℚ) (s : List Status) (forward : from ≤ℚ max) (at : IsNonsingularBasis p s) (optimal : IsOptimalBasis (rhs_family p shift from) s) where
    has : HasTableau p s
    has = tableau_of p s at

    abbrev t : Tableau
    t = has.tableau

    abbrev v : Vector
    v = slope_by t.rate s

    slope : IsSlope p s shift v
    unfolding slope_by
    slope = record {
      keeps = combination_keeps p.matrix (basics_of s) t.rate has.is_tableau.are_rates (shift_of p.matrix shift);
      placed = combination_at p.matrix (basics_of s) t.rate has.is_tableau.are_rates (shift_of p.matrix shift);
    }

    dual : IsDualFeasibleBasis p s t
    dual = dual_feasible p shift from s (lawful_rows p lawful) t at.is_basis at.nonsingular has.is_tableau optimal

    abbrev conditions : List Condition
    conditions = conditions_up_to (shift_sides p shift t.point v) (size p.matrix)

    optimal_where : (x : ℚ) → AllHold conditions x ↔ IsOptimalBasis (rhs_family p shift x) s
    optimal_where x =
        let law = right_hand_sides p s t dual shift v slope x in
        let each = each_holds (shift_sides p shift t.point v) x p.matrix in
        ((λ hold. law.1 (each.0 hold)), (λ there. each.1 (law.0 there)))

    moved : (theta : ℚ) → IsPointOf (rhs_family p shift theta) s (along theta (listed p.matrix t.point) (listed p.matrix v))
    moved theta =
        point_same (rhs_family p shift theta) s _ (along theta (listed p.matrix t.point) (listed p.matrix v))
        (λ k is. along_listed p.matrix theta t.point v k is)
        (points p shift s at t.point v has.is_tableau.is_point slope theta)

    abbrev prices : Vector
    prices = price_at p (basics_of s) t.rate

    still : (theta : ℚ) → ArePricesOf (rhs_family p shift theta) s (along theta (listed p.matrix prices) (listed p.matrix (λ k. zero_ℚ)))
    still theta = record {
      rate = t.rate;
      are_rates = has.is_tableau.are_rates;
      prices = λ k is. along_listed p.matrix theta prices (λ k. zero_ℚ) k is ∙ by_ring2 (prices k) theta (λ y x. y ⊕ x ⊗ number (pos 0) ≐ y) refl;
    }

    part_of : (part : Part) × IsPart (rhs_family p shift) from max s part
    part_of = (
      record {
        from = from;
        to = reach_of max conditions;
        statuses = s;
        value = listed p.matrix t.point;
        value_rate = listed p.matrix v;
        price = listed p.matrix prices;
        price_rate = listed p.matrix (λ k. zero_ℚ);
      },
      record {
        begins = refl;
        statuses = refl;
        reaches = reaches_to (rhs_family p shift) s conditions optimal_where from max forward optimal;
        values = moved;
        prices = still;
        values_counted = are_counted (rhs_family p shift) from t.point v;
        prices_counted = are_counted (rhs_family p shift) from prices (λ k. zero_ℚ);
      },
    )

  parts : HasParts p (rhs_family p shift) (IsRhsFace p shift)
  parts = record {
    lawful = lawful_rhs p shift lawful;
    bases = rhs_keeps p shift;
    face = face_of;
    part = part_of;
    keeps = rhs_stays p shift lawful no_change;
    grows = rhs_grows p shift lawful;
  }

  pub rhs_reports : HasReports p (rhs_family p shift) (IsRhsFace p shift)
  rhs_reports = has_reports p (rhs_family p shift) (IsRhsFace p shift) parts
