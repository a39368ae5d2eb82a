-- What is done at a breakpoint, from what the calls there found.
use Rattle.std.proofs.Common.{◌≡◌, ◌≢◌, ℕ, Bool, true, false, List, length, refl, sym, ap, subst, ◌∙◌, pos, arith}
use Rattle.std.specs.Prelude.{Option, Some, None, IsTrue, unwrap_or, ◌&&◌, ◌||◌, not, option_map, if◌then◌else◌}
use Rattle.exact_values.specs.Rational.{ℚ, zero_ℚ, ◌-ℚ◌, ◌/ℚ◌, ◌≤ℚ◌}
use Rattle.exact_values.specs.Tests.{eq_ℚ, le_ℚ}
use Rattle.exact_values.proofs.Ring.{by_ring2, ◌⊕◌, ◌⊗◌, ◌≐◌, number}
use Rattle.exact_values.proofs.TestsLaws.{same_from_test, le_from_test}
use Rattle.sensitivity_laws.specs.Changes.{ChangeIsRow, HasRows, IsRightTableau}
use Rattle.sensitivity_laws.proofs.Tableaus.{by_tableau}
use Rattle.simplex_definitions.specs.Formulas.{limit_numbered, number_of_limit}
use Rattle.lp_definitions.specs.Basis.{is_in, basics_of, IsBasic, IsNonbasic, IsDirectionOf, ArePricesOf, StandsAt, IsOptimalBasis, IsPointOf, Tableau}
use Rattle.lp_definitions.specs.Basis.{IsTableau}
use Rattle.lp_definitions.specs.LinearProgram.{LinearProgram, Vector, size, value_at, IsVariable, IsLinearProgram, lower_of, upper_of}
use Rattle.lp_definitions.specs.declared.Change.{Change}
use Rattle.lp_definitions.specs.declared.Status.{Status}
use Rattle.lp_definitions.specs.declared.Status.TheVariants.{Ll, Ul}
use Rattle.lp_laws.proofs.Points.{IsPointOf-replaced}
use Rattle.lp_laws.proofs.Uniqueness.{one_direction}
use Rattle.lp_laws.specs.Vectors.{along}
use Rattle.lp_laws.specs.Rates.{exchanged_rate}
use Rattle.lp_model.specs.RatesCalls.{IsRowOf}
use Rattle.simplex_definitions.specs.DualRatio.{restores_feasibility, ratio, is_cheapest, cheapest}
use Rattle.simplex_definitions.specs.Moves.{on_limit}
use Rattle.simplex_definitions.specs.Path.{Move, after, ray_of}
use Rattle.simplex_laws.specs.Laws.{IsNonsingularBasis}
use Rattle.simplex_laws.proofs.Numbered.{list_all_true}
use Rattle.simplex_laws.proofs.Searches.{found_passes}
use Rattle.simplex_definitions.specs.Chain.{FaceMoves, FaceDone, FaceEnds, InfeasiblePast}
use Rattle.simplex_definitions.specs.RhsRun.{rhs_family, IsSlope, leaving, leaves_below, leaves_above, face_exchange, face_at, rhs_face, IsRhsFace}
use Rattle.bounded_primal.specs.Moves.{return_by, IsStepBy, brings}
use Rattle.bounded_primal.specs.Turns.{ray_from}
use Rattle.basis_values.proofs.Existence.{rates_exist}
use Rattle.bounded_primal.proofs.SameChoices.{listed_is, row_ray}
use Rattle.sensitivity_laws.proofs.MovedLimits.{lower_is, upper_is}
use Rattle.sensitivity_laws.proofs.RightHandSides.{points}
use Rattle.std.proofs.lemmas.Bool.{and_parts}
use Rattle.parametric_laws.proofs.Rhs.{to_rhs, rhs_leads}
use Rattle.para_rhs.specs.Breaks.{IsFaceLeaver}
use Rattle.dual_step.specs.Cheapest.{brings as may_bring, cheapest_by}
use Rattle.para_rhs.specs.Limits.{is_upper}
use Rattle.para_rhs.specs.declared.breaks.Leaver.{Leaver}
use Rattle.simplex_laws.proofs.DualStep.{enters, pivot, rates_after, right_after}
use Rattle.para_rhs.proofs.RatioChoice.{brings_same, cheapest_same}

stands_on : (y : ℚ) (o : Option ℚ) → on_limit (λ l. eq_ℚ y l) o ≡ true → o ≡ Some y
stands_on y None e = cc
stands_on y (Some l) e = ap (λ x. Some x) (sym (same_from_test y l e))

was_there : (f : ℚ → ℚ) (o : Option ℚ) (x : ℚ) → option_map f o ≡ Some x → (l : ℚ) × (o ≡ Some l)
was_there f None x e = cc
was_there f (Some l) x e = (l, refl)

passes_left : (a b : Bool) → (not a || b) ≡ true → a ≡ true → b ≡ true
passes_left true b e own = e
passes_left false b e own = cc

module _ (p : LinearProgram) (shift : List ℚ) (lawful : IsLinearProgram p) (no_change : p.change ≡ None) (theta : ℚ) (s : List Status)
    (at : IsNonsingularBasis p s)
    (z v : Vector) (point : IsPointOf p s z) (slope : IsSlope p s shift v) where
  abbrev present : LinearProgram
  present = rhs_family p shift theta

  there : IsNonsingularBasis (rhs_family p shift theta) s
  there = to_rhs p shift theta s at

  sloped : IsSlope (rhs_family p shift theta) s shift v
  sloped = record { keeps = slope.keeps; placed = slope.placed }

  some_tableau : (t : Tableau) × IsTableau (rhs_family p shift theta) s t
  some_tableau =
      let rates = rates_exist p.matrix (basics_of s) at.nonsingular in
      (record { point = along z theta v; rate = rates.0 }, record { is_point = points p shift s at z v point slope theta; are_rates = rates.1 })

  -- nobody leaves
  pub face_done : IsFaceLeaver p shift theta s None → IsRhsFace p shift theta s FaceDone
  unfolding rhs_face
  face_done found = (
    some_tableau.0,
    v,
    some_tableau.1,
    sloped,
    ap (face_at (rhs_family p shift theta) shift theta s some_tableau.0 v)
        (found some_tableau.0 v some_tableau.1 sloped),
  )

  module _ (l : Leaver) (found : IsFaceLeaver p shift theta s (Some l)) where
    pub basic : IsBasic p.matrix (basics_of s) l.r
    basic =
        let passes = found_passes (rhs_family p shift theta)
        (λ k. is_in (basics_of s) k &&
        (leaves_below (rhs_family p shift theta) shift theta s some_tableau.0 v k || leaves_above
        (rhs_family p shift theta) shift theta s some_tableau.0 v k)) l.r
        (found some_tableau.0 v some_tableau.1 sloped).0 in
        (passes.0, (and_parts _ _ passes.1).0)

    abbrev below : Bool
    below = not (is_upper l.side)

    abbrev to : Status
    to = if not (is_upper l.side) then Ll else Ul

    module _ (prices row : Vector) (priced : ArePricesOf p s prices) (rowed : IsRowOf p.matrix (basics_of s) l.r row) where
      abbrev t : Tableau
      t = record { point = along z theta v; rate = rowed.rate }

      tab : IsTableau (rhs_family p shift theta) s t
      tab = record { is_point = points p shift s at z v point slope theta; are_rates = rowed.are_rates }

      leaver : (leaving (rhs_family p shift theta) shift theta s t v ≡ Some l.r) ×
          (leaves_below (rhs_family p shift theta) shift theta s t v l.r ≡ not (is_upper l.side))
      leaver = found t v tab sloped

      same : cheapest_by p s prices row below ≡ cheapest (rhs_family p shift theta) s t l.r below
      same = cheapest_same p shift theta s lawful no_change at prices row priced l.r basic.0 rowed (not (is_upper l.side)) (along z theta v)

      face_is : (o : Option ℕ) → cheapest_by p s prices row below ≡ o →
          rhs_face (rhs_family p shift theta) shift theta s t v ≡ face_exchange (rhs_family p shift theta) shift theta s t v l.r below o
      unfolding rhs_face
      face_is o is =
          ap (face_at (rhs_family p shift theta) shift theta s t v) leaver.0
          ∙ ap (λ b. face_exchange (rhs_family p shift theta) shift theta s t v l.r b (cheapest (rhs_family p shift theta) s t l.r b)) leaver.1
          ∙ ap (face_exchange (rhs_family p shift theta) shift theta s t v l.r (not (is_upper l.side))) (sym same ∙ is)

      -- who may bring it back
      pub face_brings : (j : ℕ) → IsVariable p.matrix j → may_bring p s row below j ≡ true →
          (u : Tableau) × (w : Vector) × IsTableau (rhs_family p shift theta) s u × IsSlope (rhs_family p shift theta) s shift w ×
          (leaving (rhs_family p shift theta) shift theta s u w ≡ Some l.r)
          × IsTrue (restores_feasibility (rhs_family p shift theta) s u l.r (leaves_below (rhs_family p shift theta) shift theta s u w l.r) j)
      face_brings j is own = (
        t,
        v,
        tab,
        sloped,
        leaver.0,
        subst (λ b. restores_feasibility (rhs_family p shift theta) s t l.r b j ≡ true) (sym leaver.1)
            (sym (brings_same p shift theta s lawful no_change at prices row priced l.r basic.0 rowed (not (is_upper l.side)) (along z theta v) j is) ∙ own),
      )

      -- nothing brings it back
      pub face_ends : cheapest_by p s prices row below ≡ None → (ray : List ℚ) → length ray ≡ size p.matrix →
          ((k : ℕ) → IsVariable p.matrix k → value_at ray k ≡ ray_from row l.r below k) →
          IsRhsFace p shift theta s (FaceEnds (InfeasiblePast theta ray))
      face_ends none ray counted values = (
        t,
        v,
        tab,
        sloped,
        face_is None none
            ∙ ap (λ xs. FaceEnds (InfeasiblePast theta xs))
            (sym (listed_is p.matrix ray (ray_of (basics_of s) rowed.rate l.r below) counted (λ k is. values k is ∙ row_ray p s l.r row rowed below k is))),
      )

      module _ (q : ℕ) (chosen : cheapest_by p s prices row below ≡ Some q) where
        abbrev move : Move
        move = record { enters = q; leaves = l.r; to = if not (is_upper l.side) then Ll else Ul }

        pub face_moves : IsRhsFace p shift theta s (FaceMoves (record { enters = q; leaves = l.r; to = if not (is_upper l.side) then Ll else Ul }))
        face_moves = (t, v, tab, sloped, face_is (Some q) chosen)

        passes : IsVariable p.matrix q ×
            ((restores_feasibility (rhs_family p shift theta) s t l.r below q && is_cheapest (rhs_family p shift theta) s t l.r below q) ≡ true)
        passes =
            found_passes (rhs_family p shift theta)
            (λ q. restores_feasibility (rhs_family p shift theta) s t l.r below q && is_cheapest (rhs_family p shift theta) s t l.r below q) q
            (sym same ∙ chosen)

        tests : (restores_feasibility (rhs_family p shift theta) s t l.r below q ≡ true) × (is_cheapest (rhs_family p shift theta) s t l.r below q ≡ true)
        tests = and_parts _ _ passes.1

        least : (j : ℕ) → IsVariable p.matrix j → restores_feasibility (rhs_family p shift theta) s t l.r below j ≡ true →
            ratio (rhs_family p shift theta) s t l.r q ≤ℚ ratio (rhs_family p shift theta) s t l.r j
        least j is own =
            le_from_test (ratio (rhs_family p shift theta) s t l.r q) (ratio (rhs_family p shift theta) s t l.r j)
            (passes_left (restores_feasibility (rhs_family p shift theta) s t l.r below j) _
            (list_all_true
            (λ j. not (restores_feasibility (rhs_family p shift theta) s t l.r below j) || le_ℚ (ratio (rhs_family p shift theta) s t l.r q)
            (ratio (rhs_family p shift theta) s t l.r j)) (size p.matrix) 1 tests.1 j is.0 (omega (arith, is.1))) own)

        rows : HasRows (rhs_family p shift theta)
        rows = record { objective = lawful.objective_row; change = no_row p.change no_change }
          where
            no_row : (o : Option Change) → o ≡ None → ChangeIsRow p.matrix o
            no_row None e = tt
            no_row (Some c) e = cc

        leads : IsNonsingularBasis p (after s move)
        leads = rhs_leads p shift theta s move at face_moves

        -- ---- at an optimal basis

        module _ (optimal : IsOptimalBasis (rhs_family p shift theta) s) where
          right_now : IsRightTableau (rhs_family p shift theta) s t
          right_now = (by_tableau (rhs_family p shift theta) s there.is_basis there.nonsingular rows t tab).0 optimal

          pub face_enters : IsNonbasic p.matrix (basics_of s) q
          face_enters = enters (rhs_family p shift theta) no_change s there t tab right_now.right l.r q below basic passes.0 tests.0 least

          rate_apart : rowed.rate l.r q ≢ zero_ℚ
          rate_apart = pivot (rhs_family p shift theta) no_change s there t tab right_now.right l.r q below basic passes.0 tests.0 least

          pub face_pivot : (d : Vector) → IsDirectionOf p.matrix (basics_of s) q d → d l.r ≢ zero_ℚ
          face_pivot d direction zero =
              rate_apart (one_direction p.matrix (basics_of s) q (λ i. rowed.rate i q) d at.nonsingular (rowed.are_rates q face_enters) direction l.r basic.0
              ∙ zero)

          crosses : (leaves_below (rhs_family p shift theta) shift theta s t v l.r || leaves_above (rhs_family p shift theta) shift theta s t v l.r) ≡ true
          crosses =
              (and_parts _ _ (found_passes (rhs_family p shift theta)
              (λ k. is_in (basics_of s) k &&
              (leaves_below (rhs_family p shift theta) shift theta s t v k || leaves_above
              (rhs_family p shift theta) shift theta s t v k)) l.r leaver.0).1).1

          other : (a b : Bool) → a ≡ false → (a || b) ≡ true → b ≡ true
          other true b e h = cc
          other false b e h = h

          -- it stands at the limit to which it goes
          stands : (b : Bool) → leaves_below (rhs_family p shift theta) shift theta s t v l.r ≡ b →
              StandsAt (if b then Ll else Ul) (lower_of (rhs_family p shift theta) l.r) (upper_of (rhs_family p shift theta) l.r) (along z theta v l.r)
          stands true e = stands_on (along z theta v l.r) (lower_of (rhs_family p shift theta) l.r) (and_parts _ _ e).0
          stands false e = stands_on (along z theta v l.r) (upper_of (rhs_family p shift theta) l.r) (and_parts _ _ (other _ _ e crosses)).0

          limited : (b : Bool) →
              StandsAt (if b then Ll else Ul) (lower_of (rhs_family p shift theta) l.r) (upper_of (rhs_family p shift theta) l.r) (along z theta v l.r) →
              (x : ℚ) × (limit_numbered p l.r (number_of_limit (if b then Ll else Ul)) ≡ Some x)
          limited true e = was_there _ (lower_of p l.r) (along z theta v l.r) (sym (lower_is p shift theta l.r basic.0) ∙ e)
          limited false e = was_there _ (upper_of p l.r) (along z theta v l.r) (sym (upper_is p shift theta l.r basic.0) ∙ e)

          pub face_limit : (x : ℚ) × (limit_numbered p l.r (number_of_limit (if not (is_upper l.side) then Ll else Ul)) ≡ Some x)
          face_limit = limited (not (is_upper l.side)) (stands (not (is_upper l.side)) leaver.1)

          pub face_step : (d : Vector) → IsStepBy p s z d q (return_by p z d l.r (if not (is_upper l.side) then Ll else Ul))
          face_step d = brings face_limit.0 basic face_limit.1 (ap (λ o. (unwrap_or o zero_ℚ -ℚ z l.r) /ℚ d l.r) face_limit.1)

          -- the point at the breakpoint doesn't move
          point_after : IsPointOf (rhs_family p shift theta) (after s move) (along z theta v)
          point_after =
              subst (IsPointOf (rhs_family p shift theta) (after s move))
              (λ i k. by_ring2 (along z theta v k) (rowed.rate k q) (λ y d. y ⊕ number (pos 0) ⊗ d ≐ y) refl i)
              (IsPointOf-replaced (rhs_family p shift theta) s there.is_basis (along z theta v) (points p shift s at z v point slope theta) q face_enters.0
              (λ i. rowed.rate i q) (rowed.are_rates q face_enters) zero_ℚ
              l.r (if not (is_upper l.side) then Ll else Ul) basic.0
              (subst (λ y. StandsAt (if not (is_upper l.side) then Ll else Ul) (lower_of (rhs_family p shift theta) l.r)
              (upper_of (rhs_family p shift theta) l.r) y)
              (sym (by_ring2 (along z theta v l.r) (rowed.rate l.r q) (λ y d. y ⊕ number (pos 0) ⊗ d ≐ y) refl)) (stands (not (is_upper l.side)) leaver.1)))

          pub face_keeps : IsOptimalBasis (rhs_family p shift theta)
              (after s (record { enters = q; leaves = l.r; to = if not (is_upper l.side) then Ll else Ul }))
          face_keeps =
              let next = to_rhs p shift theta (after s move) leads in
              (by_tableau (rhs_family p shift theta) (after s move) next.is_basis next.nonsingular rows
              (record { point = along z theta v; rate = exchanged_rate rowed.rate l.r q })
              (record {
                is_point = point_after;
                are_rates = rates_after
                    (rhs_family p shift theta) no_change s there t tab right_now.right l.r q below basic passes.0 tests.0 least;
              })).1
              (record {
                feasible = right_now.feasible;
                right = right_after
                    (rhs_family p shift theta) no_change s there t tab right_now.right l.r q below basic passes.0 tests.0 least next;
              })
