-- The prices of a basis from the rates of the objective row and the change row.
use Rattle.std.proofs.Common.{◌≡◌, ℕ, inl, List, [], ◌∷◌, ◌++◌, take, length, Bool, true, false, cond, refl, sym, ◌∙◌, ap, ap₂, subst, arith}
use Rattle.std.specs.Prelude.{Option, Some, None, IsTrue, Contains}
use Rattle.exact_values.specs.Rational.{ℚ, zero_ℚ, ◌+ℚ◌, ◌*ℚ◌}
use Rattle.exact_values.proofs.RingLaws.{add-zero, mul-zero, zero-mul}
use Rattle.lp_definitions.specs.LinearProgram.{LinearProgram, Vector, size, IsVariable, IsRow, HasNoLimits, IsLinearProgram, ChangeIsFree, with_change}
use Rattle.lp_definitions.specs.LinearProgram.{with_change_row}
use Rattle.lp_definitions.specs.Basis.{Basics, basics_of, is_in, is_basic, IsBasis, IsBasic, IsNonsingular, ArePricesOf, price_at, Tableau}
use Rattle.lp_definitions.specs.Waypoints.{waypoint}
use Rattle.lp_definitions.specs.declared.Change.{Change}
use Rattle.lp_definitions.specs.declared.Evidence.{Evidence}
use Rattle.lp_definitions.specs.declared.Status.{Status}
use Rattle.lp_model.specs.RatesCalls.{IsRowOf}
use Rattle.lp_laws.proofs.Values.{clash}
use Rattle.lp_laws.proofs.WaypointLaws.{within_itself}
use Rattle.lp_laws.proofs.Uniqueness.{is_in-basics_of, one_table}
use Rattle.simplex_definitions.specs.Formulas.{ObjectiveFormula, f17_product, f17_sum}
use Rattle.simplex_definitions.specs.Statements.{thetas_of}
use Rattle.simplex_definitions.specs.Evidence.{ShowsRefusal, by_objective, names_waypoint}
use Rattle.basis_values.specs.Calls.{job_of, is_of_point, PointRefused}
use Rattle.basis_values.specs.Formulas.{IsTermRefusal, of_product, of_sum}
use Rattle.basis_values.specs.Prices.{AreChanged, SomeChangedRefused, price_formula}
use Rattle.basis_values.proofs.Refusals.{IsTableau-changed}
use Rattle.basis_values.proofs.RatesStops.{tableau_of, IsTableau-of}

pub take_all : (xs ys : List ℚ) (n : ℕ) → n ≡ length xs → take n (xs ++ ys) ≡ xs
take_all xs ys n is = ap (λ m. take m (xs ++ ys)) is ∙ whole xs
  where
    whole : (xs : List ℚ) → take (length xs) (xs ++ ys) ≡ xs
    whole [] = refl
    whole (x ∷ xs) = ap (λ zs. x ∷ zs) (whole xs)

-- a row without limits is basic
pub free_row_basic : (p : LinearProgram) (s : List Status) (i : ℕ) → IsBasis p s → IsRow p.matrix i → HasNoLimits p i → IsBasic p.matrix (basics_of s) i
free_row_basic p s i basis is free =
    ((is.0, omega (arith, is.1)), is_in-basics_of s i is.0 (omega (arith, is.1, basis.counted)) ∙ ap is_basic (basis.free_rows i is free))

pub change_row_basic : (p : LinearProgram) (s : List Status) (c : Change) → IsBasis p s → IsLinearProgram p → p.change ≡ Some c →
    IsBasic p.matrix (basics_of s) c.row
change_row_basic p s c basis lawful is =
    let free : ChangeIsFree p (Some c) = subst (λ (o : Option Change). ChangeIsFree p o) is lawful.change_free in
    free_row_basic p s c.row basis free.0 free.1

module _ (p : LinearProgram) (s : List Status) where
  -- without a change row
  pub plain_prices : (o : Vector) → p.change ≡ None → IsRowOf p.matrix (basics_of s) p.objective o → ArePricesOf p s o
  plain_prices o none h = record {
    rate = h.rate;
    are_rates = h.are_rates;
    prices = λ k is. h.entries k is ∙ ap (λ c. cond (is_in (basics_of s) k) zero_ℚ (with_change_row c (λ i. h.rate i k) (h.rate p.objective k))) (sym none);
  }

  -- with one, at the parameter 0
  pub same_prices : (o : Vector) (c : Change) → p.change ≡ Some c → c.theta ≡ zero_ℚ → IsRowOf p.matrix (basics_of s) p.objective o → ArePricesOf p s o
  same_prices o c is nothing h = record {
    rate = h.rate;
    are_rates = h.are_rates;
    prices = λ k at. h.entries k at
        ∙ ap (λ x. cond (is_in (basics_of s) k) zero_ℚ x)
        (sym (ap (λ t. h.rate p.objective k +ℚ t *ℚ h.rate c.row k) nothing ∙ ap (λ x. h.rate p.objective k +ℚ x) (zero-mul (h.rate c.row k))
        ∙ add-zero (h.rate p.objective k)))
        ∙ ap (λ c. cond (is_in (basics_of s) k) zero_ℚ (with_change_row c (λ i. h.rate i k) (h.rate p.objective k))) (sym is);
  }

  -- and in general
  pub changed_prices : (o h y : Vector) (c : Change) → p.change ≡ Some c → IsNonsingular p.matrix (basics_of s) → IsBasic p.matrix (basics_of s) c.row →
      IsRowOf p.matrix (basics_of s) p.objective o → IsRowOf p.matrix (basics_of s) c.row h →
      AreChanged c.theta h o (size p.matrix) y → ArePricesOf p s y
  changed_prices o h y c is nonsingular basic of_objective of_change changed = record {
    rate = of_objective.rate;
    are_rates = of_objective.are_rates;
    prices = λ k at. changed k at.0 at.1 ∙ by_mark k at (is_in (basics_of s) k) refl;
  }
    where
      by_mark : (k : ℕ) → IsVariable p.matrix k → (m : Bool) → is_in (basics_of s) k ≡ m → o k +ℚ c.theta *ℚ h k ≡ price_at p (basics_of s) of_objective.rate k
      by_mark k at true e =
          ap₂ (λ x y. x +ℚ c.theta *ℚ y) (of_objective.entries k at ∙ ap (λ m. cond m zero_ℚ (of_objective.rate p.objective k)) e)
          (of_change.entries k at ∙ ap (λ m. cond m zero_ℚ (of_change.rate c.row k)) e)
          ∙ ap (λ x. zero_ℚ +ℚ x) (mul-zero c.theta) ∙ add-zero zero_ℚ
          ∙ sym (ap (λ m. cond m zero_ℚ (with_change_row p.change (λ i. of_objective.rate i k) (of_objective.rate p.objective k))) e)
      by_mark k at false e =
          ap₂ (λ x y. x +ℚ c.theta *ℚ y) (of_objective.entries k at ∙ ap (λ m. cond m zero_ℚ (of_objective.rate p.objective k)) e)
          (of_change.entries k at ∙ ap (λ m. cond m zero_ℚ (of_change.rate c.row k)) e
          ∙ one_table p.matrix (basics_of s) of_change.rate of_objective.rate nonsingular of_change.are_rates of_objective.are_rates c.row k basic.0
          (at, e))
          ∙ sym (ap₂ (λ m d. cond m zero_ℚ (with_change_row d (λ i. of_objective.rate i k) (of_objective.rate p.objective k))) e is)

  module _ (basis : IsBasis p s) (nonsingular : IsNonsingular p.matrix (basics_of s)) (o h : Vector) (c : Change)
      (of_objective : IsRowOf p.matrix (basics_of s) p.objective o) (of_change : IsRowOf p.matrix (basics_of s) c.row h)
      (basic : IsBasic p.matrix (basics_of s) c.row) (e : Evidence) where
    abbrev t : Tableau
    t = tableau_of p s basis nonsingular of_objective.rate

    record Facts : Type 0 where
      is_formula : e.formula ≡ 17
      no_way : e.way ≡ 0
      theta : e.theta ≡ c.theta
      formula : ObjectiveFormula (with_change p (record { row = c.row; theta = e.theta })) s t c.row e

    facts : SomeChangedRefused c.theta h o (size p.matrix) e → Facts
    facts r = by_term r.refused
      where
        is : IsVariable p.matrix r.j
        is = (r.low, r.high)

        out : is_in (basics_of s) r.j ≡ false
        out = at (is_in (basics_of s) r.j) refl
          where
            at : (m : Bool) → is_in (basics_of s) r.j ≡ m → is_in (basics_of s) r.j ≡ false
            at false e = e
            at true e = absurd (r.changes (of_change.entries r.j is ∙ ap (λ m. cond m zero_ℚ (of_change.rate c.row r.j)) e))

        o_is : o r.j ≡ of_objective.rate p.objective r.j
        o_is = of_objective.entries r.j is ∙ ap (λ m. cond m zero_ℚ (of_objective.rate p.objective r.j)) out

        h_is : h r.j ≡ of_objective.rate c.row r.j
        h_is =
            of_change.entries r.j is ∙ ap (λ m. cond m zero_ℚ (of_change.rate c.row r.j)) out
            ∙ one_table p.matrix (basics_of s) of_change.rate of_objective.rate nonsingular of_change.are_rates of_objective.are_rates c.row r.j basic.0
            (is, out)

        by_term : IsTermRefusal (price_formula r.j c.theta) (o r.j) c.theta (h r.j) e → Facts
        by_term (of_product refused) = record {
          is_formula = refused.names.is_formula;
          no_way = refused.no_way;
          theta = refused.is_theta;
          formula = f17_product r.j refused.names (is, out) (rw (sym refused.is_theta, h_is) at refused.refuses);
        }
        by_term (of_sum refused) = record {
          is_formula = refused.names.is_formula;
          no_way = refused.no_way;
          theta = refused.is_theta;
          formula = f17_sum r.j refused.names (is, out) (rw (sym refused.is_theta, h_is, o_is) at refused.refuses);
        }

    shows : (before : List Basics) (f : Facts) → ShowsRefusal (job_of p (Some c)) (λ to. ⊥) (basics_of s ∷ before) s (basics_of s) e
    shows before f = record {
      tableau = t;
      is_tableau =
          IsTableau-changed p s t (IsTableau-of p s basis nonsingular of_objective.rate of_objective.are_rates) nonsingular
          (record { row = c.row; theta = e.theta });
      way_rate = of_objective.rate;
      are_way_rates = of_objective.are_rates;
      formula = by_objective f.formula;
      is_way = (nonsingular, inl (within_itself p.matrix (basics_of s)));
      reaches = λ is. absurd (clash (sym is ∙ ap names_waypoint f.is_formula));
      no_way = λ _. (f.no_way, refl);
    }

    pub change_stops : p.change ≡ Some c → (before after : List Basics) → SomeChangedRefused c.theta h o (size p.matrix) e → PointRefused p before s after e
    change_stops is before after r =
        let f = facts r in
        record {
          of_call = subst (λ o. IsTrue (is_of_point o e.formula)) (sym is) (rw f.is_formula refl);
          stops = record {
            is_way = omega (arith, f.no_way);
            is_theta = subst (λ o. Contains (thetas_of (job_of p o) []) e.theta) (sym is) (1, omega arith, sym f.theta);
            shows = subst (λ o. ShowsRefusal (job_of p o) (λ to. ⊥) (basics_of s ∷ before) s (waypoint (basics_of s) after e.way) e) (sym is)
                (subst (λ (w : Basics). ShowsRefusal (job_of p (Some c)) (λ to. ⊥) (basics_of s ∷ before) s w e)
                (sym (ap (waypoint (basics_of s) after) f.no_way)) (shows before f));
          };
        }
