-- A refused operation of a variable is evidence of a run.
use Rattle.std.proofs.Common.{◌≡◌, ◌≢◌, ℕ, List, map, length, Bool, true, false, refl, sym, ap, subst, ◌∙◌, arith}
use Rattle.std.specs.Prelude.{IsTrue, nat_eq}
use Rattle.std.proofs.lemmas.List.{take_all}
use Rattle.exact_values.specs.Rational.{ℚ, zero_ℚ, ◌-ℚ◌, ◌*ℚ◌}
use Rattle.simplex_definitions.specs.Evidence.{Formula, by_point, by_slope, ShowsRefusal, names_waypoint}
use Rattle.simplex_definitions.specs.Formulas.{nonbasics, nonbasic_sum, PointFormula, f6, SlopeFormula, f18_difference, f18_quotient}
use Rattle.simplex_definitions.specs.Statements.{Pararhs, belongs}
use Rattle.frac128.specs.declared.Op.TheVariants.{Sub, Div}
use Rattle.lp_definitions.specs.Basis.{Basics, basics_of, is_in, IsBasic, AreRates, IsPointOf, Tableau, IsTableau}
use Rattle.lp_definitions.specs.LinearProgram.{LinearProgram, Vector, IsVariable, IsLinearProgram}
use Rattle.lp_definitions.specs.RatesEvidence.{Refuses, sum_from}
use Rattle.lp_definitions.specs.Waypoints.{IsWithinOne, waypoint}
use Rattle.lp_definitions.specs.declared.Evidence.{Evidence}
use Rattle.lp_definitions.specs.declared.Status.{Status}
use Rattle.lp_laws.proofs.Combination.{by_nonbasics}
use Rattle.lp_laws.proofs.Ordered.{combination_in_order}
use Rattle.lp_laws.proofs.Values.{clash}
use Rattle.simplex_laws.specs.Laws.{IsNonsingularBasis}
use Rattle.simplex_definitions.specs.RhsRun.{shift_of, IsSlope}
use Rattle.basis_values.proofs.Existence.{rates_exist}
use Rattle.para_rhs.specs.Limits.{number_of}
use Rattle.para_rhs.specs.Reach.{VariableRefused, of_closing, of_distance, of_quotient, SomeVariableRefused}
use Rattle.para_rhs.specs.Refusals.{RunRefused}
use Rattle.para_rhs.specs.declared.limits.Side.{Side}
use Rattle.para_rhs.specs.declared.limits.Side.TheVariants.{Lower, Upper}
use Rattle.para_rhs.proofs.Families.{family_at_zero}
use Rattle.para_rhs.proofs.Narrowing.{closing_apart}
use Rattle.para_rhs.proofs.Nonbasics.{sum_same}
use Rattle.para_rhs.proofs.RunEvidence.{is_quiet, run_refused}
use Rattle.para_rhs.proofs.ShiftStops.{is_numbered}

not_three : (side : Side) → nat_eq (number_of side) 3 ≡ false
not_three Lower = refl
not_three Upper = refl

module _ (p : LinearProgram) (shift : List ℚ) (lawful : IsLinearProgram p) (s : List Status) (at : IsNonsingularBasis p s) (z v : Vector)
    (point : IsPointOf p s z) (slope : IsSlope p s shift v) where
  pub rate : ℕ → ℕ → ℚ
  rate = (rates_exist p.matrix (basics_of s) at.nonsingular).0

  are : AreRates p.matrix (basics_of s) rate
  unfolding rate
  are = (rates_exist p.matrix (basics_of s) at.nonsingular).1

  abbrev pub tableau : Tableau
  tableau = record { point = z; rate = rate }

  is_tableau : IsTableau p s tableau
  is_tableau = record { is_point = point; are_rates = are }

  -- what moves otherwise than its limits is basic
  pub basic_if_moves : (k : ℕ) → IsVariable p.matrix k → v k ≢ shift_of p.matrix shift k → IsBasic p.matrix (basics_of s) k
  basic_if_moves k is moves = (is, by_mark (is_in (basics_of s) k) refl)
    where
      by_mark : (mark : Bool) → is_in (basics_of s) k ≡ mark → mark ≡ true
      by_mark true mark = refl
      by_mark false mark = absurd (moves (slope.placed k (is, mark)))

  -- the slope of each variable is the sum over all nonbasics
  slope_is_sum : (k : ℕ) → IsVariable p.matrix k → v k ≡ nonbasic_sum p s tableau (shift_of p.matrix shift) k (length (nonbasics p.matrix (basics_of s)))
  slope_is_sum k is =
      by_nonbasics p.matrix (basics_of s) rate are at.nonsingular v slope.keeps k is
      ∙ sym (combination_in_order p.matrix (basics_of s) rate v k)
      ∙ ap (λ ks. sum_from zero_ℚ (map (λ j. rate k j *ℚ v j) ks))
      (sym (take_all (length (nonbasics p.matrix (basics_of s))) (nonbasics p.matrix (basics_of s)) (omega arith)))
      ∙ sum_same p.matrix (basics_of s) (λ j. rate k j *ℚ v j) (λ j. rate k j *ℚ shift_of p.matrix shift j) (length (nonbasics p.matrix (basics_of s)))
      (λ j out. ap (λ x. rate k j *ℚ x) (slope.placed j out))

  module _ (e : Evidence) (no_way : e.way ≡ 0) (none : e.theta ≡ zero_ℚ) (names : names_waypoint e.formula ≡ false) (quiet : is_quiet e.formula)
      (of_run : (from : ℚ) → IsTrue (belongs (Pararhs p shift from) e)) where
    viewed : (from : ℚ) (Goes : Status → Type 0) (wider : List Basics) → IsWithinOne p.matrix (basics_of s) wider →
        Formula (Pararhs p shift from) Goes s tableau (basics_of s) rate e →
        ShowsRefusal (Pararhs p shift from) Goes wider s (basics_of s) e
    viewed from Goes wider own formula = record {
      tableau = tableau;
      is_tableau = subst (λ (q : LinearProgram). IsTableau q s tableau) (family_at_zero p shift lawful e.theta none) is_tableau;
      way_rate = rate;
      are_way_rates = are;
      formula = formula;
      is_way = (at.nonsingular, own);
      reaches = λ h. absurd (clash (sym h ∙ names));
      no_way = λ h. (no_way, refl);
    }

    pub here : (before after : List Basics) → ((from : ℚ) (Goes : Status → Type 0) → Formula (Pararhs p shift from) Goes s tableau (basics_of s) rate e) →
        RunRefused p shift s before after e
    here before after formula =
        run_refused p shift s before after e (omega (arith, no_way)) none quiet of_run
        (λ from wider cover Goes.
        subst (λ (w : Basics). ShowsRefusal (Pararhs p shift from) Goes wider s w e) (sym (ap (waypoint (basics_of s) after) no_way))
        (viewed from Goes wider cover.0 (formula from Goes)))

    pub by_slopes : (before after : List Basics) → SlopeFormula p s tableau (shift_of p.matrix shift) e → RunRefused p shift s before after e
    by_slopes before after f = here before after (λ from Goes. by_slope tableau
        (subst (λ (q : LinearProgram). IsTableau q s tableau) (family_at_zero p shift lawful zero_ℚ refl) is_tableau)
        (subst (λ (q : LinearProgram). SlopeFormula q s tableau (shift_of p.matrix shift) e) (family_at_zero p shift lawful zero_ℚ refl) f))

    pub by_points : (before after : List Basics) → PointFormula p s tableau e → RunRefused p shift s before after e
    by_points before after f =
        here before after (λ from Goes. by_point (subst (λ (q : LinearProgram). PointFormula q s tableau e) (family_at_zero p shift lawful e.theta none) f))

  variable_refused : (before after : List Basics) (k : ℕ) (e : Evidence) → IsVariable p.matrix k → v k ≢ shift_of p.matrix shift k →
      VariableRefused p shift z v k e → RunRefused p shift s before after e
  variable_refused before after k e is moves (of_closing r) =
      by_slopes e r.no_way r.is_theta (ap names_waypoint r.names.is_formula) (rw r.names.is_formula (refl, refl))
      (λ from. rw r.names.is_formula refl) before after
      (f18_difference k r.names (basic_if_moves k is moves) (subst (λ (x : ℚ). Refuses e Sub x (shift_of p.matrix shift k)) (slope_is_sum k is) r.refuses))
  variable_refused before after k e is moves (of_distance side l limit r) =
      by_points e r.no_way r.is_theta (ap names_waypoint r.names.is_formula) (rw r.names.is_formula (refl, refl))
      (λ from. rw (r.names.is_formula, r.names.is_term, not_three side) refl) before after
      (f6 k (number_of side) l r.names is (is_numbered p side k ∙ limit) r.refuses)
  variable_refused before after k e is moves (of_quotient side l limit r) =
      by_slopes e r.no_way r.is_theta (ap names_waypoint r.names.is_formula) (rw r.names.is_formula (refl, refl))
      (λ from. rw r.names.is_formula refl) before after
      (f18_quotient k (number_of side) l r.names (basic_if_moves k is moves) (is_numbered p side k ∙ limit)
      (λ zero. closing_apart (v k) (shift_of p.matrix shift k) moves (ap (λ x. x -ℚ shift_of p.matrix shift k) (slope_is_sum k is) ∙ zero))
      (subst (λ (x : ℚ). Refuses e Div (l -ℚ z k) (x -ℚ shift_of p.matrix shift k)) (slope_is_sum k is) r.refuses))

  pub some_refused : (before after : List Basics) (e : Evidence) → SomeVariableRefused p shift z v e → RunRefused p shift s before after e
  some_refused before after e h = variable_refused before after h.k e h.is_variable h.moves h.refused
