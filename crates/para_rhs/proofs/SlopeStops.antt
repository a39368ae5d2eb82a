-- A refused sum of the slope is evidence of a run.
use Rattle.std.proofs.Common.{◌≡◌, ℕ, List, [], ◌∷◌, Bool, true, false, cond, refl, sym, ap, subst, subst₂, ◌∙◌, arith}
use Rattle.std.specs.Prelude.{Option, None, IsTrue, not, ◌||◌, ◌&&◌, nat_eq, Contains}
use Rattle.exact_values.specs.Rational.{ℚ, zero_ℚ, ◌*ℚ◌}
use Rattle.simplex_definitions.specs.Evidence.{Formula, by_exchange, by_entry, by_carried, by_point, by_slack, by_move, by_ratio, by_range, by_objective}
use Rattle.simplex_definitions.specs.Evidence.{by_slope, ShowsRefusal}
use Rattle.simplex_definitions.specs.Formulas.{nonbasic_sum, PointFormula, f6, f7, f10_product, f10_sum, SlackFormula, f6_slack, RatioFormula, f14}
use Rattle.simplex_definitions.specs.Formulas.{RangeFormula, f15_limit, f15_nonbasic, f15_basic, ObjectiveFormula, f16, f17_product, f17_sum, SlopeFormula}
use Rattle.simplex_definitions.specs.Formulas.{f18_product, f18_sum, f18_difference, f18_quotient}
use Rattle.simplex_definitions.specs.Statements.{Primal, Pararhs, is_between, thetas_of, change_row, shift_at}
use Rattle.frac128.specs.declared.Op.{Op}
use Rattle.frac128.specs.Operations.{refuses}
use Rattle.lp_definitions.specs.Basis.{Basics, basics_of, exchanged, Tableau, IsTableau, IsNonbasic}
use Rattle.lp_definitions.specs.LinearProgram.{LinearProgram, IsLinearProgram}
use Rattle.lp_definitions.specs.RatesEvidence.{Names, Refuses, ExchangeFormula, f1, f2, f3, f4, f5, EntryFormula, f11_product, f11_sum, CarriedFormula}
use Rattle.lp_definitions.specs.RatesEvidence.{f12_product, f12_sum, f12_quotient}
use Rattle.lp_definitions.specs.Waypoints.{waypoint}
use Rattle.lp_definitions.specs.declared.Change.{Change}
use Rattle.lp_definitions.specs.declared.Evidence.{Evidence}
use Rattle.lp_definitions.specs.declared.Status.{Status}
use Rattle.lp_laws.proofs.Values.{clash}
use Rattle.lp_laws.proofs.WaypointLaws.{Covers, covered}
use Rattle.simplex_laws.specs.Laws.{IsNonsingularBasis}
use Rattle.simplex_definitions.specs.RhsRun.{shift_of}
use Rattle.basis_values.specs.Calls.{job_of, is_of_point, PointRefused}
use Rattle.basis_values.proofs.RatesStops.{tableau_of, IsTableau-of}
use Rattle.para_rhs.specs.Refusals.{RunRefused}
use Rattle.para_rhs.specs.Slopes.{slope_program, slope_evidence}
use Rattle.para_rhs.proofs.Families.{family_at_zero}
use Rattle.para_rhs.proofs.Nonbasics.{nonbasic_at, sum_same}
use Rattle.para_rhs.proofs.RunEvidence.{is_quiet, run_refused, only_zero}
use Rattle.para_rhs.proofs.SlopePrograms.{is_slope}

-- ---- the numbers of formulas

module _ (p : LinearProgram) (s : List Status) (t : Tableau) (e : Evidence) where
  point_number : PointFormula p s t e → (is_between 6 7 e.formula || nat_eq e.formula 10) ≡ true
  point_number (f6 i which l names is limit refused) = ap (λ n. is_between 6 7 n || nat_eq n 10) names.is_formula
  point_number (f7 q i which l names is out limit rate refused) = ap (λ n. is_between 6 7 n || nat_eq n 10) names.is_formula
  point_number (f10_product i j term names is at refused) = ap (λ n. is_between 6 7 n || nat_eq n 10) names.is_formula
  point_number (f10_sum i j term names is at refused) = ap (λ n. is_between 6 7 n || nat_eq n 10) names.is_formula

  slack_number : SlackFormula p s t e → (is_between 6 7 e.formula || nat_eq e.formula 10) ≡ true
  slack_number (f6_slack i names is refused) = ap (λ n. is_between 6 7 n || nat_eq n 10) names.is_formula

  ratio_number : RatioFormula p s t e → is_between 14 18 e.formula ≡ true
  ratio_number (f14 i j names is out moves refused) = ap (is_between 14 18) names.is_formula

  range_number : RangeFormula p s t e → is_between 14 18 e.formula ≡ true
  range_number (f15_limit i j which stands l names is out at limit moves refused) = ap (is_between 14 18) names.is_formula
  range_number (f15_nonbasic j names out column refused) = ap (is_between 14 18) names.is_formula
  range_number (f15_basic i j names is column out moves refused) = ap (is_between 14 18) names.is_formula

  objective_number : (h : ℕ) → ObjectiveFormula p s t h e → is_between 14 18 e.formula ≡ true
  objective_number h (f16 j names out moves refused) = ap (is_between 14 18) names.is_formula
  objective_number h (f17_product j names out refused) = ap (is_between 14 18) names.is_formula
  objective_number h (f17_sum j names out refused) = ap (is_between 14 18) names.is_formula

  slope_number : (f : ℕ → ℚ) → SlopeFormula p s t f e → is_between 14 18 e.formula ≡ true
  slope_number f (f18_product i j term names is at refused) = ap (is_between 14 18) names.is_formula
  slope_number f (f18_sum i j term names is at refused) = ap (is_between 14 18) names.is_formula
  slope_number f (f18_difference i names is refused) = ap (is_between 14 18) names.is_formula
  slope_number f (f18_quotient i which l names is limit closing refused) = ap (is_between 14 18) names.is_formula

  module _ (w : Basics) (rate : ℕ → ℕ → ℚ) where
    exchange_number : ExchangeFormula p.matrix w rate e → nat_eq e.formula 10 ≡ false
    exchange_number (f1 p q j names ex out refused) = ap (λ n. nat_eq n 10) names.is_formula
    exchange_number (f2 p q i j names ex basic other out refused) = ap (λ n. nat_eq n 10) names.is_formula
    exchange_number (f3 p q i j names ex basic other out refused) = ap (λ n. nat_eq n 10) names.is_formula
    exchange_number (f4 p q names ex refused) = ap (λ n. nat_eq n 10) names.is_formula
    exchange_number (f5 p q i names ex basic other refused) = ap (λ n. nat_eq n 10) names.is_formula

    entry_number : EntryFormula p.matrix (basics_of s) t.rate e → nat_eq e.formula 10 ≡ false
    entry_number (f11_product i j term x names basic col is refused) = ap (λ n. nat_eq n 10) names.is_formula
    entry_number (f11_sum i j term x names basic col is refused) = ap (λ n. nat_eq n 10) names.is_formula

    carried_number : CarriedFormula p.matrix (basics_of s) t.rate w rate e → nat_eq e.formula 10 ≡ false
    carried_number (f12_product p q i j term names basic ex out refused) = ap (λ n. nat_eq n 10) names.is_formula
    carried_number (f12_sum p q i j term names basic ex out refused) = ap (λ n. nat_eq n 10) names.is_formula
    carried_number (f12_quotient p q j names basic ex refused) = ap (λ n. nat_eq n 10) names.is_formula

abbrev of_call : ℕ → Type 0
of_call n = (is_between 1 5 n || is_between 10 12 n) ≡ true

not_point : (n : ℕ) → of_call n → nat_eq n 10 ≡ false → (is_between 6 7 n || nat_eq n 10) ≡ false
not_point n call other = grind arith

not_later : (n : ℕ) → of_call n → is_between 14 18 n ≡ false
not_later n call = grind arith

of_run : (n term : ℕ) → of_call n → ((is_between 1 14 n || nat_eq n 18) && (not (nat_eq n 6) || not (nat_eq term 3))) ≡ true
of_run n term call = grind arith

quiet_call : (n : ℕ) → of_call n → is_quiet n
quiet_call n call = (grind arith, grind arith)

-- ---- a refusal of the point, as one of the slope

refuses_as : (e : Evidence) (op : Op) (a b c d : ℚ) → a ≡ c → b ≡ d → Refuses e op a b → Refuses (record e { formula = 18 }) op c d
refuses_as e op a b c d left right r = record {
  is_op = r.is_op;
  is_left = r.is_left ∙ left;
  is_right = r.is_right ∙ right;
  refused = subst₂ (λ (x y : ℚ). IsTrue (refuses op x y)) left right r.refused;
}

names_as : (e : Evidence) (i j term : ℕ) → Names e 10 0 0 i j term → Names (record e { formula = 18 }) 18 0 0 i j term
names_as e i j term n = record { is_formula = refl; is_p = n.is_p; is_q = n.is_q; is_i = n.is_i; is_j = n.is_j; is_term = n.is_term }

module _ (p : LinearProgram) (shift : List ℚ) (lawful : IsLinearProgram p) (s : List Status) (at : IsNonsingularBasis p s) (e : Evidence) where
  module _ (from : ℚ) (Goes : Status → Type 0) (t : Tableau) (is_t : IsTableau (slope_program p shift) s t) (w : Basics) (rate : ℕ → ℕ → ℚ) where
    abbrev u : Tableau
    u = tableau_of p s at.is_basis at.nonsingular t.rate

    is_u : IsTableau p s u
    is_u = IsTableau-of p s at.is_basis at.nonsingular t.rate is_t.are_rates

    placed : (k : ℕ) → IsNonbasic p.matrix (basics_of s) k → t.point k ≡ shift_of p.matrix shift k
    placed k out = (is_slope p shift s at t.point is_t.is_point).placed k out

    same_formula : nat_eq e.formula 10 ≡ false → of_call e.formula → Formula (Primal (slope_program p shift)) (λ to. ⊥) s t w rate e →
        Formula (Pararhs p shift from) Goes s u w rate e
    same_formula other call (by_exchange f) = by_exchange f
    same_formula other call (by_entry f) = by_entry f
    same_formula other call (by_carried f) = by_carried f
    same_formula other call (by_point f) = absurd (clash (sym (point_number (slope_program p shift) s t e f) ∙ not_point e.formula call other))
    same_formula other call (by_slack f) = absurd (clash (sym (slack_number (slope_program p shift) s t e f) ∙ not_point e.formula call other))
    same_formula other call (by_move to goes f) = absurd goes
    same_formula other call (by_ratio f) = absurd (clash (sym (ratio_number (slope_program p shift) s t e f) ∙ not_later e.formula call))
    same_formula other call (by_range f) = absurd (clash (sym (range_number (slope_program p shift) s t e f) ∙ not_later e.formula call))
    same_formula other call (by_objective f) =
        absurd (clash (sym (objective_number (slope_program p shift) s t e (change_row (Primal (slope_program p shift))) f) ∙ not_later e.formula call))
    same_formula other call (by_slope u is f) =
        absurd (clash (sym (slope_number (slope_program p shift) s u e (shift_at (Primal (slope_program p shift))) f) ∙ not_later e.formula call))

    by_sum : IsTableau p s u → SlopeFormula p s u (shift_of p.matrix shift) (record e { formula = 18 }) →
        Formula (Pararhs p shift from) Goes s u w rate (record e { formula = 18 })
    by_sum is f =
        by_slope u (subst (λ (q : LinearProgram). IsTableau q s u) (family_at_zero p shift lawful zero_ℚ refl) is)
        (subst (λ (q : LinearProgram). SlopeFormula q s u (shift_of p.matrix shift) (record e { formula = 18 })) (family_at_zero p shift lawful zero_ℚ refl) f)

    of_point : of_call e.formula → PointFormula (slope_program p shift) s t e → SlopeFormula p s u (shift_of p.matrix shift) (record e { formula = 18 })
    of_point call (f6 i which l names is limit refused) = absurd (clash (sym call ∙ ap (λ n. is_between 1 5 n || is_between 10 12 n) names.is_formula))
    of_point call (f7 q i which l names is out limit rate refused) =
        absurd (clash (sym call ∙ ap (λ n. is_between 1 5 n || is_between 10 12 n) names.is_formula))
    of_point call (f10_product i j term names is next refused) =
        f18_product i j term (names_as e i j term names) is next
        (refuses_as e _ (t.rate i j) (t.point j) (t.rate i j) (shift_of p.matrix shift j) refl
        (placed j (nonbasic_at p.matrix (basics_of s) term j next)) refused)
    of_point call (f10_sum i j term names is next refused) =
        f18_sum i j term (names_as e i j term names) is next
        (refuses_as e _ (nonbasic_sum (slope_program p shift) s t t.point i term) (t.rate i j *ℚ t.point j)
        (nonbasic_sum p s u (shift_of p.matrix shift) i term) (t.rate i j *ℚ shift_of p.matrix shift j)
        (sum_same p.matrix (basics_of s) (λ k. t.rate i k *ℚ t.point k) (λ k. t.rate i k *ℚ shift_of p.matrix shift k) term
        (λ k out. ap (λ x. t.rate i k *ℚ x) (placed k out)))
        (ap (λ x. t.rate i j *ℚ x) (placed j (nonbasic_at p.matrix (basics_of s) term j next))) refused)

    slope_formula : nat_eq e.formula 10 ≡ true → of_call e.formula → Formula (Primal (slope_program p shift)) (λ to. ⊥) s t w rate e →
        Formula (Pararhs p shift from) Goes s u w rate (record e { formula = 18 })
    slope_formula ten call (by_exchange f) = absurd (clash (sym ten ∙ exchange_number (slope_program p shift) s t e w rate f))
    slope_formula ten call (by_entry f) = absurd (clash (sym ten ∙ entry_number (slope_program p shift) s t e w rate f))
    slope_formula ten call (by_carried f) = absurd (clash (sym ten ∙ carried_number (slope_program p shift) s t e w rate f))
    slope_formula ten call (by_point f) = by_sum is_u (of_point call f)
    slope_formula ten call (by_slack (f6_slack i names is refused)) =
        absurd (clash (sym call ∙ ap (λ n. is_between 1 5 n || is_between 10 12 n) names.is_formula))
    slope_formula ten call (by_move to goes f) = absurd goes
    slope_formula ten call (by_ratio f) = absurd (clash (sym (ratio_number (slope_program p shift) s t e f) ∙ not_later e.formula call))
    slope_formula ten call (by_range f) = absurd (clash (sym (range_number (slope_program p shift) s t e f) ∙ not_later e.formula call))
    slope_formula ten call (by_objective f) =
        absurd (clash (sym (objective_number (slope_program p shift) s t e (change_row (Primal (slope_program p shift))) f) ∙ not_later e.formula call))
    slope_formula ten call (by_slope u is f) =
        absurd (clash (sym (slope_number (slope_program p shift) s u e (shift_at (Primal (slope_program p shift))) f) ∙ not_later e.formula call))

  names_point : nat_eq e.formula 10 ≡ true → e.formula ≡ 10
  names_point ten = grind arith

  module _ (from : ℚ) (Goes : Status → Type 0) (around wider : List Basics) (w : Basics) (none : e.theta ≡ zero_ℚ) (call : of_call e.formula)
      (cover : Covers p.matrix around wider)
      (h : ShowsRefusal (Primal (slope_program p shift)) (λ to. ⊥) around s w e) where
    same_view : nat_eq e.formula 10 ≡ false → ShowsRefusal (Pararhs p shift from) Goes wider s w e
    same_view other = record {
      tableau = u from Goes h.tableau h.is_tableau w h.way_rate;
      is_tableau =
          subst (λ (q : LinearProgram). IsTableau q s (u from Goes h.tableau h.is_tableau w h.way_rate)) (family_at_zero p shift lawful e.theta none)
          (is_u from Goes h.tableau h.is_tableau w h.way_rate);
      way_rate = h.way_rate;
      are_way_rates = h.are_way_rates;
      formula = same_formula from Goes h.tableau h.is_tableau w h.way_rate other call h.formula;
      is_way = (h.is_way.0, covered p.matrix w around wider cover h.is_way.1);
      reaches = λ names. ((h.reaches names).0, covered p.matrix (exchanged w e.p e.q) around wider cover (h.reaches names).1);
      no_way = h.no_way;
    }

    slope_view : nat_eq e.formula 10 ≡ true → ShowsRefusal (Pararhs p shift from) Goes wider s w (record e { formula = 18 })
    slope_view ten = record {
      tableau = u from Goes h.tableau h.is_tableau w h.way_rate;
      is_tableau =
          subst (λ (q : LinearProgram). IsTableau q s (u from Goes h.tableau h.is_tableau w h.way_rate)) (family_at_zero p shift lawful e.theta none)
          (is_u from Goes h.tableau h.is_tableau w h.way_rate);
      way_rate = h.way_rate;
      are_way_rates = h.are_way_rates;
      formula = slope_formula from Goes h.tableau h.is_tableau w h.way_rate ten call h.formula;
      is_way = (h.is_way.0, covered p.matrix w around wider cover h.is_way.1);
      reaches = λ names. absurd (clash (sym names));
      no_way = λ names. h.no_way (rw (names_point ten) refl);
    }

  pub slope_refused : p.change ≡ None → (before after : List Basics) → PointRefused (slope_program p shift) before s after e →
      RunRefused p shift s before after (slope_evidence e)
  slope_refused no_change before after h = by_number (nat_eq e.formula 10) refl
    where
      call : of_call e.formula
      call = subst (λ (o : Option Change). IsTrue (is_of_point o e.formula)) no_change h.of_call

      none : e.theta ≡ zero_ℚ
      none =
          only_zero p shift s before after e
          (subst (λ (o : Option Change). Contains (thetas_of (job_of (slope_program p shift) o) []) e.theta) no_change h.stops.is_theta)

      viewed : ShowsRefusal (Primal (slope_program p shift)) (λ to. ⊥) (basics_of s ∷ before) s (waypoint (basics_of s) after e.way) e
      viewed =
          subst (λ (o : Option Change). ShowsRefusal (job_of (slope_program p shift) o) (λ to. ⊥) (basics_of s ∷ before) s
          (waypoint (basics_of s) after e.way) e) no_change h.stops.shows

      by_number : (b : Bool) → nat_eq e.formula 10 ≡ b → RunRefused p shift s before after (cond b (record e { formula = 18 }) e)
      by_number true ten =
          run_refused p shift s before after (record e { formula = 18 }) h.stops.is_way none (refl, refl) (λ from. refl)
          (λ from wider cover Goes. slope_view from Goes (basics_of s ∷ before) wider (waypoint (basics_of s) after e.way) none call cover viewed ten)
      by_number false other =
          run_refused p shift s before after e h.stops.is_way none (quiet_call e.formula call) (λ from. of_run e.formula e.term call)
          (λ from wider cover Goes. same_view from Goes (basics_of s ∷ before) wider (waypoint (basics_of s) after e.way) none call cover viewed other)
