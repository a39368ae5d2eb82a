-- Formula 13 is that of a limit at a value of the parameter, and of nothing else that a run makes.
use Rattle.std.proofs.Common.{◌≡◌, ℕ, List, None, Some, arith}
use Rattle.exact_values.specs.Rational.{ℚ}
use Rattle.lp_definitions.specs.LinearProgram.{Matrix, LinearProgram, Vector}
use Rattle.lp_definitions.specs.Basis.{Basics, Tableau}
use Rattle.lp_definitions.specs.RatesEvidence.{ExchangeFormula, f1, f2, f3, f4, f5, EntryFormula, f11_product, f11_sum, CarriedFormula, f12_product, f12_sum}
use Rattle.lp_definitions.specs.RatesEvidence.{f12_quotient}
use Rattle.lp_definitions.specs.declared.Evidence.{Evidence}
use Rattle.lp_definitions.specs.declared.Status.{Status}
use Rattle.simplex_definitions.specs.Formulas.{PointFormula, f6, f7, f10_product, f10_sum, SlackFormula, f6_slack, MoveFormula, f8, f9, RatioFormula, f14}
use Rattle.simplex_definitions.specs.Formulas.{RangeFormula, f15_limit, f15_nonbasic, f15_basic, ObjectiveFormula, f16, f17_product, f17_sum, SlopeFormula}
use Rattle.simplex_definitions.specs.Formulas.{f18_product, f18_sum, f18_difference, f18_quotient, ShiftFormula, f13_product, f13_limit}
use Rattle.simplex_definitions.specs.Statements.{SolvingStatement}
use Rattle.simplex_definitions.specs.Evidence.{Formula, by_exchange, by_entry, by_carried, by_point, by_slack, by_move, by_ratio, by_range, by_objective}
use Rattle.simplex_definitions.specs.Evidence.{by_slope}
use Rattle.listing_definitions.specs.Ending.{Place}
use Rattle.question_definitions.specs.Answers.{Basis, Sheet, ParametricRun}
use Rattle.answer_definitions.specs.Evidence.{OverflowsOnParametricRun, at_basis, of_limit}

not_exchange : (a : Matrix) (w : Basics) (rate : ℕ → ℕ → ℚ) (e : Evidence) → ExchangeFormula a w rate e → e.formula ≡ 13 → ⊥
not_exchange a w rate e (f1 x0 x1 x2 n y0 y1 y2) is = let h : e.formula ≡ 1 = n.is_formula in omega (arith, h, is)
not_exchange a w rate e (f2 x0 x1 x2 x3 n y0 y1 y2 y3 y4) is = let h : e.formula ≡ 2 = n.is_formula in omega (arith, h, is)
not_exchange a w rate e (f3 x0 x1 x2 x3 n y0 y1 y2 y3 y4) is = let h : e.formula ≡ 3 = n.is_formula in omega (arith, h, is)
not_exchange a w rate e (f4 x0 x1 n y0 y1) is = let h : e.formula ≡ 4 = n.is_formula in omega (arith, h, is)
not_exchange a w rate e (f5 x0 x1 x2 n y0 y1 y2 y3) is = let h : e.formula ≡ 5 = n.is_formula in omega (arith, h, is)

not_entry : (a : Matrix) (b : Basics) (rate : ℕ → ℕ → ℚ) (e : Evidence) → EntryFormula a b rate e → e.formula ≡ 13 → ⊥
not_entry a b rate e (f11_product x0 x1 x2 x3 n y0 y1 y2 y3) is = let h : e.formula ≡ 11 = n.is_formula in omega (arith, h, is)
not_entry a b rate e (f11_sum x0 x1 x2 x3 n y0 y1 y2 y3) is = let h : e.formula ≡ 11 = n.is_formula in omega (arith, h, is)

not_carried : (a : Matrix) (b : Basics) (rate : ℕ → ℕ → ℚ) (w : Basics) (way_rate : ℕ → ℕ → ℚ) (e : Evidence) → CarriedFormula a b rate w way_rate e →
    e.formula ≡ 13 → ⊥
not_carried a b rate w way_rate e (f12_product x0 x1 x2 x3 x4 n y0 y1 y2 y3) is = let h : e.formula ≡ 12 = n.is_formula in omega (arith, h, is)
not_carried a b rate w way_rate e (f12_sum x0 x1 x2 x3 x4 n y0 y1 y2 y3) is = let h : e.formula ≡ 12 = n.is_formula in omega (arith, h, is)
not_carried a b rate w way_rate e (f12_quotient x0 x1 x2 n y0 y1 y2) is = let h : e.formula ≡ 12 = n.is_formula in omega (arith, h, is)

not_point : (p : LinearProgram) (s : List Status) (t : Tableau) (e : Evidence) → PointFormula p s t e → e.formula ≡ 13 → ⊥
not_point p s t e (f6 x0 x1 x2 n y0 y1 y2) is = let h : e.formula ≡ 6 = n.is_formula in omega (arith, h, is)
not_point p s t e (f7 x0 x1 x2 x3 n y0 y1 y2 y3 y4) is = let h : e.formula ≡ 7 = n.is_formula in omega (arith, h, is)
not_point p s t e (f10_product x0 x1 x2 n y0 y1 y2) is = let h : e.formula ≡ 10 = n.is_formula in omega (arith, h, is)
not_point p s t e (f10_sum x0 x1 x2 n y0 y1 y2) is = let h : e.formula ≡ 10 = n.is_formula in omega (arith, h, is)

not_slack : (p : LinearProgram) (s : List Status) (t : Tableau) (e : Evidence) → SlackFormula p s t e → e.formula ≡ 13 → ⊥
not_slack p s t e (f6_slack x0 n y0 y1) is = let h : e.formula ≡ 6 = n.is_formula in omega (arith, h, is)

not_move : (p : LinearProgram) (s : List Status) (t : Tableau) (to : Status) (e : Evidence) → MoveFormula p s t to e → e.formula ≡ 13 → ⊥
not_move p s t to e (f8 x0 x1 x2 x3 n y0 y1 y2) is = let h : e.formula ≡ 8 = n.is_formula in omega (arith, h, is)
not_move p s t to e (f9 x0 x1 x2 x3 n y0 y1 y2) is = let h : e.formula ≡ 9 = n.is_formula in omega (arith, h, is)

not_ratio : (p : LinearProgram) (s : List Status) (t : Tableau) (e : Evidence) → RatioFormula p s t e → e.formula ≡ 13 → ⊥
not_ratio p s t e (f14 x0 x1 n y0 y1 y2 y3) is = let h : e.formula ≡ 14 = n.is_formula in omega (arith, h, is)

not_range : (p : LinearProgram) (s : List Status) (t : Tableau) (e : Evidence) → RangeFormula p s t e → e.formula ≡ 13 → ⊥
not_range p s t e (f15_limit x0 x1 x2 x3 x4 n y0 y1 y2 y3 y4 y5) is = let h : e.formula ≡ 15 = n.is_formula in omega (arith, h, is)
not_range p s t e (f15_nonbasic x0 n y0 y1 y2) is = let h : e.formula ≡ 15 = n.is_formula in omega (arith, h, is)
not_range p s t e (f15_basic x0 x1 n y0 y1 y2 y3 y4) is = let h : e.formula ≡ 15 = n.is_formula in omega (arith, h, is)

not_objective : (p : LinearProgram) (s : List Status) (t : Tableau) (h : ℕ) (e : Evidence) → ObjectiveFormula p s t h e → e.formula ≡ 13 → ⊥
not_objective p s t h e (f16 x0 n y0 y1 y2) is = let h : e.formula ≡ 16 = n.is_formula in omega (arith, h, is)
not_objective p s t h e (f17_product x0 n y0 y1) is = let h : e.formula ≡ 17 = n.is_formula in omega (arith, h, is)
not_objective p s t h e (f17_sum x0 n y0 y1) is = let h : e.formula ≡ 17 = n.is_formula in omega (arith, h, is)

not_slope : (p : LinearProgram) (s : List Status) (t : Tableau) (shift : Vector) (e : Evidence) → SlopeFormula p s t shift e → e.formula ≡ 13 → ⊥
not_slope p s t shift e (f18_product x0 x1 x2 n y0 y1 y2) is = let h : e.formula ≡ 18 = n.is_formula in omega (arith, h, is)
not_slope p s t shift e (f18_sum x0 x1 x2 n y0 y1 y2) is = let h : e.formula ≡ 18 = n.is_formula in omega (arith, h, is)
not_slope p s t shift e (f18_difference x0 n y0 y1) is = let h : e.formula ≡ 18 = n.is_formula in omega (arith, h, is)
not_slope p s t shift e (f18_quotient x0 x1 x2 n y0 y1 y2 y3) is = let h : e.formula ≡ 18 = n.is_formula in omega (arith, h, is)

module _ (statement : SolvingStatement) (Goes : Status → Type 0) (s : List Status) (t : Tableau) (w : Basics) (way_rate : ℕ → ℕ → ℚ) (e : Evidence) where
  no_limit : Formula statement Goes s t w way_rate e → e.formula ≡ 13 → ⊥
  no_limit (by_exchange f) is = not_exchange _ _ _ e f is
  no_limit (by_entry f) is = not_entry _ _ _ e f is
  no_limit (by_carried f) is = not_carried _ _ _ _ _ e f is
  no_limit (by_point f) is = not_point _ _ _ e f is
  no_limit (by_slack f) is = not_slack _ _ _ e f is
  no_limit (by_move to goes f) is = not_move _ _ _ _ e f is
  no_limit (by_ratio f) is = not_ratio _ _ _ e f is
  no_limit (by_range f) is = not_range _ _ _ e f is
  no_limit (by_objective f) is = not_objective _ _ _ _ e f is
  no_limit (by_slope u is_tableau f) is = not_slope _ _ _ _ e f is

of_shift : (p : LinearProgram) (shift : Vector) (e : Evidence) → ShiftFormula p shift e → e.formula ≡ 13
of_shift p shift e (f13_product i n x y r) = n.is_formula
of_shift p shift e (f13_limit i which l n x y r) = n.is_formula

module _ (sheet : Sheet) (bases : List Basis) (parametric_run : ParametricRun) (e : Evidence) where
  -- evidence at a basis isn't of a limit, and evidence without a place is
  pub placed_apart : (place : Place) → OverflowsOnParametricRun sheet bases parametric_run e (Some place) → e.formula ≡ 13 → ⊥
  placed_apart place (at_basis now is) limit = no_limit _ _ _ _ _ _ e is.holds.shows.formula limit
  placed_apart place (of_limit now is none) limit = absurd (cc none)

  pub unplaced_limit : OverflowsOnParametricRun sheet bases parametric_run e None → e.formula ≡ 13
  unplaced_limit (at_basis now is) = let e = is.is_place in absurd (cc e)
  unplaced_limit (of_limit now is none) = of_shift _ _ e is.formula
