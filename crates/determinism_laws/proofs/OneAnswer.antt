-- A path has one end within a limit, with one verdict and one check, and SOLUTION prints one list of lines of a basis.
use Rattle.std.proofs.Common.{◌≡◌, ℕ, ◌+◌, ◌-◌, List, [], ◌∷◌, ◌++◌, length, refl, sym, ap, ap₂, ◌∙◌, arith, Bool, true, false}
use Rattle.std.specs.Prelude.{Option, None, Some, if◌then◌else◌}
use Rattle.exact_values.specs.Rational.{ℚ, zero_ℚ, ◌-ℚ◌}
use Rattle.lp_definitions.specs.LinearProgram.{size, IsVariable, IsLinearProgram, value_at, cost, lower_of, upper_of}
use Rattle.lp_definitions.specs.Basis.{is_in, basics_of, Tableau, IsTableau, objective_rate, price_at}
use Rattle.lp_laws.proofs.Uniqueness.{one_point, one_table}
use Rattle.simplex_definitions.specs.Path.{PathEnding, listed}
use Rattle.simplex_laws.specs.Laws.{IsNonsingularBasis}
use Rattle.simplex_laws.proofs.Numbered.{map_same}
use Rattle.simplex_laws.proofs.UnboundedEnds.{objective_value-same}
use Rattle.simplex_laws.proofs.OnePath.{one_path, not_both}
use Rattle.simplex_laws.proofs.DualTurns.{not_both_prices, one_wrong}
use Rattle.simplex_laws.proofs.OneDualPath.{one_path as one_dual_path, not_both as dual_not_both}
use Rattle.basis_deck_laws.proofs.Dependencies.{one_dependency, dependency_singular}
use Rattle.listing_definitions.specs.Report.{Value, Code, Number, limit_value, Line, SolutionLines, PathVerdict, Check}
use Rattle.question_definitions.specs.Answers.{Basis, Sheet, PathEnd, Reached, PathLimit, PricesWrong, InstallEnd, Installed, DependsBy}
use Rattle.answer_definitions.specs.Lines.{at_of, name_of, ray_lines}
use Rattle.answer_definitions.specs.Bases.{IsInstalled}
use Rattle.answer_definitions.specs.Verdicts.{verdict_of, check_of, IsVerdict, IsSolved, IsDualSolved}
use Rattle.answer_definitions.specs.Sections.{solution_lines, IsSolutionOf}
use Rattle.soundness_laws.proofs.OneEnd.{one_check}

-- ---- paths

module _ (sheet : Sheet) where
  -- the same end after the same bases has the same verdict and the same check
  reached_same : (bases others : List Basis) (ending other : PathEnding) (v w : PathVerdict) (c d : Check) → bases ≡ others → ending ≡ other →
      IsVerdict sheet (length bases) ending v c → IsVerdict sheet (length others) other w d → Reached bases v c ≡ Reached others w d
  reached_same bases others ending other v w c d same alike first second =
      let verdicts : v ≡ w = first.is_verdict ∙ ap₂ (λ xs e. verdict_of sheet (length xs) e) same alike ∙ sym second.is_verdict in
      let checks : c ≡ d = one_check c d (sym first.is_check ∙ ap (check_of sheet.lp) alike ∙ second.is_check) in
      cc

  module _ (s : Basis) (lawful : IsLinearProgram sheet.lp) (at : IsNonsingularBasis sheet.lp s) where
    pub path_once : (limit : Option ℕ) (a b : PathEnd) → IsSolved sheet s limit a → IsSolved sheet s limit b → a ≡ b
    path_once limit (Reached bases v c) (Reached others w d) first second =
        let one = one_path sheet.lp lawful s bases others first.ending second.ending at first.ends second.ends in
        reached_same bases others first.ending second.ending v w c d one.same_bases one.same_ending first.is_verdict second.is_verdict
    path_once None (Reached bases v c) PathLimit first second = absurd second
    path_once (Some most) (Reached bases v c) PathLimit first second =
        absurd (not_both sheet.lp lawful most s at (record { bases = bases; ending = first.ending; ends = first.ends; within = first.within_limit }) second)
    path_once limit (Reached bases v c) (PricesWrong j) first second = absurd second
    path_once None PathLimit (Reached bases v c) first second = absurd first
    path_once (Some most) PathLimit (Reached bases v c) first second =
        absurd (not_both sheet.lp lawful most s at (record { bases = bases; ending = second.ending; ends = second.ends; within = second.within_limit }) first)
    path_once limit PathLimit PathLimit first second = refl
    path_once limit PathLimit (PricesWrong j) first second = absurd second
    path_once limit (PricesWrong j) end first second = absurd first

    pub dual_path_once : (limit : Option ℕ) (a b : PathEnd) → IsDualSolved sheet s limit a → IsDualSolved sheet s limit b → a ≡ b
    dual_path_once limit (Reached bases v c) (Reached others w d) first second =
        let one = one_dual_path sheet.lp lawful s bases others first.1.ending second.1.ending at first.1.ends second.1.ends in
        reached_same bases others first.1.ending second.1.ending v w c d one.same_bases one.same_ending first.1.is_verdict second.1.is_verdict
    dual_path_once None (Reached bases v c) PathLimit first second = absurd second
    dual_path_once (Some most) (Reached bases v c) PathLimit first second =
        absurd (dual_not_both sheet.lp lawful most s at
        (record { bases = bases; ending = first.1.ending; ends = first.1.ends; within = first.1.within_limit }) second.1)
    dual_path_once limit (Reached bases v c) (PricesWrong j) first second = absurd (not_both_prices sheet.lp s j lawful at first.0 second)
    dual_path_once None PathLimit (Reached bases v c) first second = absurd first
    dual_path_once (Some most) PathLimit (Reached bases v c) first second =
        absurd (dual_not_both sheet.lp lawful most s at
        (record { bases = bases; ending = second.1.ending; ends = second.1.ends; within = second.1.within_limit }) first.1)
    dual_path_once limit PathLimit PathLimit first second = refl
    dual_path_once None PathLimit (PricesWrong j) first second = absurd first
    dual_path_once (Some most) PathLimit (PricesWrong j) first second = absurd (not_both_prices sheet.lp s j lawful at first.0 second)
    dual_path_once limit (PricesWrong j) (Reached bases v c) first second = absurd (not_both_prices sheet.lp s j lawful at second.0 first)
    dual_path_once None (PricesWrong j) PathLimit first second = absurd second
    dual_path_once (Some most) (PricesWrong j) PathLimit first second = absurd (not_both_prices sheet.lp s j lawful at second.0 first)
    dual_path_once limit (PricesWrong j) (PricesWrong k) first second = ap PricesWrong (one_wrong sheet.lp s j k lawful at first second)

-- ---- what comes of a basis that is read

-- the first dependency of a set of columns is one, and so its lines are
pub installed_once : (sheet : Sheet) (t : Basis) (a b : InstallEnd) → IsInstalled sheet t a → IsInstalled sheet t b → a ≡ b
installed_once sheet t Installed Installed first second = refl
installed_once sheet t Installed (DependsBy lines) first second = absurd (dependency_singular sheet.lp.matrix (basics_of t) second.0 second.1 second.2 first)
installed_once sheet t (DependsBy lines) Installed first second = absurd (dependency_singular sheet.lp.matrix (basics_of t) first.0 first.1 first.2 second)
installed_once sheet t (DependsBy lines) (DependsBy others) first second =
    let one = one_dependency sheet.lp.matrix (basics_of t) first.0 second.0 first.1 second.1 first.2 second.2 in
    let alike : listed sheet.lp.matrix first.1 ≡ listed sheet.lp.matrix second.1 =
    map_same first.1 second.1 (size sheet.lp.matrix) 1 (λ k low high. one.1 k (low, omega (arith, high))) in
    ap DependsBy (first.3 ∙ ap (ray_lines sheet) alike ∙ sym second.3)

-- ---- the lines of SOLUTION

-- the line of a variable, from its activity and its price
abbrev pub placed_at : Sheet → Basis → ℕ → ℚ → List Value
placed_at sheet s k v = Code (at_of sheet.lp s (λ i. v) k) ∷ Number v ∷ []

abbrev limited_at : Sheet → ℕ → ℚ → List Value
limited_at sheet k price = limit_value (lower_of sheet.lp k) ∷ limit_value (upper_of sheet.lp k) ∷ Number price ∷ []

abbrev row_line : Sheet → Basis → ℕ → ℚ → ℚ → Line
row_line sheet s k v price = record {
  number = k;
  name = name_of sheet k;
  values = placed_at sheet s k v ++ Number (value_at sheet.lp.rhs k -ℚ v) ∷ limited_at sheet k price;
}

abbrev column_line : Sheet → Basis → ℕ → ℚ → ℚ → Line
column_line sheet s k v price = record {
  number = k;
  name = name_of sheet k;
  values = placed_at sheet s k v ++ Number (cost sheet.lp (k - sheet.lp.rows)) ∷ limited_at sheet k price;
}

module _ (sheet : Sheet) (s : Basis) (t u : Tableau) (lawful : IsLinearProgram sheet.lp) (at : IsNonsingularBasis sheet.lp s) (first : IsTableau sheet.lp s t)
    (second : IsTableau sheet.lp s u) where
  points : (k : ℕ) → IsVariable sheet.lp.matrix k → t.point k ≡ u.point k
  points k is = one_point sheet.lp s t.point u.point at.is_basis.counted at.nonsingular first.is_point second.is_point k is

  prices : (k : ℕ) → IsVariable sheet.lp.matrix k → price_at sheet.lp (basics_of s) t.rate k ≡ price_at sheet.lp (basics_of s) u.rate k
  prices k is = by (is_in (basics_of s) k) refl
    where
      by : (mark : Bool) → is_in (basics_of s) k ≡ mark →
          (if mark then zero_ℚ else objective_rate sheet.lp t.rate k) ≡ (if mark then zero_ℚ else objective_rate sheet.lp u.rate k)
      by true mark = refl
      by false mark = objective_value-same sheet.lp (λ i. t.rate i k) (λ i. u.rate i k) lawful
          (λ i out. one_table sheet.lp.matrix (basics_of s) t.rate u.rate at.nonsingular first.are_rates second.are_rates i k out (is, mark))

  rows_same : (solution_lines sheet s t).rows ≡ (solution_lines sheet s u).rows
  rows_same =
      map_same (λ k. row_line sheet s k (t.point k) (price_at sheet.lp (basics_of s) t.rate k))
      (λ k. row_line sheet s k (u.point k) (price_at sheet.lp (basics_of s) u.rate k)) sheet.lp.rows 1
      (λ k low high. let is : IsVariable sheet.lp.matrix k = (low, omega (arith, high)) in ap₂ (row_line sheet s k) (points k is) (prices k is))

  columns_same : (solution_lines sheet s t).columns ≡ (solution_lines sheet s u).columns
  columns_same =
      map_same (λ k. column_line sheet s k (t.point k) (price_at sheet.lp (basics_of s) t.rate k))
      (λ k. column_line sheet s k (u.point k) (price_at sheet.lp (basics_of s) u.rate k)) sheet.lp.cols (sheet.lp.rows + 1)
      (λ k low high. let is : IsVariable sheet.lp.matrix k = (omega (arith, low), omega (arith, high)) in ap₂ (column_line sheet s k) (points k is)
      (prices k is))

  lines_same : solution_lines sheet s t ≡ solution_lines sheet s u
  lines_same = ap₂ (λ rows columns. record { rows = rows; columns = columns }) rows_same columns_same

pub reported_once : (sheet : Sheet) (s : Basis) (a b : SolutionLines) → IsLinearProgram sheet.lp → IsNonsingularBasis sheet.lp s → IsSolutionOf sheet s a →
    IsSolutionOf sheet s b → a ≡ b
reported_once sheet s a b lawful at first second =
    first.are_lines ∙ lines_same sheet s first.tableau second.tableau lawful at first.is_tableau second.is_tableau ∙ sym second.are_lines
