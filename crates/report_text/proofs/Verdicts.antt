-- The parts in which a verdict is written.
use Rattle.std.proofs.Common.{◌≡◌, ◌-◌, ℕ, not, List, [], ◌∷◌, ◌++◌, codes, sym, ◌∙◌, ap, append_assoc, arith}
use denote.Bor.{Bor}
use Rattle.std.specs.List.{concat, flat_map}
use Rattle.std.proofs.lemmas.List.{append-nil}
use Rattle.std.proofs.lemmas.List.Folds.{flat_map-map}
use Rattle.exact_values.specs.Rational.{ℚ, zero_ℚ}
use Rattle.exact_values.specs.Tests.{eq_ℚ}
use Rattle.lp_definitions.specs.LinearProgram.{size, value_at, numbers_from, variables}
use Rattle.listing_definitions.specs.Numbers.{digits, rational_text}
use Rattle.listing_definitions.specs.declared.Solver.{Solver}
use Rattle.listing_definitions.specs.Report.{PathVerdict, CrossedAt, Check}
use Rattle.listing_definitions.specs.Text.{solver_text, check_text, verdict_head, verdict_lines, verdict_text, line_text, table_text}
use Rattle.listing_tables.specs.declared.sheet.Sheet.{Sheet}
use Rattle.listing_tables.specs.declared.table.Table.{Table}
use Rattle.listing_tables.specs.declared.table.Table.TheVariants.{Multipliers, Pairs}
use Rattle.listing_tables.specs.Lines.{line_of, multiplier_values, pair_values, ray_lines, pair_lines}
use Rattle.listing_tables.specs.Tables.{line_view}
use Rattle.listing_tables.proofs.Tables.{lines_kept}

-- equal objectives are written alike
pub same_objective : (by : Solver) (found : List ℕ) (steps : ℕ) (x y : ℚ) → x ≡ y →
    concat (solver_text by ∷ codes " " ∷ concat (found ∷ digits steps ∷ codes " OBJECTIVE " ∷ rational_text x ∷ []) ∷ []) ≡ concat
    (solver_text by ∷ codes " " ∷ concat (found ∷ digits steps ∷ codes " OBJECTIVE " ∷ rational_text y ∷ []) ∷ [])
same_objective by found steps x y e =
    ap (λ v. concat (solver_text by ∷ codes " " ∷ concat (found ∷ digits steps ∷ codes " OBJECTIVE " ∷ rational_text v ∷ []) ∷ [])) e

-- nothing stands after the number of a crossed variable
pub crossed_head : (by : Solver) (number : ℕ) →
    concat (solver_text by ∷ codes " " ∷ concat (codes "INFEASIBLE STEPS 0 CROSSED " ∷ digits number ∷ [] ∷ []) ∷ []) ≡ concat
    (solver_text by ∷ codes " " ∷ verdict_head (CrossedAt number) ∷ [])
crossed_head by number = ap (λ w. concat (solver_text by ∷ codes " " ∷ (codes "INFEASIBLE STEPS 0 CROSSED " ++ w) ∷ [])) (append-nil (digits number))

pub verdict_parts : (by : Solver) (verdict : PathVerdict) (check : Check) →
    concat (solver_text by ∷ codes " " ∷ verdict_head verdict ∷ []) ++
    (concat (codes " " ∷ check_text check ∷ codes "\n" ∷ []) ++ table_text (verdict_lines verdict)) ≡ verdict_text by verdict check
verdict_parts by verdict check = simp (append_assoc, append-nil)

-- the lines of a table of all variables
module _ (sheet : Sheet) where
  pub ray_texts : (ray : Bor (List ℚ)) →
      flat_map (line_view sheet (Multipliers ray)) (variables sheet.lp.now.matrix) ≡ table_text (ray_lines sheet.problem.now sheet.lp.now ray.now)
  ray_texts ray =
      lines_kept (λ k. not (eq_ℚ (value_at ray.now k) zero_ℚ)) (line_of sheet.problem.now (multiplier_values ray.now)) line_text
      (variables sheet.lp.now.matrix)

  pub pair_texts : (first second : Bor (List ℚ)) →
      flat_map (line_view sheet (Pairs first second)) (variables sheet.lp.now.matrix)
      ≡ table_text (pair_lines sheet.problem.now sheet.lp.now first.now second.now)
  pair_texts first second =
      sym (flat_map-map line_text (line_of sheet.problem.now (pair_values first.now second.now)) (variables sheet.lp.now.matrix))

  module _ (last : ℕ) (counted : last ≡ size sheet.lp.now.matrix) where
    -- the numbers from 1 to the last
    pub all_texts : (table : Table) → flat_map (line_view sheet table) (numbers_from 1 (last - 0))
        ≡ flat_map (line_view sheet table) (variables sheet.lp.now.matrix)
    all_texts table =
        let all : last - 0 ≡ size sheet.lp.now.matrix = omega arith in
        ap (λ n. flat_map (line_view sheet table) (numbers_from 1 n)) all

    pub ray_table : (ray : Bor (List ℚ)) →
        flat_map (line_view sheet (Multipliers ray)) (numbers_from 1 (last - 0)) ≡ table_text (ray_lines sheet.problem.now sheet.lp.now ray.now)
    ray_table ray = all_texts (Multipliers ray) ∙ ray_texts ray

    pub pair_table : (first second : Bor (List ℚ)) →
        flat_map (line_view sheet (Pairs first second)) (numbers_from 1 (last - 0))
        ≡ table_text (pair_lines sheet.problem.now sheet.lp.now first.now second.now)
    pair_table first second = all_texts (Pairs first second) ∙ pair_texts first second
