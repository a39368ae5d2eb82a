-- The parts in which a parametric run is written.
use Rattle.std.proofs.Common.{◌≡◌, ◌<◌, ◌≤◌, ◌-◌, ◌+◌, ℕ, List, [], ◌∷◌, ◌++◌, length, map, take, get_or, codes, sym, ◌∙◌, ap, append_assoc, arith}
use denote.Bor.{Bor}
use Rattle.std.specs.List.{concat, flat_map, enumerate_from}
use Rattle.std.proofs.lemmas.List.{append-nil, get_or-map, length-map, take_all, take_more}
use Rattle.std.proofs.lemmas.List.Concat.{flat_map-append}
use Rattle.std.proofs.lemmas.List.Folds.{flat_map-map}
use Rattle.std.proofs.lemmas.List.FromFn.{length-enumerate_from, get_or-enumerate_from}
use Rattle.exact_values.specs.Rational.{ℚ}
use Rattle.lp_definitions.specs.LinearProgram.{size, numbers_from, variables}
use Rattle.lp_model.specs.declared.reports.ParaPart.{ParaPart}
use Rattle.listing_definitions.specs.Numbers.{digits, rational_text}
use Rattle.listing_definitions.specs.declared.Solver.{Solver}
use Rattle.listing_definitions.specs.Report.{Line, ParametricInterval, UnboundedPast, InfeasiblePast, Chain}
use Rattle.listing_definitions.specs.Text.{solver_text, line_text, table_text, interval_text, chain_end_text, chain_text}
use Rattle.listing_tables.specs.declared.sheet.Sheet.{Sheet}
use Rattle.listing_tables.specs.declared.table.Table.TheVariants.{Multipliers, Pairs, Parts}
use Rattle.listing_tables.specs.Lines.{line_of, part_values, pair_lines, ray_lines}
use Rattle.listing_tables.specs.Tables.{line_view}
use Rattle.report_text.specs.Parametric.{interval_view}
use Rattle.report_text.proofs.Verdicts.{pair_texts, ray_texts}

pub chain_parts : (by : Solver) (chain : Chain) →
    concat (solver_text by ∷ codes " FROM " ∷ rational_text chain.from ∷ codes " CHANGE " ∷ chain.change ∷ codes "\n" ∷ []) ++
    (flat_map interval_text (enumerate_from 1 chain.intervals) ++ chain_end_text by chain.end) ≡ chain_text by chain
chain_parts by chain = simp (append_assoc, append-nil)

pub interval_parts : (number : ℕ) (interval : ParametricInterval) →
    concat (codes "INTERVAL " ∷ digits number ∷ codes " FROM " ∷ rational_text interval.from ∷ codes " TO " ∷ rational_text interval.to ∷ codes "\n" ∷ [])
    ++ table_text interval.lines ≡ interval_text (number, interval)
interval_parts number interval = simp (append_assoc, append-nil)

-- the line of an end, and the lines after it
unbounded_parts : (by : Solver) (past : ℚ) (lines : List Line) →
    concat (solver_text by ∷ codes " UNBOUNDED PAST " ∷ rational_text past ∷ codes "\n" ∷ []) ++ table_text lines ≡ chain_end_text by (UnboundedPast past lines)
unbounded_parts by past lines = simp (append_assoc, append-nil)

infeasible_parts : (by : Solver) (past : ℚ) (lines : List Line) →
    concat (solver_text by ∷ codes " INFEASIBLE PAST " ∷ rational_text past ∷ codes "\n" ∷ []) ++ table_text lines ≡ chain_end_text by
    (InfeasiblePast past lines)
infeasible_parts by past lines = simp (append_assoc, append-nil)

-- the same, with the lines of a table
module _ (sheet : Sheet) (by : Solver) (past : ℚ) where
  pub unbounded_text : (point direction : Bor (List ℚ)) →
      concat (solver_text by ∷ codes " UNBOUNDED PAST " ∷ rational_text past ∷ codes "\n" ∷ []) ++
      flat_map (line_view sheet (Pairs point direction)) (variables sheet.lp.now.matrix)
      ≡ chain_end_text by (UnboundedPast past (pair_lines sheet.problem.now sheet.lp.now point.now direction.now))
  unbounded_text point direction =
      ap (λ w. concat (solver_text by ∷ codes " UNBOUNDED PAST " ∷ rational_text past ∷ codes "\n" ∷ []) ++ w) (pair_texts sheet point direction)
      ∙ unbounded_parts by past (pair_lines sheet.problem.now sheet.lp.now point.now direction.now)

  pub infeasible_text : (ray : Bor (List ℚ)) →
      concat (solver_text by ∷ codes " INFEASIBLE PAST " ∷ rational_text past ∷ codes "\n" ∷ []) ++
      flat_map (line_view sheet (Multipliers ray)) (variables sheet.lp.now.matrix)
      ≡ chain_end_text by (InfeasiblePast past (ray_lines sheet.problem.now sheet.lp.now ray.now))
  infeasible_text ray =
      ap (λ w. concat (solver_text by ∷ codes " INFEASIBLE PAST " ∷ rational_text past ∷ codes "\n" ∷ []) ++ w) (ray_texts sheet ray)
      ∙ infeasible_parts by past (ray_lines sheet.problem.now sheet.lp.now ray.now)

-- a line for each variable
pub part_table : (sheet : Sheet) (last : ℕ) → last ≡ size sheet.lp.now.matrix → (part : Bor ParaPart) →
    flat_map (line_view sheet (Parts part)) (numbers_from 1 (last - 0)) ≡ table_text (interval_view sheet part.now).lines
part_table sheet last counted part =
    let count : last - 0 ≡ size sheet.lp.now.matrix = omega arith in
    ap (λ n. flat_map (line_view sheet (Parts part)) (numbers_from 1 n)) count
    ∙ sym (flat_map-map line_text (line_of sheet.problem.now (part_values sheet.lp.now part.now)) (variables sheet.lp.now.matrix))

-- Items that are numbered from 1.
module _ {X Y : Type 0} (f : X → Y) (text : ℕ × Y → List ℕ) (xs : List X) where
  -- the item at place i has the number i + 1
  pub numbered_at : (i : ℕ) (d : X) → i < length xs → text (get_or (enumerate_from 1 (map f xs)) i (0, f d)) ≡ text (i + 1, f (get_or xs i d))
  numbered_at i d inside =
      let within : i < length (map f xs) = rw (length-map xs f) inside in
      let next : 1 + i ≡ i + 1 = omega arith in
      ap text (get_or-enumerate_from 1 (map f xs) i (0, f d) within)
      ∙ ap (λ n. text (n, get_or (map f xs) i (f d))) next
      ∙ ap (λ y. text (i + 1, y)) (get_or-map f xs i d (f d) inside)

  pub numbered_inside : (i : ℕ) → i < length xs → i < length (enumerate_from 1 (map f xs))
  numbered_inside i inside = rw (length-enumerate_from 1 (map f xs), length-map xs f) inside

  -- one more of them
  pub numbered_next : (i : ℕ) (d : X) → i < length xs →
      flat_map text (take i (enumerate_from 1 (map f xs))) ++ text (i + 1, f (get_or xs i d)) ≡ flat_map text (take (i + 1) (enumerate_from 1 (map f xs)))
  numbered_next i d inside =
      let all = enumerate_from 1 (map f xs) in
      ap (λ w. flat_map text (take i all) ++ w) (sym (numbered_at i d inside) ∙ sym (append-nil (text (get_or all i (0, f d)))))
      ∙ sym (flat_map-append text (take i all) (get_or all i (0, f d) ∷ []))
      ∙ ap (flat_map text) (sym (take_more all i (0, f d) (numbered_inside i inside)))

  -- all of them
  pub numbered_all : (i : ℕ) → length xs ≤ i → flat_map text (take i (enumerate_from 1 (map f xs))) ≡ flat_map text (enumerate_from 1 (map f xs))
  numbered_all i past = ap (flat_map text) (take_all i (enumerate_from 1 (map f xs)) (omega (arith, length-enumerate_from 1 (map f xs), length-map xs f)))
