-- Checks and verdicts tell their text.
use Rattle.std.proofs.Common.{Option, ◌≡◌, ℕ, List, [], ◌∷◌, ◌++◌, codes, sym, append_assoc, append-nil}
use Rattle.std.specs.Prelude.{nat_eq}
use Rattle.frac128.specs.declared.Op.TheVariants.{Add, Sub, Mul, Div}
use Rattle.lp_definitions.specs.LinearProgram.{variables, size}
use Rattle.card_definitions.specs.Words.{named}
use Rattle.listing_definitions.specs.declared.Solver.{Solver}
use Rattle.listing_definitions.specs.declared.Solver.TheVariants.{Primal, Dual, Paraobj, Pararhs}
use Rattle.listing_definitions.specs.Numbers.{digits, rational_text}
use Rattle.listing_definitions.specs.Report.{OptimalAt, CrossedAt, InfeasibleBy, UnboundedBy, Check, Checked, Unchecked}
use Rattle.listing_definitions.specs.Text.{operation_text, check_text, table_text, solver_text, verdict_head, verdict_lines, verdict_text}
use Rattle.question_definitions.specs.Answers.{Sheet}
use Rattle.exact_values.specs.Rational.{ℚ}
use Rattle.walk_definitions.specs.Checkers.{checker_of_128_bits}
use Rattle.walk_definitions.specs.Words.{Parsed, fraction_in, count_in, max_count}
use Rattle.walk_definitions.specs.Forms.{all_operations}
use Rattle.walk_definitions.specs.Tables.{pair_slots, table_in, ray_in}
use Rattle.walk_definitions.specs.Reading.{with_check, Claim, optimal_in, crossed_in, infeasible_in, unbounded_in, claim_in, verdict_in}
use Rattle.walk_laws.proofs.Pieces.{Tells, Spells, after_text, after_word, either, done, unless, made, same_before, same_text, behind, named_spells}
use Rattle.walk_laws.proofs.Pieces.{fraction_spells, count_spells}
use Rattle.walk_laws.proofs.Lines.{table_tells, ray_tells}

-- ---- checks

operation_spells : Spells (named all_operations) operation_text
operation_spells = named_spells operation_text (Add ∷ Sub ∷ Mul ∷ Div ∷ [])

as_check : (before op left right : List ℕ) →
    (((((before ++ codes "UNCHECKED ") ++ op) ++ codes " ") ++ left) ++ codes " ") ++ right ++ codes "\n" ≡ before ++
    ((codes "UNCHECKED " ++ (op ++ (codes " " ++ (left ++ (codes " " ++ (right ++ [])))))) ++ codes "\n")
as_check before op left right = simp (append_assoc, append-nil)

pub after_check : {X : Type 0} (before : List ℕ) (reads : Check → List ℕ → Parsed X) (whole : X → List ℕ) →
    ((check : Check) → Tells (before ++ (check_text check ++ codes "\n")) (reads check) whole) → Tells before (with_check reads) whole
after_check before reads whole tells =
    either before _ _ whole (after_text before (codes "CHECKED\n") (reads Checked) whole (tells Checked))
    (after_text before (codes "UNCHECKED ") _ whole (after_word _ (named all_operations) operation_text _ whole operation_spells (λ op.
    after_text _ (codes " ") _ whole (after_word _ (fraction_in checker_of_128_bits) rational_text _ whole (fraction_spells checker_of_128_bits) (λ left.
    after_text _ (codes " ") _ whole (after_word _ (fraction_in checker_of_128_bits) rational_text _ whole (fraction_spells checker_of_128_bits) (λ right.
    after_text _ (codes "\n") _ whole (same_before _ _ _ whole (sym (as_check before (operation_text op) (rational_text left) (rational_text right)))
    (tells (Unchecked (record { op = op; left = left; right = right })))))))))))

-- ---- claims

abbrev pub claim_text : Claim → List ℕ
claim_text claim = verdict_head claim.0 ++ (codes " " ++ (check_text claim.1 ++ (codes "\n" ++ table_text (verdict_lines claim.0))))

as_optimal : (steps objective check : List ℕ) →
    ((((codes "OPTIMAL STEPS " ++ steps) ++ codes " OBJECTIVE ") ++ objective) ++ codes " ") ++ (check ++ codes "\n") ≡
    (codes "OPTIMAL STEPS " ++ (steps ++ (codes " OBJECTIVE " ++ (objective ++ [])))) ++ (codes " " ++ (check ++ (codes "\n" ++ [])))
as_optimal steps objective check = simp (append_assoc, append-nil)

as_crossed : (number check : List ℕ) →
    ((codes "INFEASIBLE STEPS 0 CROSSED " ++ number) ++ codes " ") ++ (check ++ codes "\n") ≡ (codes "INFEASIBLE STEPS 0 CROSSED " ++ number) ++
    (codes " " ++ (check ++ (codes "\n" ++ [])))
as_crossed number check = simp (append_assoc, append-nil)

as_infeasible : (first steps ray blank check end lines : List ℕ) →
    (((first ++ steps) ++ (ray ++ blank)) ++ (check ++ end)) ++ lines ≡ (first ++ (steps ++ (ray ++ []))) ++ (blank ++ (check ++ (end ++ lines)))
as_infeasible first steps ray blank check end lines = simp (append_assoc, append-nil)

as_unbounded : (first steps then objective blank check end lines : List ℕ) → (((((first ++ steps) ++ then) ++ objective) ++ blank) ++ (check ++ end)) ++ lines ≡
    (first ++ (steps ++ (then ++ (objective ++ [])))) ++ (blank ++ (check ++ (end ++ lines)))
as_unbounded first steps then objective blank check end lines = simp (append_assoc, append-nil)

as_verdict : (solver head check lines : List ℕ) →
    (solver ++ codes " ") ++ (head ++ (codes " " ++ (check ++ (codes "\n" ++ lines)))) ≡ solver ++
    (codes " " ++ (head ++ (codes " " ++ (check ++ (codes "\n" ++ (lines ++ []))))))
as_verdict solver head check lines = simp (append_assoc, append-nil)

module _ (of : List ℕ → Option ℚ) (spells : Spells of rational_text) (sheet : Sheet) where
  optimal_tells : Tells [] (optimal_in of sheet) claim_text
  optimal_tells =
      after_text [] (codes "OPTIMAL STEPS ") _ claim_text (after_word _ (count_in max_count) digits _ claim_text (count_spells max_count) (λ steps.
      after_text _ (codes " OBJECTIVE ") _ claim_text (after_word _ of rational_text _ claim_text spells (λ objective.
      after_text _ (codes " ") _ claim_text (after_check _ _ claim_text (λ check.
      done _ (OptimalAt steps objective, check) claim_text (as_optimal (digits steps) (rational_text objective) (check_text check))))))))

  crossed_tells : Tells [] (crossed_in sheet) claim_text
  crossed_tells =
      after_text [] (codes "INFEASIBLE STEPS 0 CROSSED ") _ claim_text
      (after_word _ (count_in (size sheet.lp.matrix)) digits _ claim_text (count_spells (size sheet.lp.matrix)) (λ k.
      after_text _ (codes " ") _ claim_text (after_check _ _ claim_text (λ check.
      unless (λ rest. nat_eq k 0) _ _ claim_text (done _ (CrossedAt k, check) claim_text (as_crossed (digits k) (check_text check)))))))

  infeasible_tells : Tells [] (infeasible_in of sheet) claim_text
  infeasible_tells =
      after_text [] (codes "INFEASIBLE STEPS ") _ claim_text (after_word _ (count_in max_count) digits _ claim_text (count_spells max_count) (λ steps.
      after_text _ (codes " RAY ") _ claim_text (after_check _ _ claim_text (λ check.
      made _ (ray_in of sheet (variables sheet.lp.matrix)) table_text (λ lines. (InfeasibleBy steps lines, check)) claim_text
      (ray_tells of spells sheet (variables sheet.lp.matrix))
      (λ lines. as_infeasible (codes "INFEASIBLE STEPS ") (digits steps) (codes " RAY") (codes " ") (check_text check) (codes "\n") (table_text lines))))))

  unbounded_tells : Tells [] (unbounded_in of sheet) claim_text
  unbounded_tells =
      after_text [] (codes "UNBOUNDED STEPS ") _ claim_text (after_word _ (count_in max_count) digits _ claim_text (count_spells max_count) (λ steps.
      after_text _ (codes " OBJECTIVE ") _ claim_text (after_word _ of rational_text _ claim_text spells (λ objective.
      after_text _ (codes " ") _ claim_text (after_check _ _ claim_text (λ check.
      made _ (table_in of sheet pair_slots (variables sheet.lp.matrix)) table_text (λ lines. (UnboundedBy steps objective lines, check)) claim_text
      (table_tells of spells sheet pair_slots (variables sheet.lp.matrix))
      (λ lines. as_unbounded (codes "UNBOUNDED STEPS ") (digits steps) (codes " OBJECTIVE ") (rational_text objective) (codes " ") (check_text check)
      (codes "\n") (table_text lines))))))))

  claim_tells : (solver : Solver) → Tells [] (claim_in of sheet solver) claim_text
  claim_tells Primal =
      either [] (optimal_in of sheet) _ claim_text optimal_tells
      (either [] (crossed_in sheet) _ claim_text crossed_tells
      (either [] (infeasible_in of sheet) (unbounded_in of sheet) claim_text infeasible_tells unbounded_tells))
  claim_tells Dual =
      either [] (optimal_in of sheet) _ claim_text optimal_tells
      (either [] (crossed_in sheet) (infeasible_in of sheet) claim_text crossed_tells infeasible_tells)
  claim_tells Paraobj =
      either [] (crossed_in sheet) _ claim_text crossed_tells
      (either [] (infeasible_in of sheet) (unbounded_in of sheet) claim_text infeasible_tells unbounded_tells)
  claim_tells Pararhs =
      either [] (crossed_in sheet) _ claim_text crossed_tells
      (either [] (infeasible_in of sheet) (unbounded_in of sheet) claim_text infeasible_tells unbounded_tells)

  pub verdict_tells : (solver : Solver) → Tells [] (verdict_in of sheet solver) (λ claim. verdict_text solver claim.0 claim.1)
  verdict_tells solver =
      after_text [] (solver_text solver ++ codes " ") (claim_in of sheet solver) _
      (same_text _ (claim_in of sheet solver) _ _ (behind (solver_text solver ++ codes " ") (claim_in of sheet solver) claim_text (claim_tells solver))
      (λ claim. as_verdict (solver_text solver) (verdict_head claim.0) (check_text claim.1) (table_text (verdict_lines claim.0))))
