-- Verdicts are read back.
--     IsReadable solver verdict    the verb may say this
--     IsPrinted sheet verdict      its lines are those of the sheet's variables, and its count has 32 bits
use Rattle.std.proofs.Common.{◌≡◌, ℕ, ◌<◌, ◌≤◌, true, false, not, List, [], ◌∷◌, ◌++◌, Option, Some, None, codes, if◌then◌else◌, refl, sym, ap, subst, ◌∙◌}
use Rattle.std.proofs.Common.{arith, append_assoc, append-nil}
use Rattle.std.specs.Prelude.{option_map, nat_eq}
use Rattle.std.specs.Option.{option_or}
use Rattle.std.proofs.lemmas.List.{append_cancel_left}
use Rattle.std.proofs.lemmas.Bool.Decides.{nat_tests}
use Rattle.exact_values.specs.Rational.{ℚ}
use Rattle.frac128.specs.Operations.{TermsFit}
use Rattle.lp_definitions.specs.LinearProgram.{value_at, variables, size}
use Rattle.card_definitions.specs.Cards.{is_blank}
use Rattle.card_definitions.specs.Numbers.{is_digit}
use Rattle.listing_definitions.specs.declared.Solver.{Solver}
use Rattle.listing_definitions.specs.declared.Solver.TheVariants.{Primal, Dual, Paraobj, Pararhs}
use Rattle.listing_definitions.specs.Numbers.{digits, rational_text}
use Rattle.listing_definitions.specs.Report.{Number, Line, PathVerdict, OptimalAt, CrossedAt, InfeasibleBy, UnboundedBy, Check}
use Rattle.listing_definitions.specs.Text.{check_text, table_text, solver_text, verdict_head, verdict_lines, verdict_text}
use Rattle.question_definitions.specs.Answers.{Sheet}
use Rattle.answer_definitions.specs.Lines.{pair_lines, ray_lines}
use Rattle.listing_laws.proofs.Cutting.{weaker, cut}
use Rattle.listing_laws.proofs.Digits.{digits_are}
use Rattle.listing_laws.proofs.Words.{begin_otherwise}
use Rattle.walk_definitions.specs.Words.{Parsed, left_after, with_text, with_word, count_in, max_count}
use Rattle.walk_definitions.specs.Tables.{begins_table_line, pair_slots, table_in, ray_in}
use Rattle.walk_definitions.specs.Reading.{with_check, Claim, optimal_in, crossed_in, infeasible_in, unbounded_in, claim_in, verdict_in}
use Rattle.walk_definitions.proofs.Texts.{is_text}
use Rattle.fitting_answers.specs.Fitting.{LinesFit, CheckFits, VerdictFits}
use Rattle.own_listing_laws.specs.Printed.{IsReadable, IsRayOf, IsPairOf, IsPrinted}
use Rattle.own_listing_laws.proofs.Spelled.{ReadsFractions, Gives, text_first, or_else, or_first, not_there, same_rest, done, fraction_first, count_first}
use Rattle.own_listing_laws.proofs.Spelled.{check_first}
use Rattle.own_listing_laws.proofs.Tabled.{matched_of, table_read, ray_read}

-- the text of a check, and what follows it
abbrev checked : Check → List ℕ → List ℕ
checked check rest = check_text check ++ (codes "\n" ++ rest)

pub positive_apart : (k : ℕ) → 0 < k → nat_eq k 0 ≡ false
positive_apart k some = grind (arith, nat_tests, some)

-- two numbers in each line
pub pairs_read : (of : List ℕ → Option ℚ) → ReadsFractions of → (sheet : Sheet) (point direction : List ℚ) (rest : List ℕ) →
    LinesFit (pair_lines sheet point direction) →
    table_in of sheet pair_slots (variables sheet.lp.matrix) (table_text (pair_lines sheet point direction) ++ rest) ≡ Some
    (pair_lines sheet point direction, rest)
pairs_read of fractions sheet point direction rest fit =
    table_read sheet of fractions pair_slots (λ k. Number (value_at point k) ∷ Number (value_at direction k) ∷ []) (variables sheet.lp.matrix) rest
    (matched_of sheet pair_slots (λ k. Number (value_at point k) ∷ Number (value_at direction k) ∷ []) (λ k fits. fits) (variables sheet.lp.matrix) fit)

pub multipliers_read : (of : List ℕ → Option ℚ) → ReadsFractions of → (sheet : Sheet) (ray : List ℚ) (rest : List ℕ) →
    LinesFit (ray_lines sheet ray) → begins_table_line rest ≡ false →
    ray_in of sheet (variables sheet.lp.matrix) (table_text (ray_lines sheet ray) ++ rest) ≡ Some (ray_lines sheet ray, rest)
multipliers_read of fractions sheet ray rest fit other = ray_read sheet (value_at ray) rest other of fractions 1 (size sheet.lp.matrix) fit

module _ (of : List ℕ → Option ℚ) (fractions : ReadsFractions of) (sheet : Sheet) (check : Check) (check_fits : CheckFits check) (after : List ℕ) where
  -- ---- optimal

  abbrev optimal_last : ℕ → ℚ → List ℕ → Parsed Claim
  optimal_last steps objective = with_text (codes " ") (with_check (λ check rest. Some ((OptimalAt steps objective, check), rest)))

  abbrev optimal_next : ℕ → List ℕ → Parsed Claim
  optimal_next steps = with_text (codes " OBJECTIVE ") (with_word of (optimal_last steps))

  abbrev optimal_text : ℕ → ℚ → List ℕ
  optimal_text steps objective =
      codes "OPTIMAL STEPS " ++ (digits steps ++ (codes " OBJECTIVE " ++ (rational_text objective ++ (codes " " ++ checked check after))))

  optimal_read : (steps : ℕ) (objective : ℚ) → steps ≤ max_count → TermsFit objective →
      Gives (optimal_in of sheet) (optimal_text steps objective) (Some ((OptimalAt steps objective, check), after))
  optimal_read steps objective small fit =
      text_first (codes "OPTIMAL STEPS ") (with_word (count_in max_count) optimal_next) _ _ (count_first max_count steps 32 _ optimal_next _ small refl
      (text_first (codes " OBJECTIVE ") (with_word of (optimal_last steps)) _ _
      (fraction_first of fractions objective 32 _ (optimal_last steps) _ fit refl
      (text_first (codes " ") (with_check (λ check rest. Some ((OptimalAt steps objective, check), rest))) _ _
      (check_first check (λ check rest. Some ((OptimalAt steps objective, check), rest)) after ((OptimalAt steps objective, check), after) check_fits
      (done (λ rest. Some ((OptimalAt steps objective, check), rest)) after))))))

  -- ---- crossed

  abbrev crossed_last : ℕ → Check → List ℕ → Parsed Claim
  crossed_last k check rest = if nat_eq k 0 then None else Some ((CrossedAt k, check), rest)

  abbrev crossed_next : ℕ → List ℕ → Parsed Claim
  crossed_next k = with_text (codes " ") (with_check (crossed_last k))

  abbrev crossed_text : ℕ → List ℕ
  crossed_text k = codes "INFEASIBLE STEPS 0 CROSSED " ++ (digits k ++ (codes " " ++ checked check after))

  crossed_read : (k : ℕ) → 0 < k → k ≤ size sheet.lp.matrix → Gives (crossed_in sheet) (crossed_text k) (Some ((CrossedAt k, check), after))
  crossed_read k some small =
      text_first (codes "INFEASIBLE STEPS 0 CROSSED ") (with_word (count_in (size sheet.lp.matrix)) crossed_next) _ _
      (count_first (size sheet.lp.matrix) k 32 _ crossed_next _ small refl
      (text_first (codes " ") (with_check (crossed_last k)) _ _
      (check_first check (crossed_last k) after ((CrossedAt k, check), after) check_fits
      (record { of = ap (λ b. if b then None else Some ((CrossedAt k, check), after)) (positive_apart k some) }))))

  -- ---- infeasible

  abbrev infeasible_last : ℕ → Check → List ℕ → Parsed Claim
  infeasible_last steps check rest =
      option_map (λ got. ((InfeasibleBy steps got.0, check), got.1)) (ray_in of sheet (variables sheet.lp.matrix) rest)

  abbrev infeasible_next : ℕ → List ℕ → Parsed Claim
  infeasible_next steps = with_text (codes " RAY ") (with_check (infeasible_last steps))

  abbrev infeasible_text : ℕ → List Line → List ℕ
  infeasible_text steps lines = codes "INFEASIBLE STEPS " ++ (digits steps ++ (codes " RAY " ++ checked check (table_text lines ++ after)))

  infeasible_read : (steps : ℕ) (ray : List ℚ) → steps ≤ max_count → LinesFit (ray_lines sheet ray) → begins_table_line after ≡ false →
      Gives (infeasible_in of sheet) (infeasible_text steps (ray_lines sheet ray))
      (Some ((InfeasibleBy steps (ray_lines sheet ray), check), after))
  infeasible_read steps ray small fit other =
      text_first (codes "INFEASIBLE STEPS ") (with_word (count_in max_count) infeasible_next) _ _ (count_first max_count steps 32 _ infeasible_next _ small refl
      (text_first (codes " RAY ") (with_check (infeasible_last steps)) _ _
      (check_first check (infeasible_last steps) (table_text (ray_lines sheet ray) ++ after)
      ((InfeasibleBy steps (ray_lines sheet ray), check), after) check_fits
      (record {
        of = ap (option_map (λ (got : List Line × List ℕ). ((InfeasibleBy steps got.0, check), got.1)))
            (multipliers_read of fractions sheet ray after fit other);
      }))))

  -- ---- unbounded

  abbrev unbounded_last : ℕ → ℚ → Check → List ℕ → Parsed Claim
  unbounded_last steps objective check rest =
      option_map (λ got. ((UnboundedBy steps objective got.0, check), got.1))
      (table_in of sheet pair_slots (variables sheet.lp.matrix) rest)

  abbrev unbounded_then : ℕ → ℚ → List ℕ → Parsed Claim
  unbounded_then steps objective = with_text (codes " ") (with_check (unbounded_last steps objective))

  abbrev unbounded_next : ℕ → List ℕ → Parsed Claim
  unbounded_next steps = with_text (codes " OBJECTIVE ") (with_word of (unbounded_then steps))

  abbrev unbounded_text : ℕ → ℚ → List Line → List ℕ
  unbounded_text steps objective lines =
      codes "UNBOUNDED STEPS " ++
      (digits steps ++ (codes " OBJECTIVE " ++ (rational_text objective ++ (codes " " ++ checked check (table_text lines ++ after)))))

  unbounded_read : (steps : ℕ) (objective : ℚ) (point direction : List ℚ) → steps ≤ max_count → TermsFit objective →
      LinesFit (pair_lines sheet point direction) →
      Gives (unbounded_in of sheet) (unbounded_text steps objective (pair_lines sheet point direction))
      (Some ((UnboundedBy steps objective (pair_lines sheet point direction), check), after))
  unbounded_read steps objective point direction small fit lines_fit =
      text_first (codes "UNBOUNDED STEPS ") (with_word (count_in max_count) unbounded_next) _ _ (count_first max_count steps 32 _ unbounded_next _ small refl
      (text_first (codes " OBJECTIVE ") (with_word of (unbounded_then steps)) _ _
      (fraction_first of fractions objective 32 _ (unbounded_then steps) _ fit refl
      (text_first (codes " ") (with_check (unbounded_last steps objective)) _ _
      (check_first check (unbounded_last steps objective) (table_text (pair_lines sheet point direction) ++ after)
      ((UnboundedBy steps objective (pair_lines sheet point direction), check), after) check_fits
      (record {
        of = ap (option_map (λ (got : List Line × List ℕ). ((UnboundedBy steps objective got.0, check), got.1)))
            (pairs_read of fractions sheet point direction after lines_fit);
      }))))))

  -- ---- any of them

  digit_is_no_blank : (x : ℕ) → is_digit x ≡ true → not (is_blank x) ≡ true
  digit_is_no_blank x e = grind (arith, nat_tests, e)

  -- a ray isn't a crossed variable
  no_crossed : (steps : ℕ) (lines : List Line) → left_after (codes "INFEASIBLE STEPS 0 CROSSED ") (infeasible_text steps lines) ≡ None
  no_crossed steps lines = by (left_after (codes "INFEASIBLE STEPS 0 CROSSED ") (infeasible_text steps lines)) refl
    where
      more : List ℕ
      more = codes "RAY " ++ checked check (table_text lines ++ after)

      by : (o : Option (List ℕ)) → left_after (codes "INFEASIBLE STEPS 0 CROSSED ") (infeasible_text steps lines) ≡ o → o ≡ None
      by None e = refl
      by (Some left) e =
          let both : digits steps ++ 32 ∷ more ≡ codes "0" ++ 32 ∷ (codes "CROSSED " ++ left) =
          append_cancel_left (codes "INFEASIBLE STEPS ") (digits steps ++ 32 ∷ more) (codes "0" ++ 32 ∷ (codes "CROSSED " ++ left))
          (is_text (codes "INFEASIBLE STEPS 0 CROSSED ") (infeasible_text steps lines) left e) in
          let rest =
          (cut is_blank (digits steps) (codes "0") 32 32 more (codes "CROSSED " ++ left)
          (weaker is_digit (λ x. not (is_blank x)) (digits steps) digit_is_no_blank (digits_are steps)) refl refl refl both).1 in
          absurd (begin_otherwise 2 (32 ∷ more) (32 ∷ (codes "CROSSED " ++ left)) refl rest)

  abbrev later_claims : List ℕ → Parsed Claim
  later_claims rest = option_or (infeasible_in of sheet rest) (unbounded_in of sheet rest)

  abbrev unproved_claims : List ℕ → Parsed Claim
  unproved_claims rest = option_or (crossed_in sheet rest) (later_claims rest)

  abbrev bounded_claims : List ℕ → Parsed Claim
  bounded_claims rest = option_or (crossed_in sheet rest) (infeasible_in of sheet rest)

  abbrev Read : (List ℕ → Parsed Claim) → List ℕ → PathVerdict → Type 0
  Read reads text verdict = Gives reads text (Some ((verdict, check), after))

  no_optimal : (rest : List ℕ) → left_after (codes "OPTIMAL STEPS ") rest ≡ None → optimal_in of sheet rest ≡ None
  no_optimal rest none = not_there (codes "OPTIMAL STEPS ") (with_word (count_in max_count) optimal_next) rest none

  crossed_after : (rest : List ℕ) → left_after (codes "INFEASIBLE STEPS 0 CROSSED ") rest ≡ None → crossed_in sheet rest ≡ None
  crossed_after rest none = not_there (codes "INFEASIBLE STEPS 0 CROSSED ") (with_word (count_in (size sheet.lp.matrix)) crossed_next) rest none

  infeasible_after : (rest : List ℕ) → left_after (codes "INFEASIBLE STEPS ") rest ≡ None → infeasible_in of sheet rest ≡ None
  infeasible_after rest none = not_there (codes "INFEASIBLE STEPS ") (with_word (count_in max_count) infeasible_next) rest none

  unproved_crossed : (k : ℕ) → 0 < k → k ≤ size sheet.lp.matrix → Read unproved_claims (crossed_text k) (CrossedAt k)
  unproved_crossed k some small = or_first (crossed_in sheet) later_claims (crossed_text k) _ (crossed_read k some small)

  unproved_unbounded : (steps : ℕ) (objective : ℚ) (point direction : List ℚ) → steps ≤ max_count → TermsFit objective →
      LinesFit (pair_lines sheet point direction) →
      Read unproved_claims (unbounded_text steps objective (pair_lines sheet point direction)) (UnboundedBy steps objective (pair_lines sheet point direction))
  unproved_unbounded steps objective point direction small fit lines_fit =
      let text = unbounded_text steps objective (pair_lines sheet point direction) in
      or_else (crossed_in sheet) later_claims text _ (crossed_after text refl)
      (or_else (infeasible_in of sheet) (unbounded_in of sheet) text _
      (infeasible_after text refl) (unbounded_read steps objective point direction small fit lines_fit))

  abbrev claim_text : PathVerdict → List ℕ
  claim_text verdict = verdict_head verdict ++ (codes " " ++ checked check (table_text (verdict_lines verdict) ++ after))

  as_optimal : (first steps word objective rest : List ℕ) →
      (first ++ (steps ++ (word ++ (objective ++ [])))) ++ rest ≡ first ++ (steps ++ (word ++ (objective ++ rest)))
  as_optimal first steps word objective rest = simp (append_assoc, append-nil)

  as_infeasible : (first steps ray rest : List ℕ) → (first ++ (steps ++ (ray ++ []))) ++ (codes " " ++ rest) ≡ first ++ (steps ++ (ray ++ (codes " " ++ rest)))
  as_infeasible first steps ray rest = simp (append_assoc, append-nil)

  -- the lines are those of a ray, or of a point and a direction
  ray_alone : (steps : ℕ) (lines : List Line) → IsRayOf sheet steps lines → LinesFit lines → begins_table_line after ≡ false →
      Read (infeasible_in of sheet) (infeasible_text steps lines) (InfeasibleBy steps lines)
  ray_alone steps lines printed fit other =
      subst (λ (ls : List Line). Read (infeasible_in of sheet) (infeasible_text steps ls) (InfeasibleBy steps ls))
      (sym printed.are_lines) (infeasible_read steps printed.ray printed.small (subst LinesFit printed.are_lines fit) other)

  ray_case : (steps : ℕ) (lines : List Line) → IsRayOf sheet steps lines → LinesFit lines → begins_table_line after ≡ false →
      Read unproved_claims (infeasible_text steps lines) (InfeasibleBy steps lines)
  ray_case steps lines printed fit other =
      or_else (crossed_in sheet) later_claims (infeasible_text steps lines) _ (crossed_after (infeasible_text steps lines) (no_crossed steps lines))
      (or_first (infeasible_in of sheet) (unbounded_in of sheet) (infeasible_text steps lines) _
      (ray_alone steps lines printed fit other))

  pair_case : (steps : ℕ) (objective : ℚ) (lines : List Line) → IsPairOf sheet steps lines → TermsFit objective → LinesFit lines →
      Read unproved_claims (unbounded_text steps objective lines) (UnboundedBy steps objective lines)
  pair_case steps objective lines printed fit lines_fit =
      subst (λ (ls : List Line). Read unproved_claims (unbounded_text steps objective ls) (UnboundedBy steps objective ls)) (sym printed.are_lines)
      (unproved_unbounded steps objective printed.point printed.direction printed.small fit (subst LinesFit printed.are_lines lines_fit))

  claim_read : (solver : Solver) (verdict : PathVerdict) → IsReadable solver verdict → IsPrinted sheet verdict → VerdictFits verdict →
      begins_table_line after ≡ false → Read (claim_in of sheet solver) (claim_text verdict) verdict
  claim_read Primal (OptimalAt steps objective) is printed fit other =
      same_rest (claim_in of sheet Primal) _ (optimal_text steps objective) _
      (as_optimal (codes "OPTIMAL STEPS ") (digits steps) (codes " OBJECTIVE ") (rational_text objective) (codes " " ++ checked check after))
      (or_first (optimal_in of sheet) unproved_claims (optimal_text steps objective) _
      (optimal_read steps objective printed fit))
  claim_read Primal (CrossedAt k) is printed fit other =
      same_rest (claim_in of sheet Primal) _ (crossed_text k) _
      (append_assoc (codes "INFEASIBLE STEPS 0 CROSSED ") (digits k) (codes " " ++ checked check after))
      (or_else (optimal_in of sheet) unproved_claims (crossed_text k) _ (no_optimal (crossed_text k) refl)
      (unproved_crossed k printed.0 printed.1))
  claim_read Primal (InfeasibleBy steps lines) is printed fit other =
      let same = as_infeasible (codes "INFEASIBLE STEPS ") (digits steps) (codes " RAY") (checked check (table_text lines ++ after)) in
      same_rest (claim_in of sheet Primal) _ (infeasible_text steps lines) _ same
      (or_else (optimal_in of sheet) unproved_claims (infeasible_text steps lines) _
      (no_optimal (infeasible_text steps lines) refl) (ray_case steps lines printed fit other))
  claim_read Primal (UnboundedBy steps objective lines) is printed fit other =
      same_rest (claim_in of sheet Primal) _ (unbounded_text steps objective lines) _
      (as_optimal (codes "UNBOUNDED STEPS ") (digits steps) (codes " OBJECTIVE ") (rational_text objective)
      (codes " " ++ checked check (table_text lines ++ after)))
      (or_else (optimal_in of sheet) unproved_claims (unbounded_text steps objective lines) _
      (no_optimal (unbounded_text steps objective lines) refl) (pair_case steps objective lines printed fit.0 fit.1))
  claim_read Dual (OptimalAt steps objective) is printed fit other =
      same_rest (claim_in of sheet Dual) _ (optimal_text steps objective) _
      (as_optimal (codes "OPTIMAL STEPS ") (digits steps) (codes " OBJECTIVE ") (rational_text objective) (codes " " ++ checked check after))
      (or_first (optimal_in of sheet) bounded_claims (optimal_text steps objective) _ (optimal_read steps objective printed fit))
  claim_read Dual (CrossedAt k) is printed fit other =
      same_rest (claim_in of sheet Dual) _ (crossed_text k) _
      (append_assoc (codes "INFEASIBLE STEPS 0 CROSSED ") (digits k) (codes " " ++ checked check after))
      (or_else (optimal_in of sheet) bounded_claims (crossed_text k) _ (no_optimal (crossed_text k) refl)
      (or_first (crossed_in sheet) (infeasible_in of sheet) (crossed_text k) _ (crossed_read k printed.0 printed.1)))
  claim_read Dual (InfeasibleBy steps lines) is printed fit other =
      let same = as_infeasible (codes "INFEASIBLE STEPS ") (digits steps) (codes " RAY") (checked check (table_text lines ++ after)) in
      same_rest (claim_in of sheet Dual) _ (infeasible_text steps lines) _ same
      (or_else (optimal_in of sheet) bounded_claims (infeasible_text steps lines) _
      (no_optimal (infeasible_text steps lines) refl)
      (or_else (crossed_in sheet) (infeasible_in of sheet) (infeasible_text steps lines) _
      (crossed_after (infeasible_text steps lines) (no_crossed steps lines)) (ray_alone steps lines printed fit other)))
  claim_read Dual (UnboundedBy steps objective lines) is printed fit other = absurd is
  claim_read Paraobj (OptimalAt steps objective) is printed fit other = absurd is
  claim_read Paraobj (CrossedAt k) is printed fit other =
      same_rest (claim_in of sheet Paraobj) _ (crossed_text k) _
      (append_assoc (codes "INFEASIBLE STEPS 0 CROSSED ") (digits k) (codes " " ++ checked check after)) (unproved_crossed k printed.0 printed.1)
  claim_read Paraobj (InfeasibleBy steps lines) is printed fit other =
      let same = as_infeasible (codes "INFEASIBLE STEPS ") (digits steps) (codes " RAY") (checked check (table_text lines ++ after)) in
      same_rest (claim_in of sheet Paraobj) _ (infeasible_text steps lines) _ same (ray_case steps lines printed fit other)
  claim_read Paraobj (UnboundedBy steps objective lines) is printed fit other =
      same_rest (claim_in of sheet Paraobj) _ (unbounded_text steps objective lines) _
      (as_optimal (codes "UNBOUNDED STEPS ") (digits steps) (codes " OBJECTIVE ") (rational_text objective)
      (codes " " ++ checked check (table_text lines ++ after))) (pair_case steps objective lines printed fit.0 fit.1)
  claim_read Pararhs (OptimalAt steps objective) is printed fit other = absurd is
  claim_read Pararhs (CrossedAt k) is printed fit other =
      same_rest (claim_in of sheet Pararhs) _ (crossed_text k) _
      (append_assoc (codes "INFEASIBLE STEPS 0 CROSSED ") (digits k) (codes " " ++ checked check after)) (unproved_crossed k printed.0 printed.1)
  claim_read Pararhs (InfeasibleBy steps lines) is printed fit other =
      let same = as_infeasible (codes "INFEASIBLE STEPS ") (digits steps) (codes " RAY") (checked check (table_text lines ++ after)) in
      same_rest (claim_in of sheet Pararhs) _ (infeasible_text steps lines) _ same (ray_case steps lines printed fit other)
  claim_read Pararhs (UnboundedBy steps objective lines) is printed fit other =
      same_rest (claim_in of sheet Pararhs) _ (unbounded_text steps objective lines) _
      (as_optimal (codes "UNBOUNDED STEPS ") (digits steps) (codes " OBJECTIVE ") (rational_text objective)
      (codes " " ++ checked check (table_text lines ++ after))) (pair_case steps objective lines printed fit.0 fit.1)

  as_verdict : (solver head check lines : List ℕ) →
      (solver ++ (codes " " ++ (head ++ (codes " " ++ (check ++ (codes "\n" ++ (lines ++ []))))))) ++ after ≡ (solver ++ codes " ") ++
      (head ++ (codes " " ++ (check ++ (codes "\n" ++ (lines ++ after)))))
  as_verdict solver head check lines = simp (append_assoc, append-nil)

  pub verdict_read : (solver : Solver) (verdict : PathVerdict) → IsReadable solver verdict → IsPrinted sheet verdict → VerdictFits verdict →
      begins_table_line after ≡ false →
      verdict_in of sheet solver (verdict_text solver verdict check ++ after) ≡ Some ((verdict, check), after)
  verdict_read solver verdict is printed fit other =
      ap (verdict_in of sheet solver)
      (as_verdict (solver_text solver) (verdict_head verdict) (check_text check) (table_text (verdict_lines verdict)))
      ∙ (text_first (solver_text solver ++ codes " ") (claim_in of sheet solver) (claim_text verdict) _
      (claim_read solver verdict is printed fit other)).of
