-- The intervals of a run, as they are printed with the selected linear program, and as they are defined with that at the first value.
use Rattle.std.proofs.Common.{◌≡◌, ℕ, Bool, false, List, [], ◌∷◌, map, refl, sym, ap, ap₂, ◌∙◌, arith, if◌then◌else◌}
use Rattle.exact_values.specs.Rational.{ℚ}
use Rattle.lp_definitions.specs.LinearProgram.{LinearProgram, IsVariable, size, value_at, variables}
use Rattle.lp_definitions.specs.Basis.{status_of}
use Rattle.lp_definitions.specs.declared.Status.{Status}
use Rattle.lp_definitions.specs.declared.Status.TheVariants.{Bs, Ll, Ul, Fr}
use Rattle.lp_model.specs.declared.reports.ParaEnd.{ParaEnd}
use Rattle.lp_model.specs.declared.reports.ParaEnd.TheVariants as ends
use Rattle.lp_model.specs.declared.reports.ParaPart.{ParaPart}
use Rattle.lp_model.specs.declared.reports.ParaRun.{ParaRun}
use Rattle.simplex_definitions.specs.Moves.{is_fixed}
use Rattle.simplex_laws.proofs.Numbered.{map_same}
use Rattle.sensitivity_laws.proofs.MovedLimits.{fixed_same}
use Rattle.problem_definitions.specs.Names.{Name}
use Rattle.listing_definitions.specs.declared.At.{At}
use Rattle.listing_definitions.specs.declared.At.TheVariants.{Equal, Lower, Upper, Free}
use Rattle.listing_definitions.specs.Report.{Value, Code, Number}
use Rattle.question_definitions.specs.Answers.{Basis, Changing, Row, Set}
use Rattle.answer_definitions.specs.Lines as defined
use Rattle.answer_definitions.specs.ParametricRuns as defined_runs
use Rattle.answer_definitions.specs.ParametricRuns.{shifts_of, family_of, sheet_at, interval_of}
use Rattle.listing_tables.specs.declared.sheet.Sheet.{Sheet as OwnSheet}
use Rattle.listing_tables.specs.Lines as printed
use Rattle.report_text.specs.Parametric.{interval_view, end_view, chain_view}
use Rattle.parametric_run.specs.Calls.{part_of, end_of}
use Rattle.run_definitions.specs.Verbs.{last_value}
use Rattle.verb_answers.specs.Reports.{sheet_view}
use Rattle.solving_verbs.specs.ParametricVerbs.{value_left}

-- ---- where a variable stands

module _ (p : LinearProgram) (s : Basis) where
  at_lower : (k : ℕ) → status_of s k ≡ Ll → defined.standing p s k ≡ (if is_fixed p k then Equal else Lower)
  at_lower k e = rw e refl

  at_upper : (k : ℕ) → status_of s k ≡ Ul → defined.standing p s k ≡ (if is_fixed p k then Equal else Upper)
  at_upper k e = rw e refl

  at_free : (k : ℕ) → status_of s k ≡ Fr → defined.standing p s k ≡ (if is_fixed p k then Equal else Free)
  at_free k e = rw e refl

  -- where another program fixes the same variables, it stands there too
  stands_same : (q : LinearProgram) (k : ℕ) (st : Status) → status_of s k ≡ st → is_fixed p k ≡ is_fixed q k →
      printed.at_by (status_of s k) false (is_fixed q k) ≡ defined.standing p s k
  stands_same q k Bs e fixed = rw e refl
  stands_same q k Ll e fixed =
      ap (λ st. printed.at_by st false (is_fixed q k)) e ∙ ap (λ (b : Bool). if b then Equal else Lower) (sym fixed) ∙ sym (at_lower k e)
  stands_same q k Ul e fixed =
      ap (λ st. printed.at_by st false (is_fixed q k)) e ∙ ap (λ (b : Bool). if b then Equal else Upper) (sym fixed) ∙ sym (at_upper k e)
  stands_same q k Fr e fixed = ap (λ st. printed.at_by st false (is_fixed q k)) e ∙ ap (λ (b : Bool). if b then Equal else Free) (sym fixed) ∙ sym (at_free k e)

-- ---- intervals

module _ (sheet : OwnSheet) (p : LinearProgram) (fixes : (k : ℕ) → IsVariable sheet.lp.now.matrix k → is_fixed p k ≡ is_fixed sheet.lp.now k) where
  values_same : (part : ParaPart) (k : ℕ) → IsVariable sheet.lp.now.matrix k →
      printed.part_values sheet.lp.now part k ≡ defined_runs.part_values p (part_of part) k
  values_same part k is =
      ap (λ (at : At). Code at ∷ Number (value_at part.value k) ∷ Number (value_at part.value_rate k) ∷ Number (value_at part.price k) ∷ Number
      (value_at part.price_rate k) ∷ [])
      (stands_same p part.statuses sheet.lp.now k (status_of part.statuses k) refl (fixes k is))

  lines_same : (part : ParaPart) →
      printed.lines_of sheet.problem.now (printed.part_values sheet.lp.now part) (variables sheet.lp.now.matrix)
      ≡ defined.lines_of (record { problem = sheet.problem.now; lp = p }) (defined_runs.part_values p (part_of part)) (variables sheet.lp.now.matrix)
  lines_same part =
      map_same (printed.line_of sheet.problem.now (printed.part_values sheet.lp.now part))
      (printed.line_of sheet.problem.now (defined_runs.part_values p (part_of part))) (size sheet.lp.now.matrix) 1
      (λ k low high. ap (λ (values : List Value). record { number = k; name = printed.name_of sheet.problem.now k; values = values })
      (values_same part k (low, omega (arith, high))))

module _ (sheet : OwnSheet) where
  interval_same : (changing : Changing) (from : ℚ) (part : ParaPart) →
      interval_view sheet part ≡ interval_of (sheet_at (sheet_view sheet) changing from) (part_of part)
  interval_same (Row name) from part =
      λ i. record { from = part.from; to = part.to; lines = lines_same sheet (family_of (sheet_view sheet) (Row name) from) (λ k is. refl) part i }
  interval_same (Set name) from part = λ i. record {
    from = part.from;
    to = part.to;
    lines =
        lines_same sheet (family_of (sheet_view sheet) (Set name) from) (λ k is. fixed_same sheet.lp.now (shifts_of sheet.problem.now name) from k is) part i;
  }

  intervals_same : (changing : Changing) (from : ℚ) (parts : List ParaPart) →
      map (interval_view sheet) parts ≡ map (interval_of (sheet_at (sheet_view sheet) changing from)) (map part_of parts)
  intervals_same changing from [] = refl
  intervals_same changing from (part ∷ parts) = ap₂ (λ x xs. x ∷ xs) (interval_same changing from part) (intervals_same changing from parts)

  end_same : (to : ℚ) (end : ParaEnd) → end_view sheet to end ≡ defined_runs.end_of (sheet_view sheet) to (end_of end)
  end_same to ends.AtMax = refl
  end_same to (ends.Unbounded past point direction) = refl
  end_same to (ends.Infeasible past ray) = refl

  pub last_same : (to : ℚ) (end : ParaEnd) → last_value (defined_runs.end_of (sheet_view sheet) to (end_of end)) ≡ value_left to end
  last_same to ends.AtMax = refl
  last_same to (ends.Unbounded past point direction) = refl
  last_same to (ends.Infeasible past ray) = refl

  -- the whole run
  pub chain_same : (changing : Changing) (change : Name) (from to : ℚ) (run : ParaRun) →
      chain_view sheet change from to run ≡ record {
        from = from;
        change = change;
        intervals = map (interval_of (sheet_at (sheet_view sheet) changing from)) (map part_of run.parts);
        end = defined_runs.end_of (sheet_view sheet) to (end_of run.end);
      }
  chain_same changing change from to run =
      λ i. record { from = from; change = change; intervals = intervals_same changing from run.parts i; end = end_same to run.end i }
