-- What a verdict tells by its form alone, as it is read after the name of a verb.
use Rattle.std.proofs.Common.{Option, ◌≡◌, ℕ, List, ◌++◌, Some, None, arith, codes, nat_eq, option_map, IfSome}
use Rattle.std.specs.Prelude.{if◌then◌else◌}
use Rattle.std.specs.Option.{option_or}
use Rattle.std.proofs.lemmas.Bool.Decides.{nat_tests}
use Rattle.exact_values.specs.Rational.{ℚ}
use Rattle.lp_definitions.specs.LinearProgram.{size, IsVariable, variables}
use Rattle.listing_definitions.specs.declared.Solver.{Solver}
use Rattle.listing_definitions.specs.declared.Solver.TheVariants.{Primal, Dual, Paraobj, Pararhs}
use Rattle.listing_definitions.specs.Report.{Line, PathVerdict, OptimalAt, CrossedAt, InfeasibleBy, UnboundedBy}
use Rattle.listing_definitions.specs.Text.{solver_text}
use Rattle.question_definitions.specs.Answers.{Sheet}
use Rattle.answer_definitions.specs.Lines.{pair_lines, ray_lines}
use Rattle.walk_definitions.specs.Words.{count_in, max_count}
use Rattle.walk_definitions.specs.Tables.{pair_slots, table_in, ray_in, multipliers, column_of}
use Rattle.walk_definitions.specs.Reading.{Claim, optimal_in, crossed_in, infeasible_in, unbounded_in, claim_in, verdict_in}
use Rattle.walk_laws.proofs.Readings.{after_text, after_word, after_check, one_or_other, if_none_else, mapped, at_some, count_within}
use Rattle.walk_laws.proofs.TableLines.{pair_lines_are, ray_lines_are}

-- an opening that is reported isn't optimal
abbrev pub MayBeOptimal : Solver → Type 0
MayBeOptimal Primal = Unit {0}
MayBeOptimal Dual = Unit {0}
MayBeOptimal Paraobj = ⊥
MayBeOptimal Pararhs = ⊥

abbrev pub MayBeUnbounded : Solver → Type 0
MayBeUnbounded Primal = Unit {0}
MayBeUnbounded Dual = ⊥
MayBeUnbounded Paraobj = Unit {0}
MayBeUnbounded Pararhs = Unit {0}

module _ (solver : Solver) (sheet : Sheet) where
  abbrev pub IsFormed : PathVerdict → Type 0
  IsFormed (OptimalAt steps objective) = MayBeOptimal solver
  IsFormed (CrossedAt k) = IsVariable sheet.lp.matrix k
  IsFormed (InfeasibleBy steps lines) = lines ≡ ray_lines sheet (multipliers sheet lines)
  IsFormed (UnboundedBy steps objective lines) = MayBeUnbounded solver × (lines ≡ pair_lines sheet (column_of 0 lines) (column_of 1 lines))

module _ (of : List ℕ → Option ℚ) (solver : Solver) (sheet : Sheet) where
  abbrev Formed : Claim × List ℕ → Type 0
  Formed got = IsFormed solver sheet got.0.0

  optimal_formed : (rest : List ℕ) → MayBeOptimal solver → IfSome (optimal_in of sheet rest) Formed
  optimal_formed rest may =
      after_text Formed (codes "OPTIMAL STEPS ") _ rest (λ on. after_word Formed (count_in max_count) _ on (λ steps known on.
      after_text Formed (codes " OBJECTIVE ") _ on (λ on. after_word Formed of _ on (λ objective known on.
      after_text Formed (codes " ") _ on (λ on. after_check Formed (λ check rest. Some ((OptimalAt steps objective, check), rest)) on (λ check on. may))))))

  crossed_formed : (rest : List ℕ) → IfSome (crossed_in sheet rest) Formed
  crossed_formed rest =
      after_text Formed (codes "INFEASIBLE STEPS 0 CROSSED ") _ rest (λ on. after_word Formed (count_in (size sheet.lp.matrix)) _ on (λ k known on.
      after_text Formed (codes " ") _ on
      (λ on. after_check Formed (λ check rest. if nat_eq k 0 then None else Some ((CrossedAt k, check), rest)) on (λ check on.
      if_none_else Formed (nat_eq k 0) (Some ((CrossedAt k, check), on))
      (λ apart. (grind (arith, nat_tests), count_within (size sheet.lp.matrix) _ k known))))))

  infeasible_formed : (rest : List ℕ) → IfSome (infeasible_in of sheet rest) Formed
  infeasible_formed rest =
      after_text Formed (codes "INFEASIBLE STEPS ") _ rest (λ on. after_word Formed (count_in max_count) _ on (λ steps known on.
      after_text Formed (codes " RAY ") _ on (λ on.
      after_check Formed (λ check rest. option_map (λ got. ((InfeasibleBy steps got.0, check), got.1)) (ray_in of sheet (variables sheet.lp.matrix) rest)) on
      (λ check on.
      mapped Formed (λ (got : List Line × List ℕ). got.0 ≡ ray_lines sheet (multipliers sheet got.0)) (λ got. ((InfeasibleBy steps got.0, check), got.1))
      (ray_in of sheet (variables sheet.lp.matrix) on) (ray_lines_are of sheet on) (λ got is. is)))))

  unbounded_formed : (rest : List ℕ) → MayBeUnbounded solver → IfSome (unbounded_in of sheet rest) Formed
  unbounded_formed rest may =
      after_text Formed (codes "UNBOUNDED STEPS ") _ rest (λ on. after_word Formed (count_in max_count) _ on (λ steps known on.
      after_text Formed (codes " OBJECTIVE ") _ on (λ on. after_word Formed of _ on (λ objective known on.
      after_text Formed (codes " ") _ on (λ on.
      after_check Formed
      (λ check rest. option_map (λ got. ((UnboundedBy steps objective got.0, check), got.1))
      (table_in of sheet pair_slots (variables sheet.lp.matrix) rest)) on (λ check on.
      mapped Formed (λ (got : List Line × List ℕ). got.0 ≡ pair_lines sheet (column_of 0 got.0) (column_of 1 got.0))
      (λ got. ((UnboundedBy steps objective got.0, check), got.1))
      (table_in of sheet pair_slots (variables sheet.lp.matrix) on) (pair_lines_are of sheet on) (λ got is. (may, is))))))))

  late_formed : (rest : List ℕ) → MayBeUnbounded solver → IfSome (option_or (infeasible_in of sheet rest) (unbounded_in of sheet rest)) Formed
  late_formed rest may = one_or_other Formed (infeasible_in of sheet rest) (unbounded_in of sheet rest) (infeasible_formed rest) (unbounded_formed rest may)

module _ (of : List ℕ → Option ℚ) (sheet : Sheet) where
  claim_formed : (solver : Solver) (rest : List ℕ) → IfSome (claim_in of sheet solver rest) (Formed of solver sheet)
  claim_formed Primal rest =
      one_or_other (Formed of Primal sheet) (optimal_in of sheet rest) _ (optimal_formed of Primal sheet rest tt)
      (one_or_other (Formed of Primal sheet) (crossed_in sheet rest) _ (crossed_formed of Primal sheet rest) (late_formed of Primal sheet rest tt))
  claim_formed Dual rest =
      one_or_other (Formed of Dual sheet) (optimal_in of sheet rest) _ (optimal_formed of Dual sheet rest tt)
      (one_or_other (Formed of Dual sheet) (crossed_in sheet rest) _ (crossed_formed of Dual sheet rest) (infeasible_formed of Dual sheet rest))
  claim_formed Paraobj rest =
      one_or_other (Formed of Paraobj sheet) (crossed_in sheet rest) _ (crossed_formed of Paraobj sheet rest) (late_formed of Paraobj sheet rest tt)
  claim_formed Pararhs rest =
      one_or_other (Formed of Pararhs sheet) (crossed_in sheet rest) _ (crossed_formed of Pararhs sheet rest) (late_formed of Pararhs sheet rest tt)

  -- a verdict that is read is formed so
  pub verdict_formed : (solver : Solver) (rest after : List ℕ) (claim : Claim) → verdict_in of sheet solver rest ≡ Some (claim, after) →
      IsFormed solver sheet claim.0
  verdict_formed solver rest after claim e =
      at_some (Formed of solver sheet) (verdict_in of sheet solver rest) (claim, after) e
      (after_text (Formed of solver sheet) (solver_text solver ++ codes " ") (claim_in of sheet solver) rest (claim_formed solver))
