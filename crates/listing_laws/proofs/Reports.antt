-- What the texts of reports determine.
use Rattle.std.proofs.Common.{◌≡◌, ℕ, suc, ◌+◌, Bool, true, false, List, [], ◌∷◌, ◌++◌, codes, take, All, refl, ap, ap₂, sym, ◌∙◌, arith}
use Rattle.std.specs.Prelude.{nat_eq, ◌&&◌, ◌||◌}
use Rattle.std.specs.List.{flat_map, enumerate_from}
use Rattle.std.proofs.lemmas.List.{append_cancel_left, append_cancel_right, append-nil, append_assoc}
use Rattle.exact_values.specs.Rational.{ℚ}
use Rattle.problem_definitions.specs.Valid.{IsName}
use Rattle.listing_definitions.specs.declared.Mark.{Mark}
use Rattle.listing_definitions.specs.declared.Solver.{Solver}
use Rattle.listing_definitions.specs.declared.Solver.TheVariants.{Primal, Dual, Paraobj, Pararhs}
use Rattle.listing_definitions.specs.Numbers.{digits, rational_text}
use Rattle.listing_definitions.specs.Report.{Line, Filed, PathVerdict, OptimalAt, CrossedAt, InfeasibleBy, UnboundedBy, Check, SolutionLines, RangeLines}
use Rattle.listing_definitions.specs.Report.{ParametricInterval, ChainEnd, EndsAt, UnboundedPast, InfeasiblePast, Chain, Report, Titled, Converted, Revised}
use Rattle.listing_definitions.specs.Report.{SetUp, BcdOut, BasisOut, Inserted, Solved, Solution, Ranges, Parametric}
use Rattle.listing_definitions.specs.Text.{name8, table_text, check_text, solver_text, verdict_head, verdict_lines, interval_text, chain_end_text}
use Rattle.listing_definitions.specs.Text.{solution_text, ranges_text, report_text}
use Rattle.listing_laws.specs.Reported.{begins_line, AreNamed, IsEndNamed, IsNamed}
use Rattle.listing_laws.proofs.Cutting.{differ}
use Rattle.listing_laws.proofs.Lines.{name_tells, table_tells}
use Rattle.listing_laws.proofs.Words.{number_then, rational_then, name_then, solver_then, mark_then, sense_then, check_then, begin_otherwise}

-- ---- verdicts

-- a verdict's first line and what stands after it: the check, and the table
abbrev pub viewed : PathVerdict → Check → List ℕ
viewed verdict check = verdict_head verdict ++ (codes " " ++ (check_text check ++ (codes "\n" ++ (table_text (verdict_lines verdict) ++ []))))

optimal_parts : (steps : ℕ) (objective : ℚ) (rest : List ℕ) →
    verdict_head (OptimalAt steps objective) ++ rest ≡ codes "OPTIMAL STEPS " ++ (digits steps ++ (codes " OBJECTIVE " ++ (rational_text objective ++ rest)))
optimal_parts steps objective rest = simp (append_assoc, append-nil)

unbounded_parts : (steps : ℕ) (objective : ℚ) (lines : List Line) (rest : List ℕ) →
    verdict_head (UnboundedBy steps objective lines) ++ rest ≡ codes "UNBOUNDED STEPS " ++
    (digits steps ++ (codes " OBJECTIVE " ++ (rational_text objective ++ rest)))
unbounded_parts steps objective lines rest = simp (append_assoc, append-nil)

infeasible_parts : (steps : ℕ) (lines : List Line) (rest : List ℕ) →
    verdict_head (InfeasibleBy steps lines) ++ rest ≡ codes "INFEASIBLE STEPS " ++ (digits steps ++ (codes " RAY" ++ rest))
infeasible_parts steps lines rest = simp (append_assoc, append-nil)

crossed_parts : (number : ℕ) (rest : List ℕ) →
    verdict_head (CrossedAt number) ++ rest ≡ codes "INFEASIBLE STEPS " ++ (digits 0 ++ (codes " CROSSED " ++ (digits number ++ rest)))
unfolding digits
crossed_parts number rest = simp (append_assoc, append-nil)

-- the steps and the objective, with what stands after them
objective_then : (m n : ℕ) (x y : ℚ) (r s : List ℕ) →
    digits m ++ (codes " OBJECTIVE " ++ (rational_text x ++ (codes " " ++ r))) ≡ digits n ++ (codes " OBJECTIVE " ++ (rational_text y ++ (codes " " ++ s))) →
    (m ≡ n) × (x ≡ y) × (r ≡ s)
objective_then m n x y r s e =
    let steps = number_then (codes " OBJECTIVE ") m n _ _ refl e in
    let value = rational_then (codes " ") x y r s refl steps.1 in
    (steps.0, value.0, value.1)

last_table : (xs ys : List Line) → AreNamed xs → AreNamed ys → table_text xs ++ [] ≡ table_text ys ++ [] → xs ≡ ys
last_table xs ys x_named y_named e = (table_tells xs ys [] [] x_named y_named refl refl e).0

-- no crossed variable where a ray is
no_crossing : (number steps : ℕ) (lines : List Line) (c d : Check) → viewed (CrossedAt number) c ≡ viewed (InfeasibleBy steps lines) d → ⊥
no_crossing number steps lines c d e =
    let whole = sym (crossed_parts number _) ∙ e ∙ infeasible_parts steps lines _ in
    let numbers = number_then (codes " ") 0 steps (codes "CROSSED " ++ _) (codes "RAY" ++ _) refl (append_cancel_left (codes "INFEASIBLE STEPS ") _ _ whole) in
    begin_otherwise 1 _ _ refl numbers.1

pub verdict_tells : (v w : PathVerdict) (c d : Check) → AreNamed (verdict_lines v) → AreNamed (verdict_lines w) → viewed v c ≡ viewed w d → (v ≡ w) × (c ≡ d)
verdict_tells (OptimalAt m x) (OptimalAt n y) c d v_named w_named e =
    let whole = sym (optimal_parts m x _) ∙ e ∙ optimal_parts n y _ in
    let parts = objective_then m n x y _ _ (append_cancel_left (codes "OPTIMAL STEPS ") _ _ whole) in
    (ap₂ OptimalAt parts.0 parts.1, (check_then c d _ _ parts.2).0)
verdict_tells (CrossedAt m) (CrossedAt n) c d v_named w_named e =
    let whole = sym (crossed_parts m _) ∙ e ∙ crossed_parts n _ in
    let zero_steps = number_then (codes " CROSSED ") 0 0 _ _ refl (append_cancel_left (codes "INFEASIBLE STEPS ") _ _ whole) in
    let number = number_then (codes " ") m n _ _ refl zero_steps.1 in
    (ap CrossedAt number.0, (check_then c d _ _ number.1).0)
verdict_tells (InfeasibleBy m xs) (InfeasibleBy n ys) c d v_named w_named e =
    let whole = sym (infeasible_parts m xs _) ∙ e ∙ infeasible_parts n ys _ in
    let steps = number_then (codes " RAY ") m n _ _ refl (append_cancel_left (codes "INFEASIBLE STEPS ") _ _ whole) in
    let check = check_then c d _ _ steps.1 in
    (ap₂ InfeasibleBy steps.0 (last_table xs ys v_named w_named check.1), check.0)
verdict_tells (UnboundedBy m x xs) (UnboundedBy n y ys) c d v_named w_named e =
    let whole = sym (unbounded_parts m x xs _) ∙ e ∙ unbounded_parts n y ys _ in
    let parts = objective_then m n x y _ _ (append_cancel_left (codes "UNBOUNDED STEPS ") _ _ whole) in
    let check = check_then c d _ _ parts.2 in
    let lines = last_table xs ys v_named w_named check.1 in
    (λ i. UnboundedBy (parts.0 i) (parts.1 i) (lines i), check.0)
verdict_tells (CrossedAt m) (InfeasibleBy n ys) c d v_named w_named e = absurd (no_crossing m n ys c d e)
verdict_tells (InfeasibleBy m xs) (CrossedAt n) c d v_named w_named e = absurd (no_crossing n m xs d c (sym e))
verdict_tells (OptimalAt m x) (CrossedAt n) c d v_named w_named e = absurd (begin_otherwise 1 _ _ refl e)
verdict_tells (OptimalAt m x) (InfeasibleBy n ys) c d v_named w_named e = absurd (begin_otherwise 1 _ _ refl e)
verdict_tells (OptimalAt m x) (UnboundedBy n y ys) c d v_named w_named e = absurd (begin_otherwise 1 _ _ refl e)
verdict_tells (CrossedAt m) (OptimalAt n y) c d v_named w_named e = absurd (begin_otherwise 1 _ _ refl e)
verdict_tells (CrossedAt m) (UnboundedBy n y ys) c d v_named w_named e = absurd (begin_otherwise 1 _ _ refl e)
verdict_tells (InfeasibleBy m xs) (OptimalAt n y) c d v_named w_named e = absurd (begin_otherwise 1 _ _ refl e)
verdict_tells (InfeasibleBy m xs) (UnboundedBy n y ys) c d v_named w_named e = absurd (begin_otherwise 1 _ _ refl e)
verdict_tells (UnboundedBy m x xs) (OptimalAt n y) c d v_named w_named e = absurd (begin_otherwise 1 _ _ refl e)
verdict_tells (UnboundedBy m x xs) (CrossedAt n) c d v_named w_named e = absurd (begin_otherwise 1 _ _ refl e)
verdict_tells (UnboundedBy m x xs) (InfeasibleBy n ys) c d v_named w_named e = absurd (begin_otherwise 1 _ _ refl e)

-- ---- filed problems

same_filed : (x y : Filed) → x.name ≡ y.name → x.rows ≡ y.rows → x.columns ≡ y.columns → x.entries ≡ y.entries → x ≡ y
same_filed x y name rows columns entries = λ i. record { name = name i; rows = rows i; columns = columns i; entries = entries i }

abbrev pub filed_rest : Filed → List ℕ
filed_rest filed =
    name8 filed.name ++
    (codes " ROWS " ++
    (digits filed.rows ++ (codes " COLUMNS " ++ (digits filed.columns ++ (codes " ENTRIES " ++ (digits filed.entries ++ (codes "\n" ++ [])))))))

pub filed_tells : (x y : Filed) → IsName x.name → IsName y.name → filed_rest x ≡ filed_rest y → x ≡ y
filed_tells x y x_named y_named e =
    let name = name_tells x.name y.name _ _ x_named y_named e in
    let rows = number_then (codes " COLUMNS ") x.rows y.rows _ _ refl (append_cancel_left (codes " ROWS ") _ _ name.1) in
    let columns = number_then (codes " ENTRIES ") x.columns y.columns _ _ refl rows.1 in
    let entries = number_then (codes "\n") x.entries y.entries [] [] refl columns.1 in
    same_filed x y name.0 rows.0 columns.0 entries.0

-- ---- solutions and ranges

same_solution : (x y : SolutionLines) → x.rows ≡ y.rows → x.columns ≡ y.columns → x ≡ y
same_solution x y rows columns = λ i. record { rows = rows i; columns = columns i }

solution_tells : (m n : Mark) (x y : SolutionLines) → AreNamed x.rows × AreNamed x.columns → AreNamed y.rows × AreNamed y.columns →
    solution_text m x ≡ solution_text n y → (m ≡ n) × (x ≡ y)
solution_tells m n x y x_named y_named e =
    let second = codes "SECTION 2 - COLUMNS\nNUMBER COLUMN AT ACTIVITY COST LOWER UPPER REDUCED\n" in
    let mark = mark_then m n _ _ (append_cancel_left (codes "SOLUTION ") _ _ e) in
    let rows = table_tells x.rows y.rows (second ++ (table_text x.columns ++ [])) (second ++ (table_text y.columns ++ [])) x_named.0 y_named.0 refl refl
    (append_cancel_left (codes "SECTION 1 - ROWS\nNUMBER ROW AT ACTIVITY SLACK LOWER UPPER DUAL\n") _ _ mark.1) in
    let columns = last_table x.columns y.columns x_named.1 y_named.1 (append_cancel_left second _ _ rows.1) in
    (mark.0, same_solution x y rows.0 columns)

same_ranges : (x y : RangeLines) → x.rows_at_limit ≡ y.rows_at_limit → x.columns_at_limit ≡ y.columns_at_limit → x.rows_between ≡ y.rows_between →
    x.columns_between ≡ y.columns_between → x ≡ y
same_ranges x y a b c d = λ i. record { rows_at_limit = a i; columns_at_limit = b i; rows_between = c i; columns_between = d i }

ranges_tell : (x y : RangeLines) → IsNamed (Ranges x) → IsNamed (Ranges y) → ranges_text x ≡ ranges_text y → x ≡ y
ranges_tell x y x_named y_named e =
    let second = codes "SECTION 2 - COLUMNS AT LIMIT LEVEL\n" in
    let third = codes "SECTION 3 - ROWS AT INTERMEDIATE LEVEL\n" in
    let fourth = codes "SECTION 4 - COLUMNS AT INTERMEDIATE LEVEL\n" in
    let a = table_tells x.rows_at_limit y.rows_at_limit
    (second ++ (table_text x.columns_at_limit ++ (third ++ (table_text x.rows_between ++ (fourth ++ (table_text x.columns_between ++ []))))))
    (second ++ (table_text y.columns_at_limit ++ (third ++ (table_text y.rows_between ++ (fourth ++ (table_text y.columns_between ++ []))))))
    x_named.0 y_named.0 refl refl (append_cancel_left (codes "RANGE\nSECTION 1 - ROWS AT LIMIT LEVEL\n") _ _ e) in
    let b = table_tells x.columns_at_limit y.columns_at_limit
    (third ++ (table_text x.rows_between ++ (fourth ++ (table_text x.columns_between ++ []))))
    (third ++ (table_text y.rows_between ++ (fourth ++ (table_text y.columns_between ++ []))))
    x_named.1 y_named.1 refl refl (append_cancel_left second _ _ a.1) in
    let c = table_tells x.rows_between y.rows_between (fourth ++ (table_text x.columns_between ++ [])) (fourth ++ (table_text y.columns_between ++ []))
    x_named.2 y_named.2 refl refl (append_cancel_left third _ _ b.1) in
    let d = last_table x.columns_between y.columns_between x_named.3 y_named.3 (append_cancel_left fourth _ _ c.1) in
    same_ranges x y a.0 b.0 c.0 d

-- ---- parametric runs

end_parts : (solver : Solver) (value : ℚ) →
    chain_end_text solver (EndsAt value) ++ [] ≡ solver_text solver ++ (codes " ENDS AT " ++ (rational_text value ++ (codes "\n" ++ [])))
end_parts solver value = simp (append_assoc, append-nil)

unbounded_past_parts : (solver : Solver) (value : ℚ) (lines : List Line) →
    chain_end_text solver (UnboundedPast value lines) ++ [] ≡ solver_text solver ++
    (codes " UNBOUNDED PAST " ++ (rational_text value ++ (codes "\n" ++ (table_text lines ++ []))))
unbounded_past_parts solver value lines = simp (append_assoc, append-nil)

infeasible_past_parts : (solver : Solver) (value : ℚ) (lines : List Line) →
    chain_end_text solver (InfeasiblePast value lines) ++ [] ≡ solver_text solver ++
    (codes " INFEASIBLE PAST " ++ (rational_text value ++ (codes "\n" ++ (table_text lines ++ []))))
infeasible_past_parts solver value lines = simp (append_assoc, append-nil)

-- an end without the solver
abbrev end_rest : ChainEnd → List ℕ
end_rest (EndsAt value) = codes " ENDS AT " ++ (rational_text value ++ (codes "\n" ++ []))
end_rest (UnboundedPast value lines) = codes " UNBOUNDED PAST " ++ (rational_text value ++ (codes "\n" ++ (table_text lines ++ [])))
end_rest (InfeasiblePast value lines) = codes " INFEASIBLE PAST " ++ (rational_text value ++ (codes "\n" ++ (table_text lines ++ [])))

rest_tells : (a b : ChainEnd) → IsEndNamed a → IsEndNamed b → end_rest a ≡ end_rest b → a ≡ b
rest_tells (EndsAt x) (EndsAt y) a_named b_named e =
    ap EndsAt (rational_then (codes "\n") x y [] [] refl (append_cancel_left (codes " ENDS AT ") _ _ e)).0
rest_tells (UnboundedPast x xs) (UnboundedPast y ys) a_named b_named e =
    let value = rational_then (codes "\n") x y _ _ refl (append_cancel_left (codes " UNBOUNDED PAST ") _ _ e) in
    ap₂ UnboundedPast value.0 (last_table xs ys a_named b_named value.1)
rest_tells (InfeasiblePast x xs) (InfeasiblePast y ys) a_named b_named e =
    let value = rational_then (codes "\n") x y _ _ refl (append_cancel_left (codes " INFEASIBLE PAST ") _ _ e) in
    ap₂ InfeasiblePast value.0 (last_table xs ys a_named b_named value.1)
rest_tells (EndsAt x) (UnboundedPast y ys) a_named b_named e = absurd (begin_otherwise 2 _ _ refl e)
rest_tells (EndsAt x) (InfeasiblePast y ys) a_named b_named e = absurd (begin_otherwise 2 _ _ refl e)
rest_tells (UnboundedPast x xs) (EndsAt y) a_named b_named e = absurd (begin_otherwise 2 _ _ refl e)
rest_tells (UnboundedPast x xs) (InfeasiblePast y ys) a_named b_named e = absurd (begin_otherwise 2 _ _ refl e)
rest_tells (InfeasiblePast x xs) (EndsAt y) a_named b_named e = absurd (begin_otherwise 2 _ _ refl e)
rest_tells (InfeasiblePast x xs) (UnboundedPast y ys) a_named b_named e = absurd (begin_otherwise 2 _ _ refl e)

whole_end : (solver : Solver) (end : ChainEnd) → chain_end_text solver end ++ [] ≡ solver_text solver ++ end_rest end
whole_end solver (EndsAt value) = end_parts solver value
whole_end solver (UnboundedPast value lines) = unbounded_past_parts solver value lines
whole_end solver (InfeasiblePast value lines) = infeasible_past_parts solver value lines

-- the solver is the same one, so it goes
end_tells : (solver : Solver) (a b : ChainEnd) → IsEndNamed a → IsEndNamed b → chain_end_text solver a ++ [] ≡ chain_end_text solver b ++ [] → a ≡ b
end_tells solver a b a_named b_named e =
    rest_tells a b a_named b_named (append_cancel_left (solver_text solver) (end_rest a) (end_rest b) (sym (whole_end solver a) ∙ e ∙ whole_end solver b))

-- whether a text begins as the word of a solving verb does: with PR, PA or DU
abbrev begins_solver : List ℕ → Bool
begins_solver (a ∷ (b ∷ rest)) = (nat_eq a 80 && (nat_eq b 82 || nat_eq b 65)) || (nat_eq a 68 && nat_eq b 85)
begins_solver _ = false

solver_begins : (solver : Solver) (rest : List ℕ) → begins_solver (solver_text solver ++ rest) ≡ true
solver_begins Primal rest = refl
solver_begins Dual rest = refl
solver_begins Paraobj rest = refl
solver_begins Pararhs rest = refl

no_solver : (solver : Solver) (text rest : List ℕ) → begins_solver text ≡ false → text ≡ solver_text solver ++ rest → ⊥
no_solver solver text rest other e = let h : false ≡ true = sym other ∙ ap begins_solver e ∙ solver_begins solver rest in cc

solver_is_no_line : (solver : Solver) (rest : List ℕ) → begins_line (solver_text solver ++ rest) ≡ false
solver_is_no_line Primal rest = refl
solver_is_no_line Dual rest = refl
solver_is_no_line Paraobj rest = refl
solver_is_no_line Pararhs rest = refl

interval_parts : (k : ℕ) (x : ParametricInterval) (rest : List ℕ) → interval_text (k, x) ++ rest
    ≡ codes "INTERVAL " ++
    (digits k ++ (codes " FROM " ++ (rational_text x.from ++ (codes " TO " ++ (rational_text x.to ++ (codes "\n" ++ (table_text x.lines ++ rest)))))))
interval_parts k x rest = simp (append_assoc, append-nil)

same_interval : (x y : ParametricInterval) → x.from ≡ y.from → x.to ≡ y.to → x.lines ≡ y.lines → x ≡ y
same_interval x y first last lines = λ i. record { from = first i; to = last i; lines = lines i }

module _ (solver : Solver) where
  -- the intervals from this number on, and the end
  abbrev run_text : ℕ → List ParametricInterval → ChainEnd → List ℕ
  run_text k intervals end = flat_map interval_text (enumerate_from k intervals) ++ (chain_end_text solver end ++ [])

  run_is_no_line : (k : ℕ) (xs : List ParametricInterval) (end : ChainEnd) → begins_line (run_text k xs end) ≡ false
  run_is_no_line k [] end = ap begins_line (whole_end solver end) ∙ solver_is_no_line solver (end_rest end)
  run_is_no_line k (x ∷ xs) end = refl

  -- an interval is no end
  no_end : (k : ℕ) (y : ParametricInterval) (ys : List ParametricInterval) (a b : ChainEnd) → run_text k [] a ≡ run_text k (y ∷ ys) b → ⊥
  no_end k y ys a b e = no_solver solver (run_text k (y ∷ ys) b) (end_rest a) refl (sym e ∙ whole_end solver a)

  run_tells : (k : ℕ) (xs ys : List ParametricInterval) (a b : ChainEnd) → All (λ (x : ParametricInterval). AreNamed x.lines) xs
      → All (λ (x : ParametricInterval). AreNamed x.lines) ys → IsEndNamed a → IsEndNamed b
      → run_text k xs a ≡ run_text k ys b → (xs ≡ ys) × (a ≡ b)
  run_tells k [] [] a b x_named y_named a_named b_named e = (refl, end_tells solver a b a_named b_named e)
  run_tells k [] (y ∷ ys) a b x_named y_named a_named b_named e = absurd (no_end k y ys a b e)
  run_tells k (x ∷ xs) [] a b x_named y_named a_named b_named e = absurd (no_end k x xs b a (sym e))
  run_tells k (x ∷ xs) (y ∷ ys) a b x_named y_named a_named b_named e =
      let after = run_text (k + 1) xs a in
      let other = run_text (k + 1) ys b in
      let whole =
      sym (interval_parts k x after)
      ∙ sym (append_assoc (interval_text (k, x)) (flat_map interval_text (enumerate_from (k + 1) xs)) (chain_end_text solver a ++ []))
      ∙ e ∙ append_assoc (interval_text (k, y)) (flat_map interval_text (enumerate_from (k + 1) ys)) (chain_end_text solver b ++ [])
      ∙ interval_parts k y other in
      let number = number_then (codes " FROM ") k k _ _ refl (append_cancel_left (codes "INTERVAL ") _ _ whole) in
      let first = rational_then (codes " TO ") x.from y.from _ _ refl number.1 in
      let last = rational_then (codes "\n") x.to y.to _ _ refl first.1 in
      let lines =
      table_tells x.lines y.lines after other (x_named 0 x (omega arith)) (y_named 0 y (omega arith)) (run_is_no_line (k + 1) xs a)
      (run_is_no_line (k + 1) ys b) last.1 in
      let rest =
      run_tells (k + 1) xs ys a b (λ i d below. x_named (suc i) d (omega (arith, below)))
      (λ i d below. y_named (suc i) d (omega (arith, below))) a_named b_named lines.1 in
      (ap₂ (λ z zs. z ∷ zs) (same_interval x y first.0 last.0 lines.0) rest.0, rest.1)

same_chain : (x y : Chain) → x.from ≡ y.from → x.change ≡ y.change → x.intervals ≡ y.intervals → x.end ≡ y.end → x ≡ y
same_chain x y first change intervals end = λ i. record { from = first i; change = change i; intervals = intervals i; end = end i }

-- a run after the first blank of its text
abbrev chain_rest : Solver → Chain → List ℕ
chain_rest solver chain =
    codes "FROM " ++ (rational_text chain.from ++ (codes " CHANGE " ++ (chain.change ++ (codes "\n" ++ run_text solver 1 chain.intervals chain.end))))

chain_tells : (solver : Solver) (x y : Chain) → IsNamed (Parametric solver x) → IsNamed (Parametric solver y) → chain_rest solver x ≡ chain_rest solver y →
    x ≡ y
chain_tells solver x y x_named y_named e =
    let first = rational_then (codes " CHANGE ") x.from y.from _ _ refl (append_cancel_left (codes "FROM ") _ _ e) in
    let change = name_then x.change y.change _ _ x_named.0 y_named.0 first.1 in
    let run = run_tells solver 1 x.intervals y.intervals x.end y.end x_named.1 y_named.1 x_named.2 y_named.2 change.1 in
    same_chain x y first.0 change.0 run.0 run.1

-- ---- reports

-- a verdict is no parametric run
no_run : (verdict : PathVerdict) (check : Check) (solver : Solver) (chain : Chain) → viewed verdict check ≡ chain_rest solver chain → ⊥
no_run (OptimalAt m x) check solver chain e = begin_otherwise 1 _ _ refl e
no_run (CrossedAt m) check solver chain e = begin_otherwise 1 _ _ refl e
no_run (InfeasibleBy m xs) check solver chain e = begin_otherwise 1 _ _ refl e
no_run (UnboundedBy m x xs) check solver chain e = begin_otherwise 1 _ _ refl e

pub report_tells : (x y : Report) → IsNamed x → IsNamed y → report_text x ≡ report_text y → x ≡ y
report_tells (Titled a) (Titled b) x_named y_named e =
    ap Titled (append_cancel_right a b (codes "\n") (append_cancel_left (codes "TITLE ") (a ++ codes "\n") (b ++ codes "\n") e))
report_tells (Converted a) (Converted b) x_named y_named e =
    ap Converted (filed_tells a b x_named y_named (append_cancel_left (codes "CONVERT ") (filed_rest a) (filed_rest b) e))
report_tells (Revised a) (Revised b) x_named y_named e =
    ap Revised (filed_tells a b x_named y_named (append_cancel_left (codes "REVISE  ") (filed_rest a) (filed_rest b) e))
report_tells (SetUp a s) (SetUp b t) x_named y_named e =
    let name = name_tells a b _ _ x_named y_named (append_cancel_left (codes "SETUP   ") _ _ e) in
    let sense = sense_then s t [] [] (append_cancel_left (codes " ") _ _ name.1) in
    ap₂ SetUp name.0 sense.0
report_tells (BcdOut a m) (BcdOut b n) x_named y_named e =
    let name = name_tells a b _ _ x_named y_named (append_cancel_left (codes "BCDOUT  ") _ _ e) in
    let cards = number_then (codes "\n") m n [] [] refl (append_cancel_left (codes " CARDS ") _ _ name.1) in
    ap₂ BcdOut name.0 cards.0
report_tells (BasisOut a m) (BasisOut b n) x_named y_named e =
    let name = name_tells a b _ _ x_named y_named (append_cancel_left (codes "PUNCH   ") _ _ e) in
    let cards = number_then (codes "\n") m n [] [] refl (append_cancel_left (codes " CARDS ") _ _ name.1) in
    ap₂ BasisOut name.0 cards.0
report_tells (Inserted a m) (Inserted b n) x_named y_named e =
    let name = name_tells a b _ _ x_named y_named (append_cancel_left (codes "INSERT  ") _ _ e) in
    let basic = number_then (codes "\n") m n [] [] refl (append_cancel_left (codes " BASIC ") _ _ name.1) in
    ap₂ Inserted name.0 basic.0
report_tells (Solved s v c) (Solved t w d) x_named y_named e =
    let solver = solver_then s t (viewed v c) (viewed w d) e in
    let verdict = verdict_tells v w c d x_named y_named solver.1 in
    λ i. Solved (solver.0 i) (verdict.0 i) (verdict.1 i)
report_tells (Solution m x) (Solution n y) x_named y_named e =
    let parts = solution_tells m n x y x_named y_named e in
    ap₂ Solution parts.0 parts.1
report_tells (Ranges x) (Ranges y) x_named y_named e = ap Ranges (ranges_tell x y x_named y_named e)
report_tells (Parametric s x) (Parametric t y) x_named y_named e =
    let solver = solver_then s t (chain_rest s x) (chain_rest t y) e in
    let same : chain_rest s x ≡ chain_rest s y = solver.1 ∙ ap (λ by. chain_rest by y) (sym solver.0) in
    ap₂ Parametric solver.0 (chain_tells s x y x_named y_named same)
report_tells (Solved s v c) (Parametric t y) x_named y_named e = absurd (no_run v c t y (solver_then s t (viewed v c) (chain_rest t y) e).1)
report_tells (Parametric s x) (Solved t w d) x_named y_named e = absurd (no_run w d s x (sym (solver_then s t (chain_rest s x) (viewed w d) e).1))
report_tells (Titled a) (Converted b) x_named y_named e = absurd (begin_otherwise 2 _ _ refl e)
report_tells (Titled a) (Revised b) x_named y_named e = absurd (begin_otherwise 2 _ _ refl e)
report_tells (Titled a) (SetUp b t) x_named y_named e = absurd (begin_otherwise 2 _ _ refl e)
report_tells (Titled a) (BcdOut b n) x_named y_named e = absurd (begin_otherwise 2 _ _ refl e)
report_tells (Titled a) (Solution n y) x_named y_named e = absurd (begin_otherwise 2 _ _ refl e)
report_tells (Titled a) (Ranges y) x_named y_named e = absurd (begin_otherwise 2 _ _ refl e)
report_tells (Converted a) (Titled b) x_named y_named e = absurd (begin_otherwise 2 _ _ refl e)
report_tells (Converted a) (Revised b) x_named y_named e = absurd (begin_otherwise 2 _ _ refl e)
report_tells (Converted a) (SetUp b t) x_named y_named e = absurd (begin_otherwise 2 _ _ refl e)
report_tells (Converted a) (BcdOut b n) x_named y_named e = absurd (begin_otherwise 2 _ _ refl e)
report_tells (Converted a) (Solution n y) x_named y_named e = absurd (begin_otherwise 2 _ _ refl e)
report_tells (Converted a) (Ranges y) x_named y_named e = absurd (begin_otherwise 2 _ _ refl e)
report_tells (Revised a) (Titled b) x_named y_named e = absurd (begin_otherwise 2 _ _ refl e)
report_tells (Revised a) (Converted b) x_named y_named e = absurd (begin_otherwise 2 _ _ refl e)
report_tells (Revised a) (SetUp b t) x_named y_named e = absurd (begin_otherwise 2 _ _ refl e)
report_tells (Revised a) (BcdOut b n) x_named y_named e = absurd (begin_otherwise 2 _ _ refl e)
report_tells (Revised a) (Solution n y) x_named y_named e = absurd (begin_otherwise 2 _ _ refl e)
report_tells (Revised a) (Ranges y) x_named y_named e = absurd (begin_otherwise 2 _ _ refl e)
report_tells (SetUp a s) (Titled b) x_named y_named e = absurd (begin_otherwise 2 _ _ refl e)
report_tells (SetUp a s) (Converted b) x_named y_named e = absurd (begin_otherwise 2 _ _ refl e)
report_tells (SetUp a s) (Revised b) x_named y_named e = absurd (begin_otherwise 2 _ _ refl e)
report_tells (SetUp a s) (BcdOut b n) x_named y_named e = absurd (begin_otherwise 2 _ _ refl e)
report_tells (SetUp a s) (Solution n y) x_named y_named e = absurd (begin_otherwise 2 _ _ refl e)
report_tells (SetUp a s) (Ranges y) x_named y_named e = absurd (begin_otherwise 2 _ _ refl e)
report_tells (BcdOut a m) (Titled b) x_named y_named e = absurd (begin_otherwise 2 _ _ refl e)
report_tells (BcdOut a m) (Converted b) x_named y_named e = absurd (begin_otherwise 2 _ _ refl e)
report_tells (BcdOut a m) (Revised b) x_named y_named e = absurd (begin_otherwise 2 _ _ refl e)
report_tells (BcdOut a m) (SetUp b t) x_named y_named e = absurd (begin_otherwise 2 _ _ refl e)
report_tells (BcdOut a m) (Solution n y) x_named y_named e = absurd (begin_otherwise 2 _ _ refl e)
report_tells (BcdOut a m) (Ranges y) x_named y_named e = absurd (begin_otherwise 2 _ _ refl e)
report_tells (Solution m x) (Titled b) x_named y_named e = absurd (begin_otherwise 2 _ _ refl e)
report_tells (Solution m x) (Converted b) x_named y_named e = absurd (begin_otherwise 2 _ _ refl e)
report_tells (Solution m x) (Revised b) x_named y_named e = absurd (begin_otherwise 2 _ _ refl e)
report_tells (Solution m x) (SetUp b t) x_named y_named e = absurd (begin_otherwise 2 _ _ refl e)
report_tells (Solution m x) (BcdOut b n) x_named y_named e = absurd (begin_otherwise 2 _ _ refl e)
report_tells (Solution m x) (Ranges y) x_named y_named e = absurd (begin_otherwise 2 _ _ refl e)
report_tells (Ranges x) (Titled b) x_named y_named e = absurd (begin_otherwise 2 _ _ refl e)
report_tells (Ranges x) (Converted b) x_named y_named e = absurd (begin_otherwise 2 _ _ refl e)
report_tells (Ranges x) (Revised b) x_named y_named e = absurd (begin_otherwise 2 _ _ refl e)
report_tells (Ranges x) (SetUp b t) x_named y_named e = absurd (begin_otherwise 2 _ _ refl e)
report_tells (Ranges x) (BcdOut b n) x_named y_named e = absurd (begin_otherwise 2 _ _ refl e)
report_tells (Ranges x) (Solution n y) x_named y_named e = absurd (begin_otherwise 2 _ _ refl e)
report_tells (Titled a) (Solved t w d) x_named y_named e = absurd (no_solver t _ _ refl e)
report_tells (Solved s v c) (Titled b) x_named y_named e = absurd (no_solver s _ _ refl (sym e))
report_tells (Titled a) (Parametric t y) x_named y_named e = absurd (no_solver t _ _ refl e)
report_tells (Parametric s x) (Titled b) x_named y_named e = absurd (no_solver s _ _ refl (sym e))
report_tells (Converted a) (Solved t w d) x_named y_named e = absurd (no_solver t _ _ refl e)
report_tells (Solved s v c) (Converted b) x_named y_named e = absurd (no_solver s _ _ refl (sym e))
report_tells (Converted a) (Parametric t y) x_named y_named e = absurd (no_solver t _ _ refl e)
report_tells (Parametric s x) (Converted b) x_named y_named e = absurd (no_solver s _ _ refl (sym e))
report_tells (Revised a) (Solved t w d) x_named y_named e = absurd (no_solver t _ _ refl e)
report_tells (Solved s v c) (Revised b) x_named y_named e = absurd (no_solver s _ _ refl (sym e))
report_tells (Revised a) (Parametric t y) x_named y_named e = absurd (no_solver t _ _ refl e)
report_tells (Parametric s x) (Revised b) x_named y_named e = absurd (no_solver s _ _ refl (sym e))
report_tells (SetUp a sense) (Solved t w d) x_named y_named e = absurd (no_solver t _ _ refl e)
report_tells (Solved s v c) (SetUp b sense) x_named y_named e = absurd (no_solver s _ _ refl (sym e))
report_tells (SetUp a sense) (Parametric t y) x_named y_named e = absurd (no_solver t _ _ refl e)
report_tells (Parametric s x) (SetUp b sense) x_named y_named e = absurd (no_solver s _ _ refl (sym e))
report_tells (BcdOut a m) (Solved t w d) x_named y_named e = absurd (no_solver t _ _ refl e)
report_tells (Solved s v c) (BcdOut b n) x_named y_named e = absurd (no_solver s _ _ refl (sym e))
report_tells (BcdOut a m) (Parametric t y) x_named y_named e = absurd (no_solver t _ _ refl e)
report_tells (Parametric s x) (BcdOut b n) x_named y_named e = absurd (no_solver s _ _ refl (sym e))
report_tells (Solution m lines) (Solved t w d) x_named y_named e = absurd (no_solver t _ _ refl e)
report_tells (Solved s v c) (Solution n lines) x_named y_named e = absurd (no_solver s _ _ refl (sym e))
report_tells (Solution m lines) (Parametric t y) x_named y_named e = absurd (no_solver t _ _ refl e)
report_tells (Parametric s x) (Solution n lines) x_named y_named e = absurd (no_solver s _ _ refl (sym e))
report_tells (Ranges lines) (Solved t w d) x_named y_named e = absurd (no_solver t _ _ refl e)
report_tells (Solved s v c) (Ranges lines) x_named y_named e = absurd (no_solver s _ _ refl (sym e))
report_tells (Ranges lines) (Parametric t y) x_named y_named e = absurd (no_solver t _ _ refl e)
report_tells (Parametric s x) (Ranges lines) x_named y_named e = absurd (no_solver s _ _ refl (sym e))
report_tells (Titled a) (BasisOut b n) x_named y_named e = absurd (begin_otherwise 2 _ _ refl e)
report_tells (BasisOut a m) (Titled b) x_named y_named e = absurd (begin_otherwise 2 _ _ refl e)
report_tells (Titled a) (Inserted b n) x_named y_named e = absurd (begin_otherwise 2 _ _ refl e)
report_tells (Inserted a m) (Titled b) x_named y_named e = absurd (begin_otherwise 2 _ _ refl e)
report_tells (Converted a) (BasisOut b n) x_named y_named e = absurd (begin_otherwise 2 _ _ refl e)
report_tells (BasisOut a m) (Converted b) x_named y_named e = absurd (begin_otherwise 2 _ _ refl e)
report_tells (Converted a) (Inserted b n) x_named y_named e = absurd (begin_otherwise 2 _ _ refl e)
report_tells (Inserted a m) (Converted b) x_named y_named e = absurd (begin_otherwise 2 _ _ refl e)
report_tells (Revised a) (BasisOut b n) x_named y_named e = absurd (begin_otherwise 2 _ _ refl e)
report_tells (BasisOut a m) (Revised b) x_named y_named e = absurd (begin_otherwise 2 _ _ refl e)
report_tells (Revised a) (Inserted b n) x_named y_named e = absurd (begin_otherwise 2 _ _ refl e)
report_tells (Inserted a m) (Revised b) x_named y_named e = absurd (begin_otherwise 2 _ _ refl e)
report_tells (SetUp a m) (BasisOut b n) x_named y_named e = absurd (begin_otherwise 2 _ _ refl e)
report_tells (BasisOut a m) (SetUp b n) x_named y_named e = absurd (begin_otherwise 2 _ _ refl e)
report_tells (SetUp a m) (Inserted b n) x_named y_named e = absurd (begin_otherwise 2 _ _ refl e)
report_tells (Inserted a m) (SetUp b n) x_named y_named e = absurd (begin_otherwise 2 _ _ refl e)
report_tells (BcdOut a m) (BasisOut b n) x_named y_named e = absurd (begin_otherwise 2 _ _ refl e)
report_tells (BasisOut a m) (BcdOut b n) x_named y_named e = absurd (begin_otherwise 2 _ _ refl e)
report_tells (BcdOut a m) (Inserted b n) x_named y_named e = absurd (begin_otherwise 2 _ _ refl e)
report_tells (Inserted a m) (BcdOut b n) x_named y_named e = absurd (begin_otherwise 2 _ _ refl e)
report_tells (BasisOut a m) (Inserted b n) x_named y_named e = absurd (begin_otherwise 2 _ _ refl e)
report_tells (Inserted a m) (BasisOut b n) x_named y_named e = absurd (begin_otherwise 2 _ _ refl e)
report_tells (Solution a m) (BasisOut b n) x_named y_named e = absurd (begin_otherwise 2 _ _ refl e)
report_tells (BasisOut a m) (Solution b n) x_named y_named e = absurd (begin_otherwise 2 _ _ refl e)
report_tells (Solution a m) (Inserted b n) x_named y_named e = absurd (begin_otherwise 2 _ _ refl e)
report_tells (Inserted a m) (Solution b n) x_named y_named e = absurd (begin_otherwise 2 _ _ refl e)
report_tells (Ranges a) (BasisOut b n) x_named y_named e = absurd (begin_otherwise 2 _ _ refl e)
report_tells (BasisOut a m) (Ranges b) x_named y_named e = absurd (begin_otherwise 2 _ _ refl e)
report_tells (Ranges a) (Inserted b n) x_named y_named e = absurd (begin_otherwise 2 _ _ refl e)
report_tells (Inserted a m) (Ranges b) x_named y_named e = absurd (begin_otherwise 2 _ _ refl e)
report_tells (BasisOut a m) (Solved t w d) x_named y_named e = absurd (no_solver t _ _ refl e)
report_tells (Solved s v c) (BasisOut b n) x_named y_named e = absurd (no_solver s _ _ refl (sym e))
report_tells (BasisOut a m) (Parametric t y) x_named y_named e = absurd (no_solver t _ _ refl e)
report_tells (Parametric s x) (BasisOut b n) x_named y_named e = absurd (no_solver s _ _ refl (sym e))
report_tells (Inserted a m) (Solved t w d) x_named y_named e = absurd (no_solver t _ _ refl e)
report_tells (Solved s v c) (Inserted b n) x_named y_named e = absurd (no_solver s _ _ refl (sym e))
report_tells (Inserted a m) (Parametric t y) x_named y_named e = absurd (no_solver t _ _ refl e)
report_tells (Parametric s x) (Inserted b n) x_named y_named e = absurd (no_solver s _ _ refl (sym e))
