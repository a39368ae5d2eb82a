-- SOLUTION, an interval of a parametric run and its close tell their text.
use Rattle.std.proofs.Common.{Option, ◌≡◌, ℕ, List, [], ◌++◌, Some, None, codes, refl, sym, ap, ◌∙◌, append_assoc, append-nil}
use Rattle.std.specs.Prelude.{option_map, option_and_then}
use Rattle.exact_values.specs.Rational.{ℚ}
use Rattle.lp_definitions.specs.LinearProgram.{variables}
use Rattle.listing_definitions.specs.declared.Mark.{Mark}
use Rattle.listing_definitions.specs.declared.Solver.{Solver}
use Rattle.listing_definitions.specs.declared.Solver.TheVariants.{Primal, Dual, Paraobj, Pararhs}
use Rattle.listing_definitions.specs.Numbers.{digits, rational_text}
use Rattle.listing_definitions.specs.Report.{ParametricInterval, ChainEnd, EndsAt, UnboundedPast, InfeasiblePast}
use Rattle.listing_definitions.specs.Text.{mark_text, solver_text, table_text, solution_text, interval_text, chain_end_text}
use Rattle.question_definitions.specs.Answers.{Sheet}
use Rattle.answer_definitions.specs.Lines.{row_numbers, column_numbers}
use Rattle.walk_definitions.specs.Words.{Parsed, with_text, with_word}
use Rattle.walk_definitions.specs.Tables.{pair_slots, part_slots, table_in, ray_in}
use Rattle.walk_definitions.specs.Reading.{row_slots, column_slots, solution_in, interval_in, close_in}
use Rattle.walk_laws.proofs.Pieces.{Tells, Spells, after_text, after_word, either, never, done, made, behind}
use Rattle.walk_laws.proofs.Lines.{table_tells, ray_tells}

-- one thing, and another after it
then_other : {X Y Z : Type 0} (one : List ℕ → Parsed X) (other : List ℕ → Parsed Y) (f : X → Y → Z) (text_one : X → List ℕ) (text_other : Y → List ℕ)
    (whole : Z → List ℕ) → Tells [] one text_one → Tells [] other text_other →
    ((x : X) (y : Y) → text_one x ++ text_other y ≡ whole (f x y)) →
    Tells [] (λ rest. option_and_then (λ got. option_map {U = Z × List ℕ} (λ more. (f got.0 more.0, more.1)) (other got.1)) (one rest)) whole
then_other {X} {Y} {Z} one other f text_one text_other whole tells tells' is = record { of = λ rest got e. by rest got (one rest) refl e }
  where
    more_by : (first : X × List ℕ) (got : Z × List ℕ) (o : Parsed Y) → other first.1 ≡ o →
        option_map {U = Z × List ℕ} (λ more. (f first.0 more.0, more.1)) o ≡ Some got → text_one first.0 ++ first.1 ≡ whole got.0 ++ got.1
    more_by first got None read e = absurd (cc e)
    more_by first got (Some more) read e =
        let same : (f first.0 more.0, more.1) ≡ got = cc e in
        ap (λ r. text_one first.0 ++ r) (tells'.of first.1 more read) ∙ sym (append_assoc (text_one first.0) (text_other more.0) more.1)
        ∙ ap (λ b. b ++ more.1) (is first.0 more.0)
        ∙ ap (λ (g : Z × List ℕ). whole g.0 ++ g.1) same

    by : (rest : List ℕ) (got : Z × List ℕ) (o : Parsed X) → one rest ≡ o →
        option_and_then (λ got. option_map {U = Z × List ℕ} (λ more. (f got.0 more.0, more.1)) (other got.1)) o ≡ Some got → rest ≡ whole got.0 ++ got.1
    by rest got None read e = absurd (cc e)
    by rest got (Some first) read e = tells.of rest first read ∙ more_by first got (other first.1) refl e

as_solution : (first mark end head rows second columns : List ℕ) →
    ((first ++ (mark ++ (end ++ head))) ++ rows) ++ (second ++ columns) ≡ first ++ (mark ++ (end ++ (head ++ (rows ++ (second ++ (columns ++ []))))))
as_solution first mark end head rows second columns = simp (append_assoc, append-nil)

as_interval : (first number from start to last end lines : List ℕ) →
    (((first ++ (number ++ (from ++ (start ++ to)))) ++ last) ++ end) ++ lines ≡ first ++
    (number ++ (from ++ (start ++ (to ++ (last ++ (end ++ (lines ++ [])))))))
as_interval first number from start to last end lines = simp (append_assoc, append-nil)

as_end : (solver word value end : List ℕ) → ((solver ++ word) ++ value) ++ end ≡ solver ++ (word ++ (value ++ (end ++ [])))
as_end solver word value end = simp (append_assoc, append-nil)

as_past : (solver word value end lines : List ℕ) → (((solver ++ word) ++ value) ++ end) ++ lines ≡ solver ++ (word ++ (value ++ (end ++ (lines ++ []))))
as_past solver word value end lines = simp (append_assoc, append-nil)

module _ (of : List ℕ → Option ℚ) (spells : Spells of rational_text) (sheet : Sheet) where
  pub solution_tells : (mark : Mark) → Tells [] (solution_in of sheet mark) (solution_text mark)
  solution_tells mark =
      let rows_head = codes "SOLUTION " ++ (mark_text mark ++ codes "\nSECTION 1 - ROWS\nNUMBER ROW AT ACTIVITY SLACK LOWER UPPER DUAL\n") in
      let columns_head = codes "SECTION 2 - COLUMNS\nNUMBER COLUMN AT ACTIVITY COST LOWER UPPER REDUCED\n" in
      let rows_in = table_in of sheet (row_slots sheet) (row_numbers sheet.lp) in
      let columns_in = table_in of sheet (column_slots sheet) (column_numbers sheet.lp) in
      then_other (with_text rows_head rows_in) (with_text columns_head columns_in) (λ rows columns. record { rows = rows; columns = columns })
      (λ rows. rows_head ++ table_text rows) (λ columns. columns_head ++ table_text columns) (solution_text mark)
      (after_text [] rows_head rows_in _ (behind rows_head rows_in table_text (table_tells of spells sheet (row_slots sheet) (row_numbers sheet.lp))))
      (after_text [] columns_head columns_in _
      (behind columns_head columns_in table_text (table_tells of spells sheet (column_slots sheet) (column_numbers sheet.lp))))
      (λ rows columns. as_solution (codes "SOLUTION ") (mark_text mark) (codes "\n") (codes "SECTION 1 - ROWS\nNUMBER ROW AT ACTIVITY SLACK LOWER UPPER DUAL\n")
      (table_text rows) columns_head (table_text columns))

  pub interval_tells : (number : ℕ) (from : ℚ) → Tells [] (interval_in of sheet number from) (λ interval. interval_text (number, interval))
  interval_tells number from =
      let whole = λ (interval : ParametricInterval). interval_text (number, interval) in
      after_text [] (codes "INTERVAL " ++ (digits number ++ (codes " FROM " ++ (rational_text from ++ codes " TO ")))) _ whole
      (after_word _ of rational_text _ whole spells (λ to.
      after_text _ (codes "\n") _ whole
      (made _ (table_in of sheet part_slots (variables sheet.lp.matrix)) table_text (λ lines. record { from = from; to = to; lines = lines }) whole
      (table_tells of spells sheet part_slots (variables sheet.lp.matrix))
      (λ lines. as_interval (codes "INTERVAL ") (digits number) (codes " FROM ") (rational_text from) (codes " TO ") (rational_text to) (codes "\n")
      (table_text lines)))))

  -- ---- how a run closes

  abbrev ends_in : List ℕ → Parsed ChainEnd
  ends_in = with_text (codes " ENDS AT ") (with_word of (λ t. with_text (codes "\n") (λ after. Some (EndsAt t, after))))

  ends_tell : (solver : Solver) → Tells (solver_text solver) ends_in (chain_end_text solver)
  ends_tell solver =
      after_text _ (codes " ENDS AT ") _ (chain_end_text solver) (after_word _ of rational_text _ (chain_end_text solver) spells (λ t.
      after_text _ (codes "\n") _ (chain_end_text solver)
      (done _ (EndsAt t) (chain_end_text solver) (as_end (solver_text solver) (codes " ENDS AT ") (rational_text t) (codes "\n")))))

  unbounded_past_tells : Tells (solver_text Paraobj) (with_text (codes " UNBOUNDED PAST ") (with_word of (λ t. with_text (codes "\n") (λ after.
      option_map {U = ChainEnd × List ℕ} (λ got. (UnboundedPast t got.0, got.1)) (table_in of sheet pair_slots (variables sheet.lp.matrix) after)))))
      (chain_end_text Paraobj)
  unbounded_past_tells =
      after_text _ (codes " UNBOUNDED PAST ") _ (chain_end_text Paraobj) (after_word _ of rational_text _ (chain_end_text Paraobj) spells (λ t.
      after_text _ (codes "\n") _ (chain_end_text Paraobj)
      (made _ (table_in of sheet pair_slots (variables sheet.lp.matrix)) table_text (UnboundedPast t) (chain_end_text Paraobj)
      (table_tells of spells sheet pair_slots (variables sheet.lp.matrix))
      (λ lines. as_past (solver_text Paraobj) (codes " UNBOUNDED PAST ") (rational_text t) (codes "\n") (table_text lines)))))

  infeasible_past_tells : Tells (solver_text Pararhs) (with_text (codes " INFEASIBLE PAST ") (with_word of (λ t. with_text (codes "\n") (λ after.
      option_map {U = ChainEnd × List ℕ} (λ got. (InfeasiblePast t got.0, got.1)) (ray_in of sheet (variables sheet.lp.matrix) after)))))
      (chain_end_text Pararhs)
  infeasible_past_tells =
      after_text _ (codes " INFEASIBLE PAST ") _ (chain_end_text Pararhs) (after_word _ of rational_text _ (chain_end_text Pararhs) spells (λ t.
      after_text _ (codes "\n") _ (chain_end_text Pararhs)
      (made _ (ray_in of sheet (variables sheet.lp.matrix)) table_text (InfeasiblePast t) (chain_end_text Pararhs)
      (ray_tells of spells sheet (variables sheet.lp.matrix))
      (λ lines. as_past (solver_text Pararhs) (codes " INFEASIBLE PAST ") (rational_text t) (codes "\n") (table_text lines)))))

  pub close_tells : (solver : Solver) → Tells [] (close_in of sheet solver) (chain_end_text solver)
  close_tells Primal = after_text [] (solver_text Primal) _ _ (either _ ends_in (λ left. None) _ (ends_tell Primal) (never _ _))
  close_tells Dual = after_text [] (solver_text Dual) _ _ (either _ ends_in (λ left. None) _ (ends_tell Dual) (never _ _))
  close_tells Paraobj = after_text [] (solver_text Paraobj) _ _ (either _ ends_in _ _ (ends_tell Paraobj) unbounded_past_tells)
  close_tells Pararhs = after_text [] (solver_text Pararhs) _ _ (either _ ends_in _ _ (ends_tell Pararhs) infeasible_past_tells)
