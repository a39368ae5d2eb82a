-- A chain of intervals lands: each interval is read back and passes its test, and so does the close.
use Rattle.std.proofs.Common.{◌≡◌, ℕ, ◌+◌, ◌<◌, ◌≤◌, true, false, List, [], ◌∷◌, ◌++◌, length, map, Option, Some, None, codes, drop, if◌then◌else◌, refl, sym}
use Rattle.std.proofs.Common.{ap, subst, ◌∙◌, ◌⊎◌, inl, inr, arith, append_assoc, append-nil}
use Rattle.std.specs.Prelude.{All, nat_eq}
use Rattle.std.specs.List.{flat_map, enumerate_from}
use Rattle.std.proofs.lemmas.List.{length-append}
use Rattle.std.proofs.lemmas.List.Elements.{All-head, All-tail}
use Rattle.std.proofs.lemmas.Bool.Decides.{nat_tests}
use Rattle.exact_values.specs.Rational.{ℚ, ◌<ℚ◌}
use Rattle.exact_values.proofs.Order.{le_refl}
use Rattle.frac128.specs.Operations.{TermsFit}
use Rattle.lp_definitions.specs.LinearProgram.{LinearProgram, Vector, IsLinearProgram}
use Rattle.lp_definitions.specs.Solutions.{IsBest}
use Rattle.lp_definitions.specs.declared.Status.{Status}
use Rattle.check_definitions.specs.declared.Verdict.{Verdict}
use Rattle.check_definitions.specs.declared.Verdict.TheVariants.{Checked, Failed, Unchecked}
use Rattle.simplex_definitions.specs.Path.{last_of}
use Rattle.simplex_definitions.specs.Chain.{Part, ChainEnd as PastBreakpoint, AtMax, UnboundedPast as PastUnbounded, InfeasiblePast as PastInfeasible, IsPart}
use Rattle.simplex_definitions.specs.Chain.{IsChain, at_max, past_breakpoint, goes_on, Chain}
use Rattle.problem_definitions.specs.Problem.{Problem}
use Rattle.listing_definitions.specs.declared.Solver.{Solver}
use Rattle.listing_definitions.specs.Numbers.{rational_text}
use Rattle.listing_definitions.specs.Report.{ParametricInterval, ChainEnd, EndsAt, UnboundedPast, InfeasiblePast}
use Rattle.listing_definitions.specs.Text.{solver_text, interval_text, chain_end_text, chain_text}
use Rattle.question_definitions.specs.Answers.{Basis, Sheet, Changing, Row, Set, changing_name, parametric_solver, ParametricRun, OfParametricRun}
use Rattle.question_definitions.specs.Answers.{ParametricRunEnd, Chained}
use Rattle.answer_definitions.specs.ParametricRuns.{family_of, IsFace, sheet_at, interval_of, end_of, IsChained}
use Rattle.soundness_laws.specs.ParametricRuns.{ChangesFreely}
use Rattle.simplex_laws.specs.Laws.{IsNonsingularBasis}
use Rattle.run_definitions.specs.State.{Present, present_basis, State}
use Rattle.run_definitions.specs.Moves.{StatementOutcome}
use Rattle.run_definitions.specs.Verbs.{after_parametric_run}
use Rattle.run_definitions.specs.Run.{counted}
use Rattle.parametric_laws.specs.Truth.{IsTruePart, AreLongPast, last_end, IsTrueEnd, IsTrueRun}
use Rattle.control_definitions.specs.Cells.{steps_allowed}
use Rattle.walk_definitions.specs.Checkers.{Checker}
use Rattle.walk_definitions.specs.Words.{Parsed, left_after, max_count, fraction_in}
use Rattle.walk_definitions.specs.Tables.{begins_table_line}
use Rattle.walk_definitions.specs.Tests.{interval_test, close_test}
use Rattle.walk_definitions.specs.Reading.{Judged, Fails, by_verdict, unread, tested_or, judged_map, interval_in, close_in, Run, onward, part_in, run_in}
use Rattle.walk_definitions.specs.Reading.{parametric_run_head, parametric_run_in, judged}
use Rattle.walk_definitions.specs.Walker.{Walker, answered}
use Rattle.walk_definitions.proofs.Texts.{stands}
use Rattle.own_listing_laws.specs.Laws.{IsNoFailure, chain_of}
use Rattle.fitting_answers.specs.Fitting.{IntervalsFit, EndFits, LinesFit}
use Rattle.own_listing_laws.specs.Printed.{IsEndOf, of_end, of_direction, of_ray}
use Rattle.own_listing_laws.proofs.Sections.{interval_read, close_read}
use Rattle.own_listing_laws.proofs.Suiting.{SuitsRuns}
use Rattle.own_listing_laws.proofs.Tests.{Passes}
use Rattle.own_listing_laws.proofs.Pace.{rebased, RefusesTest, Lands}
use Rattle.own_listing_laws.proofs.Openings.{IsFine, fine_right, fine_refused, fine_map, fine_tested, true_run, ParametricRunLands}
use Rattle.own_listing_laws.proofs.Parts.{part_passes, IsKind, face_kind, close_passes}

-- ---- readers of the linear program at a value are those of the linear program

same_interval_in : (of : List ℕ → Option ℚ) (sheet : Sheet) (changing : Changing) (theta : ℚ) (number : ℕ) (from : ℚ) (rest : List ℕ) →
    interval_in of sheet number from rest ≡ interval_in of
    (sheet_at sheet changing theta) number from rest
same_interval_in of sheet (Row name) theta number from rest = refl
same_interval_in of sheet (Set name) theta number from rest = refl

same_close_in : (of : List ℕ → Option ℚ) (sheet : Sheet) (changing : Changing) (theta : ℚ) (rest : List ℕ) →
    close_in of sheet (parametric_solver changing) rest ≡ close_in of
    (sheet_at sheet changing theta) (parametric_solver changing) rest
same_close_in of sheet (Row name) theta rest = refl
same_close_in of sheet (Set name) theta rest = refl

is_end_of : (sheet : Sheet) (changing : Changing) (max : ℚ) (past : PastBreakpoint) → IsKind changing past →
    IsEndOf sheet (parametric_solver changing) (end_of sheet max past)
is_end_of sheet changing max AtMax kind = of_end max
is_end_of sheet (Row name) max (PastUnbounded past z d) kind = of_direction past z d
is_end_of sheet (Set name) max (PastInfeasible past w) kind = of_ray past w
is_end_of sheet (Row name) max (PastInfeasible past w) kind = absurd kind
is_end_of sheet (Set name) max (PastUnbounded past z d) kind = absurd kind

-- no interval stands where the run closes
no_interval : (changing : Changing) (end : ChainEnd) (more : List ℕ) →
    left_after (codes "INTERVAL ") (chain_end_text (parametric_solver changing) end ++ more) ≡ None
no_interval (Row name) (EndsAt value) more = refl
no_interval (Row name) (UnboundedPast value lines) more = refl
no_interval (Row name) (InfeasiblePast value lines) more = refl
no_interval (Set name) (EndsAt value) more = refl
no_interval (Set name) (UnboundedPast value lines) more = refl
no_interval (Set name) (InfeasiblePast value lines) more = refl

some_close : (changing : Changing) (end : ChainEnd) (more : List ℕ) → 1 ≤ length (chain_end_text (parametric_solver changing) end ++ more)
some_close (Row name) (EndsAt value) more = omega arith
some_close (Row name) (UnboundedPast value lines) more = omega arith
some_close (Row name) (InfeasiblePast value lines) more = omega arith
some_close (Set name) (EndsAt value) more = omega arith
some_close (Set name) (UnboundedPast value lines) more = omega arith
some_close (Set name) (InfeasiblePast value lines) more = omega arith

later_number : (number : ℕ) → 0 < number → nat_eq (number + 1) 1 ≡ false
later_number number some = grind (arith, nat_tests, some)

module _ (C : Checker) (suits : SuitsRuns C) (problem : Problem ℕ) (lp : LinearProgram) (parametric_run : ParametricRun) (lawful : IsLinearProgram lp)
    (free : ChangesFreely (record { problem = problem; lp = lp }) parametric_run.changing) (more : List ℕ) (plain : begins_table_line more ≡ false) where
  abbrev sheet : Sheet
  sheet = record { problem = problem; lp = lp }

  abbrev first : Sheet
  first = sheet_at sheet parametric_run.changing parametric_run.from

  abbrev family : ℚ → LinearProgram
  family = family_of sheet parametric_run.changing

  abbrev solver : Solver
  solver = parametric_solver parametric_run.changing

  -- the text of the intervals from a number on, and of the close
  abbrev pub body : ℕ → List Part → ChainEnd → List ℕ
  body number parts end = flat_map interval_text (enumerate_from number (map (interval_of first) parts)) ++ (chain_end_text solver end ++ more)

  -- ---- the close

  close_fine : (room : List ℕ) (number : ℕ) (last : ℚ) (v : Vector) (past : PastBreakpoint) → 1 ≤ length room → nat_eq number 1 ≡ false →
      IsBest (family last) v → IsKind parametric_run.changing past →
      IsTrueEnd family parametric_run.to last past → EndFits (end_of first parametric_run.to past) →
      IsFine C ([], end_of first parametric_run.to past) more
      (run_in C sheet parametric_run room number last (chain_end_text solver (end_of first parametric_run.to past) ++ more))
  close_fine [] number last v past some later best kind is fit = absurd (omega (arith, some))
  close_fine (byte ∷ room) number last v past some later best kind is fit =
      subst (λ (o : Option (List ℕ)). IsFine C ([], end) more
      (part_in C sheet parametric_run (run_in C sheet parametric_run room (number + 1)) number last text o))
      (sym (no_interval parametric_run.changing end more))
      (subst (λ b. IsFine C ([], end) more
      (if b then Fails else judged_map {Y = Run} (λ e. ([], e)) (judges (close_in (fraction_in C) sheet solver text)))) (sym later)
      (fine_map {Y = Run} C (λ e. ([], e)) end more (judges (close_in (fraction_in C) sheet solver text))
      (subst (λ (parsed : Parsed ChainEnd). IsFine C end more (judges parsed)) (sym read)
      (fine_tested C (close_test C sheet parametric_run.changing parametric_run.to last) end more
      (close_passes C problem lp parametric_run.changing lawful free parametric_run.from parametric_run.to last v best past kind is)))))
    where
      end : ChainEnd
      end = end_of first parametric_run.to past

      text : List ℕ
      text = chain_end_text solver (end_of first parametric_run.to past) ++ more

      judges : Parsed ChainEnd → Judged ChainEnd
      judges parsed =
          tested_or (unread C (λ of. close_in of sheet solver) text) (close_test C sheet parametric_run.changing parametric_run.to last) parsed

      read : close_in (fraction_in C) sheet solver (chain_end_text solver (end_of first parametric_run.to past) ++ more) ≡ Some
          (end_of first parametric_run.to past, more)
      read =
          same_close_in (fraction_in C) sheet parametric_run.changing parametric_run.from (chain_end_text solver (end_of first parametric_run.to past) ++ more)
          ∙ close_read (fraction_in C) suits.reads first solver (end_of first parametric_run.to past) more
          (is_end_of first parametric_run.changing parametric_run.to past kind) fit plain

  -- ---- an interval, and what follows it

  part_fine : (byte : ℕ) (room : List ℕ) (number : ℕ) (last : ℚ) (part : Part) (rest : List ℕ) (run : Run) → part.from ≡ last →
      Passes C (interval_test C sheet parametric_run.changing (nat_eq number 1) parametric_run.to (interval_of first part)) →
      TermsFit part.to → LinesFit (interval_of first part).lines →
      IsFine C run more (run_in C sheet parametric_run room (number + 1) part.to rest) →
      IsFine C (interval_of first part ∷ run.0, run.1) more
      (run_in C sheet parametric_run (byte ∷ room) number last (interval_text (number, interval_of first part) ++ rest))
  part_fine byte room number last part rest run begins passes fit lines_fit later =
      subst (λ (o : Option (List ℕ)). IsFine C (interval ∷ run.0, run.1) more (part_in C sheet parametric_run go number last text o))
      (sym there)
      (subst (λ (parsed : Parsed ParametricInterval). IsFine C (interval ∷ run.0, run.1) more (onward go (tested_or
      (unread C reads text) test parsed))) (sym read)
      (by (test interval) passes))
    where
      interval : ParametricInterval
      interval = interval_of first part

      go : ℚ → List ℕ → Judged Run
      go = run_in C sheet parametric_run room (number + 1)

      test : ParametricInterval → Verdict
      test = interval_test C sheet parametric_run.changing (nat_eq number 1) parametric_run.to

      reads : (List ℕ → Option ℚ) → List ℕ → Parsed ParametricInterval
      reads of = interval_in of sheet number last

      text : List ℕ
      text = interval_text (number, interval_of first part) ++ rest

      there : left_after (codes "INTERVAL ") (interval_text (number, interval_of first part) ++ rest) ≡ Some
          (drop 9 (interval_text (number, interval_of first part) ++ rest))
      there = stands (codes "INTERVAL ") (drop 9 (interval_text (number, interval_of first part) ++ rest))

      read : interval_in (fraction_in C) sheet number last (interval_text (number, interval_of first part) ++ rest) ≡ Some
          (interval_of first part, rest)
      read =
          same_interval_in (fraction_in C) sheet parametric_run.changing parametric_run.from number last (interval_text
          (number, interval_of first part) ++ rest)
          ∙ ap (λ (x : ℚ). interval_in (fraction_in C) first number x (interval_text (number, interval_of first part) ++ rest)) (sym begins)
          ∙ interval_read (fraction_in C) suits.reads first number part rest fit lines_fit

      by : (v : Verdict) → Passes C v →
          IsFine C (interval_of first part ∷ run.0, run.1) more
          (onward (run_in C sheet parametric_run room (number + 1)) (by_verdict v (interval_of first part) rest))
      by Checked passes =
          fine_map {Y = Run} C (λ (r : Run). (interval_of first part ∷ r.0, r.1)) run more
          (run_in C sheet parametric_run room (number + 1) part.to rest) later
      by (Failed one two) passes = absurd passes.of
      by (Unchecked refused) passes =
          fine_refused (record { op = refused.op; left = refused.left; right = refused.right; refuses = passes.of })

  -- ---- the chain

  -- the first interval may be a point, and no later one is
  abbrev pub IsLongEnough : ℕ → List Part → Type 0
  IsLongEnough number [] = Unit {0}
  IsLongEnough number (part ∷ parts) = (nat_eq number 1 ≡ true) ⊎ (part.from <ℚ part.to)

  tail_long : (number : ℕ) (part : Part) (parts : List Part) → AreLongPast (part ∷ parts) → IsLongEnough (number + 1) parts
  tail_long number part [] long = tt
  tail_long number part (next ∷ parts) long = inr (All-head (λ (later : Part). later.from <ℚ later.to) next parts long)

  tail_past : (part : Part) (parts : List Part) → AreLongPast (part ∷ parts) → AreLongPast parts
  tail_past part [] long = tt
  tail_past part (next ∷ parts) long = All-tail (λ (later : Part). later.from <ℚ later.to) next parts long

  body_more : (number : ℕ) (part : Part) (parts : List Part) (end : ChainEnd) →
      body number (part ∷ parts) end ≡ interval_text (number, interval_of first part) ++ body (number + 1) parts end
  body_more number part parts end =
      append_assoc (interval_text (number, interval_of first part)) (flat_map interval_text (enumerate_from (number + 1) (map (interval_of first) parts)))
      (chain_end_text solver end ++ more)

  abbrev run_of : List Part → PastBreakpoint → Run
  run_of parts past = (map (interval_of first) parts, end_of first parametric_run.to past)

  abbrev Fine : List ℕ → ℕ → ℚ → List Part → PastBreakpoint → Type 0
  Fine room number last parts past =
      IsFine C (run_of parts past) more
      (run_in C sheet parametric_run room number last (body number parts (end_of first parametric_run.to past)))

  -- an interval before a run that is fine
  one_more : (room : List ℕ) (number : ℕ) (last : ℚ) (s : List Status) (part : Part) (parts : List Part) (past : PastBreakpoint) →
      length parts + 2 ≤ length room → IsPart family last parametric_run.to s part → IsTruePart family parametric_run.to part →
      (nat_eq number 1 ≡ true) ⊎ (part.from <ℚ part.to) → TermsFit part.to → LinesFit (interval_of first part).lines →
      ((left : List ℕ) → length parts + 1 ≤ length left → Fine left (number + 1) part.to parts past) →
      Fine room number last (part ∷ parts) past
  one_more [] number last s part parts past enough is truth long fit lines_fit later = absurd (omega (arith, enough))
  one_more (byte ∷ room) number last s part parts past enough is truth long fit lines_fit later =
      subst (λ (text : List ℕ). IsFine C (run_of (part ∷ parts) past) more (run_in C sheet parametric_run (byte ∷ room) number last text))
      (sym (body_more number part parts (end_of first parametric_run.to past)))
      (part_fine byte room number last part (body (number + 1) parts (end_of first parametric_run.to past)) (run_of parts past) is.begins
      (part_passes sheet parametric_run.changing lawful free parametric_run.to part truth last s is parametric_run.from C (nat_eq number 1) long) fit lines_fit
      (later room (omega (arith, enough))))

  pub chain_fine : (room : List ℕ) (number : ℕ) (last : ℚ) (s : List Status) (parts : List Part) (past : PastBreakpoint) (path : List (List Status)) →
      length parts + 1 ≤ length room → 0 < number →
      IsChain family (IsFace sheet parametric_run.changing) parametric_run.to last s parts past path → All (IsTruePart family parametric_run.to) parts →
      IsLongEnough number parts → AreLongPast parts → IsTrueEnd family parametric_run.to (last_end last parts) past →
      IntervalsFit (map (interval_of first) parts) → EndFits (end_of first parametric_run.to past) → Fine room number last parts past
  chain_fine room number last s _ _ _ enough some (at_max {part = part} is is_max) truths long past_long end fit end_fit =
      let truth = All-head (IsTruePart family parametric_run.to) part [] truths in
      one_more room number last s part [] AtMax (omega (arith, enough)) is truth long fit.0.0 fit.0.1 (λ left room_left.
      close_fine left (number + 1) part.to _ AtMax (omega (arith, room_left)) (later_number number some)
      (truth.solved part.to truth.forward (le_refl part.to)).best tt end end_fit)
  chain_fine room number last s _ _ _ enough some (past_breakpoint {part = part} {end = past} is faces) truths long past_long end fit end_fit =
      let truth = All-head (IsTruePart family parametric_run.to) part [] truths in
      one_more room number last s part [] past (omega (arith, enough)) is truth long fit.0.0 fit.0.1 (λ left room_left.
      close_fine left (number + 1) part.to _ past (omega (arith, room_left)) (later_number number some)
      (truth.solved part.to truth.forward (le_refl part.to)).best
      (face_kind sheet parametric_run.changing part.to _ past faces.last) end end_fit)
  chain_fine room number last s _ _ _ enough some
      (goes_on {part = part} {parts = parts} {end = past} {bases = bases} {later = later} is faces rest) truths long past_long end fit end_fit =
      let truth = All-head (IsTruePart family parametric_run.to) part parts truths in
      one_more room number last s part parts past (omega (arith, enough)) is truth long fit.0.0 fit.0.1 (λ left room_left.
      chain_fine left (number + 1) part.to (last_of s bases) parts past later room_left (omega (arith, some)) rest
      (All-tail (IsTruePart family parametric_run.to) part parts truths)
      (tail_long number part parts past_long) (tail_past part parts past_long) end fit.1 end_fit)

  some_interval : (number : ℕ) (interval : ParametricInterval) → 1 ≤ length (interval_text (number, interval))
  some_interval number interval = omega arith

  -- each interval takes a byte of room at least
  pub room_enough : (number : ℕ) (parts : List Part) (end : ChainEnd) → length parts + 1 ≤ length (body number parts end)
  room_enough number [] end = let some = some_close parametric_run.changing end more in omega (arith, some)
  room_enough number (part ∷ parts) end =
      let later = room_enough (number + 1) parts end in
      let some = some_interval number (interval_of first part) in
      let both : length (body number (part ∷ parts) end) ≡ length (interval_text (number, interval_of first part)) + length (body (number + 1) parts end) =
      ap length (body_more number part parts end) ∙ length-append (interval_text (number, interval_of first part)) (body (number + 1) parts end) in
      omega (arith, later, some, both)

-- ---- the whole run

as_chain : (who from start change name end intervals close more : List ℕ) →
    (who ++ (from ++ (start ++ (change ++ (name ++ (end ++ (intervals ++ (close ++ [])))))))) ++ more ≡
    (who ++ (from ++ (start ++ (change ++ (name ++ end))))) ++ (intervals ++ (close ++ more))
as_chain who from start change name end intervals close more = simp (append_assoc, append-nil)

-- what is printed of a close doesn't depend on the value
same_end : (own : Sheet) (changing : Changing) (theta max : ℚ) (past : PastBreakpoint) → end_of own max past ≡ end_of (sheet_at own changing theta) max past
same_end own (Row name) theta max AtMax = refl
same_end own (Row name) theta max (PastUnbounded past z d) = refl
same_end own (Row name) theta max (PastInfeasible past w) = refl
same_end own (Set name) theta max AtMax = refl
same_end own (Set name) theta max (PastUnbounded past z d) = refl
same_end own (Set name) theta max (PastInfeasible past w) = refl

module _ (C : Checker) (suits : SuitsRuns C) (problem : Problem ℕ) (lp : LinearProgram) (parametric_run : ParametricRun) (lawful : IsLinearProgram lp)
    (free : ChangesFreely (record { problem = problem; lp = lp }) parametric_run.changing) (basis : Basis) (at : IsNonsingularBasis lp basis)
    (bases : List Basis) (intervals : List ParametricInterval) (end : ChainEnd) (more : List ℕ) where
  abbrev sheet_here : Sheet
  sheet_here = record { problem = problem; lp = lp }

  abbrev body_here : List ℕ
  body_here = flat_map interval_text (enumerate_from 1 intervals) ++ (chain_end_text (parametric_solver parametric_run.changing) end ++ more)

  run_fine : IsChained sheet_here basis parametric_run bases intervals end → begins_table_line more ≡ false → IntervalsFit intervals → EndFits end →
      IsFine C (intervals, end) more (run_in C sheet_here parametric_run body_here 1 parametric_run.from body_here)
  run_fine chained plain fits end_fits =
      subst (λ (is : List ParametricInterval). IsFine C (is, end) more
      (run_in C sheet_here parametric_run (text_of is end) 1 parametric_run.from (text_of is end))) (sym chained.are_intervals)
      (subst (λ (e : ChainEnd). IsFine C (all, e) more
      (run_in C sheet_here parametric_run (text_of all e) 1 parametric_run.from (text_of all e))) (sym end_is)
      (chain_fine C suits problem lp parametric_run lawful free more plain (text_of all close) 1 parametric_run.from
      (last_of basis chained.is_run.opening) chained.parts chained.past chained.is_run.faces
      (room_enough C suits problem lp parametric_run lawful free more plain 1 chained.parts close) (omega arith) chained.is_run.chain truth.intervals
      (first_long chained.parts) truth.long truth.closes
      (subst IntervalsFit chained.are_intervals fits) (subst EndFits end_is end_fits)))
    where
      text_of : List ParametricInterval → ChainEnd → List ℕ
      text_of is e = flat_map interval_text (enumerate_from 1 is) ++ (chain_end_text (parametric_solver parametric_run.changing) e ++ more)

      first : Sheet
      first = sheet_at (record { problem = problem; lp = lp }) parametric_run.changing parametric_run.from

      all : List ParametricInterval
      all = map (interval_of first) chained.parts

      close : ChainEnd
      close = end_of first parametric_run.to chained.past

      end_is : end ≡ end_of (sheet_at (record { problem = problem; lp = lp }) parametric_run.changing parametric_run.from) parametric_run.to chained.past
      end_is = chained.is_end ∙ same_end (record { problem = problem; lp = lp }) parametric_run.changing parametric_run.from parametric_run.to chained.past

      truth : IsTrueRun
          (family_of (record { problem = problem; lp = lp }) parametric_run.changing) parametric_run.from parametric_run.to chained.parts chained.past
      truth =
          true_run (record { problem = problem; lp = lp }) parametric_run.changing lawful free parametric_run.from parametric_run.to basis
          (Chain chained.parts chained.past) bases at chained.is_run

      first_long : (parts : List Part) → IsLongEnough C suits problem lp parametric_run lawful free more plain 1 parts
      first_long [] = tt
      first_long (part ∷ parts) = inl refl

  -- a parametric run is read of its text
  pub answer_fine : (rest : List ℕ) → rest ≡ chain_text (parametric_solver parametric_run.changing) (chain_of parametric_run intervals end) ++ more →
      IsChained sheet_here basis parametric_run bases intervals end → begins_table_line more ≡ false →
      IntervalsFit intervals → EndFits end →
      IsFine C (Chained [] intervals end) more (judged C (OfParametricRun parametric_run) sheet_here rest)
  answer_fine rest is chained plain fits end_fits =
      subst (λ (o : Option (List ℕ)). IsFine C (Chained [] intervals end) more (parametric_run_in C sheet_here parametric_run rest o))
      (sym head)
      (fine_map C f (intervals, end) more (run_in C sheet_here parametric_run body_here 1 parametric_run.from body_here)
      (run_fine chained plain fits end_fits))
    where
      f : Run → ParametricRunEnd
      f run = Chained [] run.0 run.1

      head : left_after (parametric_run_head parametric_run) rest ≡ Some body_here
      head =
          ap (left_after (parametric_run_head parametric_run))
          (is ∙ as_chain (solver_text (parametric_solver parametric_run.changing)) (codes " FROM ") (rational_text parametric_run.from) (codes " CHANGE ")
          (changing_name parametric_run.changing) (codes "\n")
          (flat_map interval_text (enumerate_from 1 intervals)) (chain_end_text (parametric_solver parametric_run.changing) end) more)
          ∙ stands (parametric_run_head parametric_run) body_here

-- no test fails
pub fine_passes : {X : Type 0} (C : Checker) (x : X) (rest : List ℕ) (j : Judged X) → IsFine C x rest j → IsNoFailure j
fine_passes C x rest _ fine_right = tt
fine_passes C x rest _ (fine_refused can) = tt

module _ (C : Checker) (suits : SuitsRuns C) (w : Walker) (s : State) (opening : Basis) (steps : List Basis)
    (limits : steps_allowed s.cells ≤ max_count) (card : ℕ)
    (parametric_run : ParametricRun) (present : Present) (lp : LinearProgram) (lawful : IsLinearProgram lp)
    (free : ChangesFreely (record { problem = present.problem; lp = lp }) parametric_run.changing) (at : IsNonsingularBasis lp (present_basis present)) where
  abbrev sheet_walked : Sheet
  sheet_walked = record { problem = present.problem; lp = lp }

  abbrev walked : State
  walked = record s { setup = rebased opening steps s.setup }

  abbrev set_up : Present
  set_up = record present { opening = opening; steps = steps }

  abbrev go : ParametricRunEnd → StatementOutcome
  go = after_parametric_run card parametric_run set_up (counted walked)

  abbrev own : ParametricRunEnd → StatementOutcome
  own = after_parametric_run card parametric_run present (counted s)

  module _ (bases : List Basis) (intervals : List ParametricInterval) (end : ChainEnd) (more : List ℕ) where
    fine_lands : (j : Judged ParametricRunEnd) → IsFine C (Chained [] intervals end) more j →
        Lands (RefusesTest C w) (own (Chained bases intervals end)) more (answered C w (OfParametricRun parametric_run) sheet_walked go j)
    fine_lands _ fine_right = record { like = record { opening = opening; steps = steps ++ []; is = refl; limits = limits }; is_rest = refl; waits = tt }
    fine_lands _ (fine_refused can) = record { is_rest = refl; can = can }

    pub chain_lands : IsChained sheet_walked (present_basis present) parametric_run bases intervals end →
        ParametricRunLands C suits w s opening steps limits card parametric_run present lp lawful free at (Chained bases intervals end) more
    chain_lands chained given =
        fine_lands (judged C (OfParametricRun parametric_run) sheet_walked w.rest)
        (answer_fine C suits present.problem lp parametric_run lawful free
        (present_basis present) at bases intervals end more w.rest given.text chained given.plain given.fits.0 given.fits.1)
