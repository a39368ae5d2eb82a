-- A parametric run that passes its tests is true at every value of the parameter.
use Rattle.std.proofs.Common.{◌≡◌, ℕ, suc, ◌+◌, ◌<◌, ◌⊎◌, List, [], ◌∷◌, ◌++◌, map, Bool, true, false, Option, Some, None, refl, sym, arith, codes, subst}
use Rattle.std.proofs.Common.{nat_eq, IfSome, option_map, All, Contains}
use Rattle.std.specs.Prelude.{if◌then◌else◌}
use Rattle.std.proofs.lemmas.Bool.Decides.{nat_tests}
use Rattle.std.proofs.lemmas.List.Elements.{All-nil, All-cons}
use mathlib.Core.Logic.{inl, inr}
use Rattle.exact_values.specs.Rational.{ℚ, ◌≤ℚ◌, ◌<ℚ◌}
use Rattle.exact_values.proofs.Order.{lt_not_le, le_of_lt, lt_or_le}
use Rattle.lp_definitions.specs.LinearProgram.{LinearProgram, IsLinearProgram, variables}
use Rattle.check_definitions.specs.declared.Verdict.{Verdict}
use Rattle.simplex_definitions.specs.Chain.{Part, ChainEnd as PastBreakpoint}
use Rattle.parametric_laws.specs.Truth.{IsTruePart, AreJoined, last_end, IsCovered, IsTrueEnd, IsTrueRun}
use Rattle.interval_laws.specs.Laws.{BetweenLaws, PastLaws}
use Rattle.listing_definitions.specs.Report.{Line, ParametricInterval, ChainEnd}
use Rattle.listing_definitions.specs.Numbers.{digits, rational_text}
use Rattle.question_definitions.specs.Answers.{Basis, Sheet, parametric_solver, ParametricRun, ParametricRunEnd, OfParametricRun, Opening, Chained}
use Rattle.answer_definitions.specs.ParametricRuns.{family_of}
use Rattle.walk_definitions.specs.Checkers.{Checker}
use Rattle.walk_definitions.specs.Words.{left_after, fraction_in}
use Rattle.walk_definitions.specs.Tables.{part_slots, table_in}
use Rattle.walk_definitions.specs.Tests.{interval_test, close_test}
use Rattle.walk_definitions.specs.Reading.{Run, Judged, Right, Fails, Refuses, judged, judged_map, tested_by, verdict_in, interval_in, close_in}
use Rattle.walk_definitions.specs.Reading.{parametric_run_head, onward, part_in, run_in, opening_in, parametric_run_in}
use Rattle.soundness_laws.specs.ParametricRuns.{ChangesFreely}
use Rattle.walk_laws.specs.Views.{part_of, past_of}
use Rattle.walk_laws.proofs.Judging.{right_is_passed, right_is_made}
use Rattle.walk_laws.proofs.Readings.{after_text, after_word, mapped, at_some}
use Rattle.walk_laws.proofs.Openings.{claim_steps, opening_of}
use Rattle.walk_laws.proofs.Intervals.{IsTrueInterval, interval_is_true}
use Rattle.walk_laws.proofs.Closings.{close_is_true}

-- ---- members

first_among : (part : Part) (parts : List Part) → Contains (part ∷ parts) part
first_among part parts = (0, omega arith, refl)

later_among : (other part : Part) (parts : List Part) → Contains parts part → Contains (other ∷ parts) part
later_among other part parts h = (suc h.0, omega (arith, h.1), h.2)

-- ---- what follows an interval

module _ (family : ℚ → LinearProgram) (max : ℚ) where
  -- the intervals from the last end on, and how the run closes
  pub record IsTrueRest (last : ℚ) (parts : List Part) (end : PastBreakpoint) : Type 0 where
    pub intervals : All (IsTruePart family max) parts
    pub joined : AreJoined last parts
    pub covered : (theta : ℚ) → last <ℚ theta → theta ≤ℚ last_end last parts → IsCovered parts theta
    pub long : All (λ (later : Part). later.from <ℚ later.to) parts
    pub closes : IsTrueEnd family max (last_end last parts) end

  no_more : (last : ℚ) (end : PastBreakpoint) → IsTrueEnd family max last end → IsTrueRest last [] end
  no_more last end closes = record {
    intervals = All-nil (IsTruePart family max);
    joined = tt;
    covered = λ theta above below. absurd (lt_not_le above below);
    long = All-nil (λ (later : Part). later.from <ℚ later.to);
    closes = closes;
  }

  -- the interval at the front has a value, or else one of those after it has
  covered_by : (part : Part) (parts : List Part) (end : PastBreakpoint) → IsTrueRest part.to parts end → (theta : ℚ) → part.from ≤ℚ theta →
      theta ≤ℚ last_end part.to parts → IsCovered (part ∷ parts) theta
  covered_by part parts end rest theta above below = by (lt_or_le part.to theta)
    where
      by : (part.to <ℚ theta) ⊎ (theta ≤ℚ part.to) → IsCovered (part ∷ parts) theta
      by (inl past) =
          let found = rest.covered theta past below in
          record { part = found.part; among = later_among part found.part parts found.among; after = found.after; before = found.before }
      by (inr within) = record { part = part; among = first_among part parts; after = above; before = within }

  one_more : (last : ℚ) (part : Part) (parts : List Part) (end : PastBreakpoint) → part.from ≡ last → IsTruePart family max part → part.from <ℚ part.to
      → IsTrueRest part.to parts end
      → IsTrueRest last (part ∷ parts) end
  one_more last part parts end begins is_true long rest = record {
    intervals = All-cons (IsTruePart family max) part parts is_true rest.intervals;
    joined = (begins, rest.joined);
    covered = λ theta above below. covered_by part parts end rest theta (subst (λ (x : ℚ). x ≤ℚ theta) (sym begins) (le_of_lt above)) below;
    long = All-cons (λ (later : Part). later.from <ℚ later.to) part parts long rest.long;
    closes = rest.closes;
  }

  whole_run : (from : ℚ) (part : Part) (parts : List Part) (end : PastBreakpoint) → part.from ≡ from → IsTruePart family max part → IsTrueRest part.to parts end
      → IsTrueRun family from max (part ∷ parts) end
  whole_run from part parts end begins is_true rest = record {
    intervals = All-cons (IsTruePart family max) part parts is_true rest.intervals;
    joined = (begins, rest.joined);
    covered = λ theta above below. covered_by part parts end rest theta (subst (λ (x : ℚ). x ≤ℚ theta) (sym begins) above) below;
    long = rest.long;
    closes = rest.closes;
  }

-- ---- an interval is read, and the rest of the run after it

fails_is_not_right : (run : Run) (after : List ℕ) → Fails ≡ Right run after → ⊥
fails_is_not_right run after e = cc

anything : {X : Type 0} (o : Option X) → IfSome o (λ x. Unit {0})
anything None = tt
anything (Some x) = tt

begins_at : (of : List ℕ → Option ℚ) (sheet : Sheet) (number : ℕ) (last : ℚ) (rest after : List ℕ) (interval : ParametricInterval) →
    interval_in of sheet number last rest ≡ Some (interval, after) → interval.from ≡ last
begins_at of sheet number last rest after interval e =
    at_some Begins (interval_in of sheet number last rest) (interval, after) e
    (after_text Begins (codes "INTERVAL " ++ (digits number ++ (codes " FROM " ++ (rational_text last ++ codes " TO ")))) _ rest (λ on.
    after_word Begins of _ on (λ to known on.
    after_text Begins (codes "\n")
    (λ rest. option_map (λ got. (record { from = last; to = to; lines = got.0 }, got.1)) (table_in of sheet part_slots (variables sheet.lp.matrix) rest)) on
    (λ on.
    mapped Begins (λ (got : List Line × List ℕ). Unit {0}) (λ got. (record { from = last; to = to; lines = got.0 }, got.1))
    (table_in of sheet part_slots (variables sheet.lp.matrix) on) (anything (table_in of sheet part_slots (variables sheet.lp.matrix) on)) (λ got h. refl)))))
  where
    Begins : ParametricInterval × List ℕ → Type 0
    Begins got = got.0.from ≡ last

module _ (sheet : Sheet) (parametric_run : ParametricRun) where
  -- an interval is right, and so is what comes of the text after it
  pub record GoesOn (go : ℚ → List ℕ → Judged Run) (judged : Judged ParametricInterval) (run : Run) (after : List ℕ) : Type 0 where
    pub interval : ParametricInterval
    pub left : List ℕ
    pub is_right : judged ≡ Right interval left
    pub more : Run
    pub goes : go interval.to left ≡ Right more after
    pub is_run : (interval ∷ more.0, more.1) ≡ run

  goes_on : (go : ℚ → List ℕ → Judged Run) (judged : Judged ParametricInterval) (run : Run) (after : List ℕ) → onward go judged ≡ Right run after →
      GoesOn go judged run after
  goes_on go (Right interval left) run after e =
      let join : Run → Run = λ more. (interval ∷ more.0, more.1) in
      let made = right_is_made join (go interval.to left) run after e in
      record { interval = interval; left = left; is_right = refl; more = made.made_of; goes = made.is_right; is_run = made.is_made }
  goes_on go Fails run after e = cc
  goes_on go Refuses run after e = cc

module _ (C : Checker) (between : BetweenLaws) (past : PastLaws) (sheet : Sheet) (parametric_run : ParametricRun) (lawful : IsLinearProgram sheet.lp)
    (may : ChangesFreely sheet parametric_run.changing) where
  abbrev family : ℚ → LinearProgram
  family = family_of sheet parametric_run.changing

  -- the rest of a run is true, with its intervals and its end
  abbrev RestIsTrue : ℚ → Run → Type 0
  RestIsTrue last run = IsTrueRest family parametric_run.to last (map part_of run.0) (past_of sheet run.1)

  -- the first interval of what is left
  pub record Opens (go : ℚ → List ℕ → Judged Run) (is_first : Bool) (last : ℚ) (run : Run) (after : List ℕ) : Type 0 where
    pub interval : ParametricInterval
    pub left : List ℕ
    pub more : Run
    pub goes : go interval.to left ≡ Right more after
    pub is_run : (interval ∷ more.0, more.1) ≡ run
    pub begins : interval.from ≡ last
    pub is_true : IsTrueInterval family is_first parametric_run.to (part_of interval)

  opens : (go : ℚ → List ℕ → Judged Run) (number : ℕ) (last : ℚ) (rest after : List ℕ) (run : Run)
      → onward go (tested_by C (interval_test C sheet parametric_run.changing (nat_eq number 1) parametric_run.to)
      (λ of. interval_in of sheet number last) rest) ≡ Right run after → Opens go (nat_eq number 1) last run after
  opens go number last rest after run e =
      let test : ParametricInterval → Verdict = interval_test C sheet parametric_run.changing (nat_eq number 1) parametric_run.to in
      let found = goes_on sheet parametric_run go (tested_by C test (λ of. interval_in of sheet number last) rest) run after e in
      let right = right_is_passed C test (λ of. interval_in of sheet number last) rest found.interval found.left found.is_right in
      record {
        interval = found.interval;
        left = found.left;
        more = found.more;
        goes = found.goes;
        is_run = found.is_run;
        begins = begins_at (fraction_in C) sheet number last rest found.left found.interval right.is_read;
        is_true = interval_is_true C between sheet parametric_run.changing lawful may (nat_eq number 1) parametric_run.to found.interval right.passes;
      }

  -- where no interval stands the run closes
  closed : (last : ℚ) (rest after : List ℕ) (run : Run)
      → judged_map (λ (end : ChainEnd). ([], end))
      (tested_by C (close_test C sheet parametric_run.changing parametric_run.to last)
      (λ of. close_in of sheet (parametric_solver parametric_run.changing)) rest) ≡ Right run after → RestIsTrue last run
  closed last rest after run e =
      let test : ChainEnd → Verdict = close_test C sheet parametric_run.changing parametric_run.to last in
      let none : ChainEnd → Run = λ end. ([], end) in
      let made = right_is_made none (tested_by C test (λ of. close_in of sheet (parametric_solver parametric_run.changing)) rest) run after e in
      let right = right_is_passed C test (λ of. close_in of sheet (parametric_solver parametric_run.changing)) rest made.made_of after made.is_right in
      subst (RestIsTrue last) made.is_made
      (no_more family parametric_run.to last (past_of sheet made.made_of)
      (close_is_true C sheet past parametric_run.changing parametric_run.to last made.made_of lawful right.passes))

  -- it doesn't close before its first interval
  closed_late : (b : Bool) (last : ℚ) (rest after : List ℕ) (run : Run)
      → (if b then Fails else judged_map (λ (end : ChainEnd). ([], end))
      (tested_by C (close_test C sheet parametric_run.changing parametric_run.to last)
      (λ of. close_in of sheet (parametric_solver parametric_run.changing)) rest)) ≡ Right run after
      → RestIsTrue last run
  closed_late true last rest after run e = absurd (fails_is_not_right run after e)
  closed_late false last rest after run e = closed last rest after run e

  abbrev LaterIsTrue : (ℚ → List ℕ → Judged Run) → Type 0
  LaterIsTrue go = (last : ℚ) (rest after : List ℕ) (run : Run) → go last rest ≡ Right run after → RestIsTrue last run

  -- an interval past the first is longer than a point
  long_past : (number : ℕ) (part : Part) → 1 < number → (part.from <ℚ part.to) ⊎ ((nat_eq number 1 ≡ true) × (part.from ≡ part.to)) → part.from <ℚ part.to
  long_past number part high (inl long) = long
  long_past number part high (inr first) = let one : nat_eq number 1 ≡ true = first.0 in absurd (grind (arith, nat_tests))

  opened_late : (go : ℚ → List ℕ → Judged Run) (number : ℕ) (last : ℚ) (run : Run) (after : List ℕ) → 1 < number → LaterIsTrue go →
      Opens go (nat_eq number 1) last run after → RestIsTrue last run
  opened_late go number last run after high later h =
      subst (RestIsTrue last) h.is_run
      (one_more family parametric_run.to last (part_of h.interval) (map part_of h.more.0) (past_of sheet h.more.1) h.begins h.is_true.is_true
      (long_past number (part_of h.interval) high h.is_true.long) (later h.interval.to h.left after h.more h.goes))

  -- an interval past the first, or the end
  next : (go : ℚ → List ℕ → Judged Run) (number : ℕ) (last : ℚ) (rest after : List ℕ) (run : Run) → 1 < number → LaterIsTrue go
      → (o : Option (List ℕ)) → part_in C sheet parametric_run go number last rest o ≡ Right run after → RestIsTrue last run
  next go number last rest after run high later None e = closed_late (nat_eq number 1) last rest after run e
  next go number last rest after run high later (Some on) e = opened_late go number last run after high later (opens go number last rest after run e)

  rest_is_true : (room : List ℕ) (number : ℕ) (last : ℚ) (rest after : List ℕ) (run : Run) → 1 < number →
      run_in C sheet parametric_run room number last rest ≡ Right run after → RestIsTrue last run
  rest_is_true [] number last rest after run high e = absurd (fails_is_not_right run after e)
  rest_is_true (byte ∷ room) number last rest after run high e =
      next (run_in C sheet parametric_run room (number + 1)) number last rest after run high
      (λ last rest after run goes. rest_is_true room (number + 1) last rest after run (omega (arith, high)) goes) (left_after (codes "INTERVAL ") rest) e

  abbrev RunIsTrue : Run → Type 0
  RunIsTrue run = IsTrueRun family parametric_run.from parametric_run.to (map part_of run.0) (past_of sheet run.1)

  -- the first interval, which may be a point
  first : (room : List ℕ) (rest after : List ℕ) (run : Run) (o : Option (List ℕ)) →
      part_in C sheet parametric_run (run_in C sheet parametric_run room (1 + 1)) 1 parametric_run.from rest o ≡ Right run after → RunIsTrue run
  first room rest after run None e = absurd (fails_is_not_right run after e)
  first room rest after run (Some on) e =
      let h = opens (run_in C sheet parametric_run room (1 + 1)) 1 parametric_run.from rest after run e in
      let more = rest_is_true room (1 + 1) h.interval.to h.left after h.more (omega arith) h.goes in
      subst RunIsTrue h.is_run
      (whole_run family parametric_run.to parametric_run.from (part_of h.interval) (map part_of h.more.0)
      (past_of sheet h.more.1) h.begins h.is_true.is_true more)

  run_is_true : (room : List ℕ) (rest after : List ℕ) (run : Run) → run_in C sheet parametric_run room 1 parametric_run.from rest ≡ Right run after →
      RunIsTrue run
  run_is_true [] rest after run e = absurd (fails_is_not_right run after e)
  run_is_true (byte ∷ room) rest after run e = first room rest after run (left_after (codes "INTERVAL ") rest) e

  -- ---- the answer to the question for a parametric run

  -- an opening that is read is no run of intervals
  no_opening : (rest after : List ℕ) (bases : List Basis) (intervals : List ParametricInterval) (end : ChainEnd) →
      opening_in C sheet parametric_run rest ≡ Right (Chained bases intervals end) after → ⊥
  no_opening rest after bases intervals end e =
      let made =
      right_is_made (opening_of C sheet parametric_run)
      (tested_by C (claim_steps C sheet parametric_run) (λ of. verdict_in of sheet (parametric_solver parametric_run.changing)) rest)
      (Chained bases intervals end) after e in
      let two : Opening [] made.made_of.0 made.made_of.1 ≡ Chained bases intervals end = made.is_made in
      cc two

  abbrev chained_of : Run → ParametricRunEnd
  chained_of run = Chained [] run.0 run.1

  same_run : (bases : List Basis) (intervals : List ParametricInterval) (end : ChainEnd) (run : Run) → chained_of run ≡ Chained bases intervals end →
      run ≡ (intervals, end)
  same_run bases intervals end run e =
      let same : run.0 ≡ intervals = cc in
      let closes : run.1 ≡ end = cc in
      λ i. (same i, closes i)

  chained_is_true : (on after : List ℕ) (bases : List Basis) (intervals : List ParametricInterval) (end : ChainEnd)
      → judged_map chained_of (run_in C sheet parametric_run on 1 parametric_run.from on) ≡ Right (Chained bases intervals end) after
      → RunIsTrue (intervals, end)
  chained_is_true on after bases intervals end e =
      let made = right_is_made chained_of (run_in C sheet parametric_run on 1 parametric_run.from on) (Chained bases intervals end) after e in
      subst RunIsTrue (same_run bases intervals end made.made_of made.is_made) (run_is_true on on after made.made_of made.is_right)

  run_through : (rest after : List ℕ) (bases : List Basis) (intervals : List ParametricInterval) (end : ChainEnd) (left : Option (List ℕ)) →
      parametric_run_in C sheet parametric_run rest left ≡ Right (Chained bases intervals end) after → RunIsTrue (intervals, end)
  run_through rest after bases intervals end None e = absurd (no_opening rest after bases intervals end e)
  run_through rest after bases intervals end (Some on) e = chained_is_true on after bases intervals end e

  pub chain_is_true : (rest after : List ℕ) (bases : List Basis) (intervals : List ParametricInterval) (end : ChainEnd) →
      judged C (OfParametricRun parametric_run) sheet rest ≡ Right (Chained bases intervals end) after →
      IsTrueRun family parametric_run.from parametric_run.to (map part_of intervals) (past_of sheet end)
  chain_is_true rest after bases intervals end e = run_through rest after bases intervals end (left_after (parametric_run_head parametric_run) rest) e
