-- From interval to interval.
use Rattle.std.proofs.Common.{◌≡◌, ℕ, ◌+◌, ◌-◌, ◌<◌, ◌≤◌, ◌⊎◌, inl, inr, List, [], ◌∷◌, ◌++◌, map, length, refl, sym, ap, subst, ◌∙◌, arith}
use Rattle.std.proofs.lemmas.List.{append-nil, length-append, map-append}
use Rattle.exact_values.specs.Rational.{ℚ, ◌≤ℚ◌, ◌<ℚ◌}
use Rattle.exact_values.proofs.Order.{le_refl, le_trans, le_of_lt, lt_or_le, lt_irrefl}
use Rattle.lp_definitions.specs.LinearProgram.{size}
use Rattle.lp_definitions.specs.Basis.{Basics, basics_of, IsOptimalBasis}
use Rattle.lp_definitions.specs.Waypoints.{KeepsWaypoints}
use Rattle.lp_definitions.specs.declared.Status.{Status}
use Rattle.lp_model.specs.RatesCalls.{IfOverflow}
use Rattle.lp_model.specs.declared.Stop.{Stop}
use Rattle.lp_model.specs.declared.Stop.TheVariants as stop
use Rattle.lp_model.specs.declared.reports.ParaEnd.{ParaEnd}
use Rattle.lp_model.specs.declared.reports.ParaEnd.TheVariants as end
use Rattle.lp_model.specs.declared.reports.ParaPart.{ParaPart}
use Rattle.simplex_definitions.specs.Path.{last_of}
use Rattle.simplex_laws.specs.Laws.{IsNonsingularBasis}
use Rattle.simplex_definitions.specs.Chain.{Part, AtBreakpoint, FaceDone, FaceEnds, IsPart, IsChain, at_max, past_breakpoint}
use Rattle.bounded_primal.specs.Stops.{primal_stop_of}
use Rattle.bounded_primal.specs.declared.moves.PrimalStop.{PrimalStop}
use Rattle.parametric_laws.proofs.Runs.{last_of-append}
use Rattle.parametric_run.specs.Begun.{IsBegun, nothing, then}
use Rattle.parametric_run.specs.Calls.{part_of, end_of}
use Rattle.parametric_run.specs.Chains.{StandsAt, ChainEnds, OpensFrom, ChainStops, ChainFollows}
use Rattle.parametric_run.specs.Faces.{FacesReach, AnyRun, FacesStop, FacesFollow}
use Rattle.parametric_run.specs.Programs.{ParametricProgram, IsParametric}
use Rattle.parametric_run.specs.Standing.{RefusedAt}
use Rattle.parametric_run.specs.Walks.{MayOpen, IntervalStops}
use Rattle.parametric_run.specs.declared.method.Span.{Span}
use Rattle.parametric_run.proofs.Chains.{closes, begun_last}
use Rattle.parametric_run.proofs.Walks.{opens_later, opens_next, run_breaks, opening_follows, interval_stops}

-- ---- a stop where an interval begins

pub refused_interval : (m : ParametricProgram) (s : List Status) (left : ℕ) (ways now : List Basics) (from : ℚ) (why : Stop) →
    IfOverflow why (RefusedAt m s ways now) →
    IntervalStops (m.statement from) m.program.matrix s left ways now (primal_stop_of why)
refused_interval m s left ways now from (stop.Overflow e) r = λ breakpoint. r from breakpoint left
refused_interval m s left ways now from stop.NoMemory r = tt

-- ---- each breakpoint has a face step

module _ (m : ParametricProgram) (is_parametric : IsParametric m) where
  same_size : (theta other : ℚ) → size (m.family theta).matrix ≡ size (m.family other).matrix
  same_size theta other = ap size (is_parametric.same_matrix theta ∙ sym (is_parametric.same_matrix other))

  -- the interval that begins at the breakpoint with the same basis ends there too
  again : (from max : ℚ) (s : List Status) (part : Part) → IsPart m.family from max s part → IsPart m.family part.to max s (record part { from = part.to })
  again from max s part is = record {
    begins = refl;
    statuses = is.statuses;
    reaches = record {
      forward = le_refl part.to;
      within = is.reaches.within;
      optimal = λ x low high. is.reaches.optimal x (le_trans is.reaches.forward low) high;
      greatest = λ u within all. is.reaches.greatest u within (λ x low high. by_order u all x low high (lt_or_le x part.to));
    };
    values = is.values;
    prices = is.prices;
    values_counted =
        record {
          value_counted = is.values_counted.value_counted ∙ same_size from part.to;
          rate_counted = is.values_counted.rate_counted
              ∙ same_size from part.to;
        };
    prices_counted =
        record {
          value_counted = is.prices_counted.value_counted ∙ same_size from part.to;
          rate_counted = is.prices_counted.rate_counted
              ∙ same_size from part.to;
        };
  }
    where
      by_order : (u : ℚ) → ((x : ℚ) → part.to ≤ℚ x → x ≤ℚ u → IsOptimalBasis (m.family x) s) → (x : ℚ) → from ≤ℚ x → x ≤ℚ u → (x <ℚ part.to) ⊎ (part.to ≤ℚ x) →
          IsOptimalBasis (m.family x) s
      by_order u all x low high (inl before) = is.reaches.optimal x low (le_of_lt before)
      by_order u all x low high (inr past) = all x past high

  pub progress : (theta max : ℚ) (s now : List Status) (part : ParaPart) (begun left : ℕ) → IsNonsingularBasis m.program s →
      IsPart m.family theta max s (part_of part) → part.to <ℚ max → FacesReach m part.to s now begun left → m.face part.to now FaceDone → left < begun
  progress theta max s now part begun left at is before reach done = by_bases reach.bases reach.reaches reach.taken
    where
      by_bases : (bases : List (List Status)) → last_of s bases ≡ now → length bases + left ≡ begun → left < begun
      by_bases [] same counted =
          absurd (lt_irrefl (is_parametric.grows part.to max s (record (part_of part) { from = part.to }) at before
          (subst (λ x. m.face part.to x FaceDone) (sym same) done) (again theta max s (part_of part) is)))
      by_bases (b ∷ bases) same counted = omega (arith, counted)

-- ---- the intervals so far

module _ (m : ParametricProgram) (span : Span) (s : List Status) (begun : ℕ) where
  pub record Begins (parts : List Part) (theta : ℚ) (now : List Status) (left : ℕ) : Type 0 where
    pub path : List (List Status)
    pub is_begun : IsBegun m.family m.face span.from span.to s parts theta now path
    pub taken : length path + left ≡ begun

  pub parts_begin : Begins [] span.from s begun
  parts_begin = record { path = []; is_begun = nothing; taken = omega arith }

  module _ (old : List ParaPart) (theta : ℚ) (now : List Status) (left : ℕ) (b : Begins (map part_of old) theta now left) (part : ParaPart)
      (is : IsPart m.family theta span.to now (part_of part))
      (items : List ParaPart) (pushed : items ≡ old ++ part ∷ []) where
    parts_are : map part_of items ≡ map part_of old ++ part_of part ∷ []
    parts_are = ap (map part_of) pushed ∙ map-append part_of old (part ∷ [])

    -- no face step is left
    pub parts_more : (next : List Status) (later : ℕ) → part.to <ℚ span.to → FacesReach m part.to now next left later → m.face part.to next FaceDone →
        Begins (map part_of items) part.to next later
    parts_more next later before reach done = record {
      path = b.path ++ reach.bases;
      is_begun =
          subst (λ (xs : List Part). IsBegun m.family m.face span.from span.to s xs part.to next (b.path ++ reach.bases)) (sym parts_are)
          (subst (λ (x : List Status). IsBegun m.family m.face span.from span.to s (map part_of old ++ part_of part ∷ []) part.to x
          (b.path ++ reach.bases)) reach.reaches
          (then {parts = map part_of old} {theta = theta} {now = now} {path = b.path} {part = part_of part} {bases = reach.bases} b.is_begun is
          (record { before_max = before; face_path = reach.path; last = subst (λ x. m.face part.to x FaceDone) (sym reach.reaches) done })));
      taken =
          let first = b.taken in let second = reach.taken in let both : length
          (b.path ++ reach.bases) ≡ length b.path + length reach.bases = length-append b.path reach.bases in omega (arith, first, second, both);
    }

    -- where each run stands after so many steps, with this many left
    abbrev pub StandsAll : List Basics → List Status → List Basics → ℕ → Type 0
    StandsAll ways next more later =
        (start : List Status) (before : List Basics) (steps taken : ℕ) → taken + later ≡ steps + begun → OpensFrom m span start before s ways steps →
        StandsAt m span start before next more taken

    -- the last interval goes to the last value
    pub ends_at_max : (ways more : List Basics) → part.to ≡ span.to → StandsAll ways now more left →
        ChainEnds m span s now begun ways more (record { parts = items; end = end.AtMax })
    ends_at_max ways more whole stood =
        let first = b.taken in let same : length (b.path ++ []) ≡ length b.path = ap length (append-nil b.path) in
        record {
          path = b.path ++ [];
          chain =
              subst (λ (xs : List Part). IsChain m.family m.face span.to span.from s xs (end_of end.AtMax) (b.path ++ [])) (sym parts_are)
              (closes m.family m.face span.from span.to s (map part_of old) theta now b.path (part_of part ∷ []) (end_of end.AtMax) [] b.is_begun
              (at_max {from = theta} {s = now} {part = part_of part} is whole));
          reaches = ap (last_of s) (append-nil b.path) ∙ begun_last m.family m.face span.from span.to s (map part_of old) theta now b.path b.is_begun;
          within = omega (arith, first, same);
          stood = λ start before steps counted h. stood start before steps (steps + length (b.path ++ [])) (omega (arith, first, same)) h;
        }

    -- or ends before it, with what is proved of all beyond
    pub ends_past : (ways more : List Basics) (next : List Status) (later : ℕ) (last : ParaEnd) → part.to <ℚ span.to →
        FacesReach m part.to now next left later → m.face part.to next (FaceEnds (end_of last)) →
        StandsAll ways next more later → ChainEnds m span s next begun ways more (record { parts = items; end = last })
    ends_past ways more next later last before reach ends stood =
        let first = b.taken in
        let second = reach.taken in let both : length (b.path ++ reach.bases) ≡ length b.path + length reach.bases = length-append b.path reach.bases in
        record {
          path = b.path ++ reach.bases;
          chain =
              subst (λ (xs : List Part). IsChain m.family m.face span.to span.from s xs (end_of last) (b.path ++ reach.bases)) (sym parts_are)
              (closes m.family m.face span.from span.to s (map part_of old) theta now b.path (part_of part ∷ []) (end_of last) reach.bases b.is_begun
              (past_breakpoint {from = theta} {s = now} {part = part_of part} is
              (record {
                before_max = before;
                face_path = reach.path;
                last = subst (λ x. m.face part.to x (FaceEnds (end_of last)))
                    (sym reach.reaches) ends;
              })));
          reaches =
              last_of-append s b.path reach.bases
              ∙ ap (λ x. last_of x reach.bases) (begun_last m.family m.face span.from span.to s (map part_of old) theta now b.path b.is_begun) ∙ reach.reaches;
          within = omega (arith, first, second, both);
          stood = λ start before steps counted h. stood start before steps (steps + length (b.path ++ reach.bases)) (omega (arith, first, second, both)) h;
        }

-- ---- each run whose opening has come to s

module _ (m : ParametricProgram) (span : Span) (s : List Status) (begun : ℕ) (ways : List Basics) where
  -- may open its next interval at theta with the basis now, with so many steps left
  abbrev pub OpensAny : ℚ → List Status → List Basics → ℕ → Type 0
  OpensAny theta now more left =
      (start : List Status) (before : List Basics) (steps taken : ℕ) → taken + left ≡ steps + begun → OpensFrom m span start before s ways steps →
      MayOpen m.family m.face span.from span.to m.program.matrix start before theta now more taken

  pub opens_first_any : (more : List Basics) → KeepsWaypoints m.program.matrix (basics_of s) ways (basics_of s) more → OpensAny span.from s more begun
  opens_first_any more keeps start before steps taken counted h =
      subst (λ (n : ℕ). MayOpen m.family m.face span.from span.to m.program.matrix start before span.from s more n) (omega (arith, counted))
      (opens_later m.family m.face span.from span.to m.program.matrix start before span.from s ways steps h more keeps)

  pub first_stops : (more : List Basics) (why : PrimalStop) → IntervalStops (m.statement span.from) m.program.matrix s begun ways more why →
      ChainStops m span s s begun ways more why
  first_stops more why stops start before steps counted h =
      interval_stops m.family m.face span.from span.to m.program.matrix start before span.from s ways steps h (m.statement span.from) span.limit more why
      (omega (arith, counted))
      (subst (λ (n : ℕ). IntervalStops (m.statement span.from) m.program.matrix s n ways more why) (omega (arith, counted)) stops)

  module _ (theta : ℚ) (now : List Status) (more : List Basics) (left : ℕ) (any : OpensAny theta now more left) (within : left ≤ begun) where
    pub stops_any : (why : PrimalStop) → IntervalStops (m.statement span.from) m.program.matrix now left more more why →
        ChainStops m span s now begun ways more why
    stops_any why stops start before steps counted h =
        interval_stops m.family m.face span.from span.to m.program.matrix start before theta now more (steps + begun - left)
        (any start before steps (steps + begun - left) (omega (arith, within)) h)
        (m.statement span.from) span.limit more why (omega (arith, within, counted))
        (subst (λ (n : ℕ). IntervalStops (m.statement span.from) m.program.matrix now n more more why) (omega (arith, within, counted)) stops)

    pub stood_any : (start : List Status) (before : List Basics) (steps taken : ℕ) → taken + left ≡ steps + begun → OpensFrom m span start before s ways steps →
        StandsAt m span start before now more taken
    stood_any start before steps taken counted h =
        let o = any start before steps taken counted h in record { place = o.place; ends = o.ends; is_now = o.is_now; run_there = o.run }

    pub follows_any : ChainFollows m span s now begun ways more
    follows_any start before steps counted h =
        opening_follows m.family m.face span.from span.to m.program.matrix start before theta now more (steps + begun - left)
        (any start before steps (steps + begun - left) (omega (arith, within)) h)
        span.limit (omega (arith, within, counted))

    module _ (part : ParaPart) (is : IsPart m.family theta span.to now (part_of part)) (before_end : part.to <ℚ span.to) (next : List Status)
        (last : List Basics) where
      -- no face step is left at the breakpoint
      pub opens_more : (later : ℕ) → AnyRun m part.to now next more last left later → m.face part.to next FaceDone → OpensAny part.to next last later
      opens_more later all done start before steps taken counted h =
          let o = any start before steps (steps + begun - left) (omega (arith, within)) h in
          opens_next m.family m.face span.from span.to m.program.matrix start before part.to (part.to ∷ o.ends) next last taken
          (all span.from span.to start before (part.to ∷ o.ends) (steps + begun - left) taken (omega (arith, within, counted))
          (run_breaks m.family m.face span.from span.to m.program.matrix start before theta now more
          (steps + begun - left) o part.to is.reaches before_end)) done

      pub faces_stop_any : (why : PrimalStop) → FacesStop m part.to now next left more last why → ChainStops m span s next begun ways last why
      faces_stop_any why stops start before steps counted h =
          let o = any start before steps (steps + begun - left) (omega (arith, within)) h in
          stops span start before (part.to ∷ o.ends) (steps + begun - left) (omega (arith, within, counted))
          (run_breaks m.family m.face span.from span.to m.program.matrix start before theta now more (steps + begun - left) o part.to is.reaches before_end)

      pub faces_follow_any : FacesFollow m part.to now next left more last → ChainFollows m span s next begun ways last
      faces_follow_any follow start before steps counted h =
          let o = any start before steps (steps + begun - left) (omega (arith, within)) h in
          follow span start before (part.to ∷ o.ends) (steps + begun - left) (omega (arith, within, counted))
          (run_breaks m.family m.face span.from span.to m.program.matrix start before theta now more (steps + begun - left) o part.to is.reaches before_end)

      pub stood_past : (later : ℕ) → AnyRun m part.to now next more last left later →
          (start : List Status) (before : List Basics) (steps taken : ℕ) → taken + later ≡ steps + begun → OpensFrom m span start before s ways steps →
          StandsAt m span start before next last taken
      stood_past later all start before steps taken counted h =
          let o = any start before steps (steps + begun - left) (omega (arith, within)) h in
          record {
            place = AtBreakpoint part.to next;
            ends = part.to ∷ o.ends;
            is_now = refl;
            run_there = all span.from span.to start before (part.to ∷ o.ends) (steps + begun - left) taken (omega (arith, within, counted))
                (run_breaks m.family m.face span.from span.to m.program.matrix start before theta now more
                (steps + begun - left) o part.to is.reaches before_end);
          }
