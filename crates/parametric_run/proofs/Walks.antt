-- From step to step of a run: where it stands, and the waypoints in its bases.
use Rattle.std.proofs.Common.{◌≡◌, ℕ, ◌+◌, ◌-◌, ◌≤◌, List, [], ◌∷◌, ◌++◌, length, refl, sym, ◌∙◌, ap, subst, arith}
use Rattle.std.proofs.lemmas.List.{append_assoc, append-nil}
use Rattle.exact_values.specs.Rational.{ℚ, ◌<ℚ◌}
use Rattle.lp_definitions.specs.LinearProgram.{Matrix, LinearProgram}
use Rattle.lp_definitions.specs.Basis.{Basics, basics_of}
use Rattle.lp_definitions.specs.Waypoints.{KeepsWaypoints, waypoint}
use Rattle.lp_definitions.specs.declared.Evidence.{Evidence}
use Rattle.lp_definitions.specs.declared.Status.{Status}
use Rattle.simplex_definitions.specs.Path.{IsPath, EndsAt, EndsOptimal, last_of}
use Rattle.simplex_definitions.specs.Chain.{FaceTurn, FaceDone, ReachesTo, IsFaceStep, IsFacePath, RunPlace, InOpening, AtBreakpoint, basis_of, breakpoint_of}
use Rattle.simplex_definitions.specs.Chain.{Reaches, begins, path_step, first_breakpoint, face_step, next_breakpoint}
use Rattle.simplex_definitions.specs.Statements.{SolvingStatement}
use Rattle.simplex_definitions.specs.Evidence.{EvidenceHolds}
use Rattle.basis_values.specs.Calls.{LieIn}
use Rattle.bounded_primal.specs.declared.moves.PrimalStop.{PrimalStop}
use Rattle.bounded_primal.specs.declared.moves.PrimalStop.TheVariants.{Limit, Overflow, NoMemory}
use Rattle.bounded_primal.proofs.PathWalk.{last_more, length_more, before_last}
use Rattle.bounded_primal.proofs.Within.{lie_more, lie_same}
use Rattle.parametric_run.specs.Calls.{StandsThere, WaypointsFollowRun, RunOverflows, RunStops}
use Rattle.bounded_primal.specs.Calls.{EvidenceHere}
use Rattle.parametric_run.specs.Walks.{HasRun, MayOpen, FaceStops, IntervalStops}

module _ (family : ℚ → LinearProgram) (Face : ℚ → List Status → FaceTurn → Type 0) where
  -- one more step at a breakpoint
  pub face_path_more : (theta : ℚ) (s : List Status) (bases : List (List Status)) (next : List Status) → IsFacePath family Face theta s bases →
      IsFaceStep family Face theta (last_of s bases) next → IsFacePath family Face theta s (bases ++ next ∷ [])
  face_path_more theta s [] next path step = (step, tt)
  face_path_more theta s (b ∷ bases) next path step = (path.0, face_path_more theta b bases next path.1 step)

  module _ (from max : ℚ) (a : Matrix) (s : List Status) (before : List Basics) where
    -- the last of its bases is the one at which a run stands
    reached_last : (place : RunPlace) (path : List (List Status)) (ends : List ℚ) → Reaches family Face from max s place path ends →
        last_of s path ≡ basis_of place
    reached_last _ _ _ begins = refl
    reached_last _ _ _ (path_step {now} {next} {path} so_far step) = last_more s path next
    reached_last _ _ _ (first_breakpoint {now} {path} {to} point prices so_far ends reaches within) = reached_last (InOpening now) path [] so_far
    reached_last _ _ _ (face_step {theta} {now} {next} {path} {ends} so_far step) = last_more s path next
    reached_last _ _ _ (next_breakpoint {theta} {now} {path} {ends} {to} so_far done reaches within) = reached_last (AtBreakpoint theta now) path ends so_far

    module _ (place : RunPlace) (ends : List ℚ) (now : List Status) (ways : List Basics) (steps : ℕ)
        (h : HasRun family Face from max a s before place ends ways steps)
        (is_now : basis_of place ≡ now) where
      initial : (initial : List (List Status)) × (s ∷ h.path ≡ initial ++ last_of s h.path ∷ [])
      initial = before_last s h.path

      -- the bases up to now, after any earlier ones
      whole : (earlier : List (List Status)) → earlier ++ s ∷ h.path ≡ (earlier ++ initial.0) ++ now ∷ []
      whole earlier =
          ap (λ xs. earlier ++ xs) (initial.1 ∙ ap (λ x. initial.0 ++ x ∷ []) (reached_last place h.path ends h.reaches ∙ is_now))
          ∙ sym (append_assoc earlier initial.0 (now ∷ []))

      lie_now : (earlier : List (List Status)) → LieIn a before (earlier ++ s ∷ []) → LieIn a ways ((earlier ++ initial.0) ++ now ∷ [])
      lie_now earlier lie = subst (LieIn a ways) (whole earlier) (h.lie earlier lie)

      -- calls at the basis
      pub run_later : (more : List Basics) → KeepsWaypoints a (basics_of now) ways (basics_of now) more →
          HasRun family Face from max a s before place ends more steps
      run_later more keeps = record {
        path = h.path;
        reaches = h.reaches;
        taken = h.taken;
        lie = λ earlier lie. subst (LieIn a more) (sym (whole earlier)) (lie_same a (earlier ++ initial.0) now ways more keeps (lie_now earlier lie));
      }

      -- one more step, over which a longer run stands at another place
      step_more : (next : List Status) (other : RunPlace) (more : List Basics) → KeepsWaypoints a (basics_of now) ways (basics_of next) more →
          Reaches family Face from max s other (h.path ++ next ∷ []) ends → HasRun family Face from max a s before other ends more (steps + 1)
      step_more next other more keeps there = record {
        path = h.path ++ next ∷ [];
        reaches = there;
        taken = length_more h.path next ∙ ap (λ n. n + 1) h.taken;
        lie = λ earlier lie.
            subst (LieIn a more) (ap (λ xs. xs ++ next ∷ []) (sym (whole earlier)) ∙ append_assoc earlier (s ∷ h.path) (next ∷ []))
            (lie_more a (earlier ++ initial.0) now next ways more keeps (lie_now earlier lie));
      }

      pub stands : (limit : ℕ) → steps ≤ limit → StandsThere family Face from max s now limit
      stands limit within =
          record { place = place; path = h.path; ends = ends; reaches = h.reaches; is_now = is_now; within = omega (arith, h.taken, within) }

      pub follows : (limit : ℕ) → steps ≤ limit → WaypointsFollowRun family Face from max s now limit a before ways
      follows limit within = record { place = place; path = h.path; ends = ends; reaches = h.reaches; is_now = is_now; lie = h.lie }

      -- evidence at the basis is evidence on the run
      pub overflows : (statement : SolvingStatement) (limit : ℕ) (more : List Basics) (e : Evidence) → steps ≤ limit →
          EvidenceHere statement a (breakpoint_of place) (limit - steps) now ways more e →
          RunOverflows family Face from max s now limit statement a before more e
      unfolding stands
      overflows statement limit more e within here = record {
        stands = stands limit within;
        is_way = here.is_way;
        shows = λ earlier lie.
            subst (λ (n : ℕ). EvidenceHolds statement (breakpoint_of place) (limit - n) (earlier ++ s ∷ h.path) ends now
            (waypoint (basics_of now) more e.way) e) (sym h.taken)
            (subst (λ (xs : List (List Status)). EvidenceHolds statement (breakpoint_of place) (limit - steps) xs ends now
            (waypoint (basics_of now) more e.way) e) (sym (whole earlier))
            (here.shows ends (earlier ++ initial.0) (lie_now earlier lie)));
      }

    -- ---- at a breakpoint

    module _ (theta : ℚ) (ends : List ℚ) (now : List Status) (ways : List Basics) (steps : ℕ)
        (h : HasRun family Face from max a s before (AtBreakpoint theta now) ends ways steps) where
      pub run_more : (next : List Status) (more : List Basics) → IsFaceStep family Face theta now next →
          KeepsWaypoints a (basics_of now) ways (basics_of next) more →
          HasRun family Face from max a s before (AtBreakpoint theta next) ends more (steps + 1)
      run_more next more step keeps =
          step_more (AtBreakpoint theta now) ends now ways steps h refl next (AtBreakpoint theta next) more keeps (face_step h.reaches step)

      pub run_stops : (statement : SolvingStatement) (limit : ℕ) (more : List Basics) (stop : PrimalStop) → steps ≤ limit →
          FaceStops family Face statement a theta now (limit - steps) ways more stop →
          RunStops family Face from max s now limit (RunOverflows family Face from max s now limit statement a before more) stop
      run_stops statement limit more Limit within t = record {
        goes_on = record {
          place = AtBreakpoint theta now;
          path = h.path;
          ends = ends;
          reaches = h.reaches;
          taken = omega (arith, h.taken, t.0, within);
          goes_on = t.1;
        };
        is_now = refl;
      }
      run_stops statement limit more (Overflow e) within t = overflows (AtBreakpoint theta now) ends now ways steps h refl statement limit more e within t
      run_stops statement limit more NoMemory within t = stands (AtBreakpoint theta now) ends now ways steps h refl limit within

      -- where no face step is left, the next interval begins
      pub opens_next : Face theta now FaceDone → MayOpen family Face from max a s before theta now ways steps
      opens_next done = record {
        place = AtBreakpoint theta now;
        ends = ends;
        run = h;
        is_now = refl;
        breaks = λ to reaches within. next_breakpoint h.reaches done reaches within;
      }

    -- ---- where an interval begins

    module _ (theta : ℚ) (now : List Status) (ways : List Basics) (steps : ℕ) (h : MayOpen family Face from max a s before theta now ways steps) where
      pub opens_later : (more : List Basics) → KeepsWaypoints a (basics_of now) ways (basics_of now) more →
          MayOpen family Face from max a s before theta now more steps
      unfolding run_later
      opens_later more keeps = record {
        place = h.place;
        ends = h.ends;
        run = run_later h.place h.ends now ways steps h.run h.is_now more keeps;
        is_now = h.is_now;
        breaks = h.breaks;
      }

      -- the basis stays optimal to a breakpoint before max
      pub run_breaks : (to : ℚ) → ReachesTo family now theta max to → to <ℚ max →
          HasRun family Face from max a s before (AtBreakpoint to now) (to ∷ h.ends) ways steps
      run_breaks to reaches within = record { path = h.run.path; reaches = h.breaks to reaches within; taken = h.run.taken; lie = h.run.lie }

      pub opening_stands : (limit : ℕ) → steps ≤ limit → StandsThere family Face from max s now limit
      opening_stands = stands h.place h.ends now ways steps h.run h.is_now

      pub opening_follows : (limit : ℕ) → steps ≤ limit → WaypointsFollowRun family Face from max s now limit a before ways
      opening_follows = follows h.place h.ends now ways steps h.run h.is_now

      pub interval_stops : (statement : SolvingStatement) (limit : ℕ) (more : List Basics) (stop : PrimalStop) → steps ≤ limit →
          IntervalStops statement a now (limit - steps) ways more stop →
          RunStops family Face from max s now limit (RunOverflows family Face from max s now limit statement a before more) stop
      interval_stops statement limit more Limit within t = absurd t
      interval_stops statement limit more (Overflow e) within t =
          overflows h.place h.ends now ways steps h.run h.is_now statement limit more e within (t (breakpoint_of h.place))
      interval_stops statement limit more NoMemory within t = opening_stands limit within

    -- ---- the opening path

    opened : (now : List Status) (later : List (List Status)) (path : List (List Status)) → Reaches family Face from max s (InOpening now) path [] →
        IsPath (family from) now later →
        Reaches family Face from max s (InOpening (last_of now later)) (path ++ later) []
    opened now [] path so_far is = subst (λ (xs : List (List Status)). Reaches family Face from max s (InOpening now) xs []) (sym (append-nil path)) so_far
    opened now (next ∷ later) path so_far is =
        subst (λ (xs : List (List Status)). Reaches family Face from max s (InOpening (last_of next later)) xs []) (append_assoc path (next ∷ []) later)
        (opened next later (path ++ next ∷ []) (path_step so_far is.0) is.1)

    -- a run has taken the steps of its opening path
    pub opening_reaches : (bases : List (List Status)) → IsPath (family from) s bases → Reaches family Face from max s (InOpening (last_of s bases)) bases []
    opening_reaches bases is = opened s bases [] begins is

    pub opening_run : (bases : List (List Status)) (ways : List Basics) → IsPath (family from) s bases →
        ((earlier : List (List Status)) → LieIn a before (earlier ++ s ∷ []) → LieIn a ways (earlier ++ s ∷ bases)) →
        HasRun family Face from max a s before (InOpening (last_of s bases)) [] ways (length bases)
    opening_run bases ways is lie = record { path = bases; reaches = opened s bases [] begins is; taken = refl; lie = lie }

    -- and where it ends optimal, the first interval begins
    pub opens_first : (now : List Status) (ways : List Basics) (steps : ℕ) (point prices : List ℚ) →
        HasRun family Face from max a s before (InOpening now) [] ways steps →
        EndsAt (family from) now (EndsOptimal point prices) → MayOpen family Face from max a s before from now ways steps
    opens_first now ways steps point prices h ends = record {
      place = InOpening now;
      ends = [];
      run = h;
      is_now = refl;
      breaks = λ to reaches within. first_breakpoint point prices h.reaches ends reaches within;
    }
