-- From turn to turn: the bases that a path by a rule has passed, and the waypoints in them.
use Rattle.std.proofs.Common.{◌≡◌, ℕ, ◌+◌, ◌-◌, ◌≤◌, List, [], ◌∷◌, ◌++◌, length, refl, sym, ◌∙◌, ap, subst, arith}
use Rattle.std.specs.Prelude.{None}
use Rattle.std.proofs.lemmas.List.{append_assoc}
use Rattle.lp_definitions.specs.LinearProgram.{LinearProgram}
use Rattle.lp_definitions.specs.Basis.{Basics, basics_of}
use Rattle.lp_definitions.specs.Waypoints.{KeepsWaypoints, waypoint}
use Rattle.lp_definitions.specs.declared.Evidence.{Evidence}
use Rattle.lp_definitions.specs.declared.Status.{Status}
use Rattle.lp_model.specs.declared.reports.Outcome.{Outcome}
use Rattle.simplex_definitions.specs.Path.{Rule, turn, RuleStep, RuleEnd, RulePath, last_of}
use Rattle.simplex_definitions.specs.Counts.{counted_steps}
use Rattle.simplex_definitions.specs.Statements.{SolvingStatement}
use Rattle.simplex_definitions.specs.Evidence.{EvidenceHolds}
use Rattle.basis_values.specs.Calls.{LieIn, job_of}
use Rattle.bounded_primal.specs.Calls.{RuleCallEnds, RuleCallGoesOn, RuleWaypointsFollow, RuleStopsOnPath, outcome_of}
use Rattle.bounded_primal.specs.Stops.{PrimalStopsAlong}
use Rattle.bounded_primal.specs.Turns.{RuleEndsHere, TurnStops}
use Rattle.bounded_primal.specs.declared.moves.PrimalStop.{PrimalStop}
use Rattle.bounded_primal.specs.declared.moves.PrimalStop.TheVariants.{Limit, Overflow, NoMemory}
use Rattle.bounded_primal.proofs.Within.{lie_more, lie_same}

-- one more step of a path
path_more : (rule : Rule) (p : LinearProgram) (s : List Status) (bases : List (List Status)) (next : List Status) → RulePath rule p s bases →
    RuleStep rule p (last_of s bases) next → RulePath rule p s (bases ++ next ∷ [])
path_more rule p s [] next path step = (step, tt)
path_more rule p s (b ∷ bases) next path step = (path.0, path_more rule p b bases next path.1 step)

pub last_more : (s : List Status) (bases : List (List Status)) (next : List Status) → last_of s (bases ++ next ∷ []) ≡ next
last_more s [] next = refl
last_more s (b ∷ bases) next = last_more b bases next

pub length_more : (bases : List (List Status)) (next : List Status) → length (bases ++ next ∷ []) ≡ length bases + 1
length_more [] next = omega arith
length_more (b ∷ bases) next = let rest = length_more bases next in omega (arith, rest)

-- the bases up to the one that is reached
pub before_last : (s : List Status) (bases : List (List Status)) → (initial : List (List Status)) × (s ∷ bases ≡ initial ++ last_of s bases ∷ [])
before_last s [] = ([], refl)
before_last s (next ∷ bases) = let rest = before_last next bases in (s ∷ rest.0, ap (λ xs. s ∷ xs) rest.1)

-- the walk from s, with the waypoints before, has reached now
pub record HasReached (rule : Rule) (p : LinearProgram) (s : List Status) (before : List Basics) (now : List Status) (ways : List Basics)
    (steps : ℕ) : Type 0 where
  pub bases : List (List Status)
  pub path : RulePath rule p s bases × (last_of s bases ≡ now)
  pub taken : length bases ≡ steps
  pub lie : (earlier : List (List Status)) → LieIn p.matrix before (earlier ++ s ∷ []) → LieIn p.matrix ways (earlier ++ s ∷ bases)

module _ (rule : Rule) (p : LinearProgram) (s : List Status) (before : List Basics) where
  pub begins : HasReached rule p s before s before 0
  begins = record { bases = []; path = (tt, refl); taken = refl; lie = λ earlier lie. lie }

  pub begins_at : (ways : List Basics) → KeepsWaypoints p.matrix (basics_of s) before (basics_of s) ways → HasReached rule p s before s ways 0
  begins_at ways keeps = record { bases = []; path = (tt, refl); taken = refl; lie = λ earlier lie. lie_same p.matrix earlier s before ways keeps lie }

  -- where nothing is done
  pub stays : RuleWaypointsFollow rule p s s before before
  stays = record { bases = begins.bases; is_path = begins.path.0; reaches = begins.path.1; lie = begins.lie }

  pub follows : (now : List Status) (ways : List Basics) (steps : ℕ) → HasReached rule p s before now ways steps → RuleWaypointsFollow rule p s now before ways
  follows now ways steps h = record { bases = h.bases; is_path = h.path.0; reaches = h.path.1; lie = h.lie }

  module _ (now : List Status) (ways : List Basics) (steps : ℕ) (h : HasReached rule p s before now ways steps) where
    initial : (initial : List (List Status)) × (s ∷ h.bases ≡ initial ++ last_of s h.bases ∷ [])
    initial = before_last s h.bases

    -- the basis that is reached is the last one
    whole : (earlier : List (List Status)) → earlier ++ s ∷ h.bases ≡ (earlier ++ initial.0) ++ now ∷ []
    whole earlier = ap (λ xs. earlier ++ xs) (initial.1 ∙ ap (λ x. initial.0 ++ x ∷ []) h.path.1) ∙ sym (append_assoc earlier initial.0 (now ∷ []))

    lie_there : (earlier : List (List Status)) → LieIn p.matrix before (earlier ++ s ∷ []) → LieIn p.matrix ways ((earlier ++ initial.0) ++ now ∷ [])
    lie_there earlier lie = subst (LieIn p.matrix ways) (whole earlier) (h.lie earlier lie)

    -- the same after calls at the basis that is reached
    pub reached_later : (more : List Basics) → KeepsWaypoints p.matrix (basics_of now) ways (basics_of now) more → HasReached rule p s before now more steps
    reached_later more keeps = record {
      bases = h.bases;
      path = h.path;
      taken = h.taken;
      lie = λ earlier lie. subst (LieIn p.matrix more) (sym (whole earlier))
          (lie_same p.matrix (earlier ++ initial.0) now ways more keeps (lie_there earlier lie));
    }

    pub follows_later : (more : List Basics) → KeepsWaypoints p.matrix (basics_of now) ways (basics_of now) more → RuleWaypointsFollow rule p s now before more
    follows_later more keeps = follows now more steps (reached_later more keeps)

    -- a step more
    pub goes_over : (next : List Status) (more : List Basics) → RuleStep rule p now next → KeepsWaypoints p.matrix (basics_of now) ways (basics_of next) more →
        HasReached rule p s before next more (steps + 1)
    goes_over next more step keeps = record {
      bases = h.bases ++ next ∷ [];
      path = (path_more rule p s h.bases next h.path.0 (subst (λ (x : List Status). RuleStep rule p x next) (sym h.path.1) step), last_more s h.bases next);
      taken = length_more h.bases next ∙ ap (λ n. n + 1) h.taken;
      lie = λ earlier lie.
          subst (LieIn p.matrix more) (ap (λ xs. xs ++ next ∷ []) (sym (whole earlier)) ∙ append_assoc earlier (s ∷ h.bases) (next ∷ []))
          (lie_more p.matrix (earlier ++ initial.0) now next ways more keeps (lie_there earlier lie));
    }

    -- the path ends
    pub ends_there : (limit reported : ℕ) (outcome : Outcome) → steps ≤ limit → reported ≡ counted_steps steps → RuleEndsHere rule p now reported outcome →
        RuleCallEnds rule p s now limit outcome
    ends_there limit reported outcome within is_reported e = record {
      bases = h.bases;
      ending = e.ending;
      ends = record { is_path = h.path.0; ends = subst (λ (x : List Status). RuleEnd rule p x e.ending) (sym h.path.1) e.ends };
      reaches = h.path.1;
      within = omega (arith, h.taken, within);
      is_outcome = subst (λ (n : ℕ). outcome ≡ outcome_of n e.ending) (is_reported ∙ ap counted_steps (sym h.taken)) e.is_outcome;
    }

    -- or goes on, after as many steps as the limit
    pub goes_on_there : (limit : ℕ) → steps ≡ limit → (next : List Status) → RuleStep rule p now next → RuleCallGoesOn rule p s now limit
    goes_on_there limit taken next step = record {
      goes_on = record {
        bases = h.bases;
        is_path = h.path.0;
        taken = h.taken ∙ taken;
        next = next;
        is_step = subst (λ (x : List Status). RuleStep rule p x next) (sym h.path.1) step;
      };
      reaches = h.path.1;
    }

    -- or stops, by evidence at the basis that it has reached
    pub overflows_there : (statement : SolvingStatement) (limit : ℕ) (more : List Basics) (e : Evidence) → steps ≤ limit → e.way ≤ length more →
        ((earlier : List (List Status)) → LieIn p.matrix ways (earlier ++ now ∷ []) →
        EvidenceHolds statement None (limit - steps) (earlier ++ now ∷ []) [] now (waypoint (basics_of now) more e.way) e) →
        RuleStopsOnPath rule statement p s now limit before more e
    overflows_there statement limit more e within is_way shows = record {
      bases = h.bases;
      is_path = h.path.0;
      reaches = h.path.1;
      within = omega (arith, h.taken, within);
      is_way = is_way;
      shows = λ earlier lie.
          subst (λ (n : ℕ). EvidenceHolds statement None (limit - n) (earlier ++ s ∷ h.bases) [] now (waypoint (basics_of now) more e.way) e) (sym h.taken)
          (subst (λ (xs : List (List Status)). EvidenceHolds statement None (limit - steps) xs [] now (waypoint (basics_of now) more e.way) e)
          (sym (whole earlier))
          (shows (earlier ++ initial.0) (lie_there earlier lie)));
    }

-- ---- a stop of the simplex path

module _ (p : LinearProgram) (s : List Status) (before : List Basics) (now : List Status) (ways : List Basics) (steps : ℕ)
    (h : HasReached turn p s before now ways steps) where
  pub stops_there : (limit : ℕ) (more : List Basics) (stop : PrimalStop) → steps ≤ limit → TurnStops p now (limit - steps) ways more stop →
      PrimalStopsAlong p s now limit before more stop
  stops_there limit more Limit within t = goes_on_there turn p s before now ways steps h limit (omega (arith, t.0, within)) t.1.0 t.1.1
  stops_there limit more NoMemory within t = (h.bases, (h.path.0, h.path.1), omega (arith, h.taken, within))
  stops_there limit more (Overflow e) within t = overflows_there turn p s before now ways steps h (job_of p p.change) limit more e within t.is_way t.shows
