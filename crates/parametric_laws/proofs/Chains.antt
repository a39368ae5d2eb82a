-- What is proved of the breakpoints of a family makes its runs true.
use Rattle.std.proofs.Common.{◌≡◌, suc, ◌⊎◌, inl, inr, List, [], ◌∷◌, refl, arith}
use Rattle.std.specs.Prelude.{All}
use Rattle.std.proofs.lemmas.List.Elements.{All-cons}
use Rattle.exact_values.specs.Rational.{ℚ, ◌≤ℚ◌, ◌<ℚ◌}
use Rattle.exact_values.proofs.Order.{le_refl, le_of_lt, lt_or_le}
use Rattle.lp_definitions.specs.LinearProgram.{LinearProgram, IsLinearProgram}
use Rattle.lp_definitions.specs.Basis.{IsOptimalBasis}
use Rattle.lp_definitions.specs.declared.Status.{Status}
use Rattle.lp_laws.proofs.Duality.{infeasible_by_crossed, infeasible_by_ray, unbounded_by_direction}
use Rattle.simplex_definitions.specs.Path.{Move, after, last_of, PathEnding, EndsOptimal, EndsCrossed, EndsInfeasible, EndsUnbounded, PathEnds}
use Rattle.simplex_laws.specs.Laws.{IsNonsingularBasis}
use Rattle.simplex_laws.proofs.UnboundedEnds.{crossed_end, unbounded_end}
use Rattle.simplex_laws.proofs.Rays.{infeasible_end}
use Rattle.simplex_definitions.specs.Chain.{Part, ChainEnd, FailedOpening, Chain, FaceTurn, FaceMoves, FaceDone, FaceEnds, IsFailure, IsPart, IsFaceStep}
use Rattle.simplex_definitions.specs.Chain.{IsFacePath, IsChain, at_max, past_breakpoint, goes_on}
use Rattle.parametric_laws.proofs.Runs.{face_step_leads, face_path_leads, opening_leads}
use Rattle.parametric_laws.specs.Families.{KeepsBases}
use Rattle.parametric_laws.specs.Truth.{IsCovered, IsTruePart, IsTrueEnd, IsTrueRun, IsTrueFailure}
use Rattle.parametric_laws.specs.Laws.{HasTrueRuns}
use Rattle.parametric_laws.proofs.Intervals.{is_true_part}

none_fails : (P : Part → Type 0) → All P []
none_fails P i d within = absurd (omega (arith, within))

abbrev IsLong : Part → Type 0
IsLong part = part.from <ℚ part.to

-- an interval has the values from its beginning to its end, and the others have those past it
covered_one : (from theta : ℚ) (part : Part) → part.from ≡ from → from ≤ℚ theta → theta ≤ℚ part.to → IsCovered (part ∷ []) theta
covered_one from theta part begins after before = record { part = part; among = (0, omega arith, refl); after = rw begins after; before = before }

covered_more : (from theta : ℚ) (part : Part) (parts : List Part) → part.from ≡ from → from ≤ℚ theta → (theta <ℚ part.to) ⊎ (part.to ≤ℚ theta) →
    (part.to ≤ℚ theta → IsCovered parts theta) → IsCovered (part ∷ parts) theta
covered_more from theta part parts begins after (inl before) rest =
    record { part = part; among = (0, omega arith, refl); after = rw begins after; before = le_of_lt before }
covered_more from theta part parts begins after (inr past) rest =
    let there = rest past in
    record { part = there.part; among = (suc there.among.0, omega (arith, there.among.1), there.among.2); after = there.after; before = there.before }

-- a failed opening
failure_true : (p : LinearProgram) (s : List Status) (ending : PathEnding) (path : List (List Status)) → IsLinearProgram p →
    IsNonsingularBasis p (last_of s path) →
    PathEnds p s path ending → IsFailure ending → IsTrueFailure p ending
failure_true p s (EndsOptimal z y) path lawful at ends failure = failure
failure_true p s (EndsCrossed k) path lawful at ends failure =
    let crossed = crossed_end p (last_of s path) k ends.ends in (crossed, infeasible_by_crossed p k crossed)
failure_true p s (EndsInfeasible w) path lawful at ends failure =
    let ray = infeasible_end p (last_of s path) w at.is_basis at.nonsingular ends.ends in
    record { ray = ray; infeasible = infeasible_by_ray p _ ray }
failure_true p s (EndsUnbounded z d) path lawful at ends failure =
    let proof = unbounded_end p (last_of s path) z d lawful at.is_basis ends.ends in
    record { proof = proof; unbounded = unbounded_by_direction p _ _ proof }

-- what is asked of the breakpoints: what is known of an optimal basis is kept by face steps; where none is left the next interval is
-- longer than a point; and an end is proved for all greater values
module _ (p : LinearProgram) (family : ℚ → LinearProgram) (Face : ℚ → List Status → FaceTurn → Type 0) (keeps : KeepsBases p family Face)
    (lawful : (theta : ℚ) → IsLinearProgram (family theta)) (Known : ℚ → List Status → Type 0)
    (known : (theta : ℚ) (s : List Status) → IsOptimalBasis (family theta) s → Known theta s)
    (kept : (theta : ℚ) (s : List Status) (m : Move) → IsNonsingularBasis p s → Known theta s → Face theta s (FaceMoves m) → Known theta (after s m))
    (grows : (theta max : ℚ) (s : List Status) (part : Part) → IsNonsingularBasis p s → theta <ℚ max → Face theta s FaceDone → IsPart family theta max s part →
    theta <ℚ part.to)
    (closes : (theta max : ℚ) (s : List Status) (end : ChainEnd) → IsNonsingularBasis p s → theta <ℚ max → Known theta s → Face theta s (FaceEnds end) →
    IsTrueEnd family max theta end) where
  kept_by_step : (theta : ℚ) (s next : List Status) → IsNonsingularBasis p s → Known theta s → IsFaceStep family Face theta s next → Known theta next
  kept_by_step theta s next at have step = rw step.2 (kept theta s step.0 at have step.1)

  kept_by_path : (theta : ℚ) (s : List Status) (bases : List (List Status)) → IsNonsingularBasis p s → Known theta s → IsFacePath family Face theta s bases →
      Known theta (last_of s bases)
  kept_by_path theta s [] at have path = have
  kept_by_path theta s (next ∷ bases) at have path =
      kept_by_path theta next bases (face_step_leads p family Face keeps theta s next at path.0) (kept_by_step theta s next at have path.0) path.1

  long : (from max : ℚ) (s : List Status) (part : Part) → IsNonsingularBasis p s → from <ℚ max → Face from s FaceDone → IsPart family from max s part →
      IsLong part
  long from max s part at before done is = rw is.begins (grows from max s part at before done is)

  -- the intervals past a breakpoint
  chain_long : (max from : ℚ) (s : List Status) (parts : List Part) (end : ChainEnd) (path : List (List Status)) → IsNonsingularBasis p s → from <ℚ max →
      Face from s FaceDone →
      IsChain family Face max from s parts end path → All IsLong parts
  chain_long max _ _ _ _ _ at before done (at_max {from} {s} {part} is whole) =
      All-cons IsLong part [] (long from max s part at before done is) (none_fails IsLong)
  chain_long max _ _ _ _ _ at before done (past_breakpoint {from} {s} {part} is faces) =
      All-cons IsLong part [] (long from max s part at before done is) (none_fails IsLong)
  chain_long max _ _ _ _ _ at before done (goes_on {from} {s} {part} {parts} {end} {bases} {later} is faces chain) =
      All-cons IsLong part parts (long from max s part at before done is)
      (chain_long max part.to (last_of s bases) parts end later
      (face_path_leads p family Face keeps part.to s bases at faces.face_path) faces.before_max faces.last chain)

  chain_true : (max from : ℚ) (s : List Status) (parts : List Part) (end : ChainEnd) (path : List (List Status)) → IsNonsingularBasis p s →
      IsChain family Face max from s parts end path → IsTrueRun family from max parts end
  chain_true max _ _ _ _ _ at (at_max {from} {s} {part} is whole) = record {
    intervals = All-cons (IsTruePart family max) part [] (is_true_part family lawful from max s part is) (none_fails (IsTruePart family max));
    joined = (is.begins, tt);
    covered = λ theta after before. covered_one from theta part is.begins after before;
    long = none_fails IsLong;
    closes = whole;
  }
  chain_true max _ _ _ _ _ at (past_breakpoint {from} {s} {part} {end} {path} is faces) = record {
    intervals = All-cons (IsTruePart family max) part [] (is_true_part family lawful from max s part is) (none_fails (IsTruePart family max));
    joined = (is.begins, tt);
    covered = λ theta after before. covered_one from theta part is.begins after before;
    long = none_fails IsLong;
    closes = closes part.to max (last_of s path) end (face_path_leads p family Face keeps part.to s path at faces.face_path) faces.before_max
        (kept_by_path part.to s path at (known part.to s (is.reaches.optimal part.to is.reaches.forward (le_refl part.to))) faces.face_path) faces.last;
  }
  chain_true max _ _ _ _ _ at (goes_on {from} {s} {part} {parts} {end} {bases} {later} is faces chain) =
      let there = face_path_leads p family Face keeps part.to s bases at faces.face_path in
      let rest = chain_true max part.to (last_of s bases) parts end later there chain in
      record {
        intervals = All-cons (IsTruePart family max) part parts (is_true_part family lawful from max s part is) rest.intervals;
        joined = (is.begins, rest.joined);
        covered = λ theta after before. covered_more from theta part parts is.begins after (lt_or_le theta part.to) (λ past. rest.covered theta past before);
        long = chain_long max part.to (last_of s bases) parts end later there faces.before_max faces.last chain;
        closes = rest.closes;
      }

  pub report_true : HasTrueRuns p family Face
  report_true from max s (FailedOpening ending) path at failed =
      failure_true (family from) s ending path (lawful from)
      (keeps.to_family from (last_of s path) (opening_leads p family Face keeps from s path ending at failed.opens)) failed.opens failed.is_failure
  report_true from max s (Chain parts end) path at run =
      chain_true max from (last_of s run.opening) parts end run.faces
      (opening_leads p family Face keeps from s run.opening (EndsOptimal run.point run.prices) at run.opens) run.chain
