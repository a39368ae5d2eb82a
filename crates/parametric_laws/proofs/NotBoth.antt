-- A parametric run that has ended within so many steps doesn't go on after them: what it has yet to go over, at each place.
use Rattle.std.proofs.Common.{◌≡◌, ℕ, suc, ◌+◌, ◌≤◌, List, [], ◌∷◌, ◌++◌, length, refl, sym, ap, subst, ◌∙◌, arith, append_assoc, append-nil, length-append}
use Rattle.exact_values.specs.Rational.{ℚ, ◌<ℚ◌}
use Rattle.exact_values.proofs.Order.{lt_irrefl}
use Rattle.lp_definitions.specs.LinearProgram.{LinearProgram}
use Rattle.lp_definitions.specs.declared.Status.{Status}
use Rattle.simplex_definitions.specs.Path.{last_of, PathEnding, EndsOptimal, IsStep, EndsAt, PathEnds}
use Rattle.simplex_laws.specs.Laws.{IsNonsingularBasis}
use Rattle.simplex_laws.proofs.OnePath.{one_step, one_end, step_or_end}
use Rattle.simplex_definitions.specs.Chain.{Part, ChainEnd, RunReport, FailedOpening, Chain, FaceTurn, FaceMoves, FaceDone, FaceEnds, IsFailure, ReachesTo}
use Rattle.simplex_definitions.specs.Chain.{IsFaceStep, IsFacePath, IsChain, at_max, past_breakpoint, goes_on, IsReport, RunPlace, InOpening, AtBreakpoint}
use Rattle.simplex_definitions.specs.Chain.{basis_of, Reaches, begins, path_step, first_breakpoint, face_step, next_breakpoint, GoesOn, RunGoesOnFor}
use Rattle.parametric_laws.proofs.Runs.{reached_leads}
use Rattle.parametric_laws.proofs.OneRun.{IsStill, one_reach, still_or_steps, one_face_step}
use Rattle.parametric_laws.specs.Families.{HasOneFace}

module _ (p : LinearProgram) (family : ℚ → LinearProgram) (Face : ℚ → List Status → FaceTurn → Type 0) (one : HasOneFace p family Face) where
  -- ---- the rest of a run, from where it stands

  -- what comes after the face steps at a breakpoint
  abbrev Follows : ℚ → ℚ → List Status → FaceTurn → List (List Status) → Type 0
  Follows max theta s (FaceMoves m) later = ⊥
  Follows max theta s FaceDone later = (parts : List Part) × (end : ChainEnd) × IsChain family Face max theta s parts end later
  Follows max theta s (FaceEnds end) later = later ≡ []

  record RestOfFaces (max theta : ℚ) (now : List Status) (rest : List (List Status)) : Type 0 where
    bases : List (List Status)
    turn : FaceTurn
    later : List (List Status)
    face_path : IsFacePath family Face theta now bases
    last : Face theta (last_of now bases) turn
    follows : Follows max theta (last_of now bases) turn later
    whole : rest ≡ bases ++ later

  abbrev Remains : ℚ → ℚ → RunPlace → List (List Status) → Type 0
  Remains from max (InOpening now) rest = (report : RunReport) × IsReport family Face from max now report rest
  Remains from max (AtBreakpoint theta now) rest = RestOfFaces max theta now rest

  still_by : (max theta : ℚ) (s : List Status) (turn : FaceTurn) (later : List (List Status)) → Follows max theta s turn later → IsStill turn
  still_by max theta s (FaceMoves m) later follows = follows
  still_by max theta s FaceDone later follows = tt
  still_by max theta s (FaceEnds end) later follows = tt

  -- ---- the opening path

  record StepsOn (from : ℚ) (next : List Status) (opening : List (List Status)) (ending : PathEnding) : Type 0 where
    rest : List (List Status)
    is_next : opening ≡ next ∷ rest
    ends : PathEnds (family from) next rest ending

  opening_steps : (from : ℚ) (now next : List Status) (opening : List (List Status)) (ending : PathEnding) → IsNonsingularBasis p now →
      PathEnds (family from) now opening ending →
      IsStep (family from) now next → StepsOn from next opening ending
  opening_steps from now next [] ending at path step =
      absurd (step_or_end (family from) (one.lawful from) now next ending (one.keeps.to_family from now at) step path.ends)
  opening_steps from now next (x ∷ opening) ending at path step =
      let same : x ≡ next = one_step (family from) (one.lawful from) now x next (one.keeps.to_family from now at) path.is_path.0 step in
      record {
        rest = opening;
        is_next = ap (λ s. s ∷ opening) same;
        ends = subst (λ s. PathEnds (family from) s opening ending) same
            (record { is_path = path.is_path.1; ends = path.ends });
      }

  record HasEnded (opening : List (List Status)) (ending other : PathEnding) : Type 0 where
    no_step : opening ≡ []
    same_ending : ending ≡ other

  opening_ended : (from : ℚ) (now : List Status) (opening : List (List Status)) (ending other : PathEnding) → IsNonsingularBasis p now →
      PathEnds (family from) now opening ending →
      EndsAt (family from) now other → HasEnded opening ending other
  opening_ended from now [] ending other at path ended =
      record { no_step = refl; same_ending = one_end (family from) (one.lawful from) now ending other (one.keeps.to_family from now at) path.ends ended }
  opening_ended from now (x ∷ opening) ending other at path ended =
      absurd (step_or_end (family from) (one.lawful from) now x other (one.keeps.to_family from now at) path.is_path.0 ended)

  -- a step is the next that remains
  record Took (from max : ℚ) (next : List Status) (place : RunPlace) (rest : List (List Status)) : Type 0 where
    rest_after : List (List Status)
    is_next : rest ≡ next ∷ rest_after
    remains : Remains from max place rest_after

  step_took : (from max : ℚ) (now next : List Status) (report : RunReport) (rest : List (List Status)) → IsNonsingularBasis p now →
      IsReport family Face from max now report rest →
      IsStep (family from) now next → Took from max next (InOpening next) rest
  step_took from max now next (FailedOpening ending) rest at failed step =
      let on = opening_steps from now next rest ending at failed.opens step in
      record { rest_after = on.rest; is_next = on.is_next; remains = (FailedOpening ending, record { opens = on.ends; is_failure = failed.is_failure }) }
  step_took from max now next (Chain parts end) rest at run step =
      let on = opening_steps from now next run.opening (EndsOptimal run.point run.prices) at run.opens step in
      record {
        rest_after = on.rest ++ run.faces;
        is_next = run.whole ∙ ap (λ xs. xs ++ run.faces) on.is_next;
        remains = (
          Chain parts end,
          record {
            opening = on.rest;
            point = run.point;
            prices = run.prices;
            opens = on.ends;
            faces = run.faces;
            chain = subst (λ xs. IsChain family Face max from (last_of now xs) parts end run.faces) on.is_next run.chain;
            whole = refl;
          },
        );
      }

  -- ---- breakpoints

  chain_breaks : (max from : ℚ) (now : List Status) (parts : List Part) (end : ChainEnd) (rest : List (List Status)) (to : ℚ) →
      IsChain family Face max from now parts end rest →
      ReachesTo family now from max to → to <ℚ max → RestOfFaces max to now rest
  chain_breaks max _ _ _ _ _ to (at_max {from} {s} {part} is whole) reaches within =
      absurd (lt_irrefl (subst (λ x. x <ℚ max) (one_reach family s from max to part.to reaches is.reaches ∙ whole) within))
  chain_breaks max _ _ _ _ _ to (past_breakpoint {from} {s} {part} {end} {path} is faces) reaches within =
      let same : part.to ≡ to = one_reach family s from max part.to to is.reaches reaches in
      record {
        bases = path;
        turn = FaceEnds end;
        later = [];
        face_path = subst (λ x. IsFacePath family Face x s path) same faces.face_path;
        last = subst (λ x. Face x (last_of s path) (FaceEnds end)) same faces.last;
        follows = refl;
        whole = sym (append-nil path);
      }
  chain_breaks max _ _ _ _ _ to (goes_on {from} {s} {part} {parts} {end} {bases} {later} is faces chain) reaches within =
      let same : part.to ≡ to = one_reach family s from max part.to to is.reaches reaches in
      record {
        bases = bases;
        turn = FaceDone;
        later = later;
        face_path = subst (λ x. IsFacePath family Face x s bases) same faces.face_path;
        last = subst (λ x. Face x (last_of s bases) FaceDone) same faces.last;
        follows = (parts, end, subst (λ x. IsChain family Face max x (last_of s bases) parts end later) same chain);
        whole = refl;
      }

  report_breaks : (from max : ℚ) (now : List Status) (report : RunReport) (rest : List (List Status)) (point prices : List ℚ) (to : ℚ) →
      IsNonsingularBasis p now →
      IsReport family Face from max now report rest → EndsAt (family from) now (EndsOptimal point prices) → ReachesTo family now from max to → to <ℚ max →
      RestOfFaces max to now rest
  report_breaks from max now (FailedOpening ending) rest point prices to at failed ended reaches within =
      absurd (subst IsFailure (opening_ended from now rest ending (EndsOptimal point prices) at failed.opens ended).same_ending failed.is_failure)
  report_breaks from max now (Chain parts end) rest point prices to at run ended reaches within =
      let none = (opening_ended from now run.opening (EndsOptimal run.point run.prices) (EndsOptimal point prices) at run.opens ended).no_step in
      let chain = subst (λ xs. IsChain family Face max from (last_of now xs) parts end run.faces) none run.chain in
      subst (RestOfFaces max to now) (sym (run.whole ∙ ap (λ xs. xs ++ run.faces) none)) (chain_breaks max from now parts end run.faces to chain reaches within)

  face_took : (from max theta : ℚ) (now next : List Status) (rest : List (List Status)) → IsNonsingularBasis p now → RestOfFaces max theta now rest →
      IsFaceStep family Face theta now next →
      Took from max next (AtBreakpoint theta next) rest
  face_took from max theta now next rest at h step = by_bases h.bases h.face_path h.last h.follows h.whole
    where
      by_bases : (bases : List (List Status)) → IsFacePath family Face theta now bases → Face theta (last_of now bases) h.turn →
          Follows max theta (last_of now bases) h.turn h.later →
          rest ≡ bases ++ h.later → Took from max next (AtBreakpoint theta next) rest
      by_bases [] path last follows whole =
          absurd (still_or_steps p family Face one theta now next h.turn at last (still_by max theta now h.turn h.later follows) step)
      by_bases (x ∷ bases) path last follows whole =
          let same : x ≡ next = one_face_step p family Face one theta now x next at path.0 step in
          record {
            rest_after = bases ++ h.later;
            is_next = whole ∙ ap (λ s. s ∷ (bases ++ h.later)) same;
            remains = record {
              bases = bases;
              turn = h.turn;
              later = h.later;
              face_path = subst (λ s. IsFacePath family Face theta s bases) same path.1;
              last = subst (λ s. Face theta (last_of s bases) h.turn) same last;
              follows = subst (λ s. Follows max theta (last_of s bases) h.turn h.later) same follows;
              whole = refl;
            };
          }

  faces_done : (max theta : ℚ) (now : List Status) (rest : List (List Status)) (to : ℚ) → IsNonsingularBasis p now → RestOfFaces max theta now rest →
      Face theta now FaceDone →
      ReachesTo family now theta max to → to <ℚ max → RestOfFaces max to now rest
  faces_done max theta now rest to at h done reaches within = by_bases h.bases h.face_path h.last h.follows h.whole
    where
      by_turn : (turn : FaceTurn) → turn ≡ FaceDone → Follows max theta now turn h.later → RestOfFaces max to now h.later
      by_turn (FaceMoves m) e follows = absurd follows
      by_turn FaceDone e follows = chain_breaks max theta now follows.0 follows.1 h.later to follows.2 reaches within
      by_turn (FaceEnds end) e follows = cc

      by_bases : (bases : List (List Status)) → IsFacePath family Face theta now bases → Face theta (last_of now bases) h.turn →
          Follows max theta (last_of now bases) h.turn h.later →
          rest ≡ bases ++ h.later → RestOfFaces max to now rest
      by_bases [] path last follows whole =
          subst (RestOfFaces max to now) (sym whole) (by_turn h.turn (one.one_face theta now h.turn FaceDone at last done) follows)
      by_bases (x ∷ bases) path last follows whole = absurd (still_or_steps p family Face one theta now x FaceDone at done tt path.0)

  -- ---- a run that has ended

  record HasLeft (from max : ℚ) (place : RunPlace) (path whole : List (List Status)) : Type 0 where
    rest : List (List Status)
    is_whole : whole ≡ path ++ rest
    remains : Remains from max place rest

  module _ (from max : ℚ) (s : List Status) (at : IsNonsingularBasis p s) (report : RunReport) (whole : List (List Status))
      (is_report : IsReport family Face from max s report whole) where
    stands : (place : RunPlace) (path : List (List Status)) (ends : List ℚ) → Reaches family Face from max s place path ends →
        IsNonsingularBasis p (basis_of place)
    stands = reached_leads p family Face one.keeps from max s at

    took : (place next_place : RunPlace) (path : List (List Status)) (next : List Status) → (left : HasLeft from max place path whole) →
        Took from max next next_place left.rest →
        HasLeft from max next_place (path ++ next ∷ []) whole
    took place next_place path next left step = record {
      rest = step.rest_after;
      is_whole = left.is_whole ∙ ap (λ xs. path ++ xs) step.is_next ∙ sym (append_assoc path (next ∷ []) step.rest_after);
      remains = step.remains;
    }

    has_left : (place : RunPlace) (path : List (List Status)) (ends : List ℚ) → Reaches family Face from max s place path ends →
        HasLeft from max place path whole
    has_left _ _ _ begins = record { rest = whole; is_whole = refl; remains = (report, is_report) }
    has_left _ _ _ (path_step {now} {next} {path} before step) =
        let left = has_left (InOpening now) path [] before in
        took (InOpening now) (InOpening next) path next left
        (step_took from max now next left.remains.0 left.rest (stands (InOpening now) path [] before) left.remains.1 step)
    has_left _ _ _ (first_breakpoint {now} {path} {to} point prices before ends reaches within) =
        let left = has_left (InOpening now) path [] before in
        record {
          rest = left.rest;
          is_whole = left.is_whole;
          remains =
              report_breaks from max now left.remains.0 left.rest point prices to (stands (InOpening now) path [] before) left.remains.1 ends reaches within;
        }
    has_left _ _ _ (face_step {theta} {now} {next} {path} {ends} before step) =
        let left = has_left (AtBreakpoint theta now) path ends before in
        took (AtBreakpoint theta now) (AtBreakpoint theta next) path next left
        (face_took from max theta now next left.rest (stands (AtBreakpoint theta now) path ends before) left.remains step)
    has_left _ _ _ (next_breakpoint {theta} {now} {path} {ends} {to} before done reaches within) =
        let left = has_left (AtBreakpoint theta now) path ends before in
        record {
          rest = left.rest;
          is_whole = left.is_whole;
          remains = faces_done max theta now left.rest to (stands (AtBreakpoint theta now) path ends before) left.remains done reaches within;
        }

    -- one more step than the whole has
    one_more : (place next_place : RunPlace) (path : List (List Status)) (next : List Status) (steps : ℕ) → length whole ≤ steps → length path ≡ steps →
        (left : HasLeft from max place path whole) → Took from max next next_place left.rest → ⊥
    one_more place next_place path next steps within taken left step =
        let counted : length whole ≡ length path + length left.rest = ap length left.is_whole ∙ length-append path left.rest in
        let longer : length left.rest ≡ suc (length step.rest_after) = ap length step.is_next in
        absurd (omega (arith, within, taken, counted, longer))

    goes_on_not : (place : RunPlace) (path : List (List Status)) (ends : List ℚ) (steps : ℕ) → length whole ≤ steps → length path ≡ steps →
        Reaches family Face from max s place path ends →
        GoesOn family Face from max s place → ⊥
    goes_on_not (InOpening now) path ends steps within taken reaches on =
        let left = has_left (InOpening now) path ends reaches in
        one_more (InOpening now) (InOpening on.0) path on.0 steps within taken left
        (step_took from max now on.0 left.remains.0 left.rest (stands (InOpening now) path ends reaches) left.remains.1 on.1)
    goes_on_not (AtBreakpoint theta now) path ends steps within taken reaches on =
        let left = has_left (AtBreakpoint theta now) path ends reaches in
        one_more (AtBreakpoint theta now) (AtBreakpoint theta on.0) path on.0 steps within taken left
        (face_took from max theta now on.0 left.rest (stands (AtBreakpoint theta now) path ends reaches) left.remains on.1)

  pub not_both : (from max : ℚ) (s : List Status) (report : RunReport) (path : List (List Status)) (steps : ℕ) → IsNonsingularBasis p s →
      IsReport family Face from max s report path →
      length path ≤ steps → RunGoesOnFor family Face from max s steps → ⊥
  not_both from max s report path steps at is_report within on =
      goes_on_not from max s at report path is_report on.place on.path on.ends steps within on.taken on.reaches on.goes_on

  -- a place of it after as many steps as it has is where it ends
  pub same_path : (from max : ℚ) (s : List Status) (report : RunReport) (whole : List (List Status)) → IsNonsingularBasis p s →
      IsReport family Face from max s report whole →
      (place : RunPlace) (path : List (List Status)) (ends : List ℚ) → Reaches family Face from max s place path ends → length path ≡ length whole →
      path ≡ whole
  same_path from max s report whole at is_report place path ends reaches counted =
      let left = has_left from max s at report whole is_report place path ends reaches in by_rest left.rest left.is_whole
    where
      by_rest : (rest : List (List Status)) → whole ≡ path ++ rest → path ≡ whole
      by_rest [] e = sym (e ∙ append-nil path)
      by_rest (x ∷ rest) e =
          let longer : length whole ≡ length path + suc (length rest) = ap length e ∙ length-append path (x ∷ rest) in
          absurd (omega (arith, longer, counted))
