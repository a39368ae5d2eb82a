-- A run of a family has ended within so many steps, or goes on after them, where the parts of a run are there: what is done at each
-- breakpoint, and the interval of each optimal basis. By induction on the steps that are left: an interval that ends before the last value
-- is followed by a face step, which uses up one, or by the end of the run. For if nothing were left to do there, the next interval, which
-- has the same basis, would be longer than a point, and the first would not have ended.
use Rattle.std.proofs.Common.{◌≡◌, ◌⊎◌, inl, inr, ℕ, zero, suc, ◌+◌, ◌-◌, ◌≤◌, List, [], ◌∷◌, ◌++◌, length, refl, sym, subst, arith, append_assoc, append-nil}
use Rattle.std.proofs.lemmas.List.{length-append}
use Rattle.exact_values.specs.Rational.{ℚ, ◌≤ℚ◌, ◌<ℚ◌}
use Rattle.exact_values.proofs.Order.{le_refl, le_antisymm, le_of_lt, lt_or_le, lt_not_le}
use Rattle.lp_definitions.specs.LinearProgram.{LinearProgram, IsLinearProgram}
use Rattle.lp_definitions.specs.Basis.{IsOptimalBasis}
use Rattle.lp_definitions.specs.declared.Status.{Status}
use Rattle.simplex_definitions.specs.Path.{Move, after, last_of, PathEnding, EndsOptimal, EndsCrossed, EndsInfeasible, EndsUnbounded, turn, RulePath}
use Rattle.simplex_definitions.specs.Path.{RuleGoesOn, PathEnds}
use Rattle.simplex_definitions.specs.Chain.{Part, ChainEnd, AtMax, FailedOpening, Chain, FaceTurn, FaceMoves, FaceDone, FaceEnds, ReachesTo, IsPart, IsFaceStep}
use Rattle.simplex_definitions.specs.Chain.{FacesTo, IsChain, at_max, past_breakpoint, goes_on, InOpening, AtBreakpoint, Reaches, begins, path_step}
use Rattle.simplex_definitions.specs.Chain.{first_breakpoint, face_step, next_breakpoint, RunGoesOnFor}
use Rattle.simplex_laws.specs.Laws.{IsNonsingularBasis, RuleEndsWithin}
use Rattle.simplex_laws.proofs.Ends.{optimal_end}
use Rattle.simplex_laws.proofs.Goes.{ends_or_goes_on}
use Rattle.parametric_laws.specs.Laws.{Faces}
use Rattle.parametric_laws.proofs.Runs.{opening_leads}
use Rattle.parametric_laws.specs.Families.{KeepsBases}
use Rattle.existence_laws.proofs.Reaching.{tableau_of}
use Rattle.parametric_existence_laws.specs.Laws.{EndsRun, HasReports}

-- the parts of a run: what is done at a breakpoint is there, and the interval of a basis that is optimal at a value; a face step keeps the
-- basis optimal; and where nothing is left to do, the interval that begins there is longer than a point
pub record HasParts (p : LinearProgram) (family : ℚ → LinearProgram) (Face : Faces) : Type 0 where
  pub lawful : (theta : ℚ) → IsLinearProgram (family theta)
  pub bases : KeepsBases p family Face
  pub face : (theta : ℚ) (s : List Status) → IsNonsingularBasis p s → (turn : FaceTurn) × Face theta s turn
  pub part : (from max : ℚ) (s : List Status) → from ≤ℚ max → IsNonsingularBasis p s → IsOptimalBasis (family from) s →
      (part : Part) × IsPart family from max s part
  pub keeps : (theta : ℚ) (s : List Status) (m : Move) → IsNonsingularBasis p s → IsOptimalBasis (family theta) s → Face theta s (FaceMoves m) →
      IsOptimalBasis (family theta) (after s m)
  pub grows : (theta max : ℚ) (s : List Status) (part : Part) → IsNonsingularBasis p s → theta <ℚ max → Face theta s FaceDone → IsPart family theta max s part →
      theta <ℚ part.to

module _ (p : LinearProgram) (family : ℚ → LinearProgram) (Face : Faces) (has : HasParts p family Face) where
  -- where an interval has ended before the last value, something is left to do
  no_progress : (theta max to : ℚ) (now : List Status) → IsNonsingularBasis p now → ReachesTo family now theta max to → to <ℚ max → Face to now FaceDone → ⊥
  no_progress theta max to now at reaches below done =
      lt_not_le (has.grows to max now part at below done is)
      (reaches.greatest part.to is.reaches.within (λ x past before. by_order x past before (lt_or_le x to)))
    where
      next : (part : Part) × IsPart family to max now part
      next = has.part to max now (le_of_lt below) at (reaches.optimal to reaches.forward (le_refl to))

      part : Part
      part = next.0

      is : IsPart family to max now next.0
      is = next.1

      by_order : (x : ℚ) → theta ≤ℚ x → x ≤ℚ next.0.to → (x <ℚ to) ⊎ (to ≤ℚ x) → IsOptimalBasis (family x) now
      by_order x past before (inl early) = reaches.optimal x past (le_of_lt early)
      by_order x past before (inr late) = next.1.reaches.optimal x late before

  module _ (from max : ℚ) (s : List Status) (steps : ℕ) where
    abbrev On : Type 0
    On = RunGoesOnFor family Face from max s steps

    abbrev Arrives : ℚ → List Status → List (List Status) → Type 0
    Arrives theta now path =
        (to : ℚ) → ReachesTo family now theta max to → to <ℚ max → (ends : List ℚ) × Reaches family Face from max s (AtBreakpoint to now) path ends

    -- the intervals from a value on, with at most so many face steps
    record ChainWithin (left : ℕ) (theta : ℚ) (now : List Status) : Type 0 where
      parts : List Part
      end : ChainEnd
      path : List (List Status)
      chain : IsChain family Face max theta now parts end path
      within : length path ≤ left

    -- what is done at a breakpoint, and after it
    data RestWithin (left : ℕ) (theta : ℚ) (now : List Status) : Type 0 where
      closes : (bases : List (List Status)) (end : ChainEnd) → FacesTo family Face max theta now bases (FaceEnds end) → length bases ≤ left →
          RestWithin left theta now
      continues : (bases : List (List Status)) (parts : List Part) (end : ChainEnd) (later : List (List Status)) →
          FacesTo family Face max theta now bases FaceDone →
          IsChain family Face max theta (last_of now bases) parts end later → length bases + length later ≤ left → RestWithin left theta now

    -- at a breakpoint of a run that has taken its steps but for so many
    abbrev Rests : ℕ → Type 0
    Rests left =
        (theta : ℚ) (now : List Status) (path : List (List Status)) (ends : List ℚ) → IsNonsingularBasis p now → IsOptimalBasis (family theta) now →
        theta <ℚ max →
        length path + left ≡ steps → Reaches family Face from max s (AtBreakpoint theta now) path ends → RestWithin left theta now ⊎ On

    -- what is known of fewer steps
    abbrev Earlier : ℕ → Type 0
    Earlier zero = Unit {0}
    Earlier (suc left) = Rests left

    -- ---- a face step

    one_more : (left : ℕ) (theta : ℚ) (now next : List Status) → IsFaceStep family Face theta now next → RestWithin left theta next →
        RestWithin (suc left) theta now
    one_more left theta now next step (closes bases end faces within) =
        closes (next ∷ bases) end (record { before_max = faces.before_max; face_path = (step, faces.face_path); last = faces.last }) (omega (arith, within))
    one_more left theta now next step (continues bases parts end later faces chain within) =
        continues (next ∷ bases) parts end later (record { before_max = faces.before_max; face_path = (step, faces.face_path); last = faces.last }) chain
        (omega (arith, within))

    or_on : {A B : Type 0} → (A → B) → A ⊎ On → B ⊎ On
    or_on f (inl a) = inl (f a)
    or_on f (inr on) = inr on

    counted_more : (path : List (List Status)) (next : List Status) (left : ℕ) → length path + suc left ≡ steps → length (path ++ next ∷ []) + left ≡ steps
    counted_more path next left count = let longer = length-append path (next ∷ []) in omega (arith, count, longer)

    moves : (left : ℕ) → Earlier left → (theta : ℚ) (now : List Status) (path : List (List Status)) (ends : List ℚ) → IsNonsingularBasis p now →
        IsOptimalBasis (family theta) now → theta <ℚ max →
        length path + left ≡ steps → Reaches family Face from max s (AtBreakpoint theta now) path ends → (m : Move) → Face theta now (FaceMoves m) →
        RestWithin left theta now ⊎ On
    moves zero earlier theta now path ends at optimal below count reaches m face =
        inr (record {
          place = AtBreakpoint theta now;
          path = path;
          ends = ends;
          reaches = reaches;
          taken = omega (arith, count);
          goes_on =
              (after now m, (m, face, refl));
        })
    moves (suc left) earlier theta now path ends at optimal below count reaches m face =
        or_on (one_more left theta now (after now m) (m, face, refl))
        (earlier theta (after now m) (path ++ after now m ∷ []) ends (has.bases.face_leads theta now m at face) (has.keeps theta now m at optimal face) below
        (counted_more path (after now m) left count) (face_step reaches (m, face, refl)))

    -- ---- an interval

    module _ (left : ℕ) (earlier : Earlier left) (theta : ℚ) (now : List Status) (path : List (List Status)) (at : IsNonsingularBasis p now)
        (count : length path + left ≡ steps)
        (arrives : Arrives theta now path) (part : Part) (is : IsPart family theta max now part) where
      followed : RestWithin left part.to now → ChainWithin left theta now
      followed (closes bases end faces within) = record { parts = part ∷ []; end = end; path = bases; chain = past_breakpoint is faces; within = within }
      followed (continues bases parts end later faces chain within) = record {
        parts = part ∷ parts;
        end = end;
        path = bases ++ later;
        chain = goes_on is faces chain;
        within = let whole = length-append bases later in omega (arith, whole, within);
      }

      module _ (below : part.to <ℚ max) where
        optimal_there : IsOptimalBasis (family part.to) now
        optimal_there = is.reaches.optimal part.to is.reaches.forward (le_refl part.to)

        at_breakpoint : (turn : FaceTurn) → Face part.to now turn → ChainWithin left theta now ⊎ On
        at_breakpoint (FaceMoves m) face =
            let there = arrives part.to is.reaches below in
            or_on followed (moves left earlier part.to now path there.0 at optimal_there below count there.1 m face)
        at_breakpoint FaceDone face = absurd (no_progress theta max part.to now at is.reaches below face)
        at_breakpoint (FaceEnds end) face =
            inl (record {
              parts = part ∷ [];
              end = end;
              path = [];
              chain = past_breakpoint is
                  (record { before_max = below; face_path = tt; last = face });
              within = omega arith;
            })

      by_end : (part.to <ℚ max) ⊎ (max ≤ℚ part.to) → ChainWithin left theta now ⊎ On
      by_end (inl below) = let face = has.face part.to now at in at_breakpoint below face.0 face.1
      by_end (inr last) =
          inl (record { parts = part ∷ []; end = AtMax; path = []; chain = at_max is (le_antisymm is.reaches.within last); within = omega arith })

    chain_from : (left : ℕ) → Earlier left → (theta : ℚ) (now : List Status) (path : List (List Status)) → IsNonsingularBasis p now →
        IsOptimalBasis (family theta) now → theta ≤ℚ max →
        length path + left ≡ steps → Arrives theta now path → ChainWithin left theta now ⊎ On
    chain_from left earlier theta now path at optimal forward count arrives =
        let own = has.part theta max now forward at optimal in
        by_end left earlier theta now path at count arrives own.0 own.1 (lt_or_le own.0.to max)

    -- ---- a breakpoint

    rests_from : (left : ℕ) → Earlier left → Rests left
    rests_from left earlier theta now path ends at optimal below count reaches = let face = has.face theta now at in by_turn face.0 face.1
      where
        by_turn : (turn : FaceTurn) → Face theta now turn → RestWithin left theta now ⊎ On
        by_turn (FaceMoves m) face = moves left earlier theta now path ends at optimal below count reaches m face
        by_turn (FaceEnds end) face = inl (closes [] end (record { before_max = below; face_path = tt; last = face }) (omega arith))
        by_turn FaceDone face =
            or_on (λ (chain : ChainWithin left theta now). continues [] chain.parts chain.end chain.path
            (record { before_max = below; face_path = tt; last = face }) chain.chain (let within = chain.within in omega (arith, within)))
            (chain_from left earlier theta now path at optimal (le_of_lt below) count
            (λ to there within. (to ∷ ends, next_breakpoint reaches face there within)))

    rests : (left : ℕ) → Rests left
    rests zero = rests_from zero tt
    rests (suc left) = rests_from (suc left) (rests left)

    earlier_of : (left : ℕ) → Earlier left
    earlier_of zero = tt
    earlier_of (suc left) = rests left

    -- ---- the opening path

    opens_over : (now : List Status) (path bases : List (List Status)) → Reaches family Face from max s (InOpening now) path [] →
        RulePath turn (family from) now bases →
        Reaches family Face from max s (InOpening (last_of now bases)) (path ++ bases) []
    opens_over now path [] reaches is_path = subst (λ xs. Reaches family Face from max s (InOpening now) xs []) (sym (append-nil path)) reaches
    opens_over now path (next ∷ bases) reaches is_path =
        subst (λ xs. Reaches family Face from max s (InOpening (last_of next bases)) xs []) (append_assoc path (next ∷ []) bases)
        (opens_over next (path ++ next ∷ []) bases (path_step reaches is_path.0) is_path.1)

    module _ (forward : from ≤ℚ max) (at : IsNonsingularBasis p s) where
      still_opening : RuleGoesOn turn (family from) s steps → On
      still_opening on = record {
        place = InOpening (last_of s on.bases);
        path = on.bases;
        ends = [];
        reaches = opens_over s [] on.bases begins on.is_path;
        taken = on.taken;
        goes_on = (on.next, on.is_step);
      }

      opened : (bases : List (List Status)) (ending : PathEnding) → PathEnds (family from) s bases ending → length bases ≤ steps →
          EndsRun family Face from max s steps ⊎ On
      opened bases (EndsCrossed k) ends within =
          inl (record { report = FailedOpening (EndsCrossed k); path = bases; is_report = record { opens = ends; is_failure = tt }; within = within })
      opened bases (EndsInfeasible w) ends within =
          inl (record { report = FailedOpening (EndsInfeasible w); path = bases; is_report = record { opens = ends; is_failure = tt }; within = within })
      opened bases (EndsUnbounded z d) ends within =
          inl (record { report = FailedOpening (EndsUnbounded z d); path = bases; is_report = record { opens = ends; is_failure = tt }; within = within })
      opened bases (EndsOptimal z y) ends within =
          or_on whole
          (chain_from (steps - length bases) (earlier_of (steps - length bases)) from (last_of s bases) bases there optimal forward (omega (arith, within))
          (λ to reaches below. (to ∷ [], first_breakpoint z y (opens_over s [] bases begins ends.is_path) ends.ends reaches below)))
        where
          there : IsNonsingularBasis p (last_of s bases)
          there = opening_leads p family Face has.bases from s bases (EndsOptimal z y) at ends

          optimal : IsOptimalBasis (family from) (last_of s bases)
          optimal = (optimal_end (family from) (last_of s bases) z y (has.lawful from) (has.bases.to_family from (last_of s bases) there) ends.ends).optimal

          whole : ChainWithin (steps - length bases) from (last_of s bases) → EndsRun family Face from max s steps
          whole chain = record {
            report = Chain chain.parts chain.end;
            path = bases ++ chain.path;
            is_report = record { opening = bases; point = z; prices = y; opens = ends; faces = chain.path; chain = chain.chain; whole = refl };
            within = let all = length-append bases chain.path in let rest = chain.within in omega (arith, all, rest, within);
          }

      run : EndsRun family Face from max s steps ⊎ On
      run =
          let there = has.bases.to_family from s at in
          by (ends_or_goes_on (family from) steps s there (tableau_of (family from) s there))
        where
          by : (RuleEndsWithin turn (family from) s steps ⊎ RuleGoesOn turn (family from) s steps) → EndsRun family Face from max s steps ⊎ On
          by (inl way) = opened way.bases way.ending way.ends way.within
          by (inr on) = inr (still_opening on)

  pub has_reports : HasReports p family Face
  has_reports from max s steps forward at = run from max s steps forward at
