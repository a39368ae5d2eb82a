-- A parametric run has one report, and goes over the same bases.
use Rattle.std.proofs.Common.{◌≡◌, ℕ, ◌+◌, ◌-◌, ◌≤◌, List, [], ◌∷◌, ◌++◌, length, refl, sym, ap, ap₂, subst, ◌∙◌, pos, arith, get_or}
use Rattle.std.specs.Prelude.{Bool, true, false, if◌then◌else◌}
use Rattle.std.proofs.lemmas.List.{ext_get_or}
use Rattle.exact_values.specs.Rational.{ℚ, zero_ℚ, one_ℚ, ◌+ℚ◌, ◌-ℚ◌, ◌*ℚ◌, ◌<ℚ◌}
use Rattle.exact_values.proofs.Ring.{by_ring2, ◌⊕◌, ◌⊖◌, ◌⊗◌, ◌≐◌, number}
use Rattle.exact_values.proofs.Order.{le_antisymm, lt_irrefl}
use Rattle.lp_definitions.specs.LinearProgram.{LinearProgram, Vector, value_at, size, IsVariable, IsRow, HasNoLimits, IsLinearProgram}
use Rattle.lp_definitions.specs.Basis.{is_in, basics_of, ArePricesOf, objective_rate}
use Rattle.lp_definitions.specs.declared.Status.{Status}
use Rattle.lp_laws.proofs.Uniqueness.{one_point, one_table}
use Rattle.simplex_definitions.specs.Path.{after, last_of, PathEnding, EndsOptimal, PathEnds}
use Rattle.simplex_laws.specs.Laws.{IsNonsingularBasis, SameEnds}
use Rattle.simplex_laws.proofs.UnboundedEnds.{objective_value-same}
use Rattle.simplex_laws.proofs.OnePath.{one_path}
use Rattle.simplex_definitions.specs.Chain.{Part, ChainEnd, RunReport, FailedOpening, Chain, FaceTurn, FaceMoves, FaceDone, FaceEnds, along, IsFailure}
use Rattle.simplex_definitions.specs.Chain.{ReachesTo, IsPart, IsFaceStep, IsFacePath, FacesTo, IsChain, at_max, past_breakpoint, goes_on, IsRun}
use Rattle.simplex_definitions.specs.Chain.{IsFailedOpening, IsReport}
use Rattle.simplex_definitions.specs.ObjectiveRun.{objective_family, IsObjectiveFace}
use Rattle.simplex_definitions.specs.RhsRun.{rhs_family, IsRhsFace}
use Rattle.parametric_laws.specs.Laws.{SameReports}
use Rattle.parametric_laws.proofs.Runs.{face_step_leads, face_path_leads, opening_leads, objective_keeps, rhs_keeps}
use Rattle.parametric_laws.specs.Families.{HasOneFace}
use Rattle.parametric_laws.proofs.OneObjective.{lawful_objective, one_objective_face}
use Rattle.parametric_laws.proofs.OneRhs.{lawful_rhs, one_rhs_face}

-- ---- lists by their values

-- two lines with the same values at 0 and at 1
module _ (v r w q : ℚ) (at_zero : v +ℚ zero_ℚ *ℚ r ≡ w +ℚ zero_ℚ *ℚ q) (at_one : v +ℚ one_ℚ *ℚ r ≡ w +ℚ one_ℚ *ℚ q) where
  same_value : v ≡ w
  same_value =
      by_ring2 v r (λ v r. v ≐ v ⊕ number (pos 0) ⊗ r) refl
      ∙ at_zero
      ∙ sym (by_ring2 w q (λ v r. v ≐ v ⊕ number (pos 0) ⊗ r) refl)

  same_rate : r ≡ q
  same_rate =
      by_ring2 v r (λ v r. r ≐ (v ⊕ number (pos 1) ⊗ r) ⊖ v) refl
      ∙ ap₂ ◌-ℚ◌ at_one same_value
      ∙ sym (by_ring2 w q (λ v r. r ≐ (v ⊕ number (pos 1) ⊗ r) ⊖ v) refl)

lists_same : (n : ℕ) (xs ys : List ℚ) → length xs ≡ n → length ys ≡ n → ((k : ℕ) → 1 ≤ k → k ≤ n → value_at xs k ≡ value_at ys k) → xs ≡ ys
lists_same n xs ys first second same =
    ext_get_or zero_ℚ xs ys (first ∙ sym second) (λ i below.
    let place : i + 1 - 1 ≡ i = omega arith in
    subst (λ j. get_or xs j zero_ℚ ≡ get_or ys j zero_ℚ) place (same (i + 1) (omega arith) (omega (arith, first, below))))

record SameLists (value rate other slope : List ℚ) : Type 0 where
  values : value ≡ other
  rates : rate ≡ slope

lines_same : (n : ℕ) (value rate other slope : List ℚ) → length value ≡ n → length rate ≡ n → length other ≡ n → length slope ≡ n →
    ((theta : ℚ) (k : ℕ) → 1 ≤ k → k ≤ n → along theta value rate k ≡ along theta other slope k) → SameLists value rate other slope
lines_same n value rate other slope l1 l2 l3 l4 same = record {
  values =
      lists_same n value other l1 l3
      (λ k low high. same_value (value_at value k) (value_at rate k) (value_at other k) (value_at slope k) (same zero_ℚ k low high)
      (same one_ℚ k low high));
  rates =
      lists_same n rate slope l2 l4
      (λ k low high. same_rate (value_at value k) (value_at rate k) (value_at other k) (value_at slope k) (same zero_ℚ k low high) (same one_ℚ k low high));
}

-- ---- one point, one list of prices

one_price : (p : LinearProgram) (s : List Status) (y w : Vector) → IsLinearProgram p → IsNonsingularBasis p s → ArePricesOf p s y → ArePricesOf p s w →
    (k : ℕ) → IsVariable p.matrix k → y k ≡ w k
one_price p s y w lawful at first second k is = first.prices k is ∙ by_mark (is_in (basics_of s) k) refl ∙ sym (second.prices k is)
  where
    by_mark : (mark : Bool) → is_in (basics_of s) k ≡ mark →
        (if mark then zero_ℚ else objective_rate p first.rate k) ≡ (if mark then zero_ℚ else objective_rate p second.rate k)
    by_mark true mark = refl
    by_mark false mark =
        objective_value-same p (λ i. first.rate i k) (λ i. second.rate i k) lawful
        (λ i out. one_table p.matrix (basics_of s) first.rate second.rate at.nonsingular first.are_rates second.are_rates i k out (is, mark))

-- ---- intervals, face steps, chains

-- nothing moves
abbrev pub IsStill : FaceTurn → Type 0
IsStill (FaceMoves m) = ⊥
IsStill FaceDone = Unit {0}
IsStill (FaceEnds end) = Unit {0}

pub one_reach : (family : ℚ → LinearProgram) (s : List Status) (from max to other : ℚ) → ReachesTo family s from max to → ReachesTo family s from max other →
    to ≡ other
one_reach family s from max to other first second =
    le_antisymm (second.greatest to first.within first.optimal) (first.greatest other second.within second.optimal)

pub record SameFaces (bases others : List (List Status)) (turn other : FaceTurn) : Type 0 where
  pub same_bases : bases ≡ others
  pub same_turn : turn ≡ other

pub record SameChains (parts parts' : List Part) (end end' : ChainEnd) (path path' : List (List Status)) : Type 0 where
  pub same_parts : parts ≡ parts'
  pub same_end : end ≡ end'
  pub same_path : path ≡ path'

module _ (p : LinearProgram) (family : ℚ → LinearProgram) (Face : ℚ → List Status → FaceTurn → Type 0) (one : HasOneFace p family Face) where
  pub one_part : (from max : ℚ) (s : List Status) (part other : Part) → IsNonsingularBasis p s → IsPart family from max s part →
      IsPart family from max s other → part ≡ other
  one_part from max s part other at first second = λ i. record {
    from = (first.begins ∙ sym second.begins) i;
    to = one_reach family s from max part.to other.to first.reaches second.reaches i;
    statuses = (first.statuses ∙ sym second.statuses) i;
    value = points.values i;
    value_rate = points.rates i;
    price = prices.values i;
    price_rate = prices.rates i;
  }
    where
      there : (theta : ℚ) → IsNonsingularBasis (family theta) s
      there theta = one.keeps.to_family theta s at

      within : (theta : ℚ) (k : ℕ) → 1 ≤ k → k ≤ size p.matrix → IsVariable (family theta).matrix k
      within theta k low high = (low, omega (arith, one.sized theta, high))

      points : SameLists part.value part.value_rate other.value other.value_rate
      points = lines_same (size p.matrix) part.value part.value_rate other.value other.value_rate
          (first.values_counted.value_counted ∙ one.sized from) (first.values_counted.rate_counted ∙ one.sized from)
          (second.values_counted.value_counted ∙ one.sized from) (second.values_counted.rate_counted ∙ one.sized from)
          (λ theta k low high. one_point (family theta) s (along theta part.value part.value_rate) (along theta other.value other.value_rate)
          (there theta).is_basis.counted (there theta).nonsingular (first.values theta) (second.values theta) k (within theta k low high))

      prices : SameLists part.price part.price_rate other.price other.price_rate
      prices = lines_same (size p.matrix) part.price part.price_rate other.price other.price_rate
          (first.prices_counted.value_counted ∙ one.sized from) (first.prices_counted.rate_counted ∙ one.sized from)
          (second.prices_counted.value_counted ∙ one.sized from) (second.prices_counted.rate_counted ∙ one.sized from)
          (λ theta k low high. one_price (family theta) s (along theta part.price part.price_rate) (along theta other.price other.price_rate)
          (one.lawful theta) (there theta) (first.prices theta) (second.prices theta) k (within theta k low high))

  -- where nothing moves there is no face step
  pub still_or_steps : (theta : ℚ) (s next : List Status) (turn : FaceTurn) → IsNonsingularBasis p s → Face theta s turn → IsStill turn →
      IsFaceStep family Face theta s next → ⊥
  still_or_steps theta s next turn at face still step = subst IsStill (one.one_face theta s turn (FaceMoves step.0) at face step.1) still

  pub one_face_step : (theta : ℚ) (s next other : List Status) → IsNonsingularBasis p s → IsFaceStep family Face theta s next →
      IsFaceStep family Face theta s other → next ≡ other
  one_face_step theta s next other at first second =
      let turns = one.one_face theta s (FaceMoves first.0) (FaceMoves second.0) at first.1 second.1 in
      let moves : first.0 ≡ second.0 = cc in
      first.2 ∙ ap (after s) moves ∙ sym second.2

  one_face_path : (theta : ℚ) (s : List Status) (bases others : List (List Status)) (turn other : FaceTurn) → IsNonsingularBasis p s →
      IsFacePath family Face theta s bases → Face theta (last_of s bases) turn → IsStill turn → IsFacePath family Face theta s others →
      Face theta (last_of s others) other → IsStill other →
      SameFaces bases others turn other
  one_face_path theta s [] [] turn other at path face still path' face' still' =
      record { same_bases = refl; same_turn = one.one_face theta s turn other at face face' }
  one_face_path theta s [] (next ∷ others) turn other at path face still path' face' still' = absurd (still_or_steps theta s next turn at face still path'.0)
  one_face_path theta s (next ∷ bases) [] turn other at path face still path' face' still' = absurd (still_or_steps theta s next other at face' still' path.0)
  one_face_path theta s (next ∷ bases) (next' ∷ others) turn other at path face still path' face' still' =
      let same : next ≡ next' = one_face_step theta s next next' at path.0 path'.0 in
      let moved : IsFacePath family Face theta next others = subst (λ x. IsFacePath family Face theta x others) (sym same) path'.1 in
      let ended : Face theta (last_of next others) other = subst (λ x. Face theta (last_of x others) other) (sym same) face' in
      let rest =
      one_face_path theta next bases others turn other (face_step_leads p family Face one.keeps theta s next at path.0) path.1 face still moved ended still' in
      record { same_bases = ap₂ (λ x xs. x ∷ xs) same rest.same_bases; same_turn = rest.same_turn }

  one_faces : (max theta : ℚ) (s : List Status) (bases others : List (List Status)) (turn other : FaceTurn) → IsNonsingularBasis p s →
      FacesTo family Face max theta s bases turn → IsStill turn → FacesTo family Face max theta s others other → IsStill other →
      SameFaces bases others turn other
  one_faces max theta s bases others turn other at first still second still' =
      one_face_path theta s bases others turn other at first.face_path first.last still second.face_path second.last still'

  pub one_chain : (max from : ℚ) (s : List Status) (parts parts' : List Part) (end end' : ChainEnd) (path path' : List (List Status)) → IsNonsingularBasis p s →
      IsChain family Face max from s parts end path → IsChain family Face max from s parts' end' path' → SameChains parts parts' end end' path path'
  one_chain max _ _ _ _ _ _ _ _ at (at_max {from} {s} {part} is whole) (at_max {part = other} is' whole') = record {
    same_parts = ap (λ x. x ∷ []) (one_part from max s part other at is is');
    same_end = refl;
    same_path = refl;
  }
  one_chain max _ _ _ _ _ _ _ _ at (at_max {from} {s} {part} is whole) (past_breakpoint {part = other} is' faces') =
      absurd (lt_irrefl (subst (λ x. x <ℚ max) (ap (λ (part : Part). part.to) (sym (one_part from max s part other at is is')) ∙ whole) faces'.before_max))
  one_chain max _ _ _ _ _ _ _ _ at (at_max {from} {s} {part} is whole) (goes_on {part = other} is' faces' chain') =
      absurd (lt_irrefl (subst (λ x. x <ℚ max) (ap (λ (part : Part). part.to) (sym (one_part from max s part other at is is')) ∙ whole) faces'.before_max))
  one_chain max _ _ _ _ _ _ _ _ at (past_breakpoint {from} {s} {part} is faces) (at_max {part = other} is' whole') =
      absurd (lt_irrefl (subst (λ x. x <ℚ max) (ap (λ (part : Part). part.to) (one_part from max s part other at is is') ∙ whole') faces.before_max))
  one_chain max _ _ _ _ _ _ _ _ at (past_breakpoint {from} {s} {part} {end} {path} is faces)
      (past_breakpoint {part = other} {end = end'} {path = path'} is' faces') =
      let same : part ≡ other = one_part from max s part other at is is' in
      let moved : FacesTo family Face max part.to s path' (FaceEnds end') =
      subst (λ (x : Part). FacesTo family Face max x.to s path' (FaceEnds end')) (sym same) faces' in
      let all = one_faces max part.to s path path' (FaceEnds end) (FaceEnds end') at faces tt moved tt in
      let turns = all.same_turn in
      record { same_parts = ap (λ x. x ∷ []) same; same_end = cc; same_path = all.same_bases }
  one_chain max _ _ _ _ _ _ _ _ at (past_breakpoint {from} {s} {part} {end} {path} is faces) (goes_on {part = other} {bases = bases'} is' faces' chain') =
      let same : part ≡ other = one_part from max s part other at is is' in
      let moved : FacesTo family Face max part.to s bases' FaceDone = subst (λ (x : Part). FacesTo family Face max x.to s bases' FaceDone) (sym same) faces' in
      let turns = (one_faces max part.to s path bases' (FaceEnds end) FaceDone at faces tt moved tt).same_turn in cc
  one_chain max _ _ _ _ _ _ _ _ at (goes_on {from} {s} {part} is faces chain) (at_max {part = other} is' whole') =
      absurd (lt_irrefl (subst (λ x. x <ℚ max) (ap (λ (part : Part). part.to) (one_part from max s part other at is is') ∙ whole') faces.before_max))
  one_chain max _ _ _ _ _ _ _ _ at (goes_on {from} {s} {part} {bases = bases} is faces chain)
      (past_breakpoint {part = other} {end = end'} {path = path'} is' faces') =
      let same : part ≡ other = one_part from max s part other at is is' in
      let moved : FacesTo family Face max part.to s path' (FaceEnds end') =
      subst (λ (x : Part). FacesTo family Face max x.to s path' (FaceEnds end')) (sym same) faces' in
      let turns = (one_faces max part.to s bases path' FaceDone (FaceEnds end') at faces tt moved tt).same_turn in cc
  one_chain max _ _ _ _ _ _ _ _ at (goes_on {from} {s} {part} {parts} {end} {bases} {later} is faces chain)
      (goes_on {part = other} {parts = parts'} {end = end'} {bases = bases'} {later = later'} is' faces' chain') =
      let same : part ≡ other = one_part from max s part other at is is' in
      let moved : FacesTo family Face max part.to s bases' FaceDone = subst (λ (x : Part). FacesTo family Face max x.to s bases' FaceDone) (sym same) faces' in
      let steps = (one_faces max part.to s bases bases' FaceDone FaceDone at faces tt moved tt).same_bases in
      let there : IsChain family Face max part.to (last_of s bases) parts' end' later' =
      subst (λ (x : Part). IsChain family Face max x.to (last_of s bases) parts' end' later') (sym same)
      (subst (λ b. IsChain family Face max other.to (last_of s b) parts' end' later') (sym steps) chain') in
      let rest =
      one_chain max part.to (last_of s bases) parts parts' end end' later later'
      (face_path_leads p family Face one.keeps part.to s bases at faces.face_path) chain there in
      record { same_parts = ap₂ (λ x xs. x ∷ xs) same rest.same_parts; same_end = rest.same_end; same_path = ap₂ ◌++◌ steps rest.same_path }

  -- ---- reports

  one_opening : (from : ℚ) (s : List Status) (bases others : List (List Status)) (ending other : PathEnding) → IsNonsingularBasis p s →
      PathEnds (family from) s bases ending → PathEnds (family from) s others other → SameEnds bases others ending other
  one_opening from s bases others ending other at = one_path (family from) (one.lawful from) s bases others ending other (one.keeps.to_family from s at)

  fails_or_runs : (from max : ℚ) (s : List Status) (ending : PathEnding) (parts : List Part) (end : ChainEnd) (path further : List (List Status)) →
      IsNonsingularBasis p s →
      IsFailedOpening family Face from s ending path → IsRun family Face from max s parts end further → ⊥
  fails_or_runs from max s ending parts end path further at failed run =
      subst IsFailure (one_opening from s path run.opening ending (EndsOptimal run.point run.prices) at failed.opens run.opens).same_ending failed.is_failure

  pub one_report : (from max : ℚ) (s : List Status) (report other : RunReport) (path further : List (List Status)) → IsNonsingularBasis p s →
      IsReport family Face from max s report path → IsReport family Face from max s other further → SameReports report other path further
  one_report from max s (FailedOpening ending) (FailedOpening other) path further at first second =
      let same = one_opening from s path further ending other at first.opens second.opens in
      record { same_report = ap FailedOpening same.same_ending; same_path = same.same_bases }
  one_report from max s (FailedOpening ending) (Chain parts end) path further at first second =
      absurd (fails_or_runs from max s ending parts end path further at first second)
  one_report from max s (Chain parts end) (FailedOpening ending) path further at first second =
      absurd (fails_or_runs from max s ending parts end further path at second first)
  one_report from max s (Chain parts end) (Chain parts' end') path further at first second =
      let opening =
      (one_opening from s first.opening second.opening (EndsOptimal first.point first.prices)
      (EndsOptimal second.point second.prices) at first.opens second.opens).same_bases in
      let there : IsChain family Face max from (last_of s first.opening) parts' end' second.faces =
      subst (λ b. IsChain family Face max from (last_of s b) parts' end' second.faces) (sym opening) second.chain in
      let rest = one_chain max from (last_of s first.opening) parts parts' end end' first.faces second.faces
      (opening_leads p family Face one.keeps from s first.opening (EndsOptimal first.point first.prices) at first.opens) first.chain there in
      record { same_report = ap₂ Chain rest.same_parts rest.same_end; same_path = first.whole ∙ ap₂ ◌++◌ opening rest.same_path ∙ sym second.whole }

-- ---- the two families

pub objective_faces : (p : LinearProgram) (h : ℕ) → IsLinearProgram p → IsRow p.matrix h → HasNoLimits p h →
    HasOneFace p (objective_family p h) (IsObjectiveFace p h)
objective_faces p h lawful row free =
    record {
      keeps = objective_keeps p h;
      lawful = lawful_objective p h lawful row free;
      sized = λ theta. refl;
      one_face = one_objective_face p h lawful row
          free;
    }

pub rhs_faces : (p : LinearProgram) (shift : List ℚ) → IsLinearProgram p → HasOneFace p (rhs_family p shift) (IsRhsFace p shift)
rhs_faces p shift lawful =
    record { keeps = rhs_keeps p shift; lawful = lawful_rhs p shift lawful; sized = λ theta. refl; one_face = one_rhs_face p shift lawful }
