-- A face step of a run of the objective keeps the basis optimal at its breakpoint: the combined rate of the variable that moves is 0, so the
-- combined rates of the others stay as they were, and the point stays feasible, since it moves until a variable stops it.
use Rattle.std.proofs.Common.{◌≡◌, ◌≢◌, ℕ, ◌-◌, ◌⊎◌, inl, inr, Bool, true, false, List, refl, sym, ap, ap₂, subst, ◌∙◌, pos}
use Rattle.std.specs.Prelude.{Option, Some, None, ◌&&◌, ◌||◌, not, option_map, if◌then◌else◌, eqb}
use Rattle.std.proofs.lemmas.Bool.Decides.{eqb_tells}
use Rattle.std.proofs.lemmas.List.{set-set}
use Rattle.exact_values.specs.Rational.{ℚ, zero_ℚ, one_ℚ, ◌+ℚ◌, ◌-ℚ◌, ◌*ℚ◌, ◌/ℚ◌}
use Rattle.exact_values.specs.Tests.{lt_ℚ}
use Rattle.exact_values.proofs.Order.{le_refl}
use Rattle.exact_values.proofs.Ring.{same_by_one, by_ring4, by_ring5, ◌⊕◌, ◌⊖◌, ◌⊗◌, ◌≐◌, number}
use Rattle.exact_values.proofs.TestsLaws.{lt_fails_from_le}
use Rattle.lp_definitions.specs.LinearProgram.{LinearProgram, Vector, IsRow, IsVariable, IsLinearProgram, lower_of, upper_of, for_min}
use Rattle.lp_definitions.specs.Basis.{is_in, basics_of, status_of, with_status, is_basic, exchanged, IsBasic, IsNonbasic, AreRates, IsOptimalBasis, Tableau}
use Rattle.lp_definitions.specs.Basis.{IsTableau, objective_rate}
use Rattle.lp_definitions.specs.declared.Status.{Status}
use Rattle.lp_definitions.specs.declared.Status.TheVariants.{Bs, Ll, Ul}
use Rattle.lp_laws.specs.Rates.{exchanged_rate}
use Rattle.lp_laws.proofs.Values.{clash, sub-zero}
use Rattle.lp_laws.proofs.Exchange.{AreRates-exchanged, was_nonbasic}
use Rattle.lp_laws.proofs.Statuses.{basics_of-replaced, basics_of-flipped, changed_other, status_of_nonbasic}
use Rattle.lp_laws.proofs.Optimal.{for_min-zero}
use Rattle.simplex_definitions.specs.Moves.{rises_from, falls_from, is_fixed, lowers, signed, goes_up, step_length, reached, blocking_variable}
use Rattle.simplex_definitions.specs.Path.{Move, after, speeds, stopped_by}
use Rattle.simplex_laws.specs.Laws.{IsNonsingularBasis}
use Rattle.simplex_laws.proofs.BlockingVariables.{blocking_variable_some, reaches_limit}
use Rattle.simplex_definitions.specs.Chain.{FaceMoves}
use Rattle.simplex_definitions.specs.ObjectiveRun.{objective_family, change_rate, face_entering_variable, face_until, face_by, objective_face, IsObjectiveFace}
use Rattle.sensitivity_laws.specs.Changes.{HasRows, IsRightTableau}
use Rattle.sensitivity_laws.proofs.Tableaus.{by_tableau}
use Rattle.simplex_laws.proofs.OneTurn.{lowers_idle}
use Rattle.simplex_laws.proofs.Steps.{signed_zero}
use Rattle.parametric_laws.proofs.Leads.{stopped_leads}
use Rattle.parametric_laws.proofs.Objective.{to_objective}
use Rattle.parametric_laws.proofs.Motions.{HasFeasiblePoint, stopped_feasible}
use Rattle.parametric_laws.proofs.ObjectiveEnds.{face_entering_variable_is}

-- ---- a rate of 0

idle_at_zero : (rises falls : Bool) (x : ℚ) → x ≡ zero_ℚ → ((lt_ℚ x zero_ℚ && rises) || (lt_ℚ zero_ℚ x && falls)) ≡ false
idle_at_zero rises falls x e =
    ap₂ (λ a b. (a && rises) || (b && falls)) (ap (λ y. lt_ℚ y zero_ℚ) e ∙ lt_fails_from_le zero_ℚ zero_ℚ (le_refl zero_ℚ))
    (ap (λ y. lt_ℚ zero_ℚ y) e ∙ lt_fails_from_le zero_ℚ zero_ℚ (le_refl zero_ℚ))

no_limit : (low high : Option ℚ) (x : ℚ) → x ≡ zero_ℚ → (if lt_ℚ zero_ℚ x then high else (if lt_ℚ x zero_ℚ then low else None)) ≡ None
no_limit low high x e =
    ap₂ (λ a b. if a then high else (if b then low else None)) (ap (λ y. lt_ℚ zero_ℚ y) e ∙ lt_fails_from_le zero_ℚ zero_ℚ (le_refl zero_ℚ))
    (ap (λ y. lt_ℚ y zero_ℚ) e ∙ lt_fails_from_le zero_ℚ zero_ℚ (le_refl zero_ℚ))

reached_apart : (up : Bool) → (if up then Ul else Ll) ≢ Bs
reached_apart true e = cc
reached_apart false e = cc

-- a multiple of the combined rate, and what is left without it
scaled_away : (c a theta b : ℚ) → a +ℚ theta *ℚ b ≡ zero_ℚ → c *ℚ a +ℚ theta *ℚ (c *ℚ b) ≡ zero_ℚ
scaled_away c a theta b e = same_by_one c e (by_ring4 c a theta b (λ c a y b. c ⊗ a ⊕ y ⊗ (c ⊗ b) ≐ number (pos 0) ⊕ c ⊗ (a ⊕ y ⊗ b ⊖ number (pos 0))) refl)

taken_away : (x y c a theta b : ℚ) → a +ℚ theta *ℚ b ≡ zero_ℚ → (x -ℚ c *ℚ a) +ℚ theta *ℚ (y -ℚ c *ℚ b) ≡ x +ℚ theta *ℚ y
taken_away x y c a theta b e =
    by_ring5 x (c *ℚ a) theta y (c *ℚ b) (λ x u z y w. (x ⊖ u) ⊕ z ⊗ (y ⊖ w) ≐ (x ⊕ z ⊗ y) ⊖ (u ⊕ z ⊗ w)) refl
    ∙ ap (λ r. (x +ℚ theta *ℚ y) -ℚ r) (scaled_away c a theta b e) ∙ sub-zero (x +ℚ theta *ℚ y)

-- ---- q, whose combined rate is 0, moves until k stops it

module _ (p : LinearProgram) (h : ℕ) (lawful : IsLinearProgram p) (row : IsRow p.matrix h) (theta : ℚ) (s : List Status) (at : IsNonsingularBasis p s)
    (t : Tableau) (tab : IsTableau (objective_family p h theta) s t) (optimal : IsOptimalBasis (objective_family p h theta) s)
    (q : ℕ) (enters : IsNonbasic p.matrix (basics_of s) q) (zero_rate : objective_rate (objective_family p h theta) t.rate q ≡ zero_ℚ)
    (up : Bool) (k : ℕ) (stops : blocking_variable (objective_family p h theta) t.point (speeds t.rate up q) ≡ Some k) where
  abbrev present : LinearProgram
  present = objective_family p h theta

  abbrev v : ℕ → ℚ
  v = speeds t.rate up q

  abbrev next : List Status
  next = after s (stopped_by q v k)

  there : IsNonsingularBasis (objective_family p h theta) s
  there = to_objective p h theta s at

  rows : HasRows (objective_family p h theta)
  rows = record { objective = lawful.objective_row; change = row }

  right_now : IsRightTableau (objective_family p h theta) s t
  right_now = (by_tableau present s there.is_basis there.nonsingular rows t tab).0 optimal

  leads : IsNonsingularBasis present next
  leads = stopped_leads present s t there tab q k up enters stops

  have : HasFeasiblePoint present next
  have = stopped_feasible present s t there tab right_now.feasible q k up enters stops

  k_is : IsVariable p.matrix k
  k_is = (blocking_variable_some present t.point v k stops).0

  pivot : t.rate k q ≢ zero_ℚ
  pivot zero = nothing (reaches_limit (step_length present t.point v k) (step_length present t.point v k)
      ((blocking_variable_some present t.point v k stops).1 k k_is))
    where
      nothing : (x : ℚ) × (step_length present t.point v k ≡ Some x) → ⊥
      nothing (x, e) =
          let none : step_length present t.point v k ≡ None =
          ap (option_map (λ l. (l -ℚ t.point k) /ℚ v k)) (no_limit (lower_of p k) (upper_of p k) (v k) (ap (signed up) zero ∙ signed_zero up)) in
          let P : Some x ≡ None → ⊥ = λ e. cc in P (sym e ∙ none)

  not_basic : status_of s q ≢ Bs
  not_basic e = clash (sym (ap is_basic e) ∙ status_of_nonbasic p s at.is_basis q enters)

  -- a nonbasic has the rate 0 now, or it stands where it stood, with the rate that it had
  data IsStill (rate : ℕ → ℕ → ℚ) (j : ℕ) : Type 0 where
    at_zero : objective_rate present rate j ≡ zero_ℚ → IsStill rate j
    as_it_was : objective_rate present rate j ≡ objective_rate present t.rate j → status_of next j ≡ status_of s j → IsStill rate j

  by_rates : (rate : ℕ → ℕ → ℚ) → AreRates p.matrix (basics_of next) rate → ((j : ℕ) → IsNonbasic p.matrix (basics_of next) j → IsStill rate j) →
      IsOptimalBasis present next
  by_rates rate are still =
      (by_tableau present next leads.is_basis leads.nonsingular rows (record { point = have.point; rate = rate })
      (record { is_point = have.is_point; are_rates = are })).1
      (record { feasible = have.feasible; right = λ j is. by_mark j is (is_in (basics_of next) j) refl })
    where
      by_kind : (j : ℕ) → IsVariable p.matrix j → IsStill rate j → lowers present next (λ i. for_min p.sense (objective_rate present rate i)) j ≡ false
      by_kind j is (at_zero zero) =
          idle_at_zero (rises_from (status_of next j) && not (is_fixed present j)) (falls_from (status_of next j) && not (is_fixed present j))
          (for_min p.sense (objective_rate present rate j)) (ap (for_min p.sense) zero ∙ for_min-zero p.sense)
      by_kind j is (as_it_was same stands) =
          ap₂ (λ w st. (lt_ℚ w zero_ℚ && (rises_from st && not (is_fixed present j))) || (lt_ℚ zero_ℚ w && (falls_from st && not (is_fixed present j))))
          (ap (for_min p.sense) same) stands
          ∙ right_now.right j is

      by_mark : (j : ℕ) → IsVariable p.matrix j → (mark : Bool) → is_in (basics_of next) j ≡ mark →
          lowers present next (λ i. for_min p.sense (objective_rate present rate i)) j ≡ false
      by_mark j is true mark = lowers_idle present next leads.is_basis (λ i. for_min p.sense (objective_rate present rate i)) j is mark
      by_mark j is false mark = by_kind j is (still j (is, mark))

  -- q comes to its other limit
  flipped : k ≡ q → IsOptimalBasis present next
  flipped same = by_rates t.rate (subst (λ b. AreRates p.matrix b t.rate) (sym same_basics) tab.are_rates) (λ j out. by_number j out (eqb_tells j q))
    where
      statuses : next ≡ with_status s q (reached v k)
      statuses = ap (λ i. with_status (with_status s q Bs) i (reached v k)) same ∙ set-set s (q - 1) Bs (reached v k)

      same_basics : basics_of next ≡ basics_of s
      same_basics = ap basics_of statuses ∙ basics_of-flipped s q (reached v k) not_basic (reached_apart (lt_ℚ zero_ℚ (v k)))

      by_number : (j : ℕ) → IsNonbasic p.matrix (basics_of next) j → (((eqb j q ≡ true) × (j ≡ q)) ⊎ ((eqb j q ≡ false) × (j ≢ q))) → IsStill t.rate j
      by_number j out (inl own) = at_zero (ap (objective_rate present t.rate) own.1 ∙ zero_rate)
      by_number j out (inr other) = as_it_was refl (ap (λ x. status_of x j) statuses ∙ changed_other p s at.is_basis q j (reached v k) s enters.0 out.0 other.1)

  -- the basic k goes, and q takes its place
  exchanges : k ≢ q → IsOptimalBasis present next
  exchanges apart =
      by_rates (exchanged_rate t.rate k q) (subst (λ b. AreRates p.matrix b (exchanged_rate t.rate k q)) (sym same_basics) are)
      (λ j out. by_number j out (eqb_tells j k))
    where
      marked : (mark : Bool) → is_in (basics_of s) k ≡ mark → is_in (basics_of s) k ≡ true
      marked true is = is
      marked false is = absurd (pivot ((tab.are_rates q enters).others k (k_is, is) apart))

      leaves : IsBasic p.matrix (basics_of s) k
      leaves = (k_is, marked (is_in (basics_of s) k) refl)

      same_basics : basics_of next ≡ exchanged (basics_of s) k q
      same_basics = basics_of-replaced s k q (reached v k) (reached_apart (lt_ℚ zero_ℚ (v k)))

      are : AreRates p.matrix (exchanged (basics_of s) k q) (exchanged_rate t.rate k q)
      are = AreRates-exchanged p.matrix (basics_of s) at.nonsingular.counted t.rate tab.are_rates k q leaves enters pivot

      by_number : (j : ℕ) → IsNonbasic p.matrix (basics_of next) j → (((eqb j k ≡ true) × (j ≡ k)) ⊎ ((eqb j k ≡ false) × (j ≢ k))) →
          IsStill (exchanged_rate t.rate k q) j
      by_number j out (inl own) =
          at_zero (ap (λ b.
          (if b then (one_ℚ /ℚ t.rate k q) *ℚ t.rate p.objective q else t.rate p.objective j -ℚ (t.rate k j /ℚ t.rate k q) *ℚ t.rate p.objective q)
          +ℚ theta *ℚ (if b then (one_ℚ /ℚ t.rate k q) *ℚ t.rate h q else t.rate h j -ℚ (t.rate k j /ℚ t.rate k q) *ℚ t.rate h q)) own.0
          ∙ scaled_away (one_ℚ /ℚ t.rate k q) (t.rate p.objective q) theta (t.rate h q) zero_rate)
      by_number j out (inr other) =
          let was =
          was_nonbasic p.matrix (basics_of s) at.nonsingular.counted k q leaves enters j (subst (λ b. IsNonbasic p.matrix b j) same_basics out) other.1 in
          as_it_was
          (ap (λ b. (if b then (one_ℚ /ℚ t.rate k q) *ℚ t.rate p.objective q else t.rate p.objective j -ℚ (t.rate k j /ℚ t.rate k q) *ℚ t.rate p.objective q)
          +ℚ theta *ℚ (if b then (one_ℚ /ℚ t.rate k q) *ℚ t.rate h q else t.rate h j -ℚ (t.rate k j /ℚ t.rate k q) *ℚ t.rate h q)) other.0
          ∙ taken_away (t.rate p.objective j) (t.rate h j) (t.rate k j /ℚ t.rate k q) (t.rate p.objective q) theta (t.rate h q) zero_rate)
          (changed_other p s at.is_basis k j (reached v k) (with_status s q Bs) k_is out.0 other.1
          ∙ changed_other p s at.is_basis q j Bs s enters.0 out.0 was.1)

  by_number : (((eqb k q ≡ true) × (k ≡ q)) ⊎ ((eqb k q ≡ false) × (k ≢ q))) → IsOptimalBasis present next
  by_number (inl same) = flipped same.1
  by_number (inr other) = exchanges other.1

  kept_optimal : IsOptimalBasis (objective_family p h theta) (after s (stopped_by q (speeds t.rate up q) k))
  kept_optimal = by_number (eqb_tells k q)

-- ---- the step that is taken

module _ (p : LinearProgram) (h : ℕ) (theta : ℚ) (s : List Status) (t : Tableau) where
  abbrev motion : ℕ → Vector
  motion q = speeds t.rate (goes_up (change_rate p h theta s t) q) q

  -- q moves until k stops it
  record IsStopped (m : Move) : Type 0 where
    q : ℕ
    k : ℕ
    found : face_entering_variable p h theta s t ≡ Some q
    stops : blocking_variable p t.point (motion q) ≡ Some k
    gives : stopped_by q (motion q) k ≡ m

  stopped : (m : Move) (q : ℕ) → face_entering_variable p h theta s t ≡ Some q → (o : Option ℕ) → blocking_variable p t.point (motion q) ≡ o →
      face_until p h theta s t q (motion q) o ≡ FaceMoves m → IsStopped m
  stopped m q found (Some k) stops e = record { q = q; k = k; found = found; stops = stops; gives = let same : stopped_by q (motion q) k ≡ m = cc in same }
  stopped m q found None stops e = cc

  moving : (m : Move) (o : Option ℕ) → face_entering_variable p h theta s t ≡ o → face_by p h theta s t o ≡ FaceMoves m → IsStopped m
  moving m (Some q) found e = stopped m q found (blocking_variable p t.point (motion q)) refl e
  moving m None found e = cc

  is_stopped : (m : Move) → objective_face p h theta s t ≡ FaceMoves m → IsStopped m
  unfolding objective_face
  is_stopped m e = moving m (face_entering_variable p h theta s t) refl e

pub objective_stays : (p : LinearProgram) (h : ℕ) → IsLinearProgram p → IsRow p.matrix h → (theta : ℚ) (s : List Status) (m : Move) → IsNonsingularBasis p s →
    IsOptimalBasis (objective_family p h theta) s → IsObjectiveFace p h theta s (FaceMoves m) → IsOptimalBasis (objective_family p h theta) (after s m)
objective_stays p h lawful row theta s m at optimal face =
    let move = is_stopped (objective_family p h theta) h theta s face.0 m face.2 in
    let entering = face_entering_variable_is (objective_family p h theta) h theta s face.0 move.q (to_objective p h theta s at) move.found in
    subst (λ m. IsOptimalBasis (objective_family p h theta) (after s m)) move.gives
    (kept_optimal p h lawful row theta s at face.0 face.1 optimal move.q entering.entering_variable.nonbasic entering.zero_rate
    (goes_up (change_rate (objective_family p h theta) h theta s face.0) move.q) move.k move.stops)
