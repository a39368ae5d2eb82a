-- A path never returns to a basis, and so it ends.
use Rattle.std.proofs.Common.{◌≡◌, ◌≢◌, ℕ, zero, suc, ◌+◌, ◌^◌, ◌<◌, ◌≤◌, ◌⊎◌, inl, inr, true, false, List, [], ◌∷◌, ◌++◌, length, take, refl, sym, ap, subst}
use Rattle.std.proofs.Common.{arith}
use Rattle.std.specs.Prelude.{None, eqb, leb}
use Rattle.std.proofs.lemmas.Bool.Decides.{eqb_tells, leb_tells}
use Rattle.lp_definitions.specs.LinearProgram.{LinearProgram, size, IsLinearProgram}
use Rattle.lp_definitions.specs.Basis.{opening_statuses}
use Rattle.lp_definitions.specs.declared.Status.{Status}
use Rattle.simplex_definitions.specs.Path.{Rule, turn, RuleStep, RulePath, RuleGoesOn, IsPath, last_of, GoesOnFor}
use Rattle.simplex_definitions.specs.DualPath.{dual_turn, HasRightPrices, IsDualPath, DualGoesOnFor}
use Rattle.simplex_laws.specs.Laws.{IsNonsingularBasis, HasTableau, EndsWithin, RuleEndsWithin}
use Rattle.simplex_laws.proofs.Steps.{step_leads, opening_is}
use Rattle.simplex_laws.proofs.Goes.{opening_has, ends_or_goes_on}
use Rattle.termination_laws.specs.Laws.{lists_of, basis_at, NeverReturns}
use Rattle.termination_laws.proofs.Walks.{IsWalk, visits, is_walk, are_visits}
use Rattle.termination_laws.proofs.Phases.{no_cycle}
use Rattle.simplex_laws.proofs.OneDualPath.{ends_or_goes_on as dual_ends_or_goes_on}
use Rattle.termination_laws.proofs.DualCycles.{IsRightBasis, right_leads, no_dual_return}
use Rattle.termination_laws.proofs.Counts.{pigeonhole, code, code_below, code_tells}

-- ---- paths by a rule of which none of one step and more ends where it began

module _ (rule : Rule) (p : LinearProgram) (Good : List Status → Type 0) (is_basis : (s : List Status) → Good s → IsNonsingularBasis p s)
    (leads : (s next : List Status) → Good s → RuleStep rule p s next → Good next)
    (no_return : (s : List Status) (bases : List (List Status)) → Good s → RulePath rule p s bases → 0 < length bases → s ≢ last_of s bases) where
  -- a prefix of a path is one
  path_prefix : (n : ℕ) (s : List Status) (bases : List (List Status)) → RulePath rule p s bases → RulePath rule p s (take n bases)
  path_prefix zero s bases path = tt
  path_prefix (suc n) s [] path = tt
  path_prefix (suc n) s (next ∷ bases) path = (path.0, path_prefix n next bases path.1)

  prefix_length : (n : ℕ) (bases : List (List Status)) → n ≤ length bases → length (take n bases) ≡ n
  prefix_length zero bases within = refl
  prefix_length (suc n) [] within = absurd (omega (arith, within))
  prefix_length (suc n) (next ∷ bases) within = ap suc (prefix_length n bases (omega (arith, within)))

  path_leads : (s : List Status) (bases : List (List Status)) → Good s → RulePath rule p s bases → Good (last_of s bases)
  path_leads s [] good path = good
  path_leads s (next ∷ bases) good path = path_leads next bases (leads s next good path.0) path.1

  pub rule_apart : (s : List Status) (bases : List (List Status)) → Good s → RulePath rule p s bases → NeverReturns s bases
  rule_apart s bases good path zero j before within =
      let counted = prefix_length j bases within in
      no_return s (take j bases) good (path_prefix j s bases path) (omega (arith, counted, before))
  rule_apart s [] good path (suc i) j before within = absurd (omega (arith, before, within))
  rule_apart s (next ∷ bases) good path (suc i) zero before within = absurd (omega (arith, before))
  rule_apart s (next ∷ bases) good path (suc i) (suc j) before within =
      rule_apart next bases (leads s next good path.0) path.1 i j (omega (arith, before)) (omega (arith, within))

  pub rule_short : (s : List Status) (bases : List (List Status)) → Good s → RulePath rule p s bases → length bases < lists_of p
  unfolding lists_of
  rule_short s bases good path =
      let fewer = pigeonhole (3 ^ size p.matrix) (suc (length bases)) (λ i. code (basis_at s bases i)) (λ i low. below i) one in
      omega (arith, fewer)
    where
      reached : (i : ℕ) → IsNonsingularBasis p (basis_at s bases i)
      reached i = is_basis (basis_at s bases i) (path_leads s (take i bases) good (path_prefix i s bases path))

      below : (i : ℕ) → code (basis_at s bases i) < 3 ^ size p.matrix
      below i = subst (λ n. code (basis_at s bases i) < 3 ^ n) (reached i).is_basis.counted (code_below (basis_at s bases i))

      one : (i j : ℕ) → i < suc (length bases) → j < suc (length bases) → code (basis_at s bases i) ≡ code (basis_at s bases j) → i ≡ j
      one i j low_i low_j e = by_order (eqb_tells i j) (leb_tells i j)
        where
          same : basis_at s bases i ≡ basis_at s bases j
          same = code_tells p (basis_at s bases i) (basis_at s bases j) (reached i).is_basis (reached j).is_basis e

          by_order : (((eqb i j ≡ true) × (i ≡ j)) ⊎ ((eqb i j ≡ false) × (i ≢ j))) → (((leb i j ≡ true) × (i ≤ j)) ⊎ ((leb i j ≡ false) × (j < i))) → i ≡ j
          by_order (inl h) order = h.1
          by_order (inr h) (inl low) = absurd (rule_apart s bases good path i j (omega (arith, low.1, h.1)) (omega (arith, low_j)) same)
          by_order (inr h) (inr high) = absurd (rule_apart s bases good path j i high.1 (omega (arith, low_i)) (sym same))

  -- a path with one step more
  path_more : (s : List Status) (bases : List (List Status)) (next : List Status) → RulePath rule p s bases → RuleStep rule p (last_of s bases) next →
      RulePath rule p s (bases ++ (next ∷ []))
  path_more s [] next path step = (step, tt)
  path_more s (first ∷ bases) next path step = (path.0, path_more first bases next path.1 step)

  more_length : (bases : List (List Status)) (next : List Status) → length (bases ++ (next ∷ [])) ≡ length bases + 1
  more_length [] next = refl
  more_length (first ∷ bases) next = let rest = more_length bases next in omega (arith, rest)

  pub rule_limited : (s : List Status) (steps : ℕ) → Good s → RuleGoesOn rule p s steps → steps + 1 < lists_of p
  rule_limited s steps good goes_on =
      let fewer = rule_short s (goes_on.bases ++ (goes_on.next ∷ [])) good (path_more s goes_on.bases goes_on.next goes_on.is_path goes_on.is_step) in
      subst (λ n. n + 1 < lists_of p) goes_on.taken (subst (λ n. n < lists_of p) (more_length goes_on.bases goes_on.next) fewer)

-- ---- the simplex path

module _ (p : LinearProgram) (lawful : IsLinearProgram p) where
  -- a path of one step and more doesn't end where it began
  no_return : (s : List Status) (bases : List (List Status)) → IsNonsingularBasis p s → IsPath p s bases → 0 < length bases → s ≢ last_of s bases
  no_return s [] at path some e = absurd (omega (arith, some))
  no_return s (next ∷ bases) at path some e =
      no_cycle p lawful s (record { basis = s; tableau = path.0.tableau; move = path.0.move }) (visits turn p next bases path.1)
      (subst (λ end. IsWalk s (visits turn p s (next ∷ bases) path) end) (sym e) (is_walk turn p s (next ∷ bases) path))
      (are_visits turn p (IsNonsingularBasis p) (step_leads p) s (next ∷ bases) at path)

  pub apart : (s : List Status) (bases : List (List Status)) → IsNonsingularBasis p s → IsPath p s bases → NeverReturns s bases
  apart = rule_apart turn p (IsNonsingularBasis p) (λ s at. at) (step_leads p) no_return

  pub short : (s : List Status) (bases : List (List Status)) → IsNonsingularBasis p s → IsPath p s bases → length bases < lists_of p
  short = rule_short turn p (IsNonsingularBasis p) (λ s at. at) (step_leads p) no_return

  pub limited : (s : List Status) (steps : ℕ) → IsNonsingularBasis p s → GoesOnFor p s steps → steps + 1 < lists_of p
  limited = rule_limited turn p (IsNonsingularBasis p) (λ s at. at) (step_leads p) no_return

  pub ends : (s : List Status) → IsNonsingularBasis p s → HasTableau p s → EndsWithin p s (lists_of p)
  ends s at has = by_end (ends_or_goes_on p (lists_of p) s at has)
    where
      too_far : (n : ℕ) → n + 1 < n → ⊥
      too_far n h = omega (arith, h)

      by_end : (EndsWithin p s (lists_of p) ⊎ GoesOnFor p s (lists_of p)) → EndsWithin p s (lists_of p)
      by_end (inl ended) = ended
      by_end (inr goes_on) = absurd (too_far (lists_of p) (limited s (lists_of p) at goes_on))

  pub opening_ends : EndsWithin p (opening_statuses p) (lists_of p)
  opening_ends = ends (opening_statuses p) (opening_is p) (opening_has p)

-- ---- the dual path

module _ (p : LinearProgram) (lawful : IsLinearProgram p) (no_change : p.change ≡ None) where
  pub dual_apart : (s : List Status) (bases : List (List Status)) → IsNonsingularBasis p s → HasRightPrices p s → IsDualPath p s bases → NeverReturns s bases
  dual_apart s bases at right path =
      rule_apart dual_turn p (IsRightBasis p lawful no_change) (λ s good. good.0) (right_leads p lawful no_change) (no_dual_return p lawful no_change) s bases
      (at, right) path

  pub dual_short : (s : List Status) (bases : List (List Status)) → IsNonsingularBasis p s → HasRightPrices p s → IsDualPath p s bases →
      length bases < lists_of p
  dual_short s bases at right path =
      rule_short dual_turn p (IsRightBasis p lawful no_change) (λ s good. good.0) (right_leads p lawful no_change) (no_dual_return p lawful no_change) s bases
      (at, right) path

  pub dual_limited : (s : List Status) (steps : ℕ) → IsNonsingularBasis p s → HasRightPrices p s → DualGoesOnFor p s steps → steps + 1 < lists_of p
  dual_limited s steps at right goes_on =
      rule_limited dual_turn p (IsRightBasis p lawful no_change) (λ s good. good.0) (right_leads p lawful no_change) (no_dual_return p lawful no_change) s steps
      (at, right) goes_on

  pub dual_ends : (s : List Status) → IsNonsingularBasis p s → HasRightPrices p s → RuleEndsWithin dual_turn p s (lists_of p)
  dual_ends s at right = by_end (dual_ends_or_goes_on p (lists_of p) s at (record { tableau = right.tableau; is_tableau = right.is_tableau }))
    where
      too_far : (n : ℕ) → n + 1 < n → ⊥
      too_far n h = omega (arith, h)

      by_end : (RuleEndsWithin dual_turn p s (lists_of p) ⊎ DualGoesOnFor p s (lists_of p)) → RuleEndsWithin dual_turn p s (lists_of p)
      by_end (inl ended) = ended
      by_end (inr goes_on) = absurd (too_far (lists_of p) (dual_limited s (lists_of p) at right goes_on))
