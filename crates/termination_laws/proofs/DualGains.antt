-- What a step of the dual path gains: the objective never gets better, and it stays as it is only where the price of what enters is 0.
--     gain_is                      what the objective loses by a step, from the loss for each unit and the way that r goes
use Rattle.std.proofs.Common.{◌≡◌, ◌≢◌, ℕ, zero, suc, ◌<◌, Bool, true, false, List, pos, refl, sym, ap, subst, ◌∙◌, arith, cond}
use Rattle.std.specs.Prelude.{not, if◌then◌else◌}
use Rattle.exact_values.specs.Rational.{ℚ, zero_ℚ, neg_ℚ, ◌-ℚ◌, ◌*ℚ◌, ◌≤ℚ◌, ◌<ℚ◌}
use Rattle.exact_values.proofs.Ring.{by_ring2, by_ring3, ◌⊕◌, ◌⊖◌, ◌⊗◌, ◌≐◌, number, opposite}
use Rattle.exact_values.proofs.RingLaws.{zero-mul}
use Rattle.exact_values.proofs.Order.{le_by_one, lt_by_one}
use Rattle.exact_values.proofs.Sums.{sum_to-only}
use Rattle.lp_definitions.specs.LinearProgram.{Matrix, LinearProgram, Vector, size, IsVariable, KeepsEquations, lower_of, upper_of, for_min}
use Rattle.lp_definitions.specs.Basis.{Basics, is_in, basics_of, status_of, with_status, IsBasic, IsNonbasic, IsPointOf, StandsAt, Tableau, IsTableau}
use Rattle.lp_definitions.specs.declared.Sense.{Sense}
use Rattle.lp_definitions.specs.declared.Sense.TheVariants.{Min, Max}
use Rattle.lp_definitions.specs.declared.Status.{Status}
use Rattle.lp_definitions.specs.declared.Status.TheVariants.{Bs, Ll, Ul}
use Rattle.lp_laws.specs.Rates.{weight, combination}
use Rattle.lp_laws.proofs.Combination.{by_nonbasics}
use Rattle.lp_laws.proofs.Equations.{KeepsEquations-sub}
use Rattle.lp_laws.proofs.Statuses.{changed_own, changed_other, status_of_nonbasic}
use Rattle.lp_laws.proofs.Uniqueness.{one_place}
use Rattle.lp_laws.proofs.Values.{clash, sub-self}
use Rattle.std.proofs.lemmas.List.{length-set}
use Rattle.simplex_definitions.specs.Moves.{signed}
use Rattle.simplex_definitions.specs.Path.{after}
use Rattle.simplex_laws.specs.Laws.{IsNonsingularBasis}
use Rattle.simplex_laws.proofs.Rays.{Breaks, breaks_lower, breaks_upper}
use Rattle.simplex_laws.proofs.DualStep.{for_min_times}

-- a combination of the directions of which only that of q counts
only_direction : (a : Matrix) (b : Basics) (rate : ℕ → ℕ → ℚ) (x : Vector) (i q : ℕ) → IsNonbasic a b q → ((k : ℕ) → IsNonbasic a b k → k ≢ q → x k ≡ zero_ℚ) →
    combination a b rate x i ≡ x q *ℚ rate i q
only_direction a b rate x i zero out still = absurd (omega (arith, out.0.0))
only_direction a b rate x i (suc q) out still =
    sum_to-only (size a) q (λ j. weight b x (suc j) *ℚ rate i (suc j)) (omega (arith, out.0.1)) (λ j below other. term j below other (is_in b (suc j)) refl)
    ∙ ap (λ mark. cond mark zero_ℚ (x (suc q)) *ℚ rate i (suc q)) out.1
  where
    term : (j : ℕ) → j < size a → j ≢ q → (mark : Bool) → is_in b (suc j) ≡ mark → cond mark zero_ℚ (x (suc j)) *ℚ rate i (suc j) ≡ zero_ℚ
    term j below other true mark = zero-mul (rate i (suc j))
    term j below other false mark =
        ap (λ y. y *ℚ rate i (suc j)) (still (suc j) ((omega arith, omega (arith, below)), mark) (λ e. other (omega (arith, e)))) ∙ zero-mul (rate i (suc j))

-- ---- numbers

module _ (sense : Sense) (x aq rq loss : ℚ) where
  pub loss_is : (below : Bool) → loss *ℚ signed (not below) rq ≡ neg_ℚ (for_min sense aq) → for_min sense (x *ℚ aq) ≡ loss *ℚ signed below (x *ℚ rq)
  loss_is true own =
      for_min_times sense x aq ∙ ap (λ w. x *ℚ w) (by_ring2 (for_min sense aq) x (λ w x. w ≐ opposite (opposite w)) refl ∙ sym (ap neg_ℚ own))
      ∙ by_ring3 x loss rq (λ x m r. x ⊗ opposite (m ⊗ opposite r) ≐ m ⊗ (x ⊗ r)) refl
  loss_is false own =
      for_min_times sense x aq ∙ ap (λ w. x *ℚ w) (by_ring2 (for_min sense aq) x (λ w x. w ≐ opposite (opposite w)) refl ∙ sym (ap neg_ℚ own))
      ∙ by_ring3 x loss rq (λ x m r. x ⊗ opposite (m ⊗ r) ≐ m ⊗ opposite (x ⊗ r)) refl

pub no_improvement : (sense : Sense) (a b : ℚ) → zero_ℚ ≤ℚ for_min sense (b -ℚ a) → for_min sense a ≤ℚ for_min sense b
no_improvement Min a b h = le_by_one h (by_ring2 a b (λ a b. b ≐ a ⊕ ((b ⊖ a) ⊖ number (pos 0))) refl)
no_improvement Max a b h = le_by_one h (by_ring2 a b (λ a b. opposite b ≐ opposite a ⊕ (opposite (b ⊖ a) ⊖ number (pos 0))) refl)

pub as_good : (sense : Sense) (a b : ℚ) → for_min sense b ≤ℚ for_min sense a → for_min sense (b -ℚ a) ≤ℚ zero_ℚ
as_good Min a b h = le_by_one h (by_ring2 a b (λ a b. number (pos 0) ≐ (b ⊖ a) ⊕ (a ⊖ b)) refl)
as_good Max a b h = le_by_one h (by_ring2 a b (λ a b. number (pos 0) ≐ opposite (b ⊖ a) ⊕ (opposite a ⊖ opposite b)) refl)

pub for_min_zero : (sense : Sense) (a : ℚ) → for_min sense a ≡ zero_ℚ → a ≡ zero_ℚ
for_min_zero Min a e = e
for_min_zero Max a e = by_ring2 a a (λ a b. a ≐ number (pos 0) ⊖ opposite a) refl ∙ ap (λ y. zero_ℚ -ℚ y) e ∙ sub-self zero_ℚ

-- ---- from a basis to that in which q has taken the place of r

module _ (p : LinearProgram) (s : List Status) (at : IsNonsingularBasis p s) (t : Tableau) (tab : IsTableau p s t) (r q : ℕ) (below : Bool)
    (leaves : IsBasic p.matrix (basics_of s) r)
    (enters : IsNonbasic p.matrix (basics_of s) q) (z : Vector)
    (point : IsPointOf p (after s (record { enters = q; leaves = r; to = if below then Ll else Ul })) z) where
  abbrev next : List Status
  next = after s (record { enters = q; leaves = r; to = if below then Ll else Ul })

  abbrev x : Vector
  x k = z k -ℚ t.point k

  keeps : KeepsEquations p.matrix x
  keeps = KeepsEquations-sub p.matrix z t.point point.keeps tab.is_point.keeps

  pub stays : (k : ℕ) → IsVariable p.matrix k → k ≢ r → k ≢ q → status_of next k ≡ status_of s k
  stays k is not_r not_q =
      changed_other p s at.is_basis r k (if below then Ll else Ul) (with_status s q Bs) leaves.0 is not_r
      ∙ changed_other p s at.is_basis q k Bs s enters.0 is not_q

  still : (k : ℕ) → IsNonbasic p.matrix (basics_of s) k → k ≢ q → x k ≡ zero_ℚ
  still k out other =
      ap (λ v. v -ℚ t.point k)
      (one_place (status_of s k) (lower_of p k) (upper_of p k) (z k) (t.point k) (status_of_nonbasic p s at.is_basis k out)
      (subst (λ st. StandsAt st (lower_of p k) (upper_of p k) (z k)) (stays k out.0 apart other) (point.placed k out.0)) (tab.is_point.placed k out.0))
      ∙ sub-self (t.point k)
    where
      apart : k ≢ r
      apart e = clash (sym leaves.1 ∙ sym (ap (is_in (basics_of s)) e) ∙ out.1)

  pub moved : (i : ℕ) → IsVariable p.matrix i → x i ≡ x q *ℚ t.rate i q
  moved i is =
      by_nonbasics p.matrix (basics_of s) t.rate tab.are_rates at.nonsingular x keeps i is ∙ only_direction p.matrix (basics_of s) t.rate x i q enters still

  placed : StandsAt (if below then Ll else Ul) (lower_of p r) (upper_of p r) (z r)
  placed =
      subst (λ st. StandsAt st (lower_of p r) (upper_of p r) (z r))
      (changed_own p s at.is_basis r (if below then Ll else Ul) (with_status s q Bs) (rw length-set at.is_basis.counted) leaves.0) (point.placed r leaves.0)

  -- r goes to the limit that it broke
  pub goes : Breaks (lower_of p r) (upper_of p r) (t.point r) below → zero_ℚ <ℚ signed below (x r)
  goes (breaks_lower l is limit broken) = by_way below is placed
    where
      by_way : (b : Bool) → b ≡ true → StandsAt (if b then Ll else Ul) (lower_of p r) (upper_of p r) (z r) → zero_ℚ <ℚ signed b (x r)
      by_way true e at_low =
          let same : l ≡ z r = (let both = sym limit ∙ at_low in cc) in
          lt_by_one (subst (λ y. t.point r <ℚ y) same broken) (by_ring2 (z r) (t.point r) (λ z y. z ⊖ y ≐ number (pos 0) ⊕ (z ⊖ y)) refl)
      by_way false e at_low = cc
  goes (breaks_upper u is limit broken) = by_way below is placed
    where
      by_way : (b : Bool) → b ≡ false → StandsAt (if b then Ll else Ul) (lower_of p r) (upper_of p r) (z r) → zero_ℚ <ℚ signed b (x r)
      by_way false e at_high =
          let same : u ≡ z r = (let both = sym limit ∙ at_high in cc) in
          lt_by_one (subst (λ y. y <ℚ t.point r) same broken) (by_ring2 (z r) (t.point r) (λ z y. opposite (z ⊖ y) ≐ number (pos 0) ⊕ (y ⊖ z)) refl)
      by_way true e at_high = cc

  -- what the objective loses
  pub gain_is : (loss : ℚ) → IsVariable p.matrix p.objective → loss *ℚ signed (not below) (t.rate r q) ≡ neg_ℚ (for_min p.sense (t.rate p.objective q)) →
      for_min p.sense (x p.objective) ≡ loss *ℚ signed below (x r)
  gain_is loss row own =
      ap (for_min p.sense) (moved p.objective row)
      ∙ loss_is p.sense (x q) (t.rate p.objective q) (t.rate r q) loss below own
      ∙ ap (λ y. loss *ℚ signed below y) (sym (moved r leaves.0))
