-- What crossed and unbounded ends show: limits that exclude each other, and a direction in which nothing stops.
use Rattle.std.proofs.Common.{◌≡◌, ℕ, suc, ◌+◌, ◌⊎◌, inl, inr, Bool, true, false, List, refl, sym, ap, subst, subst₂, ◌∙◌, arith}
use Rattle.std.specs.Prelude.{Option, Some, None, not, ◌&&◌, ◌||◌, option_map, if◌then◌else◌}
use Rattle.std.proofs.lemmas.Bool.{or_right}
use Rattle.exact_values.specs.Rational.{ℚ, zero_ℚ, neg_ℚ, ◌-ℚ◌, ◌*ℚ◌, ◌/ℚ◌, ◌<ℚ◌}
use Rattle.exact_values.specs.Tests.{lt_ℚ}
use Rattle.exact_values.proofs.Ring.{by_ring2, by_ring3, ◌⊕◌, ◌⊗◌, ◌≐◌, opposite}
use Rattle.exact_values.proofs.Sums.{sum_to-same, sum_to-neg}
use Rattle.exact_values.proofs.Order.{le_of_lt, lt_not_le}
use Rattle.exact_values.proofs.TestsLaws.{lt_from_test, le_from_lt_fails}
use Rattle.exact_values.proofs.Signs.{neg_below}
use Rattle.lp_definitions.specs.LinearProgram.{Matrix, LinearProgram, Vector, value_at, size, IsVariable, KeepsEquations, lower_of, upper_of, for_min, entry}
use Rattle.lp_definitions.specs.LinearProgram.{combined, with_change_row, objective_value, IsLinearProgram, ChangeIsFree}
use Rattle.lp_definitions.specs.Solutions.{IsFeasible, IsCrossed, ProvesUnbounded}
use Rattle.lp_definitions.specs.Basis.{basics_of, status_of, is_basic, IsBasis, IsNonbasic, Tableau, IsTableau}
use Rattle.lp_definitions.specs.declared.Change.{Change}
use Rattle.lp_definitions.specs.declared.Sense.{Sense}
use Rattle.lp_definitions.specs.declared.Sense.TheVariants.{Min, Max}
use Rattle.lp_definitions.specs.declared.Status.{Status}
use Rattle.lp_definitions.specs.declared.Status.TheVariants.{Bs, Ll, Ul, Fr}
use Rattle.lp_laws.proofs.Equations.{KeepsEquations-same}
use Rattle.lp_laws.proofs.Uniqueness.{is_in-basics_of}
use Rattle.simplex_definitions.specs.Moves.{on_limits, is_crossed, is_fixed, rises_from, falls_from, lowers, signed, goes_up, limit_ahead, entering}
use Rattle.simplex_definitions.specs.Moves.{blocking_variable}
use Rattle.simplex_definitions.specs.Path.{EndsCrossed, EndsUnbounded, Ends, EndsAt, listed, speeds, worth_rate}
use Rattle.simplex_laws.proofs.Numbered.{find_some}
use Rattle.simplex_laws.proofs.BlockingVariables.{blocking_variable_none}
use Rattle.simplex_laws.proofs.Turns.{improving, IsUnboundedTurn, rule_of, crossed_turn, unbounded_turn}
use Rattle.simplex_laws.proofs.Ends.{feasible, value_at-listed, IsFeasible-same}

-- ---- crossed limits

limits_of : (low high : Option ℚ) → on_limits (λ l u. lt_ℚ u l) low high ≡ true → (l : ℚ) × (u : ℚ) × (low ≡ Some l) × (high ≡ Some u) × (u <ℚ l)
limits_of None high e = cc
limits_of (Some l) None e = cc
limits_of (Some l) (Some u) e = (l, u, refl, refl, lt_from_test u l e)

pub crossed_end : (p : LinearProgram) (s : List Status) (k : ℕ) → EndsAt p s (EndsCrossed k) → IsCrossed p k
crossed_end p s k ends =
    let found = find_some (is_crossed p) (size p.matrix) 1 k (crossed_turn p s ends.tableau k (rule_of p s ends.tableau (Ends (EndsCrossed k)) ends.turns)) in
    let limits = limits_of (lower_of p k) (upper_of p k) found.passes in
    record { is_variable = (found.low, omega (arith, found.high)); low = limits.0; high = limits.1; lower = limits.2; upper = limits.3; crossed = limits.4 }

-- ---- which variables move

-- a variable that lowers a quantity is nonbasic, and it rises or its rate is positive
nonbasic_status : (st : Status) → (rises_from st || falls_from st) ≡ true → is_basic st ≡ false
nonbasic_status Bs e = cc
nonbasic_status Ll e = refl
nonbasic_status Ul e = refl
nonbasic_status Fr e = refl

lowering : (st : Status) (r : ℚ) (fixed below above rising falling : Bool) → lt_ℚ r zero_ℚ ≡ below → lt_ℚ zero_ℚ r ≡ above → rises_from st ≡ rising →
    falls_from st ≡ falling →
    ((below && (rising && not fixed)) || (above && (falling && not fixed))) ≡ true → (is_basic st ≡ false) × ((below ≡ true) ⊎ (zero_ℚ <ℚ r))
lowering st r fixed true above true falling below_is above_is up down e = (nonbasic_status st (rw up refl), inl refl)
lowering st r fixed true true false true below_is above_is up down e = (nonbasic_status st (rw (up, down) refl), inl refl)
lowering st r fixed true true false false below_is above_is up down e = cc
lowering st r fixed true false false falling below_is above_is up down e = cc
lowering st r fixed false true rising true below_is above_is up down e =
    (nonbasic_status st (rw (up, down) (or_right rising true refl)), inr (lt_from_test zero_ℚ r above_is))
lowering st r fixed false true rising false below_is above_is up down e = cc
lowering st r fixed false false rising falling below_is above_is up down e = cc

-- what lowers a quantity, as what is found to enter, is a nonbasic variable; it rises, or its rate is positive
pub record IsEntering (p : LinearProgram) (s : List Status) (f : Vector) (q : ℕ) : Type 0 where
  pub is_variable : IsVariable p.matrix q
  pub nonbasic : IsNonbasic p.matrix (basics_of s) q
  pub turns : (goes_up f q ≡ true) ⊎ (zero_ℚ <ℚ f q)

pub lowering_enters : (p : LinearProgram) (s : List Status) (f : Vector) (q : ℕ) → IsBasis p s → IsVariable p.matrix q → lowers p s f q ≡ true →
    IsEntering p s f q
lowering_enters p s f q basis is e =
    let moving =
    lowering (status_of s q) (f q) (is_fixed p q) (lt_ℚ (f q) zero_ℚ) (lt_ℚ zero_ℚ (f q)) (rises_from (status_of s q))
    (falls_from (status_of s q)) refl refl refl refl e in
    record {
      is_variable = is;
      nonbasic = (is, is_in-basics_of s q is.0 (omega (arith, is.1, basis.counted)) ∙ moving.0);
      turns = moving.1;
    }

pub enters : (p : LinearProgram) (s : List Status) (f : Vector) (q : ℕ) → IsBasis p s → entering p s f ≡ Some q → IsEntering p s f q
enters p s f q basis e =
    let found = find_some (lowers p s f) (size p.matrix) 1 q e in
    lowering_enters p s f q basis (found.low, omega (arith, found.high)) found.passes

-- ---- a direction without end

for_min-neg : (sense : Sense) (v : ℚ) → for_min sense (neg_ℚ v) ≡ neg_ℚ (for_min sense v)
for_min-neg Min v = refl
for_min-neg Max v = refl

with_change_row-neg : (change : Option Change) (f : Vector) (v : ℚ) → with_change_row change (λ k. neg_ℚ (f k)) (neg_ℚ v) ≡ neg_ℚ (with_change_row change f v)
with_change_row-neg None f v = refl
with_change_row-neg (Some c) f v = by_ring3 v c.theta (f c.row) (λ v x y. opposite v ⊕ x ⊗ opposite y ≐ opposite (v ⊕ x ⊗ y)) refl

pub keeps-signed : (a : Matrix) (up : Bool) (d : Vector) → KeepsEquations a d → KeepsEquations a (λ k. signed up (d k))
keeps-signed a true d keeps i row = keeps i row
keeps-signed a false d keeps i row =
    ap neg_ℚ (keeps i row) ∙ sym (sum_to-neg a.cols (λ j. entry a i (suc j) *ℚ d (a.rows + suc j)))
    ∙ sum_to-same a.cols (λ j. neg_ℚ (entry a i (suc j) *ℚ d (a.rows + suc j))) (λ j. entry a i (suc j) *ℚ neg_ℚ (d (a.rows + suc j)))
    (λ j below. by_ring2 (entry a i (suc j)) (d (a.rows + suc j)) (λ x y. opposite (x ⊗ y) ≐ x ⊗ opposite y) refl)

step_length_none : (o : Option ℚ) (z v : ℚ) → option_map (λ l. (l -ℚ z) /ℚ v) o ≡ None → o ≡ None
step_length_none None z v e = refl
step_length_none (Some l) z v e = cc

-- nothing ahead of a variable that falls, or of one that rises
ahead_of_falling : (p : LinearProgram) (v : Vector) (k : ℕ) → limit_ahead p v k ≡ None → v k <ℚ zero_ℚ → lower_of p k ≡ None
ahead_of_falling p v k e h = by_tests (lt_ℚ zero_ℚ (v k)) refl (lt_ℚ (v k) zero_ℚ) refl e
  where
    by_tests : (up : Bool) → lt_ℚ zero_ℚ (v k) ≡ up → (down : Bool) → lt_ℚ (v k) zero_ℚ ≡ down →
        (if up then upper_of p k else (if down then lower_of p k else None)) ≡ None → lower_of p k ≡ None
    by_tests true up down down_is g = absurd (lt_not_le (lt_from_test zero_ℚ (v k) up) (le_of_lt h))
    by_tests false up true down_is g = g
    by_tests false up false down_is g = absurd (lt_not_le h (le_from_lt_fails (v k) zero_ℚ down_is))

ahead_of_rising : (p : LinearProgram) (v : Vector) (k : ℕ) → limit_ahead p v k ≡ None → zero_ℚ <ℚ v k → upper_of p k ≡ None
ahead_of_rising p v k e h = by_test (lt_ℚ zero_ℚ (v k)) refl e
  where
    by_test : (up : Bool) → lt_ℚ zero_ℚ (v k) ≡ up → (if up then upper_of p k else (if lt_ℚ (v k) zero_ℚ then lower_of p k else None)) ≡ None →
        upper_of p k ≡ None
    by_test true up g = g
    by_test false up g = absurd (lt_not_le h (le_from_lt_fails zero_ℚ (v k) up))

-- a nonbasic that improves the objective, with its direction turned the way that it moves
module _ (p : LinearProgram) (s : List Status) (t : Tableau) (basis : IsBasis p s) (tab : IsTableau p s t) where
  pub improving_keeps : (q : ℕ) → IsEntering p s (worth_rate p s t) q → KeepsEquations p.matrix (improving p s t q)
  improving_keeps q e = keeps-signed p.matrix (goes_up (worth_rate p s t) q) (λ i. t.rate i q) (tab.are_rates q e.nonbasic).keeps

  pub improving_improves : (q : ℕ) → IsEntering p s (worth_rate p s t) q → for_min p.sense (objective_value p (improving p s t q)) <ℚ zero_ℚ
  improving_improves q e = by_way (goes_up (worth_rate p s t) q) refl
    where
      by_way : (up : Bool) → goes_up (worth_rate p s t) q ≡ up → for_min p.sense (combined p (speeds t.rate up q)) <ℚ zero_ℚ
      by_way true is = lt_from_test (worth_rate p s t q) zero_ℚ is
      by_way false is =
          subst (λ v. v <ℚ zero_ℚ)
          (sym (ap (for_min p.sense) (with_change_row-neg p.change (λ i. t.rate i q) (t.rate p.objective q))
          ∙ for_min-neg p.sense (combined p (λ i. t.rate i q)))) (neg_below (worth_rate p s t q) (positive e.turns))
        where
          positive : ((goes_up (worth_rate p s t) q ≡ true) ⊎ (zero_ℚ <ℚ worth_rate p s t q)) → zero_ℚ <ℚ worth_rate p s t q
          positive (inl h) = cc
          positive (inr h) = h

-- the objective of a vector, from its values at rows
objective-same : (o : ℕ) (change : Option Change) (d e : Vector) → d o ≡ e o → ((c : Change) → change ≡ Some c → d c.row ≡ e c.row) →
    with_change_row change d (d o) ≡ with_change_row change e (e o)
objective-same o None d e at_o at_h = at_o
objective-same o (Some c) d e at_o at_h = rw (at_o, at_h c refl) refl

change_row_is : (p : LinearProgram) (change : Option Change) → ChangeIsFree p change → (c : Change) → change ≡ Some c → IsVariable p.matrix c.row
change_row_is p None free c e = cc
change_row_is p (Some d) free c e = let same : d ≡ c = cc in subst (λ x. IsVariable p.matrix x.row) same (free.0.0, omega (arith, free.0.1))

pub objective_value-same : (p : LinearProgram) (d e : Vector) → IsLinearProgram p → ((k : ℕ) → IsVariable p.matrix k → d k ≡ e k) →
    objective_value p d ≡ objective_value p e
objective_value-same p d e lawful same =
    objective-same p.objective p.change d e (same p.objective (lawful.objective_row.0, omega (arith, lawful.objective_row.1)))
    (λ c is. same c.row (change_row_is p p.change lawful.change_free c is))

-- nothing stops a motion from a feasible point that improves the objective: that proves the program unbounded
pub motion_proves : (p : LinearProgram) (z v : Vector) → IsLinearProgram p → IsFeasible p z → KeepsEquations p.matrix v → blocking_variable p z v ≡ None →
    for_min p.sense (objective_value p v) <ℚ zero_ℚ →
    ProvesUnbounded p (value_at (listed p.matrix z)) (value_at (listed p.matrix v))
motion_proves p z v lawful feasible keeps stops improves = record {
  feasible = IsFeasible-same p z (value_at (listed p.matrix z)) (at z) feasible;
  keeps = KeepsEquations-same p.matrix v (value_at (listed p.matrix v)) (at v) keeps;
  falls = λ k is h. ahead_of_falling p v k (none_ahead k is) (subst (λ x. x <ℚ zero_ℚ) (sym (at v k is)) h);
  rises = λ k is h. ahead_of_rising p v k (none_ahead k is) (subst (λ x. zero_ℚ <ℚ x) (sym (at v k is)) h);
  improves = subst (λ x. for_min p.sense x <ℚ zero_ℚ) (objective_value-same p v (value_at (listed p.matrix v)) lawful (at v)) improves;
}
  where
    at : (d : Vector) (k : ℕ) → IsVariable p.matrix k → d k ≡ value_at (listed p.matrix d) k
    at d k is = sym (value_at-listed p.matrix d k is)

    none_ahead : (k : ℕ) → IsVariable p.matrix k → limit_ahead p v k ≡ None
    none_ahead k is = step_length_none (limit_ahead p v k) (z k) (v k) (blocking_variable_none p z v stops k is)

-- an unbounded end: the point is feasible, and the direction improves the objective without end
pub unbounded_end : (p : LinearProgram) (s : List Status) (z d : List ℚ) → IsLinearProgram p → IsBasis p s → EndsAt p s (EndsUnbounded z d) →
    ProvesUnbounded p (value_at z) (value_at d)
unbounded_end p s z d lawful basis ends =
    subst₂ (λ (xs ys : List ℚ). ProvesUnbounded p (value_at xs) (value_at ys)) (sym z_is) (sym d_is)
    (motion_proves p t.point (improving p s t turn.0) lawful (feasible p s t basis ends.is_tableau turn.1.phase)
    (improving_keeps p s t basis ends.is_tableau turn.0 entered) turn.1.stops (improving_improves p s t basis ends.is_tableau turn.0 entered))
  where
    t : Tableau
    t = ends.tableau

    turn : (q : ℕ) × IsUnboundedTurn p s t (Ends (EndsUnbounded z d)) q
    turn = unbounded_turn p s t z d (rule_of p s t (Ends (EndsUnbounded z d)) ends.turns)

    entered : IsEntering p s (worth_rate p s t) turn.0
    entered = enters p s (worth_rate p s t) turn.0 basis turn.1.moves

    z_is : z ≡ listed p.matrix t.point
    z_is = let e = turn.1.gives in cc

    d_is : d ≡ listed p.matrix (improving p s t turn.0)
    d_is = let e = turn.1.gives in cc
