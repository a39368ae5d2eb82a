-- A step leads from a basis to a basis.
use Rattle.std.proofs.Common.{◌≡◌, ◌≢◌, ℕ, ◌-◌, ◌⊎◌, inl, inr, Bool, true, false, List, refl, sym, ap, subst, ◌∙◌, pos}
use Rattle.std.specs.Prelude.{Option, Some, None, not, option_map, if◌then◌else◌, eqb}
use Rattle.std.proofs.lemmas.Bool.Decides.{eqb_tells}
use Rattle.std.proofs.lemmas.List.{set-set}
use Rattle.exact_values.specs.Rational.{ℚ, zero_ℚ, ◌-ℚ◌, ◌/ℚ◌, ◌<ℚ◌}
use Rattle.exact_values.specs.Tests.{lt_ℚ}
use Rattle.exact_values.proofs.Ring.{by_ring1, ◌≐◌, number, opposite}
use Rattle.exact_values.proofs.Order.{lt_irrefl}
use Rattle.exact_values.proofs.TestsLaws.{lt_from_test}
use Rattle.lp_definitions.specs.LinearProgram.{LinearProgram, Vector, IsVariable, lower_of, upper_of}
use Rattle.lp_definitions.specs.Basis.{AreRates, is_in, basics_of, status_of, with_status, is_basic, IsBasis, IsBasic, IsNonbasic, IsAllowed, IsNonsingular}
use Rattle.lp_definitions.specs.Basis.{opening_statuses, Tableau, IsTableau}
use Rattle.lp_definitions.specs.declared.Status.{Status}
use Rattle.lp_definitions.specs.declared.Status.TheVariants.{Bs, Ll, Ul, Fr}
use Rattle.lp_laws.specs.Rates.{exchanged_rate}
use Rattle.lp_laws.proofs.Values.{clash}
use Rattle.lp_laws.proofs.Exchange.{IsNonsingular-exchanged, AreRates-exchanged}
use Rattle.lp_laws.proofs.Statuses.{basics_of-replaced, basics_of-flipped, status_of_basic, status_of_nonbasic, IsBasis-replaced, IsBasis-flipped}
use Rattle.lp_laws.proofs.Statuses.{IsBasis-opening, basics_of-opening}
use Rattle.lp_laws.proofs.Opening.{IsNonsingular-row_basics}
use Rattle.simplex_definitions.specs.Moves.{is_below, signed, goes_up, limit_ahead, step_length, reached, blocking_variable}
use Rattle.simplex_definitions.specs.Path.{Move, Moves, after, speeds, IsStep, excess_rate, worth_rate}
use Rattle.simplex_laws.specs.Laws.{IsNonsingularBasis}
use Rattle.simplex_laws.proofs.BlockingVariables.{blocking_variable_some, reaches_limit}
use Rattle.simplex_laws.proofs.Turns.{IsFirstPhase, IsBroughtTurn, IsStoppedTurn, MovingRule, brings, stops, moving_turn, improving, rule_of}
use Rattle.simplex_laws.proofs.UnboundedEnds.{IsEntering, enters}
use Rattle.simplex_laws.proofs.Rays.{Breaks, breaks_lower, breaks_upper, broken_basic, broken_limit}

-- the variable may stand at that limit, which it has
pub record MayStand (p : LinearProgram) (k : ℕ) (to : Status) : Type 0 where
  pub nonbasic : to ≢ Bs
  pub limited : to ≢ Fr
  pub allowed : IsAllowed to (lower_of p k) (upper_of p k)

pub lower_apart : (Ll ≢ Bs) × (Ll ≢ Fr)
lower_apart = ((λ e. cc), (λ e. cc))

pub upper_apart : (Ul ≢ Bs) × (Ul ≢ Fr)
upper_apart = ((λ e. cc), (λ e. cc))

-- a basis with its rates
pub record LeadsTo (p : LinearProgram) (next : List Status) : Type 0 where
  pub at : IsNonsingularBasis p next
  pub rate : ℕ → ℕ → ℚ
  pub are_rates : AreRates p.matrix (basics_of next) rate

module _ (p : LinearProgram) (s : List Status) (t : Tableau) (basis : IsBasis p s) (one : IsNonsingular p.matrix (basics_of s)) (tab : IsTableau p s t) where
  not_basic : (q : ℕ) → IsNonbasic p.matrix (basics_of s) q → status_of s q ≢ Bs
  not_basic q out e = clash (sym (ap is_basic e) ∙ status_of_nonbasic p s basis q out)

  -- q becomes basic, and the basic r comes to a limit
  pub exchange_leads : (r q : ℕ) (to : Status) → IsBasic p.matrix (basics_of s) r → IsNonbasic p.matrix (basics_of s) q → MayStand p r to →
      t.rate r q ≢ zero_ℚ → LeadsTo p (with_status (with_status s q Bs) r to)
  exchange_leads r q to leaves enters stands pivot = record {
    at = record {
      is_basis =
          IsBasis-replaced p s basis r q to leaves.0 enters.0 (status_of_basic p s basis r leaves)
          (not_basic q enters) stands.nonbasic stands.limited stands.allowed;
      nonsingular =
          subst (IsNonsingular p.matrix) (sym (basics_of-replaced s r q to stands.nonbasic))
          (IsNonsingular-exchanged p.matrix (basics_of s) r q (λ i. t.rate i q) one leaves enters (tab.are_rates q enters) pivot);
    };
    rate = exchanged_rate t.rate r q;
    are_rates = subst (λ b. AreRates p.matrix b (exchanged_rate t.rate r q)) (sym (basics_of-replaced s r q to stands.nonbasic))
        (AreRates-exchanged p.matrix (basics_of s) one.counted t.rate tab.are_rates r q leaves enters pivot);
  }

  -- the nonbasic q comes to its other limit
  flip_leads : (q : ℕ) (to : Status) → IsNonbasic p.matrix (basics_of s) q → MayStand p q to → LeadsTo p (with_status (with_status s q Bs) q to)
  flip_leads q to enters stands = subst (LeadsTo p) (sym (set-set s (q - 1) Bs to)) (record {
    at = record {
      is_basis = IsBasis-flipped p s basis q to enters.0 (not_basic q enters) stands.nonbasic stands.limited stands.allowed;
      nonsingular = subst (IsNonsingular p.matrix) (sym (basics_of-flipped s q to (not_basic q enters) stands.nonbasic)) one;
    };
    rate = t.rate;
    are_rates = subst (λ b. AreRates p.matrix b t.rate) (sym (basics_of-flipped s q to (not_basic q enters) stands.nonbasic)) tab.are_rates;
  })

-- ---- the two kinds of steps

pub signed_zero : (up : Bool) → signed up zero_ℚ ≡ zero_ℚ
signed_zero true = refl
signed_zero false = by_ring1 zero_ℚ (λ z. opposite (number (pos 0)) ≐ number (pos 0)) refl

-- a quantity that a variable lowers has a rate other than 0 there
module _ (p : LinearProgram) (s : List Status) (f : Vector) (q : ℕ) (e : IsEntering p s f q) where
  pub rate_apart : f q ≢ zero_ℚ
  rate_apart zero = by_turn e.turns
    where
      by_turn : ((goes_up f q ≡ true) ⊎ (zero_ℚ <ℚ f q)) → ⊥
      by_turn (inl up) = lt_irrefl (subst (λ v. v <ℚ zero_ℚ) zero (lt_from_test (f q) zero_ℚ up))
      by_turn (inr above) = lt_irrefl (subst (λ v. zero_ℚ <ℚ v) zero above)

-- the limit ahead of a variable that moves
record IsAhead (low high : Option ℚ) (v : ℚ) (to : Status) : Type 0 where
  apart : (to ≢ Bs) × (to ≢ Fr)
  allowed : IsAllowed to low high
  moves : v ≢ zero_ℚ

is_ahead : (low high : Option ℚ) (v l : ℚ) (up down : Bool) → lt_ℚ zero_ℚ v ≡ up → lt_ℚ v zero_ℚ ≡ down →
    (if up then high else (if down then low else None)) ≡ Some l → IsAhead low high v (if up then Ul else Ll)
is_ahead low high v l true down up_is down_is e = record {
  apart = upper_apart;
  allowed = rw e refl;
  moves = λ zero. lt_irrefl (subst (λ x. zero_ℚ <ℚ x) zero (lt_from_test zero_ℚ v up_is));
}
is_ahead low high v l false true up_is down_is e = record {
  apart = lower_apart;
  allowed = rw e refl;
  moves = λ zero. lt_irrefl (subst (λ x. x <ℚ zero_ℚ) zero (lt_from_test v zero_ℚ down_is));
}
is_ahead low high v l false false up_is down_is e = cc

pub ahead_some : (o : Option ℚ) (z v x : ℚ) → option_map (λ l. (l -ℚ z) /ℚ v) o ≡ Some x → (l : ℚ) × (o ≡ Some l)
ahead_some None z v x e = cc
ahead_some (Some l) z v x e = (l, refl)

-- what stops a motion stands ahead of it at a limit that it has
blocking_variable_ahead : (p : LinearProgram) (z v : Vector) (k : ℕ) → blocking_variable p z v ≡ Some k → IsAhead (lower_of p k) (upper_of p k) (v k)
    (reached v k)
blocking_variable_ahead p z v k e =
    let first = blocking_variable_some p z v k e in
    let reach = reaches_limit (step_length p z v k) (step_length p z v k) (first.1 k first.0) in
    let limit = ahead_some (limit_ahead p v k) (z k) (v k) reach.0 reach.1 in
    is_ahead (lower_of p k) (upper_of p k) (v k) limit.0 (lt_ℚ zero_ℚ (v k)) (lt_ℚ (v k) zero_ℚ) refl refl limit.1

stands_ahead : (p : LinearProgram) (k : ℕ) (v : ℚ) (to : Status) → IsAhead (lower_of p k) (upper_of p k) v to → MayStand p k to
stands_ahead p k v to h = record { nonbasic = h.apart.0; limited = h.apart.1; allowed = h.allowed }

-- a nonbasic q rises or falls until k stops it
module _ (p : LinearProgram) (s : List Status) (t : Tableau) (basis : IsBasis p s) (one : IsNonsingular p.matrix (basics_of s)) (tab : IsTableau p s t)
    (q k : ℕ) (up : Bool)
    (enters : IsNonbasic p.matrix (basics_of s) q) (stops : blocking_variable p t.point (speeds t.rate up q) ≡ Some k) where
  ahead : IsAhead (lower_of p k) (upper_of p k) (speeds t.rate up q k) (reached (speeds t.rate up q) k)
  ahead = blocking_variable_ahead p t.point (speeds t.rate up q) k stops

  k_is : IsVariable p.matrix k
  k_is = (blocking_variable_some p t.point (speeds t.rate up q) k stops).0

  pivot : t.rate k q ≢ zero_ℚ
  pivot zero = ahead.moves (ap (signed up) zero ∙ signed_zero up)

  -- another nonbasic doesn't move
  marked : k ≢ q → (mark : Bool) → is_in (basics_of s) k ≡ mark → is_in (basics_of s) k ≡ true
  marked other true is = is
  marked other false is = absurd (pivot ((tab.are_rates q enters).others k (k_is, is) other))

  by_number : (((eqb k q ≡ true) × (k ≡ q)) ⊎ ((eqb k q ≡ false) × (k ≢ q))) → LeadsTo p (with_status (with_status s q Bs) k (reached (speeds t.rate up q) k))
  by_number (inl same) =
      subst (λ j. LeadsTo p (with_status (with_status s q Bs) j (reached (speeds t.rate up q) k))) (sym same.1)
      (flip_leads p s t basis one tab q (reached (speeds t.rate up q) k) enters
      (subst (λ j. MayStand p j (reached (speeds t.rate up q) k)) same.1 (stands_ahead p k (speeds t.rate up q k) (reached (speeds t.rate up q) k) ahead)))
  by_number (inr other) =
      exchange_leads p s t basis one tab k q (reached (speeds t.rate up q) k) (k_is, marked other.1 (is_in (basics_of s) k) refl) enters
      (stands_ahead p k (speeds t.rate up q k) (reached (speeds t.rate up q) k) ahead) pivot

  pub motion_leads : LeadsTo p (with_status (with_status s q Bs) k (reached (speeds t.rate up q) k))
  motion_leads = by_number (eqb_tells k q)

module _ (p : LinearProgram) (s : List Status) (t : Tableau) (basis : IsBasis p s) (one : IsNonsingular p.matrix (basics_of s)) (tab : IsTableau p s t) where
  -- what lowers the excess of a basic outside its limits may take its place
  pub returned_leads : (r q : ℕ) → IsFirstPhase p s t r → IsEntering p s (excess_rate t.rate r (is_below p t.point r)) q →
      LeadsTo p (after s (record { enters = q; leaves = r; to = if is_below p t.point r then Ll else Ul }))
  returned_leads r q phase entered =
      exchange_leads p s t basis one tab r q (if is_below p t.point r then Ll else Ul) (broken_basic p s t r phase) entered.nonbasic stands pivot
    where
      pivot : t.rate r q ≢ zero_ℚ
      pivot zero =
          rate_apart p s (excess_rate t.rate r (is_below p t.point r)) q entered
          (ap (signed (not (is_below p t.point r))) zero ∙ signed_zero (not (is_below p t.point r)))

      stands : MayStand p r (if is_below p t.point r then Ll else Ul)
      stands = by_limit (broken_limit p s t r phase)
        where
          by_limit : Breaks (lower_of p r) (upper_of p r) (t.point r) (is_below p t.point r) → MayStand p r (if is_below p t.point r then Ll else Ul)
          by_limit (breaks_lower l is limit broken) = rw is (record { nonbasic = lower_apart.0; limited = lower_apart.1; allowed = rw limit refl })
          by_limit (breaks_upper u is limit broken) = rw is (record { nonbasic = upper_apart.0; limited = upper_apart.1; allowed = rw limit refl })

  -- first phase
  brought_leads : (m : Move) (r q : ℕ) → IsBroughtTurn p s t (Moves m) r q → LeadsTo p (after s m)
  brought_leads m r q h =
      let e = h.gives in
      let is : m ≡ record { enters = q; leaves = r; to = if is_below p t.point r then Ll else Ul } = cc in
      subst (λ m. LeadsTo p (after s m)) (sym is) (returned_leads r q h.phase (enters p s (excess_rate t.rate r (is_below p t.point r)) q basis h.moves))

  -- second phase
  stopped_leads : (m : Move) (q k : ℕ) → IsStoppedTurn p s t (Moves m) q k → LeadsTo p (after s m)
  stopped_leads m q k h =
      let e = h.gives in
      let is : m ≡ record { enters = q; leaves = k; to = reached (improving p s t q) k } = cc in
      subst (λ m. LeadsTo p (after s m)) (sym is)
      (motion_leads p s t basis one tab q k (goes_up (worth_rate p s t) q) (enters p s (worth_rate p s t) q basis h.moves).nonbasic h.stops)

  leads : (m : Move) → MovingRule p s t m → LeadsTo p (after s m)
  leads m (brings r q h) = brought_leads m r q h
  leads m (stops q k h) = stopped_leads m q k h

-- a step of the path leads from a basis to a basis, which has rates too
pub step_leads_to : (p : LinearProgram) (s next : List Status) → IsNonsingularBasis p s → IsStep p s next → LeadsTo p next
step_leads_to p s next at step =
    subst (LeadsTo p) (sym step.is_next)
    (leads p s step.tableau at.is_basis at.nonsingular step.is_tableau step.move
    (moving_turn p s step.tableau step.move (rule_of p s step.tableau (Moves step.move) step.turns)))

pub step_leads : (p : LinearProgram) (s next : List Status) → IsNonsingularBasis p s → IsStep p s next → IsNonsingularBasis p next
step_leads p s next at step = (step_leads_to p s next at step).at

-- the opening basis, in which the rows are basic
pub opening_is : (p : LinearProgram) → IsNonsingularBasis p (opening_statuses p)
opening_is p =
    record { is_basis = IsBasis-opening p; nonsingular = subst (IsNonsingular p.matrix) (sym (basics_of-opening p)) (IsNonsingular-row_basics p.matrix) }
