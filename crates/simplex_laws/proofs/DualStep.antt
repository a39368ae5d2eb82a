-- A step of the dual method keeps the objective's rates right: a basic r goes to a limit, and of the nonbasics that may bring it there
-- one with the least ratio takes its place.
use Rattle.std.proofs.Common.{◌≡◌, ◌≢◌, ℕ, ◌⊎◌, inl, inr, Bool, true, false, List, length, refl, sym, ap, ap₂, subst, ◌∙◌, pos}
use Rattle.std.specs.Prelude.{None, ◌&&◌, ◌||◌, not, eqb, if◌then◌else◌}
use Rattle.std.proofs.lemmas.Bool.Decides.{eqb_tells}
use Rattle.std.proofs.lemmas.List.{length-set}
use Rattle.exact_values.specs.Rational.{ℚ, zero_ℚ, one_ℚ, neg_ℚ, ◌+ℚ◌, ◌-ℚ◌, ◌*ℚ◌, ◌/ℚ◌, ◌≤ℚ◌, ◌<ℚ◌}
use Rattle.exact_values.specs.Tests.{lt_ℚ, magnitude}
use Rattle.exact_values.proofs.Inverse.{div-mul_cancel, zero_or_not}
use Rattle.exact_values.proofs.Order.{le_of_lt, le_by_one, le_by_two, lt_or_le, le_by_product}
use Rattle.exact_values.proofs.Ring.{by_ring1, by_ring2, by_ring3, ◌⊕◌, ◌⊖◌, ◌⊗◌, ◌≐◌, number, opposite}
use Rattle.exact_values.proofs.TestsLaws.{lt_from_test, test_from_lt}
use Rattle.simplex_laws.proofs.Booleans.{improves_not, rises_right, falls_right}
use Rattle.lp_definitions.specs.Basis.{is_in, basics_of, status_of, with_status, exchanged, IsBasic, IsNonbasic, AreRates, Tableau, IsTableau, objective_rate}
use Rattle.lp_definitions.specs.LinearProgram.{LinearProgram, size, IsVariable, with_change_row, for_min}
use Rattle.lp_definitions.specs.declared.Sense.{Sense}
use Rattle.lp_definitions.specs.declared.Sense.TheVariants.{Min, Max}
use Rattle.lp_definitions.specs.declared.Status.{Status}
use Rattle.lp_definitions.specs.declared.Status.TheVariants.{Bs, Ll, Ul}
use Rattle.lp_laws.proofs.Exchange.{AreRates-exchanged, was_nonbasic}
use Rattle.lp_laws.proofs.Statuses.{basics_of-replaced, changed_own, changed_other}
use Rattle.lp_laws.proofs.Values.{clash}
use Rattle.lp_laws.specs.Rates.{exchanged_rate}
use Rattle.simplex_definitions.specs.DualRatio.{restores_feasibility, ratio}
use Rattle.simplex_definitions.specs.Moves.{rises_from, falls_from, is_fixed, lowers, signed, may_rise, may_fall}
use Rattle.simplex_definitions.specs.Path.{after, worth_rate, excess_rate}
use Rattle.simplex_laws.specs.Laws.{IsNonsingularBasis}
use Rattle.simplex_laws.proofs.OneTurn.{lowers_idle}
use Rattle.simplex_laws.proofs.Steps.{signed_zero}
use Rattle.simplex_laws.proofs.EnteringVariables.{IsEnteringVariable, is_entering_variable}
use Rattle.simplex_laws.proofs.Magnitudes.{ratio_times, magnitude_least, magnitude_above, magnitude_below, magnitude-neg}

-- ---- numbers

for_min_less : (s : Sense) (a c b : ℚ) → for_min s (a -ℚ c *ℚ b) ≡ for_min s a -ℚ c *ℚ for_min s b
for_min_less Min a c b = refl
for_min_less Max a c b = by_ring3 a c b (λ a c b. opposite (a ⊖ c ⊗ b) ≐ opposite a ⊖ c ⊗ opposite b) refl

pub for_min_times : (s : Sense) (c b : ℚ) → for_min s (c *ℚ b) ≡ c *ℚ for_min s b
for_min_times Min c b = refl
for_min_times Max c b = by_ring2 c b (λ c b. opposite (c ⊗ b) ≐ c ⊗ opposite b) refl

magnitude-for_min : (s : Sense) (a : ℚ) → magnitude (for_min s a) ≡ magnitude a
magnitude-for_min Min a = refl
magnitude-for_min Max a = magnitude-neg a

magnitude-signed : (up : Bool) (a : ℚ) → magnitude (signed up a) ≡ magnitude a
magnitude-signed true a = refl
magnitude-signed false a = magnitude-neg a

-- a quantity w that is right, and one x, with the ratio of their magnitudes
module _ (w x ratio : ℚ) (rises falls : Bool) (whole : ratio *ℚ magnitude x ≡ magnitude w)
    (right : ((lt_ℚ w zero_ℚ && rises) || (lt_ℚ zero_ℚ w && falls)) ≡ false) where
  -- where x is negative and may rise, or positive and may fall, w has the other sign
  falling : x <ℚ zero_ℚ → rises ≡ true → ratio *ℚ neg_ℚ x ≡ w
  falling less may = ap (λ y. ratio *ℚ y) (sym (magnitude_below x (le_of_lt less))) ∙ whole ∙ magnitude_above w (rises_right w rises falls right may)

  rising : zero_ℚ <ℚ x → falls ≡ true → ratio *ℚ x ≡ neg_ℚ w
  rising more may = ap (λ y. ratio *ℚ y) (sym (magnitude_above x (le_of_lt more))) ∙ whole ∙ magnitude_below w (falls_right w rises falls right may)

  -- what brings back is such a one
  cases : (a b : Bool) → ((a && rises) || (b && falls)) ≡ true → ((a ≡ true) × (rises ≡ true)) ⊎ ((b ≡ true) × (falls ≡ true))
  cases true b e = at rises falls b e
    where
      at : (r f b : Bool) → (r || (b && f)) ≡ true → ((true ≡ true) × (r ≡ true)) ⊎ ((b ≡ true) × (f ≡ true))
      at true f b e = inl (refl, refl)
      at false true true e = inr (refl, refl)
      at false false true e = cc
      at false f false e = cc
  cases false b e = at falls b e
    where
      at : (f b : Bool) → (b && f) ≡ true → ((false ≡ true) × (rises ≡ true)) ⊎ ((b ≡ true) × (f ≡ true))
      at true true e = inr (refl, refl)
      at false true e = cc
      at f false e = cc

  pub own_ratio : ((lt_ℚ x zero_ℚ && rises) || (lt_ℚ zero_ℚ x && falls)) ≡ true → ratio *ℚ x ≡ neg_ℚ w
  own_ratio e = at (cases (lt_ℚ x zero_ℚ) (lt_ℚ zero_ℚ x) e)
    where
      at : ((lt_ℚ x zero_ℚ ≡ true) × (rises ≡ true)) ⊎ ((lt_ℚ zero_ℚ x ≡ true) × (falls ≡ true)) → ratio *ℚ x ≡ neg_ℚ w
      at (inl h) = by_ring2 ratio x (λ m x. m ⊗ x ≐ opposite (m ⊗ opposite x)) refl ∙ ap neg_ℚ (falling (lt_from_test x zero_ℚ h.0) h.1)
      at (inr h) = rising (lt_from_test zero_ℚ x h.0) h.1

  -- w stays right when as much of x is added to it as the least ratio says
  pub stays_right : (least : ℚ) → zero_ℚ ≤ℚ least → (((lt_ℚ x zero_ℚ && rises) || (lt_ℚ zero_ℚ x && falls)) ≡ true → least ≤ℚ ratio) →
      ((lt_ℚ (w +ℚ least *ℚ x) zero_ℚ && rises) || (lt_ℚ zero_ℚ (w +ℚ least *ℚ x) && falls)) ≡ false
  stays_right least some at_most = improves_not (w +ℚ least *ℚ x) rises falls up down
    where
      up : rises ≡ true → zero_ℚ ≤ℚ w +ℚ least *ℚ x
      up may = by_sign (lt_or_le x zero_ℚ)
        where
          by_sign : (x <ℚ zero_ℚ) ⊎ (zero_ℚ ≤ℚ x) → zero_ℚ ≤ℚ w +ℚ least *ℚ x
          by_sign (inr grows) =
              le_by_two (rises_right w rises falls right may)
              (le_by_product some grows (by_ring2 least x (λ m x. m ⊗ x ≐ number (pos 0) ⊕ (m ⊖ number (pos 0)) ⊗ (x ⊖ number (pos 0))) refl))
              (by_ring3 w least x (λ w m x. w ⊕ m ⊗ x ≐ number (pos 0) ⊕ ((w ⊖ number (pos 0)) ⊕ (m ⊗ x ⊖ number (pos 0)))) refl)
          by_sign (inl less) =
              let brings : ((lt_ℚ x zero_ℚ && rises) || (lt_ℚ zero_ℚ x && falls)) ≡ true = rw (test_from_lt x zero_ℚ less, may) refl in
              let below : least *ℚ neg_ℚ x ≤ℚ ratio *ℚ neg_ℚ x =
              le_by_product (at_most brings) (le_of_lt less)
              (by_ring3 least ratio x (λ m r x. r ⊗ opposite x ≐ m ⊗ opposite x ⊕ (r ⊖ m) ⊗ (number (pos 0) ⊖ x)) refl) in
              le_by_one (subst (λ y. least *ℚ neg_ℚ x ≤ℚ y) (falling less may) below)
              (by_ring3 w least x (λ w m x. w ⊕ m ⊗ x ≐ number (pos 0) ⊕ (w ⊖ m ⊗ opposite x)) refl)

      down : falls ≡ true → w +ℚ least *ℚ x ≤ℚ zero_ℚ
      down may = by_sign (lt_or_le zero_ℚ x)
        where
          by_sign : (zero_ℚ <ℚ x) ⊎ (x ≤ℚ zero_ℚ) → w +ℚ least *ℚ x ≤ℚ zero_ℚ
          by_sign (inr sinks) =
              le_by_two (falls_right w rises falls right may)
              (le_by_product some sinks (by_ring2 least x (λ m x. number (pos 0) ≐ m ⊗ x ⊕ (m ⊖ number (pos 0)) ⊗ (number (pos 0) ⊖ x)) refl))
              (by_ring3 w least x (λ w m x. number (pos 0) ≐ (w ⊕ m ⊗ x) ⊕ ((number (pos 0) ⊖ w) ⊕ (number (pos 0) ⊖ m ⊗ x))) refl)
          by_sign (inl more) =
              let brings : ((lt_ℚ x zero_ℚ && rises) || (lt_ℚ zero_ℚ x && falls)) ≡ true =
              by_right (lt_ℚ x zero_ℚ && rises) (lt_ℚ zero_ℚ x && falls) (rw (test_from_lt zero_ℚ x more, may) refl) in
              let above : least *ℚ x ≤ℚ ratio *ℚ x =
              le_by_product (at_most brings) (le_of_lt more) (by_ring3 least ratio x (λ m r x. r ⊗ x ≐ m ⊗ x ⊕ (r ⊖ m) ⊗ (x ⊖ number (pos 0))) refl) in
              le_by_one (subst (λ y. least *ℚ x ≤ℚ y) (rising more may) above)
              (by_ring3 w least x (λ w m x. number (pos 0) ≐ (w ⊕ m ⊗ x) ⊕ (opposite w ⊖ m ⊗ x)) refl)
            where
              by_right : (a b : Bool) → b ≡ true → (a || b) ≡ true
              by_right true b e = refl
              by_right false b e = e

-- the rates after the exchange
module _ (s : Sense) (aj aq rj rq least : ℚ) (apart : rq ≢ zero_ℚ) where
  turned : (u v : ℚ) → neg_ℚ u ≡ neg_ℚ v → u ≡ v
  turned u v e = by_ring1 u (λ u. u ≐ opposite (opposite u)) refl ∙ ap neg_ℚ e ∙ by_ring1 v (λ v. opposite (opposite v) ≐ v) refl

  taken : (y : ℚ) → least *ℚ rq ≡ y → (rj /ℚ rq) *ℚ y ≡ least *ℚ rj
  taken y e =
      ap (λ z. (rj /ℚ rq) *ℚ z) (sym e)
      ∙ by_ring3 (rj /ℚ rq) least rq (λ c m r. c ⊗ (m ⊗ r) ≐ m ⊗ (c ⊗ r)) refl
      ∙ ap (λ z. least *ℚ z) (div-mul_cancel rj rq apart)

  once : (y : ℚ) → least *ℚ rq ≡ y → (one_ℚ /ℚ rq) *ℚ y ≡ least
  once y e =
      ap (λ z. (one_ℚ /ℚ rq) *ℚ z) (sym e)
      ∙ by_ring3 (one_ℚ /ℚ rq) least rq (λ c m r. c ⊗ (m ⊗ r) ≐ m ⊗ (c ⊗ r)) refl
      ∙ ap (λ z. least *ℚ z) (div-mul_cancel one_ℚ rq apart)
      ∙ by_ring1 least (λ m. m ⊗ number (pos 1) ≐ m) refl

  pub others_after : (below : Bool) → least *ℚ signed (not below) rq ≡ neg_ℚ (for_min s aq) →
      for_min s (aj -ℚ (rj /ℚ rq) *ℚ aq) ≡ for_min s aj +ℚ least *ℚ signed (not below) rj
  others_after true e =
      for_min_less s aj (rj /ℚ rq) aq
      ∙ ap (λ z. for_min s aj -ℚ z)
      (taken (for_min s aq) (turned (least *ℚ rq) (for_min s aq) (by_ring2 least rq (λ m r. opposite (m ⊗ r) ≐ m ⊗ opposite r) refl ∙ e)))
      ∙ by_ring3 (for_min s aj) least rj (λ w m r. w ⊖ m ⊗ r ≐ w ⊕ m ⊗ opposite r) refl
  others_after false e =
      for_min_less s aj (rj /ℚ rq) aq
      ∙ by_ring3 (for_min s aj) (rj /ℚ rq) (for_min s aq) (λ w c v. w ⊖ c ⊗ v ≐ w ⊕ c ⊗ opposite v) refl
      ∙ ap (λ z. for_min s aj +ℚ z) (taken (neg_ℚ (for_min s aq)) e)

  pub own_below : least *ℚ signed false rq ≡ neg_ℚ (for_min s aq) → for_min s ((one_ℚ /ℚ rq) *ℚ aq) ≡ least
  own_below e =
      for_min_times s (one_ℚ /ℚ rq) aq
      ∙ once (for_min s aq) (turned (least *ℚ rq) (for_min s aq) (by_ring2 least rq (λ m r. opposite (m ⊗ r) ≐ m ⊗ opposite r) refl ∙ e))

  pub own_above : least *ℚ signed true rq ≡ neg_ℚ (for_min s aq) → for_min s ((one_ℚ /ℚ rq) *ℚ aq) ≡ neg_ℚ least
  own_above e =
      for_min_times s (one_ℚ /ℚ rq) aq
      ∙ by_ring2 (one_ℚ /ℚ rq) (for_min s aq) (λ c w. c ⊗ w ≐ opposite (c ⊗ opposite w)) refl
      ∙ ap neg_ℚ (once (neg_ℚ (for_min s aq)) e)

-- ---- in a program

module _ (p : LinearProgram) (no_change : p.change ≡ None) (s : List Status) (at : IsNonsingularBasis p s) (t : Tableau) (tab : IsTableau p s t)
    (right : (k : ℕ) → IsVariable p.matrix k → lowers p s (worth_rate p s t) k ≡ false) (r q : ℕ) (below : Bool) (leaves : IsBasic p.matrix (basics_of s) r)
    (q_is : IsVariable p.matrix q)
    (brings : restores_feasibility p s t r below q ≡ true)
    (least : (j : ℕ) → IsVariable p.matrix j → restores_feasibility p s t r below j ≡ true → ratio p s t r q ≤ℚ ratio p s t r j) where
  abbrev pub limit_of : Status
  limit_of = if below then Ll else Ul

  abbrev pub next : List Status
  next = after s (record { enters = q; leaves = r; to = if below then Ll else Ul })

  entering_variable : IsEnteringVariable p s (excess_rate t.rate r below) q
  entering_variable = is_entering_variable p s (excess_rate t.rate r below) q at q_is brings

  pub enters : IsNonbasic p.matrix (basics_of s) q
  enters = entering_variable.nonbasic

  pub pivot : t.rate r q ≢ zero_ℚ
  pivot zero = entering_variable.rate_apart (ap (signed (not below)) zero ∙ signed_zero (not below))

  pub rate_of : (rate : ℕ → ℕ → ℚ) (k : ℕ) → objective_rate p rate k ≡ rate p.objective k
  rate_of rate k = ap (λ c. with_change_row c (λ i. rate i k) (rate p.objective k)) no_change

  right_at : (k : ℕ) → IsVariable p.matrix k →
      ((lt_ℚ (for_min p.sense (t.rate p.objective k)) zero_ℚ && may_rise p s k) ||
      (lt_ℚ zero_ℚ (for_min p.sense (t.rate p.objective k)) && may_fall p s k)) ≡ false
  right_at k is =
      ap (λ x. (lt_ℚ (for_min p.sense x) zero_ℚ && may_rise p s k) || (lt_ℚ zero_ℚ (for_min p.sense x) && may_fall p s k)) (sym (rate_of t.rate k)) ∙ right k is

  whole : (k : ℕ) → t.rate r k ≢ zero_ℚ → ratio p s t r k *ℚ magnitude (signed (not below) (t.rate r k)) ≡ magnitude (for_min p.sense (t.rate p.objective k))
  whole k apart =
      ap (λ y. ratio p s t r k *ℚ y) (magnitude-signed (not below) (t.rate r k)) ∙ ratio_times (t.rate p.objective k) (t.rate r k) apart
      ∙ sym (magnitude-for_min p.sense (t.rate p.objective k))

  pub some : zero_ℚ ≤ℚ ratio p s t r q
  some = magnitude_least (t.rate p.objective q /ℚ t.rate r q)

  pub own : ratio p s t r q *ℚ signed (not below) (t.rate r q) ≡ neg_ℚ (for_min p.sense (t.rate p.objective q))
  own =
      own_ratio (for_min p.sense (t.rate p.objective q)) (signed (not below) (t.rate r q)) (ratio p s t r q) (may_rise p s q) (may_fall p s q) (whole q pivot)
      (right_at q q_is) brings

  to_apart : (if below then Ll else Ul) ≢ Bs
  to_apart = apart below
    where
      apart : (b : Bool) → (if b then Ll else Ul) ≢ Bs
      apart true e = cc
      apart false e = cc

  pub same_basics : basics_of next ≡ exchanged (basics_of s) r q
  same_basics = basics_of-replaced s r q (if below then Ll else Ul) to_apart

  pub rates_after : AreRates p.matrix (basics_of next) (exchanged_rate t.rate r q)
  rates_after = subst (λ b. AreRates p.matrix b (exchanged_rate t.rate r q)) (sym same_basics)
      (AreRates-exchanged p.matrix (basics_of s) at.nonsingular.counted t.rate tab.are_rates r q leaves enters pivot)

  -- a nonbasic that stays where it stands
  other_right : (j : ℕ) → IsVariable p.matrix j → status_of next j ≡ status_of s j →
      ((lt_ℚ (for_min p.sense (t.rate p.objective j -ℚ (t.rate r j /ℚ t.rate r q) *ℚ t.rate p.objective q)) zero_ℚ && may_rise p next j)
      || (lt_ℚ zero_ℚ (for_min p.sense (t.rate p.objective j -ℚ (t.rate r j /ℚ t.rate r q) *ℚ t.rate p.objective q)) && may_fall p next j)) ≡ false
  other_right j is stands =
      ap₂ (λ x st. (lt_ℚ x zero_ℚ && (rises_from st && not (is_fixed p j))) || (lt_ℚ zero_ℚ x && (falls_from st && not (is_fixed p j))))
      (others_after p.sense (t.rate p.objective j) (t.rate p.objective q) (t.rate r j) (t.rate r q) (ratio p s t r q) pivot below own) stands
      ∙ by_rate (zero_or_not (t.rate r j))
    where
      by_rate : (t.rate r j ≡ zero_ℚ) ⊎ (t.rate r j ≢ zero_ℚ) →
          ((lt_ℚ (for_min p.sense (t.rate p.objective j) +ℚ ratio p s t r q *ℚ signed (not below) (t.rate r j)) zero_ℚ && may_rise p s j)
          || (lt_ℚ zero_ℚ (for_min p.sense (t.rate p.objective j) +ℚ ratio p s t r q *ℚ signed (not below) (t.rate r j)) && may_fall p s j)) ≡ false
      by_rate (inr apart) =
          stays_right (for_min p.sense (t.rate p.objective j)) (signed (not below) (t.rate r j)) (ratio p s t r j) (may_rise p s j) (may_fall p s j)
          (whole j apart) (right_at j is)
          (ratio p s t r q) some (λ e. least j is e)
      by_rate (inl zero) =
          ap (λ x. (lt_ℚ x zero_ℚ && may_rise p s j) || (lt_ℚ zero_ℚ x && may_fall p s j))
          (ap (λ y. for_min p.sense (t.rate p.objective j) +ℚ ratio p s t r q *ℚ y) (ap (signed (not below)) zero ∙ signed_zero (not below))
          ∙ by_ring2 (for_min p.sense (t.rate p.objective j)) (ratio p s t r q) (λ w m. w ⊕ m ⊗ number (pos 0) ≐ w) refl)
          ∙ right_at j is

  -- r, which stands at its limit
  leaver_right :
      ((lt_ℚ (for_min p.sense ((one_ℚ /ℚ t.rate r q) *ℚ t.rate p.objective q)) zero_ℚ && (rises_from (if below then Ll else Ul) && not (is_fixed p r)))
      || (lt_ℚ zero_ℚ (for_min p.sense ((one_ℚ /ℚ t.rate r q) *ℚ t.rate p.objective q)) &&
      (falls_from (if below then Ll else Ul) && not (is_fixed p r)))) ≡ false
  leaver_right = at_limit below own
    where
      no_way : {a : Type 0} (b : Bool) → (false && b) ≡ true → a
      no_way b e = absurd (clash (sym e))

      at_limit : (b : Bool) → ratio p s t r q *ℚ signed (not b) (t.rate r q) ≡ neg_ℚ (for_min p.sense (t.rate p.objective q)) →
          ((lt_ℚ (for_min p.sense ((one_ℚ /ℚ t.rate r q) *ℚ t.rate p.objective q)) zero_ℚ && (rises_from (if b then Ll else Ul) && not (is_fixed p r)))
          || (lt_ℚ zero_ℚ (for_min p.sense ((one_ℚ /ℚ t.rate r q) *ℚ t.rate p.objective q)) &&
          (falls_from (if b then Ll else Ul) && not (is_fixed p r)))) ≡ false
      at_limit true own =
          let is = own_below p.sense (t.rate p.objective q) (t.rate p.objective q) (t.rate r q) (t.rate r q) (ratio p s t r q) pivot own in
          improves_not _ (rises_from Ll && not (is_fixed p r)) (falls_from Ll && not (is_fixed p r)) (λ _. subst (λ x. zero_ℚ ≤ℚ x) (sym is) some)
          (λ e. no_way (not (is_fixed p r)) e)
      at_limit false own =
          let is = own_above p.sense (t.rate p.objective q) (t.rate p.objective q) (t.rate r q) (t.rate r q) (ratio p s t r q) pivot own in
          let down : neg_ℚ (ratio p s t r q) ≤ℚ zero_ℚ =
          le_by_one some (by_ring1 (ratio p s t r q) (λ m. number (pos 0) ≐ opposite m ⊕ (m ⊖ number (pos 0))) refl) in
          improves_not _ (rises_from Ul && not (is_fixed p r)) (falls_from Ul && not (is_fixed p r)) (λ e. no_way (not (is_fixed p r)) e)
          (λ _. subst (λ x. x ≤ℚ zero_ℚ) (sym is) down)

  pub right_after : IsNonsingularBasis p next → (k : ℕ) → IsVariable p.matrix k →
      lowers p next (λ j. for_min p.sense (objective_rate p (exchanged_rate t.rate r q) j)) k ≡ false
  right_after leads k is = by_mark (is_in (basics_of next) k) refl
    where
      length_entered : length (with_status s q Bs) ≡ size p.matrix
      length_entered = rw length-set at.is_basis.counted

      by_number : IsNonbasic p.matrix (basics_of next) k → (((eqb k r ≡ true) × (k ≡ r)) ⊎ ((eqb k r ≡ false) × (k ≢ r))) →
          lowers p next (λ j. for_min p.sense (objective_rate p (exchanged_rate t.rate r q) j)) k ≡ false
      by_number out (inl own) =
          ap (λ x. (lt_ℚ (for_min p.sense x) zero_ℚ && may_rise p next k) || (lt_ℚ zero_ℚ (for_min p.sense x) && may_fall p next k))
          (rate_of (exchanged_rate t.rate r q) k
          ∙ ap (λ b. if b then (one_ℚ /ℚ t.rate r q) *ℚ t.rate p.objective q else t.rate p.objective k -ℚ
          (t.rate r k /ℚ t.rate r q) *ℚ t.rate p.objective q) own.0)
          ∙ ap (λ j. (lt_ℚ (for_min p.sense ((one_ℚ /ℚ t.rate r q) *ℚ t.rate p.objective q)) zero_ℚ && may_rise p next j) ||
          (lt_ℚ zero_ℚ (for_min p.sense ((one_ℚ /ℚ t.rate r q) *ℚ t.rate p.objective q)) && may_fall p next j)) own.1
          ∙ ap (λ st. (lt_ℚ (for_min p.sense ((one_ℚ /ℚ t.rate r q) *ℚ t.rate p.objective q)) zero_ℚ && (rises_from st && not (is_fixed p r)))
          || (lt_ℚ zero_ℚ (for_min p.sense ((one_ℚ /ℚ t.rate r q) *ℚ t.rate p.objective q)) && (falls_from st && not (is_fixed p r))))
          (changed_own p s at.is_basis r (if below then Ll else Ul) (with_status s q Bs) length_entered leaves.0)
          ∙ leaver_right
      by_number out (inr other) =
          let was =
          was_nonbasic p.matrix (basics_of s) at.nonsingular.counted r q leaves enters k (subst (λ b. IsNonbasic p.matrix b k) same_basics out) other.1 in
          ap (λ x. (lt_ℚ (for_min p.sense x) zero_ℚ && may_rise p next k) || (lt_ℚ zero_ℚ (for_min p.sense x) && may_fall p next k))
          (rate_of (exchanged_rate t.rate r q) k
          ∙ ap (λ b. if b then (one_ℚ /ℚ t.rate r q) *ℚ t.rate p.objective q else t.rate p.objective k -ℚ
          (t.rate r k /ℚ t.rate r q) *ℚ t.rate p.objective q) other.0)
          ∙ other_right k is
          (changed_other p s at.is_basis r k (if below then Ll else Ul) (with_status s q Bs) leaves.0 is other.1
          ∙ changed_other p s at.is_basis q k Bs s enters.0 is was.1)

      by_mark : (mark : Bool) → is_in (basics_of next) k ≡ mark →
          lowers p next (λ j. for_min p.sense (objective_rate p (exchanged_rate t.rate r q) j)) k ≡ false
      by_mark true mark = lowers_idle p next leads.is_basis (λ j. for_min p.sense (objective_rate p (exchanged_rate t.rate r q) j)) k is mark
      by_mark false mark = by_number (is, mark) (eqb_tells k r)
